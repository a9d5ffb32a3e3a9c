-- What a run of the command that the words spell says of a run of these words.
use Rattle.std.proofs.Common.{◌≡◌, refl, subst}
use Rattle.std.specs.Prelude.{Option, None}
use Rattle.report_text.specs.Refusal.{refusal_line}
use Rattle.report_text.specs.declared.refusal.Refusal.TheVariants as refusal
use Rattle.command_words.specs.Words.{CommandView}
use Rattle.junction_program.specs.Runs.{ShelfView, SinkView, Run, told}
use Rattle.junction_program.specs.Outcomes.{Outcome}
use Rattle.junction_program.specs.Steps.{IsPushed}
use Rattle.junction_program.specs.Commands.{answers_of, fetches_of, puts_of}
use Rattle.junction_program.specs.declared.status.Status.{Status}
use Rattle.junction_program.specs.declared.status.Status.TheVariants.{BadWords}
use Rattle.junction_program.proofs.Endings.{run_of, answer_pushed, in_parts}

abbrev pub EndsAs : Option CommandView → Run → Type 0
EndsAs found run = Outcome (answers_of found (told run)) (fetches_of found (told run)) (puts_of found (told run)) run

pub as_spelled : (found own : Option CommandView) (run : Run) → own ≡ found → EndsAs own run → EndsAs found run
as_spelled found own run is o = subst (λ f. EndsAs f run) is o

pub as_none : (found : Option CommandView) (s : ShelfView) (k0 k1 : SinkView) (given : Status) → None ≡ found → IsPushed (refusal_line refusal.BadWords) BadWords k0 k1 given → EndsAs found (run_of s k0 s k1 given)
as_none found s k0 k1 given is pushed = as_spelled found None (run_of s k0 s k1 given) is
    (answer_pushed _ _ _ s k0 k1 given BadWords (refusal_line refusal.BadWords) refl refl tt (λ e. e.2) (in_parts _ _ k0 k1 given pushed))
