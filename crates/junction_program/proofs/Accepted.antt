-- A junction that is accepted isn't refused, and its bytes are held.
use Rattle.std.proofs.Common.{ℕ, List, ◌≡◌, inl, inr, subst}
use Rattle.std.specs.Prelude.{Option, None, Some}
use Rattle.sig_base.specs.Shelf.{Holdings, Lacks, Exceeds}
use Rattle.junction_model.specs.Junction.{JunctionView}
use Rattle.plan_certificate.specs.Certificate.{CertificateView}
use Rattle.junction_files.specs.Laws.{RefusalLaw}
use Rattle.junction_program.specs.Runs.{Run, told, ShelfRose}
use Rattle.junction_program.specs.Outcomes.{Answer, IsAnswered, LacksFetched, ExceedsFetched, OrPushFault, Outcome}
use Rattle.junction_program.specs.Steps.{IsFetched}
use Rattle.junction_program.specs.Commands.{RefusesJunction, RefusesFiles, Accepts, FetchesJunction, FetchesBoth, PutsNothing, junction_limit, certificate_limit}
use Rattle.junction_program.specs.Headline.{Tells, HoldsJunction, HoldsBadJunction, HoldsBoth}
use Rattle.junction_program.proofs.Faults.{answered_or_fault, AreHeld, none_too_long, shelf_cause}
use Rattle.junction_program.proofs.Held.{not_refused, not_accepted}
use Rattle.junction_program.specs.declared.status.Status.TheVariants.{ShelfFailed, TooLong}
use Rattle.junction_program.proofs.Endings.{widened, not_exceeding, not_lacking}

tells_exceeding : (shelf : Option Holdings) (name : List ℕ) (limit : ℕ) → Exceeds shelf name limit → Tells shelf
tells_exceeding None name limit e = e
tells_exceeding (Some m) name limit e = tt

-- a junction's file that was fetched is held
pub first_held : (shelf : Option Holdings) (name bytes : List ℕ) → IsFetched shelf name junction_limit bytes → ¬ LacksFetched (FetchesJunction name) shelf
first_held shelf name bytes fetched lacks = not_lacking shelf name junction_limit bytes fetched (subst (Lacks shelf) lacks.2.0 lacks.3)

-- where the first fetch ended the run, a certificate that is too long is told too late
module _ (law : RefusalLaw) (name other : List ℕ) (limit : ℕ) (run : Run) (o : Outcome (RefusesJunction (told run) name) (FetchesJunction name) PutsNothing run)
    (junction : JunctionView) (accepts : Accepts (told run) name junction) (exceeds : Exceeds (told run) other limit) (rose : ¬ ShelfRose run) where
  answered_not : IsAnswered run.status → ⊥
  answered_not h = let x = o.answered h in not_refused law (told run) name junction x.0 (tells_exceeding (told run) other limit exceeds) accepts x.1

  shelf_not : run.status ≡ ShelfFailed → ⊥
  shelf_not h = rose (shelf_cause _ _ run (first_held (told run) name accepts.bytes accepts.fetched) (o.shelf_failed h).0)

  other_end : OrPushFault TooLong run.status
  other_end = elim (answered_or_fault run.status) [
    | inl h ↦ absurd (answered_not h)
    | inr f ↦ elim f [ inl e ↦ absurd (shelf_not e) | inr g ↦ elim g [ inl e ↦ inr (inl e) | inr h ↦ elim h [ inl e ↦ inr (inr e) | inr e ↦ inl e ] ] ]
  ]

-- the first fetch ends the run of a command that would fetch a second file
pub first_ends : RefusalLaw → (answers : Answer → Type 0) (name certificate : List ℕ) (run : Run) → ((a : Answer) → RefusesJunction (told run) name a → answers a) →
    Outcome (RefusesJunction (told run) name) (FetchesJunction name) PutsNothing run →
    Outcome answers (FetchesBoth (told run) name certificate) PutsNothing run
first_ends law answers name certificate run wider o = widened _ answers _ (FetchesBoth (told run) name certificate) _ PutsNothing run wider (λ n l f. inl f) (λ p h. h)
    (λ exceeds rose. elim exceeds.2 [
      | inl f ↦ o.too_long_always (exceeds.0, exceeds.1, f, exceeds.3) rose
      | inr f ↦ other_end law name exceeds.0 exceeds.1 run o f.2.0 f.2.1 exceeds.3 rose
    ]) o

-- beside an accepted junction only the certificate can exceed its limit
pub only_second : (shelf : Option Holdings) (name certificate : List ℕ) (junction : JunctionView) → Accepts shelf name junction → ExceedsFetched (FetchesBoth shelf name certificate) shelf → Exceeds shelf certificate certificate_limit
only_second shelf name certificate junction accepts exceeds = elim exceeds.2 [
  | inl f ↦ absurd (not_exceeding shelf name junction_limit accepts.bytes accepts.fetched (subst (λ n. Exceeds shelf n junction_limit) f.0 (subst (Exceeds shelf exceeds.0) f.1 exceeds.3)))
  | inr f ↦ subst (λ n. Exceeds shelf n certificate_limit) f.0 (subst (Exceeds shelf exceeds.0) f.1 exceeds.3)
]

pub neither : (shelf : Option Holdings) (name certificate bytes : List ℕ) (junction : JunctionView) → Accepts shelf name junction → IsFetched shelf certificate certificate_limit bytes →
    ¬ ExceedsFetched (FetchesBoth shelf name certificate) shelf
neither shelf name certificate bytes junction accepts fetched exceeds = not_exceeding shelf certificate certificate_limit bytes fetched (only_second shelf name certificate junction accepts exceeds)

pub not_first : (shelf : Option Holdings) (name bytes : List ℕ) → IsFetched shelf name junction_limit bytes → ¬ ExceedsFetched (FetchesJunction name) shelf
not_first shelf name bytes fetched exceeds = not_exceeding shelf name junction_limit bytes fetched (subst (λ n. Exceeds shelf n junction_limit) exceeds.2.0 (subst (Exceeds shelf exceeds.0) exceeds.2.1 exceeds.3))

module _ (name certificate : List ℕ) (run : Run) where
  -- beside an accepted junction a certificate that was fetched is held
  pub files_held : (junction : JunctionView) (bytes : List ℕ) → HoldsJunction (told run) name junction → IsFetched (told run) certificate certificate_limit bytes →
      AreHeld (FetchesBoth (told run) name certificate) run
  files_held junction bytes holds fetched = record {
    held = λ lacks. elim lacks.2 [
      | inl f ↦ first_held (told run) name holds.accepted.bytes holds.accepted.fetched (lacks.0, lacks.1, f, lacks.3)
      | inr f ↦ not_lacking (told run) certificate certificate_limit bytes fetched (subst (Lacks (told run)) f.0 lacks.3)
    ];
    short = none_too_long (FetchesBoth (told run) name certificate) run holds.tells (neither (told run) name certificate bytes junction holds.accepted fetched);
  }

  pub both_held : (junction : JunctionView) (c : CertificateView) → HoldsBoth (told run) name certificate junction c → AreHeld (FetchesBoth (told run) name certificate) run
  both_held junction c both = files_held junction both.found.bytes both.held both.found.fetched

  -- beside bytes that spell no junction no certificate is fetched
  pub first_file_held : HoldsBadJunction (told run) name → AreHeld (FetchesBoth (told run) name certificate) run
  first_file_held bad = record {
    held = λ lacks. first_held (told run) name bad.bytes bad.fetched (lacks.0, lacks.1, alone lacks.0 lacks.1 lacks.2, lacks.3);
    short = none_too_long (FetchesBoth (told run) name certificate) run bad.tells
        (λ exceeds. not_first (told run) name bad.bytes bad.fetched (exceeds.0, exceeds.1, alone exceeds.0 exceeds.1 exceeds.2, exceeds.3));
  }
    where
      alone : (wanted : List ℕ) (limit : ℕ) → FetchesBoth (told run) name certificate wanted limit → FetchesJunction name wanted limit
      alone wanted limit f = elim f [ inl g ↦ g | inr g ↦ absurd (not_accepted (told run) name bad g.2.0 g.2.1) ]

-- the one file of a design is held
pub junction_held : (name : List ℕ) (run : Run) (bytes : List ℕ) → Tells (told run) → IsFetched (told run) name junction_limit bytes → AreHeld (FetchesJunction name) run
junction_held name run bytes tells fetched = record {
  held = first_held (told run) name bytes fetched;
  short = none_too_long (FetchesJunction name) run tells (not_first (told run) name bytes fetched);
}

-- where one of the files is refused or missing, a command that needs both ends so
pub files_ended : (answers : Answer → Type 0) (name certificate : List ℕ) (run : Run) → ((a : Answer) → RefusesFiles (told run) name certificate a → answers a) →
    Outcome (RefusesFiles (told run) name certificate) (FetchesBoth (told run) name certificate) PutsNothing run →
    Outcome answers (FetchesBoth (told run) name certificate) PutsNothing run
files_ended answers name certificate run wider o = widened _ answers _ (FetchesBoth (told run) name certificate) _ PutsNothing run wider (λ n l f. f) (λ p h. h) o.too_long_always o
