use Rattle.junction_program.proofs.CommandRuns.{command_run, bad_words, bad_words_always}
use Rattle.junction_program.proofs.top_call.run.Goals as goal

pub returns-clause-command : goal.returns-clause-command
returns-clause-command g c =
    command_run c.reading_laws.ensures.refusal c.reading_laws.ensures.one_junction c.text_laws.ensures.one_certificate c.text_laws.ensures.refusal c.rules_law.ensures c.fault_law.ensures c.safety_law.ensures c.sample_law.ensures _ _ c.perform.ensures.outcome

pub returns-clause-bad_words : goal.returns-clause-bad_words
returns-clause-bad_words g c = λ is. bad_words _ _ c.perform.ensures.outcome is

pub returns-clause-bad_words_always : goal.returns-clause-bad_words_always
returns-clause-bad_words_always g c = λ none. bad_words_always _ _ c.perform.ensures.outcome none
