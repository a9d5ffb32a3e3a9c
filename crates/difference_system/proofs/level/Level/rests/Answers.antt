use Rattle.difference_system.proofs.level.Level.rests.Goals as goal

pub returns : goal.returns
returns c = λ none. c.solved-solved.ensures.exactly.0 (c.solved-solved.ensures.met none)
