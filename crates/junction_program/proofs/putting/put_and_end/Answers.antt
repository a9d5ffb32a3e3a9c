use Rattle.junction_program.proofs.Endings.{put_pushed, put_ended}
use Rattle.junction_program.proofs.putting.put_and_end.Goals as goal

pub returns-in-Ok : goal.returns-in-Ok
returns-in-Ok g c = put_pushed _ _ _ _ _ _ _ _ _ _ c.in-Ok.ensures.put c.requires.answered c.end_with.ensures

pub returns-in-Err : goal.returns-in-Err
returns-in-Err g c = put_ended _ _ _ _ _ (λ made h. h) c.in-Err.ensures.ends
