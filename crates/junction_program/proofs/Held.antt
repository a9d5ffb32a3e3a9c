-- What a shelf that tells was asked for twice is the same both times.
use Rattle.std.proofs.Common.{ℕ, List, ◌≡◌, subst}
use Rattle.std.specs.Prelude.{Option, None, Some}
use Rattle.sig_base.specs.Shelf.{Holdings}
use Rattle.junction_model.specs.Junction.{JunctionView}
use Rattle.junction_files.specs.Laws.{RefusalLaw, OneJunctionLaw}
use Rattle.junction_files.specs.Reads.{Spells}
use Rattle.junction_program.specs.Outcomes.{Answer}
use Rattle.junction_program.specs.Steps.{IsFetched}
use Rattle.junction_program.specs.Commands.{RefusesJunction, Accepts, junction_limit}
use Rattle.junction_program.specs.Headline.{Tells, HoldsBadJunction}

pub same_bytes : (shelf : Option Holdings) (name : List ℕ) (limit most : ℕ) (a b : List ℕ) → Tells shelf → IsFetched shelf name limit a → IsFetched shelf name most b → a ≡ b
same_bytes None name limit most a b tells p q = absurd tells
same_bytes (Some m) name limit most a b tells p q = let left = p.told_bytes in let right = q.told_bytes in cc

pub same_junction : OneJunctionLaw → (shelf : Option Holdings) (name : List ℕ) (a b : JunctionView) → Tells shelf → Accepts shelf name a → Accepts shelf name b → a ≡ b
same_junction one shelf name a b tells p q =
    let same : p.bytes ≡ q.bytes = same_bytes shelf name junction_limit junction_limit p.bytes q.bytes tells p.fetched q.fetched in
    one q.bytes a b (rw same at p.spelled) q.spelled

-- a junction that is accepted isn't refused
pub not_refused : RefusalLaw → (shelf : Option Holdings) (name : List ℕ) (junction : JunctionView) (answer : Answer) → Tells shelf → Accepts shelf name junction → RefusesJunction shelf name answer → ⊥
not_refused law shelf name junction answer tells accepts refuses =
    let same : refuses.bytes ≡ accepts.bytes = same_bytes shelf name junction_limit junction_limit refuses.bytes accepts.bytes tells refuses.fetched accepts.fetched in
    law accepts.bytes junction refuses.kind refuses.place accepts.spelled (rw same at refuses.refused)

pub not_accepted : (shelf : Option Holdings) (name : List ℕ) → HoldsBadJunction shelf name → (junction : JunctionView) → Accepts shelf name junction → ⊥
not_accepted shelf name bad junction accepts =
    bad.none junction (subst (λ bytes. Spells bytes junction) (same_bytes shelf name junction_limit junction_limit accepts.bytes bad.bytes bad.tells accepts.fetched bad.fetched) accepts.spelled)
