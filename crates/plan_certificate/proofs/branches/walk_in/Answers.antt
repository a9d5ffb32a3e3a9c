use Rattle.std.proofs.Common.{◌<◌, ◌≤◌, ◌-◌, All, ℕ, List, option_and_then, arith, ap, ◌∙◌}
use Rattle.std.proofs.lemmas.List.Elements.{All-weaker}
use Rattle.plan_certificate.specs.Members.{walk_within}
use Rattle.plan_certificate.proofs.Walks.{walk_made}
use Rattle.plan_certificate.proofs.branches.walk_in.Goals as goal

pub returns-in-Some : goal.returns-in-Some
returns-in-Some c =
    let ns : List ℕ = c.in-Some.numbers.items in
    let read = rw c.in-Some.is at c.in_ok-numbers.ensures.numbers in
    let below = rw c.in-Some.is at c.in_ok-numbers.ensures.below in
    let low : 2 ≤ c.args.groups = c.requires.low in
    let high : c.args.groups ≤ 16 = c.requires.high in
    let each : All (λ g. g < 16) ns = All-weaker (λ g. g ≤ c.args.groups - 1) (λ g. g < 16) (λ g h. omega arith) ns below in
    walk_made ns c.new.result (rw c.deref.ensures.value at c.new.ensures.exactly) (rw c.deref.ensures.value at c.new.ensures.value) each ∙ ap (option_and_then walk_within) read
