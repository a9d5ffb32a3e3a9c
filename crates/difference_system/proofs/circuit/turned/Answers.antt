use Rattle.std.proofs.Common.{List, ℕ, arith, ap, ◌∙◌, length, take, drop, ◌++◌, ◌≡◌}
use Rattle.std.proofs.lemmas.List.{length-drop, length-take-le, take_all}
use Rattle.difference_system.proofs.IsClosingCircuit.{take-two}
use Rattle.difference_system.proofs.circuit.turned.Goals as goal

pub returns : goal.returns
returns c =
    let groups : List ℕ = c.args.groups.now in
    let place : ℕ = c.args.place in
    let behind : List ℕ = drop place groups in
    let before : List ℕ = take place groups in
    let rest : List ℕ = drop place c.split_at_mut-behind.result.1.now in
    let short = length-drop place groups in
    let long = length-take-le place groups c.requires.place in
    let within = c.requires.place in
    let first : c.copy_from_slice.new.self ≡ behind = c.copy_from_slice.ensures.after ∙ take_all _ behind (omega (arith, short)) in
    ap (λ (l : List ℕ). take (length groups) (l ++ (c.copy_from_slice-2.new.self ++ rest))) first
    ∙ ap (λ (l : List ℕ). take (length groups) (behind ++ (l ++ rest))) c.copy_from_slice-2.ensures.after
    ∙ take-two (length groups) behind before rest (omega (arith, short, long, within))
