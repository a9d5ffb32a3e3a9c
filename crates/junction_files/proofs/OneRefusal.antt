-- Bytes are refused for one kind of fault at one place.
use Rattle.std.proofs.Common.{ℕ, List, ◌≡◌, ◌-◌, ◌^◌, min, inl, inr, sym, ◌∙◌, arith}
use Rattle.toml.specs.Data.{table}
use Rattle.junction_files.specs.Faults.{Fault}
use Rattle.junction_files.specs.FaultOrder.{IsEarlierOr, FaultOrder}
use Rattle.junction_files.specs.FirstFault.{IsFirstFault}
use Rattle.junction_files.specs.Reads.{IsFirstRefused, place_of}
use Rattle.junction_files.specs.Laws.{OneRefusalLaw}
use Rattle.junction_files.specs.declared.faults.Kind.{Kind}
use Rattle.junction_files.specs.declared.faults.Place.{Place}
use Rattle.junction_files.proofs.FaultOrder.{same_kind, same_part, same_key}
use Rattle.junction_files.proofs.OneJunction.{same_document}

both_ways : (m n : ℕ) (A B : Type 0) → IsEarlierOr m n A → IsEarlierOr n m B → (m ≡ n) × A × B
both_ways m n A B (inl before) (inl after) = absurd (omega arith)
both_ways m n A B (inl before) (inr (same, after)) = absurd (omega arith)
both_ways m n A B (inr (same, before)) (inl after) = absurd (omega arith)
both_ways m n A B (inr (same, before)) (inr (back, after)) = (same, before, after)

same_fault : (f g : Fault) → FaultOrder f g → FaultOrder g f → (f.kind ≡ g.kind) × (place_of f ≡ place_of g)
same_fault f g there back =
    let kinds = both_ways _ _ _ _ there back in
    let parts = both_ways _ _ _ _ kinds.1 kinds.2 in
    let indices = both_ways _ _ _ _ parts.1 parts.2 in
    let before = indices.1 in
    let after = indices.2 in
    let index : f.index ≡ g.index = indices.0 in
    let same_parts : f.part ≡ g.part = same_part _ _ parts.0 in
    let same_keys : f.key ≡ g.key = same_key _ _ (omega arith) in
    (same_kind _ _ kinds.0, λ i. record { part = same_parts i; index = min (index i) (2 ^ 32 - 1); key = same_keys i })

first_refused : (bytes : List ℕ) (k l : Kind) (p q : Place) → IsFirstRefused bytes k p → IsFirstRefused bytes l q → (k ≡ l) × (p ≡ q)
first_refused bytes k l p q first second =
    let same = same_document bytes _ _ second.is_document first.is_document in
    let least : IsFirstFault (table first.document) second.fault = rw same at second.first in
    let faults = same_fault first.fault second.fault (first.first.first second.fault least.stands) (least.first first.fault first.first.stands) in
    (first.kind ∙ faults.0 ∙ sym second.kind, first.place ∙ faults.1 ∙ sym second.place)

pub one_refusal_law : OneRefusalLaw
one_refusal_law bytes k l p q (inl first) (inl second) = (first.kind ∙ sym second.kind, first.place ∙ sym second.place)
one_refusal_law bytes k l p q (inl first) (inr second) = absurd (first.not_document second.document second.is_document)
one_refusal_law bytes k l p q (inr first) (inl second) = absurd (second.not_document first.document first.is_document)
one_refusal_law bytes k l p q (inr first) (inr second) = first_refused bytes k l p q first second
