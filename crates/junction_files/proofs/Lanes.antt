-- The lanes of a document in which no fault stands.
use Rattle.std.proofs.Common.{ℕ, List, Some, map, length, get_or, slice_get, ◌≡◌, ◌+◌, ◌<◌, inl, arith, zero, suc, pos, option_map, Any, ◌≢◌, ◌⊎◌, ◌≤◌, inr, refl, ap, ◌∙◌}
use Rattle.toml.specs.Data.{Data}
use Rattle.toml.specs.View.{view}
use Rattle.toml.specs.declared.value.Value.{Value}
use Rattle.junction_files.specs.Document.{lanes_in, groups_in}
use Rattle.junction_files.specs.Faultless.{IsFaultless, IsLaneElement}
use Rattle.junction_files.proofs.Faultless.{none_at, is_table, has_text, has_number, has_number_or, not_idle, count_lanes}
use Rattle.junction_files.proofs.Decisions.{stable, is_label}
use Rattle.junction_files.proofs.ElementAt.{lane_place, view_at}
use Rattle.junction_files.proofs.Groups.{reference_at}
use Rattle.std.proofs.lemmas.List.{length-map}
use Rattle.std.proofs.lemmas.Option.{slice_get-map, slice_get-get_or, slice_get_within}
use Rattle.flow_model.specs.declared.lane.Lane.{Lane}
use Rattle.junction_model.specs.Rules.{IsLane, AreLanes}
use Rattle.junction_files.specs.Meaning.{number_of, text_of, group_of, lane_of}
use Rattle.junction_files.proofs.Elements.{any_or_all, any_at, any_before, all_of_map, pairs_of_map}
use Rattle.junction_files.specs.declared.faults.Kind.TheVariants as kind
use Rattle.junction_files.specs.declared.faults.Part.TheVariants as part
use Rattle.junction_files.specs.declared.faults.Key.TheVariants as key

pub lane_element : (document : Data) → IsFaultless document → (k : ℕ) (d : Data) → slice_get (lanes_in document) k ≡ Some d → IsLaneElement document d
lane_element document faultless k d found =
    let at = lane_place document k d found in
    let none = none_at document faultless part.Lane (k + 1) d at in
    let table = is_table document faultless part.Lane (k + 1) d at in
    let name = has_text d key.Name table (none kind.Shape key.Name) in
    let group = has_text d key.Group table (none kind.Shape key.Group) in
    record {
      label = record { text = name; label = stable (is_label (text_of d key.Name)) (λ broken. (rw name at (none kind.Name key.Name)) (inl broken)) };
      group = reference_at document faultless d key.Group group (none kind.Unknown key.Group);
      arrival = has_number d key.Arrival _ _ table (none kind.Shape key.Arrival) (none kind.Range key.Arrival);
      saturation = has_number d key.Saturation _ _ table (none kind.Shape key.Saturation) (none kind.Range key.Saturation);
      limit = has_number_or 900 d key.Limit 1 1000 (omega arith) (omega arith) (none kind.Range key.Limit);
    }

-- the same of a value that is read from the list
pub lane_value : (document : Data) → IsFaultless document → (values : List Value) (k : ℕ) (value : Value) →
    map view values ≡ lanes_in document → k < length values → value ≡ get_or values k value → IsLaneElement document (view value)
lane_value document faultless values k value same inside read =
    lane_element document faultless k (view value) (view_at values (lanes_in document) k value same inside read)

lane_rules : (document : Data) (d : Data) → IsLaneElement document d → IsLane (length (map group_of (groups_in document))) (lane_of document d)
lane_rules document d lane = record {
  label = lane.label.label;
  served = rw length-map (slice_get_within (groups_in document) _ lane.group.group.group lane.group.group.found);
  flows = record {
    arrival = lane.arrival.greatest;
    some_saturation = lane.saturation.least;
    saturation = lane.saturation.greatest;
    allowed = lane.limit.least;
    limit = lane.limit.greatest;
  };
}

lanes_differ : (document : Data) → IsFaultless document → (i j : ℕ) (d e : Data) → i < j → slice_get (lanes_in document) i ≡ Some d →
    slice_get (lanes_in document) j ≡ Some e → text_of d key.Name ≢ text_of e key.Name
lanes_differ document faultless i j d e less first last same =
    let none = none_at document faultless part.Lane (j + 1) e (lane_place document j e last) kind.Name key.Name in
    (rw (lane_element document faultless j e last).label.text at none)
    (inr (any_before _ (lanes_in document) j i d e less last first ((lane_element document faultless i d first).label.text ∙ ap Some same)))

some_or_none : (n : ℕ) → (1 ≤ n) ⊎ (n ≡ 0)
some_or_none zero = inr refl
some_or_none (suc n) = inl (omega arith)

some_flow : (document : Data) → IsFaultless document → Any (λ (lane : Lane). 1 ≤ lane.arrival) (map (lane_of document) (lanes_in document))
some_flow document faultless =
    elim (any_or_all (λ d. 1 ≤ number_of d key.Arrival) (λ d. number_of d key.Arrival ≡ 0) (λ d. some_or_none (number_of d key.Arrival)) (lanes_in document)) [
      | inl any ↦ any_at _ (map (lane_of document) (lanes_in document)) any.0 (lane_of document any.1)
          (slice_get-map (lane_of document) (lanes_in document) any.0 ∙ ap (option_map (lane_of document)) (slice_get-get_or (lanes_in document) any.0 any.1 any.2 ∙ ap Some any.3)) any.4
      | inr all ↦ absurd (not_idle document faultless (λ k d inside.
          (lane_element document faultless k _ (slice_get-get_or (lanes_in document) k d inside)).arrival.whole ∙ ap (λ n. Some (pos n)) (all k d inside)))
    ]

pub are_lanes : (document : Data) → IsFaultless document → AreLanes (length (map group_of (groups_in document))) (map (lane_of document) (lanes_in document))
are_lanes document faultless =
    let count = count_lanes document faultless in
    record {
      some = rw length-map count.0;
      few = rw length-map count.1;
      each = all_of_map (lane_of document) (IsLane (length (map group_of (groups_in document)))) (lanes_in document)
          (λ k d found. lane_rules document d (lane_element document faultless k d found));
      distinct = pairs_of_map (lane_of document) (λ (a b : Lane). a.label ≢ b.label) (lanes_in document)
          (λ i j d e less first last. lanes_differ document faultless i j d e less first last);
      some_arrival = some_flow document faultless;
    }
