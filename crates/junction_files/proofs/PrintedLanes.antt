-- No fault stands at a printed lane.
use Rattle.std.proofs.Common.{ℕ, List, Some, length, slice_get, ◌≡◌, ◌+◌, ◌<◌, refl, sym, arith}
use Rattle.std.proofs.lemmas.Option.{none-some}
use Rattle.toml.specs.Data.{Data, table}
use Rattle.flow_model.specs.Lane.{AreFlows}
use Rattle.flow_model.specs.declared.lane.Lane.{Lane}
use Rattle.junction_model.specs.Junction.{JunctionView}
use Rattle.junction_model.specs.Rules.{IsLane, IsJunction}
use Rattle.junction_model.specs.declared.group.Group.{Group}
use Rattle.junction_files.specs.Document.{words_in}
use Rattle.junction_files.specs.Faults.{IsWrong, ShapeFault, RangeFault, NameFault, UnknownFault}
use Rattle.junction_files.specs.Printing.{lane_members, printed_version}
use Rattle.junction_files.specs.declared.document.Version.{Version}
use Rattle.junction_files.specs.declared.faults.Kind.{Kind}
use Rattle.junction_files.specs.declared.faults.Key.{Key}
use Rattle.junction_files.proofs.PrintedDocument.{same_version, document_of, lane_list}
use Rattle.junction_files.proofs.PrintedNames.{no_other_word, in_bounds, good_label, label_names_group}
use Rattle.junction_files.proofs.Elements.{all_at}
use Rattle.junction_files.specs.declared.faults.Kind.TheVariants as kind
use Rattle.junction_files.specs.declared.faults.Part.TheVariants as part
use Rattle.junction_files.specs.declared.faults.Key.TheVariants as key

shape : (v : Version) (groups : List Group) (l : Lane) (at : Key) → ¬ ShapeFault v part.Lane (table (lane_members groups l)) at
shape v groups l key.Whole wrong = none-some _ (sym wrong)
shape v groups l key.Other wrong = no_other_word part.Lane v (words_in (lane_members groups l)) refl wrong
shape v groups l key.Name wrong = wrong.1 refl
shape v groups l key.Group wrong = wrong.1 refl
shape v groups l key.Arrival wrong = wrong.1 refl
shape v groups l key.Saturation wrong = wrong.1 refl
shape v groups l key.Limit wrong = none-some _ (sym wrong.1)
shape v groups l _ wrong = wrong.1

range : (document : Data) (groups : List Group) (l : Lane) → AreFlows l → (at : Key) → ¬ RangeFault document part.Lane (table (lane_members groups l)) at
range document groups l flows key.Arrival wrong = in_bounds l.arrival 0 20000 (omega arith) flows.arrival wrong
range document groups l flows key.Saturation wrong = in_bounds l.saturation 1 20000 flows.some_saturation flows.saturation wrong
range document groups l flows key.Limit wrong = in_bounds l.limit 1 1000 flows.allowed flows.limit wrong
range document groups l flows _ wrong = wrong

name : (j : JunctionView) → IsJunction j → (k : ℕ) (l : Lane) → slice_get j.lanes k ≡ Some l → (at : Key) →
    ¬ NameFault (document_of j) part.Lane (k + 1) (table (lane_members j.groups l)) at
name j p k l found key.Name wrong =
    good_label (λ (m : Lane). m.label) (lane_members j.groups) (λ m. refl) j.lanes p.lanes.distinct k l found
    (all_at (IsLane (length j.groups)) j.lanes k l p.lanes.each found).label (rw lane_list at wrong)
name j p k l found _ wrong = wrong

reference : (j : JunctionView) (l : Lane) → l.group < length j.groups → (at : Key) →
    ¬ UnknownFault (document_of j) part.Lane (table (lane_members j.groups l)) at
reference j l served key.Group wrong = wrong (label_names_group j l.group served)
reference j l served _ wrong = wrong

pub none_at_lane : (j : JunctionView) → IsJunction j → (k : ℕ) (l : Lane) → slice_get j.lanes k ≡ Some l → (f : Kind) (at : Key) →
    ¬ IsWrong (document_of j) f part.Lane (k + 1) (table (lane_members j.groups l)) at
none_at_lane j p k l found kind.Shape at wrong = shape (printed_version j) j.groups l at (rw same_version at wrong)
none_at_lane j p k l found kind.Range at wrong =
    range (document_of j) j.groups l (all_at (IsLane (length j.groups)) j.lanes k l p.lanes.each found).flows at wrong
none_at_lane j p k l found kind.Name at wrong = name j p k l found at wrong
none_at_lane j p k l found kind.Unknown at wrong = reference j l (all_at (IsLane (length j.groups)) j.lanes k l p.lanes.each found).served at wrong
none_at_lane j p k l found _ at wrong = wrong
