-- The order of faults: by kind, part, index and key.
use Rattle.std.specs.Prelude.{ℕ, ◌≡◌, ◌<◌, ◌≤◌, ◌⊎◌}
use Rattle.junction_files.specs.Faults.{Fault}
use Rattle.junction_files.specs.declared.faults.Kind.{Kind}
use Rattle.junction_files.specs.declared.faults.Kind.TheVariants as kind
use Rattle.junction_files.specs.declared.faults.Part.{Part}
use Rattle.junction_files.specs.declared.faults.Part.TheVariants as part
use Rattle.junction_files.specs.declared.faults.Key.{Key}
use Rattle.junction_files.specs.declared.faults.Key.TheVariants as key

-- the number of a kind, which is printed too
abbrev pub kind_number : Kind → ℕ
kind_number kind.NotToml = 1
kind_number kind.Version = 2
kind_number kind.Shape = 3
kind_number kind.Count = 4
kind_number kind.Range = 5
kind_number kind.Name = 6
kind_number kind.Unknown = 7
kind_number kind.SelfConflict = 8
kind_number kind.Twice = 9
kind_number kind.Lonely = 10
kind_number kind.ShortIntergreen = 11
kind_number kind.EndGain = 12
kind_number kind.NoEffective = 13
kind_number kind.NoFlow = 14
kind_number kind.MaxGreen = 15
kind_number kind.SelfLink = 16
kind_number kind.LinkTwice = 17

abbrev pub part_number : Part → ℕ
part_number part.Top = 0
part_number part.Group = 1
part_number part.Lane = 2
part_number part.Conflict = 3
part_number part.Link = 4

-- the whole element, then its listed keys in the order of their table, then any other
abbrev pub key_number : Key → ℕ
key_number key.Whole = 0
key_number key.Version = 1
key_number key.Name = 2
key_number key.LeastCycle = 3
key_number key.GreatestCycle = 4
key_number key.Group = 5
key_number key.Lane = 6
key_number key.Conflict = 7
key_number key.Link = 8
key_number key.MinGreen = 9
key_number key.Amber = 10
key_number key.RedAmber = 11
key_number key.StartLost = 12
key_number key.EndGain = 13
key_number key.MaxGreen = 14
key_number key.Arrival = 15
key_number key.Saturation = 16
key_number key.Limit = 17
key_number key.A = 18
key_number key.B = 19
key_number key.AToB = 20
key_number key.BToA = 21
key_number key.Leader = 22
key_number key.Follower = 23
key_number key.After = 24
key_number key.Other = 25

-- the lower number, or the same and then the rest
abbrev pub IsEarlierOr : ℕ → ℕ → Type 0 → Type 0
IsEarlierOr m n rest = (m < n) ⊎ ((m ≡ n) × rest)

-- a fault stands no later than another
abbrev pub FaultOrder : Fault → Fault → Type 0
FaultOrder f g =
    IsEarlierOr (kind_number f.kind) (kind_number g.kind)
    (IsEarlierOr (part_number f.part) (part_number g.part)
    (IsEarlierOr f.index g.index (key_number f.key ≤ key_number g.key)))
