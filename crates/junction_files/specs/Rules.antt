-- The kinds, counts and ranges that the keys of a junction file ask for.
use Rattle.std.specs.Prelude.{ℕ, ℤ, pos, Option, None, Some, option_map}
use Rattle.toml.specs.Data.{Data}
use Rattle.junction_files.specs.Document.{whole_in}
use Rattle.junction_files.specs.declared.document.Version.{Version}
use Rattle.junction_files.specs.declared.document.Version.TheVariants.{Second}
use Rattle.junction_files.specs.declared.faults.Part.{Part}
use Rattle.junction_files.specs.declared.faults.Part.TheVariants as part
use Rattle.junction_files.specs.declared.faults.Key.{Key}
use Rattle.junction_files.specs.declared.faults.Key.TheVariants as key
use Rattle.junction_files.specs.declared.faults.shape.Sort.{Sort}
use Rattle.junction_files.specs.declared.faults.shape.Sort.TheVariants.{Text, Whole, WholeOrMissing, Tables, TablesOrMissing}

-- the kind of value that each listed key of a version asks for, but that of the version, which has a fault of its own
abbrev pub sort_of : Part → Key → Version → Option Sort
sort_of part.Top key.Name _ = Some Text
sort_of part.Top key.LeastCycle _ = Some Whole
sort_of part.Top key.GreatestCycle _ = Some Whole
sort_of part.Top key.Group _ = Some Tables
sort_of part.Top key.Lane _ = Some Tables
sort_of part.Top key.Conflict _ = Some Tables
sort_of part.Group key.Name _ = Some Text
sort_of part.Group key.MinGreen _ = Some Whole
sort_of part.Group key.Amber _ = Some Whole
sort_of part.Group key.RedAmber _ = Some Whole
sort_of part.Group key.StartLost _ = Some Whole
sort_of part.Group key.EndGain _ = Some Whole
sort_of part.Lane key.Name _ = Some Text
sort_of part.Lane key.Group _ = Some Text
sort_of part.Lane key.Arrival _ = Some Whole
sort_of part.Lane key.Saturation _ = Some Whole
sort_of part.Lane key.Limit _ = Some WholeOrMissing
sort_of part.Conflict key.A _ = Some Text
sort_of part.Conflict key.B _ = Some Text
sort_of part.Conflict key.AToB _ = Some Whole
sort_of part.Conflict key.BToA _ = Some Whole
sort_of part.Link key.Leader _ = Some Text
sort_of part.Link key.Follower _ = Some Text
sort_of part.Link key.After _ = Some Whole
sort_of part.Top key.Link Second = Some TablesOrMissing
sort_of part.Group key.MaxGreen Second = Some WholeOrMissing
sort_of _ _ _ = None

-- the least and the greatest number of elements of a list
abbrev pub count_of : Key → Option (ℕ × ℕ)
count_of key.Group = Some (2, 16)
count_of key.Lane = Some (1, 32)
count_of key.Conflict = Some (1, 120)
count_of key.Link = Some (0, 12)
count_of _ = None

-- the least and the greatest value of a whole number
abbrev pub range_of : Data → Part → Key → Option (ℤ × ℤ)
range_of document part.Top key.LeastCycle = Some (pos 1, pos 300)
range_of document part.Top key.GreatestCycle = option_map (λ least. (least, pos 300)) (whole_in document key.LeastCycle)
range_of document part.Group key.MinGreen = Some (pos 1, pos 120)
range_of document part.Group key.Amber = Some (pos 0, pos 30)
range_of document part.Group key.RedAmber = Some (pos 0, pos 10)
range_of document part.Group key.StartLost = Some (pos 0, pos 10)
range_of document part.Group key.EndGain = Some (pos 0, pos 30)
range_of document part.Group key.MaxGreen = Some (pos 1, pos 300)
range_of document part.Lane key.Arrival = Some (pos 0, pos 20000)
range_of document part.Lane key.Saturation = Some (pos 1, pos 20000)
range_of document part.Lane key.Limit = Some (pos 1, pos 1000)
range_of document part.Conflict key.AToB = Some (pos 0, pos 60)
range_of document part.Conflict key.BToA = Some (pos 0, pos 60)
range_of document part.Link key.After = Some (pos 0, pos 299)
range_of _ _ _ = None
