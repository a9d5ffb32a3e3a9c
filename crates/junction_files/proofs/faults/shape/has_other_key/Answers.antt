use Rattle.std.proofs.Common.{rules, ◌≡◌, Some}
use Rattle.toml.specs.Data.{as_table}
use Rattle.toml.specs.View.{view, table_view}
use Rattle.junction_files.proofs.ElementAt.{words-table_view}
use Rattle.junction_files.proofs.faults.shape.has_other_key.Goals as goal

pub returns-in-Some : goal.returns-in-Some
returns-in-Some c =
    let found : Some (table_view c.in-Some.table.now) ≡ as_table (view c.args.element.now) = search rules in
    rw (← found, words-table_view) c.has_other_word.ensures
