use Rattle.std.proofs.Common.{◌≡◌, ◌++◌, map}
use Rattle.std.specs.BTreeMap.{keys}
use Rattle.capture_extract.specs.Calls.{calls_of}
use Rattle.capture_extract.specs.Table.{TableOf}
use Rattle.capture_extract.specs.Inner.Lines.{line_of_call}
use Rattle.capture_extract.specs.Inner.Rows.{IsTable}
use Rattle.capture_extract.proofs.table.Table.calls.Given as goal

-- those of the rows so far, and those of the others
abbrev pub invariant-loop-key : goal.invariant-loop-key
invariant-loop-key l = (t : TableOf) → IsTable t l.self
    → map line_of_call l.calls.items ++ calls_of t.interfaces l.key-iterator ≡ calls_of t.interfaces (keys l.self.rows)
