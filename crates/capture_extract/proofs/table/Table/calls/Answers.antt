use Rattle.std.proofs.Common.{◌≡◌, ◌∙◌, List, [], ◌++◌, map, sym, ap, append-nil}
use Rattle.capture_extract.specs.declared.row.RowKey.{RowKey}
use Rattle.capture_extract.specs.Calls.{calls_of}
use Rattle.capture_extract.specs.Inner.Lines.{line_of_call}
use Rattle.capture_extract.proofs.Shown.{same_keys}
use Rattle.capture_extract.proofs.table.Table.calls.Goals as goal

pub returns : goal.returns
returns c = λ t h.
    let made = map line_of_call c.loop-key.calls.items in
    let end : c.loop-key.key-iterator ≡ [] = c.in-None.ensures.steps.0 in
    sym (append-nil made) ∙ ap (λ (keys : List RowKey). made ++ calls_of t.interfaces keys) (sym end)
    ∙ c.loop-key.invariant t h
    ∙ ap (λ (keys : List RowKey). calls_of t.interfaces keys) (same_keys t.groups c.args.self.now.rows.entries h.rows)
