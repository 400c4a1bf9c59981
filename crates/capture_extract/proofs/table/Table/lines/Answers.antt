use Rattle.std.proofs.Common.{◌∙◌, ℕ, List, [], ◌∷◌, ◌++◌, map, Option, ap, subst}
use Rattle.std.proofs.lemmas.List.{map_push}
use Rattle.capture_file.specs.Packet.{InterfaceOf}
use Rattle.capture_extract.specs.Labels.{interface_at}
use Rattle.capture_extract.specs.Inner.Lines.{AreCells, texts}
use Rattle.capture_extract.proofs.Shown.{all_lines, at_end, one_more}
use Rattle.capture_extract.proofs.table.Table.lines.Goals as goal

pub loop-key-preserved : goal.loop-key-preserved
loop-key-preserved c = λ t h.
    let so_far = c.loop-key.invariant t h in
    let line = c.in_ok-line_of.field-0 in
    let key = c.in-Some.key.now in
    let row = c.in-Some.row.now in
    let cell : AreCells (interface_at t.interfaces key.interface) key row (texts line) =
    subst (λ (i : Option InterfaceOf). AreCells i key row (texts line)) (c.label.ensures t h) c.in_ok-line_of.ensures in (
      so_far.0 ++ texts line ∷ [],
      ap (map texts) c.in_ok-push-2.ensures.items ∙ map_push texts c.loop-key.lines.items line
          ∙ ap (λ (lines : List (List (List ℕ))). lines ++ texts line ∷ []) so_far.1,
      one_more t.interfaces c.args.self.now.rows.entries c.loop-key.key-iterator c.next.new.self so_far.0 (key, row) (texts line)
          c.in-Some.ensures.steps cell so_far.2,
    )

pub returns : goal.returns
returns c = λ t h.
    let so_far = c.loop-key.invariant t h in
    let rows = c.args.self.now.rows.entries in (
      so_far.0,
      so_far.1,
      all_lines t.interfaces t.groups rows so_far.0 h.rows
          (at_end t.interfaces rows c.loop-key.key-iterator so_far.0 c.in-None.ensures.steps.0 so_far.2),
    )
