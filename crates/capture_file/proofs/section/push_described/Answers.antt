use Rattle.std.proofs.Common.{rules, ◌≡◌}
use Rattle.capture_file.proofs.Names.{named_more, named_none}
use Rattle.capture_file.proofs.section.push_described.Goals as goal
use Rattle.capture_file.proofs.section.push_described.Goals.{in-Some+in_ok-from_slice+in_ok-insert, in_default}

pub returns-clause-names : goal.returns-clause-names
returns-clause-names c = λ name.
    elim c.match-described-2.branch [
      | in-Some+in_ok-from_slice+in_ok-insert w ↦
          let same : w.in_ok-from_slice.field-0.items ≡ w.in-Some.name.items = search rules in
          rw w.names-is
          (named_more name _ _ c.args.described.name w.in-Some.name w.in_ok-from_slice.field-0 w.in-Some.is same w.in_ok-insert.ensures.keys)
      | in_default w ↦ named_none name _ _ c.args.described.name w.in_default.is w.names-is
    ]
