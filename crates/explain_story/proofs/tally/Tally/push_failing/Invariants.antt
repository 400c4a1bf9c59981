use Rattle.std.proofs.Common.{◌≡◌, ◌++◌, drop}
use Rattle.std.specs.Prelude.{string_bytes}
use Rattle.explain_story.specs.Counts.{failing_lines, told_reasons}
use Rattle.explain_story.specs.Inner.Tally.{failing_in}
use Rattle.explain_story.proofs.tally.Tally.push_failing.Given as goal

-- what was told, and behind it the lines of the reasons that are left, are all
abbrev pub invariant-loop-why : goal.invariant-loop-why
invariant-loop-why l =
    string_bytes l.text ++ failing_lines (failing_in l.self.failing) (drop l.why-index told_reasons)
    ≡ string_bytes l.initial.text ++ failing_lines (failing_in l.self.failing) told_reasons
