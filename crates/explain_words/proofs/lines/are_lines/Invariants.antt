use Rattle.std.proofs.Common.{◌≡◌, ◌≤◌, drop, length}
use Rattle.explain_words.specs.Lines.{are_lines_from}
use Rattle.explain_words.proofs.lines.are_lines.Given as goal

-- the text is such lines where what is left of it is
abbrev pub invariant-loop-octet : goal.invariant-loop-octet
invariant-loop-octet l = record {
  within : l.place ≤ length l.lead;
  same : are_lines_from l.lead l.place (drop l.octet-index l.text) ≡ are_lines_from l.lead 0 l.text;
}
