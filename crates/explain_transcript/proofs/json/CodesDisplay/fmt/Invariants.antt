use Rattle.std.proofs.Common.{◌≡◌, List, ℕ, drop, ◌++◌}
use denote.Text.{Utf8}
use denote.Shadow.{shadow}
use Rattle.std.specs.Fmt.{HasWritten, IsPlainFormatter}
use Rattle.explain_transcript.specs.Judged.{codes_text}
use Rattle.explain_transcript.proofs.Codes.{codes_left}
use Rattle.explain_transcript.proofs.json.CodesDisplay.fmt.Given as goal

-- what was written and the numbers of the reasons that are left are those of all
abbrev pub invariant-loop-why : goal.invariant-loop-why
invariant-loop-why g l = record {
  text : shadow (Utf8 l.comma);
  front : List ℕ;
  numbers : front ++ codes_left l.comma (drop l.why-index l.self.0.now) ≡ codes_text l.self.0.now;
  written : IsPlainFormatter l.initial.f → HasWritten g.W.Write.write_str_gives l.initial.f front l.f;
}
