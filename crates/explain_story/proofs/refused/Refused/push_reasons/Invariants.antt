use Rattle.std.proofs.Common.{◌≡◌, List, ℕ, ◌++◌, drop}
use denote.Text.{Utf8}
use denote.Shadow.{shadow}
use Rattle.std.specs.Prelude.{codes, string_bytes}
use Rattle.explain_story.specs.Report.{TellsReasons}
use Rattle.explain_story.proofs.refused.Refused.push_reasons.Given as goal

-- what was told, and behind it the reasons that are left, are all
abbrev pub invariant-loop-why : goal.invariant-loop-why
invariant-loop-why l = record {
  lead : shadow (Utf8 l.lead);
  told : List ℕ;
  text : string_bytes l.text ≡ string_bytes l.initial.text ++ told;
  tells : (behind : List ℕ) → TellsReasons l.equal l.lead (drop l.why-index l.reasons) behind
      → TellsReasons l.equal (codes "refused, ") l.reasons (told ++ behind);
}
