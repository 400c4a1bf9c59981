use Rattle.std.proofs.Common.{◌++◌, encode_utf8, encode_utf8_all, sym, ap, ◌∙◌, append_assoc, rules}
use Rattle.std.proofs.Output.{has_written_append}
use Rattle.capture_extract.proofs.interfaces.write_escape.Goals as goal

pub escape-preserved : goal.escape-preserved
escape-preserved g c = (
  search rules,
  λ plain.
      let now = c.escape.invariant.1 plain in
      let ch = c.in-Some.escaped in (
        now.0 ++ encode_utf8 ch,
        has_written_append _ _ _ _ _ _ now.1 (search rules),
        append_assoc now.0 (encode_utf8 ch) _ ∙ ap (λ l. now.0 ++ encode_utf8_all l) (sym c.in-Some.ensures.steps.1.0) ∙ now.2,
      ),
)
