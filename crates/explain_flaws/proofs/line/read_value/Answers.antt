use Rattle.std.proofs.Common.{◌∙◌, sym, true≢false}
use Rattle.explain_flaws.proofs.line.read_value.Goals as goal

pub returns-in-Ok : goal.returns-in-Ok
returns-in-Ok c = c.in-Ok.ensures

pub returns-in-Err-2 : goal.returns-in-Err-2
returns-in-Err-2 c = (
  c.in-Err.ensures (λ memory. true≢false (sym (c.is_memory.ensures.1 memory) ∙ c.if-is_memory.false)),
  c.json_flaw.ensures,
)
