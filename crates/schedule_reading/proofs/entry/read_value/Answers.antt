use Rattle.std.proofs.Common.{◌∙◌, inr, refl, sym, true≢false}
use Rattle.schedule_reading.proofs.entry.read_value.Goals as goal

pub returns-in-Err-2 : goal.returns-in-Err-2
returns-in-Err-2 c =
    inr (
      refl,
      c.in-Err.ensures (λ memory. true≢false (sym (c.is_memory.ensures.1 memory) ∙ c.if-is_memory.false)),
    )
