use Rattle.std.proofs.Common.{◌∙◌, sym, option_map}
use Rattle.event_codec.specs.Profile.{contents_of}
use Rattle.trace_model.specs.ByMessages.{tells_message}
use Rattle.trace_model.specs.Field.{tells_same}
use Rattle.exchange_check.proofs.exceptions.tells_message.Goals as goal

pub returns-in-Made : goal.returns-in-Made
returns-in-Made c =
    c.tells_same.ensures
    ∙ (λ i. tells_same (c.message.ensures i) (c.as_slice.ensures.value i))
    ∙ sym (λ i. tells_message (option_map contents_of (c.in-Some.is i)) (c.in-Made.is i))
