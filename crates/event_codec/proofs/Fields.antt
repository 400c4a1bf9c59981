-- The types of messages: their numbers, and where their fields end.
use Rattle.std.proofs.Common.{◌≡◌, ◌<◌, ◌≤◌, Some, refl, sym, ap, ◌∙◌, arith}
use Rattle.event_codec.specs.declared.message_type.MessageType.{MessageType}
use Rattle.event_codec.specs.declared.message_type.MessageType.TheVariants.{Sync, DelayReq, FollowUp, DelayResp}
use Rattle.event_codec.specs.Layout.{number_of, type_numbered, fields_length}

pub number_of_below : (kind : MessageType) → number_of kind < 16
number_of_below Sync = omega arith
number_of_below DelayReq = omega arith
number_of_below FollowUp = omega arith
number_of_below DelayResp = omega arith

pub type_numbered-number_of : (kind : MessageType) → type_numbered (number_of kind) ≡ Some kind
type_numbered-number_of Sync = refl
type_numbered-number_of DelayReq = refl
type_numbered-number_of FollowUp = refl
type_numbered-number_of DelayResp = refl

pub number_of_same : (kind other : MessageType) → number_of kind ≡ number_of other → kind ≡ other
number_of_same kind other e =
    let both : Some kind ≡ Some other = sym (type_numbered-number_of kind) ∙ ap type_numbered e ∙ type_numbered-number_of other in
    cc

pub fields_length_above : (kind : MessageType) → 44 ≤ fields_length kind
fields_length_above Sync = omega arith
fields_length_above DelayReq = omega arith
fields_length_above FollowUp = omega arith
fields_length_above DelayResp = omega arith
