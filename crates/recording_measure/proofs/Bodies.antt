-- The bodies of general messages, as a match tells them.
use Rattle.std.proofs.Common.{◌≡◌, ◌⊎◌, false, inl, inr, ap}
use Rattle.ptp_units.specs.declared.timestamp.Timestamp.{Timestamp}
use Rattle.event_codec.specs.declared.message.Body.{Body}
use Rattle.event_codec.specs.declared.message.Body.TheVariants.{FollowUp, DelayResp}
use Rattle.event_codec.specs.declared.port.PortIdentity.{PortIdentity}
use Rattle.recording_model.specs.Told.{is_sync}
use Rattle.recording_measure.specs.Watch.{is_request}

-- a Follow_Up or a Delay_Resp
abbrev pub IsGeneral : Body → Type 0
IsGeneral body =
    ((precise : Timestamp) × (body ≡ FollowUp precise))
    ⊎ ((receive : Timestamp) × (requesting : PortIdentity) × (body ≡ DelayResp receive requesting))

pub is_no_sync : (body : Body) → IsGeneral body → is_sync body ≡ false
is_no_sync body (inl is) = ap is_sync is.1
is_no_sync body (inr is) = ap is_sync is.2

pub is_no_request : (body : Body) → IsGeneral body → is_request body ≡ false
is_no_request body (inl is) = ap is_request is.1
is_no_request body (inr is) = ap is_request is.2
