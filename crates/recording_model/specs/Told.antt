-- Which recordings tell what came to a slave in a run, and what it sent.
use Rattle.std.specs.Prelude.{◌≡◌, ℕ, ◌<◌, ◌==◌, not, Bool, true, false, ⊤, List, [], ◌∷◌, if◌then◌else◌, Option}
use Rattle.std.specs.Prelude.{Some, None, Ok, option_and_then, IsTrue}
use Rattle.std.specs.Option.{option_map_or, option_or}
use Rattle.std.specs.Result.{result_ok}
use Rattle.event_codec.specs.declared.message.Body.{Body}
use Rattle.event_codec.specs.declared.message.Body.TheVariants.{Sync, DelayReq, FollowUp, DelayResp}
use Rattle.event_codec.specs.declared.message.Header.{Header}
use Rattle.event_codec.specs.Packet.{Contents}
use Rattle.network_model.specs.declared.event.Event.{Event}
use Rattle.network_model.specs.declared.event.Event.TheVariants.{Arrive, Hear, Request}
use Rattle.network_model.specs.Network.{Network, NodeName, is_named}
use Rattle.network_model.specs.Run.{Run, Place, place, site_of}
use Rattle.network_model.specs.Clock.{reading}
use Rattle.network_model.specs.Truth.{copy_of, drawn}
use Rattle.recording_model.specs.declared.watched.Watched.{Watched}
use Rattle.recording_model.specs.Recorded.{Recorded}
use Rattle.recording_model.specs.Listening.{is_of, is_used}
use Rattle.recording_model.specs.Agreement.{Moved, moved_at, Agrees}

-- a Sync, which is all that a slave hears of event messages
abbrev pub is_sync : Body → Bool
is_sync (Sync origin) = true
is_sync _ = false

-- a Follow_Up or a Delay_Resp, which is all that it hears of general messages
abbrev pub is_general : Body → Bool
is_general (FollowUp precise) = true
is_general (DelayResp receive requesting) = true
is_general _ = false

-- a message, where its body is of this kind
abbrev pub where_is : (Body → Bool) → Contents → Option Contents
where_is kind m = if kind m.body then Some m else None

-- the message that an event of a slave tells: a Sync that arrives, a Follow_Up or a Delay_Resp that it hears, a
-- Delay_Req that it sends
abbrev pub told_by : Network → Event → Run → Option Contents
told_by network (Arrive node copy at) earlier = option_and_then (where_is is_sync) (copy_of network earlier copy)
told_by network (Hear node copy) earlier = option_and_then (where_is is_general) (copy_of network earlier copy)
told_by network (Request node at) earlier = drawn network (Request node at) earlier
told_by network _ earlier = None

-- the same where the event is of this slave
abbrev pub told_at : Network → NodeName → Event → Run → Option Contents
told_at network slave event earlier =
    if is_named (site_of event) slave then told_by network event earlier else None

-- the number of the watched slave's Delay_Req
abbrev pub own_request : Watched → Header → Body → Option ℕ
own_request w header (DelayReq origin) = if is_of w w.slave header then Some header.sequence.0 else None
own_request w header _ = None

-- the number of the last Delay_Req of the slave that these datagrams say
abbrev pub last_request : Watched → List Recorded → Option ℕ
last_request w [] = None
last_request w (d ∷ earlier) =
    option_or (option_and_then (λ m. own_request w m.header m.body) (result_ok d.said)) (last_request w earlier)

-- a Delay_Req of another port or in another domain, or the last one of the slave again
abbrev pub asks_nothing : Watched → List Recorded → Header → Bool
asks_nothing w earlier header =
    if is_of w w.slave header
    then option_map_or (λ last. last == header.sequence.0) (last_request w earlier) false
    else true

-- such a Delay_Req, or another message that the port doesn't use: of another domain, another master or to another slave,
-- one that comes again, or one that it ignores
abbrev pub is_aside : Watched → List Recorded → Recorded → Header → Body → Bool
is_aside w earlier d header (Sync origin) = not (is_used w earlier d)
is_aside w earlier d header (DelayReq origin) = asks_nothing w earlier header
is_aside w earlier d header (FollowUp precise) = not (is_used w earlier d)
is_aside w earlier d header (DelayResp receive requesting) = not (is_used w earlier d)

-- a datagram that says nothing new to the slave after these: such a message, or none of the four
abbrev pub says_nothing : Watched → List Recorded → Recorded → Bool
says_nothing w earlier d = option_map_or (λ m. is_aside w earlier d m.header m.body) (result_ok d.said) true

-- what is recorded of a message that is heard has any time; a Sync and a Delay_Req have the clock's reading
abbrev pub IsTimed : Event → Run → ℕ → Type 0
IsTimed (Hear node copy) earlier time = ⊤
IsTimed event earlier time = time ≡ reading (place event earlier)

-- an event of a slave is told by a datagram, whose message agrees with that of the event
pub record IsToldBy (network : Network) (slave : NodeName) (moved : Moved) (event : Event) (earlier : Run)
    (d : Recorded) : Type 0 where
  pub m : Contents
  pub made : told_at network slave event earlier ≡ Some m
  pub said : Contents
  pub says : d.said ≡ Ok said
  pub agrees : Agrees (moved_at moved (place event earlier)) m said
  pub timed : IsTimed event earlier d.time

-- The datagrams tell, in order, Syncs that arrived at the watched slave, Follow_Ups and Delay_Resps that it heard and
-- Delay_Reqs that it sent, with its clock's readings. Some may be missing, and datagrams that say nothing new to it may
-- stand between. Both are newest first.
pub data Tells (network : Network) (slave : NodeName) (w : Watched) (moved : Moved) : Run → List Recorded
    → Type 0 where
  Nothing : Tells network slave w moved [] []
  Untold : (event : Event) (earlier : Run) (ds : List Recorded) → Tells network slave w moved earlier ds
      → Tells network slave w moved (event ∷ earlier) ds
  Told : (event : Event) (earlier : Run) (d : Recorded) (ds : List Recorded)
      → IsToldBy network slave moved event earlier d
      → Tells network slave w moved earlier ds → Tells network slave w moved (event ∷ earlier) (d ∷ ds)
  Other : (run : Run) (d : Recorded) (ds : List Recorded) → IsTrue (says_nothing w ds d)
      → Tells network slave w moved run ds → Tells network slave w moved run (d ∷ ds)

-- each line has a greater number than those before it
abbrev pub AreNumbered : List Recorded → Type 0
AreNumbered [] = ⊤
AreNumbered (d ∷ []) = ⊤
AreNumbered (d ∷ (before ∷ earlier)) = (before.line < d.line) × AreNumbered (before ∷ earlier)

-- the event that the line of this number tells
abbrev pub event_told : {network : Network} {slave : NodeName} {w : Watched} {moved : Moved} {run : Run}
    {ds : List Recorded}
    → Tells network slave w moved run ds → (line : ℕ) → Option Place
event_told Nothing line = None
event_told (Untold event earlier ds tells) line = event_told tells line
event_told (Told event earlier d ds one tells) line =
    if d.line == line then Some (place event earlier) else event_told tells line
event_told (Other run d ds nothing tells) line = event_told tells line
