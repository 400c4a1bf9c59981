-- What `follow` makes of datagrams.
use Rattle.std.specs.Prelude.{◌≡◌, ◌≢◌, ◌⊎◌, ℕ, List, [], Option, Some, None}
use Rattle.datagram_source.specs.declared.lines.LineForm.TheVariants.{AtTaps}
use Rattle.datagram_source.specs.Datagram.{Line, DatagramOf}
use Rattle.datagram_source.specs.Rules.{DatagramRules}
use Rattle.tap_choice.specs.declared.met.Met.{Met}
use Rattle.tap_choice.specs.declared.met.Side.{Side}
use Rattle.tap_follow.specs.declared.follower.Arrival.{Arrival}
use Rattle.tap_follow.specs.declared.follower.Arrival.TheVariants as arrivals
use Rattle.tap_follow.specs.Course.{Course, arrival_of, with_tap, after, ended, new_text, end_text}
use Rattle.tap_follow.specs.declared.fault.FollowFault.{FollowFault}
use Rattle.tap_follow.specs.declared.fault.FollowFault.TheVariants.{Write, Field, Memory, ThirdTap}
use Rattle.tap_follow.specs.Datagram.{met_in, IsTapAt}
use Rattle.tap_follow.specs.Fault.{is_write, keeps, fault_of}

-- this message, if it is one, changes a course so, and this is written
abbrev pub Changes : Option Met → Course → Course → List ℕ → Type 0
Changes None c later out = (later ≡ c) × (out ≡ [])
Changes (Some m) c later out = (later ≡ after m c) × (out ≡ new_text m c)

-- a datagram that was met at this tap changes a course so, by which of the taps it is; at a third one it isn't taken
abbrev pub TakesAt : Arrival → (tap : List ℕ) → DatagramOf → Course → Course → List ℕ → Type 0
TakesAt (arrivals.At side) tap d c later out = Changes (met_in side d) (with_tap tap c) later out
TakesAt arrivals.Elsewhere tap d c later out = (later ≡ with_tap tap c) × (out ≡ [])
TakesAt arrivals.Third tap d c later out = ⊥

-- A datagram is taken: it changes a course so, and this is written. One whose line tells no place changes nothing; lines
-- at taps give none such.
abbrev pub TakesDatagram : DatagramOf → Course → Course → List ℕ → Type 0
TakesDatagram d c later out =
    ((tap : List ℕ) × IsTapAt d.place tap × TakesAt (arrival_of c tap) tap d c later out)
    ⊎ ((d.place ≡ Line) × (later ≡ c) × (out ≡ []))

-- why a datagram isn't taken: the tap is a third one; or its message changes what is written, and the writer failed; or it has a
-- message, at one of the two taps, and memory was refused, and nothing of that went out
abbrev pub StopsAtDatagram : FollowFault → DatagramOf → Course → List ℕ → Type 0
StopsAtDatagram Write d c out = (later : Course) × (new : List ℕ) × (new ≢ []) × TakesDatagram d c later new
StopsAtDatagram Field d c out = ⊥
StopsAtDatagram Memory d c out =
    (out ≡ []) × (tap : List ℕ) × IsTapAt d.place tap × (side : Side) × (m : Met) × (arrival_of c tap ≡ arrivals.At side)
    × (met_in side d ≡ Some m)
StopsAtDatagram (ThirdTap name) d c out = (out ≡ []) × IsTapAt d.place name × (arrival_of c name ≡ arrivals.Third)

-- why the end has no answer: what it writes, and memory or the writer failed
abbrev pub StopsAtEnd : Course → FollowFault → List ℕ → Type 0
StopsAtEnd c Write out = end_text c ≢ []
StopsAtEnd c Field out = ⊥
StopsAtEnd c Memory out = out ≡ []
StopsAtEnd c (ThirdTap name) out = ⊥

-- the datagrams of an input, at taps; of a capture, the packets of each interface
abbrev pub follow_rules : DatagramRules Course FollowFault
follow_rules = record {
  line_form = AtTaps;
  asked = λ c. None;
  Takes = TakesDatagram;
  Stops = λ d c fault out. StopsAtDatagram fault d c out;
  Ends = λ c later out. (later ≡ ended c) × (out ≡ end_text c);
  StopsAtEnd = StopsAtEnd;
  is_of_writer = is_write;
  keeps = keeps;
  fault_of = fault_of;
}
