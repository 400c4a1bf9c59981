-- What is said of a captured packet.
use Rattle.std.specs.Prelude.{◌≡◌, ℕ, ◌<◌, ◌≤◌, List, length, Option, Some, None}
use Rattle.capture_frame.specs.declared.found.Found.{Found}
use Rattle.capture_frame.specs.declared.found.Found.TheVariants as found
use Rattle.capture_frame.specs.declared.link_type.LinkType.{LinkType}
use Rattle.capture_frame.specs.Link.{Carries, link_numbered}
use Rattle.capture_frame.specs.Payload.{Payload, Whole, Part}

-- the most octets of a datagram that is handed on
abbrev pub datagram_limit : ℕ
datagram_limit = 2035

-- an answer without where its datagram lies in memory
pub data Answer : Type 0 where
  Datagram : List ℕ → Answer
  Fragment : Answer
  TooLong : Answer
  OtherLink : Answer
  Other : Answer

abbrev pub answer_of : Found → Answer
answer_of (found.Datagram octets) = Datagram octets.now
answer_of found.Fragment = Fragment
answer_of found.TooLong = TooLong
answer_of found.OtherLink = OtherLink
answer_of found.Other = Other

-- what is said of a packet that carries what `Carried` says
abbrev pub IsAnswer : (Carried : Payload → Type 0) → Answer → Type 0
IsAnswer Carried (Datagram datagram) = Carried (Whole datagram) × (length datagram ≤ datagram_limit)
IsAnswer Carried TooLong = (datagram : List ℕ) × Carried (Whole datagram) × (datagram_limit < length datagram)
IsAnswer Carried Fragment = Carried Part
IsAnswer Carried OtherLink = ⊥
IsAnswer Carried Other = (payload : Payload) → ¬ (Carried payload)

-- this is said of a packet of this link type, if it is one of the eight
abbrev pub IsFoundBehind : Option LinkType → List ℕ → Answer → Type 0
IsFoundBehind None octets answer = answer ≡ OtherLink
IsFoundBehind (Some link) octets answer = IsAnswer (Carries link octets) answer

-- this is said of the octets of a packet, by the number of its link type
abbrev pub IsFound : ℕ → List ℕ → Answer → Type 0
IsFound link octets answer = IsFoundBehind (link_numbered link) octets answer
