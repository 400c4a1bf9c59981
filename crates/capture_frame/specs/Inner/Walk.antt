-- What the walk through a packet knows: what a relation gives and nothing else, or that it gives nothing.
use Rattle.std.specs.Prelude.{◌≡◌, ℕ, List, ◌++◌, length, Option, Some, None}
use Rattle.capture_frame.specs.declared.content.Content.{Content}
use Rattle.capture_frame.specs.declared.content.Content.TheVariants.{Datagram, Fragment}
use Rattle.capture_frame.specs.Payload.{Payload, Whole, Part}

-- there is this value and no other, or there is none
abbrev pub IsOnly : {A : Type 0} → (P : A → Type 0) → Option A → Type 0
IsOnly {A} P None = (x : A) → ¬ (P x)
IsOnly {A} P (Some x) = P x × ((y : A) → P y → y ≡ x)

-- octets in two parts, of which the first has this size
pub record IsCut (octets : List ℕ) (count : ℕ) (header behind : List ℕ) : Type 0 where
  pub parts : octets ≡ header ++ behind
  pub size : length header ≡ count

-- a payload without where it lies in memory
abbrev pub payload_of : Content → Payload
payload_of (Datagram octets) = Whole octets.now
payload_of Fragment = Part
