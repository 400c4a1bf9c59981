-- A packet that carries no datagram leaves what is written as it is.
use Rattle.std.proofs.Common.{◌≡◌, ◌∙◌, ◌↔◌, ℕ, ◌+◌, List, [], ◌∷◌, ◌++◌, length, inl, inr, refl, sym, ap, subst, append-nil}
use Rattle.capture_file.specs.Packet.{PacketOf, Captured, Timeless, Simple}
use Rattle.capture_file.specs.Task.{TakesPackets}
use Rattle.datagram_source.specs.Datagram.{DatagramOf}
use Rattle.datagram_source.specs.Rules.{IsGiven, TakesPacket, packet_rules}
use Rattle.capture_extract.specs.declared.extracting.Extraction.{Extraction}
use Rattle.capture_extract.specs.Extracted.{extract_rules}

-- a packet carries no datagram, whatever its number
abbrev IsNone : Extraction → PacketOf → Type 0
IsNone e packet = (number : ℕ) (d : DatagramOf) → IsGiven extract_rules e number packet d → ⊥

-- ---- the number of a packet doesn't matter
as_numbered : (e : Extraction) (m n : ℕ) (packet : PacketOf) (d : DatagramOf) → IsGiven extract_rules e m packet d
    → IsGiven extract_rules e n packet (record d { number = n })
as_numbered e m n (Captured interface time link octets) d ((found, place, number, moment, written, said, captured), asked) =
    ((found, place, refl, moment, written, said, captured), asked)
as_numbered e m n Timeless d is = absurd is.0
as_numbered e m n Simple d is = absurd is.0

taken_as : (e later : Extraction) (m n : ℕ) (packet : PacketOf) (out : List ℕ) → TakesPacket extract_rules m packet e later out
    → TakesPacket extract_rules n packet e later out
taken_as e later m n packet out (inl (d, is, takes)) = inl (record d { number = n }, as_numbered e m n packet d is, takes)
taken_as e later m n packet out (inr (none, same, nothing)) =
    inr (λ d is. none (record d { number = m }) (as_numbered e n m packet d is), same, nothing)

-- ---- what is asked for stays
same_after : (number : ℕ) (packet : PacketOf) (state later : Extraction) (out : List ℕ) → TakesPacket extract_rules number packet state later out
    → later ≡ state
same_after number packet state later out (inl (d, is, takes)) = takes.0
same_after number packet state later out (inr (none, same, nothing)) = same

same_asked : (packets : List PacketOf) (start state : Extraction) (text : List ℕ)
    → TakesPackets (packet_rules extract_rules) start packets state text → start ≡ state
same_asked [] start state text taken = sym taken.0
same_asked (packet ∷ earlier) start state text (state', before, written, taken, takes, is) =
    same_asked earlier start state' before taken ∙ sym (same_after (length earlier + 1) packet state' state written takes)

-- ---- nothing is written of it
nothing_taken : (e later : Extraction) (number : ℕ) (packet : PacketOf) (out : List ℕ) → IsNone e packet
    → TakesPacket extract_rules number packet e later out → (later ≡ e) × (out ≡ [])
nothing_taken e later number packet out none (inl (d, is, takes)) = absurd (none number d is)
nothing_taken e later number packet out none (inr (never, same, nothing)) = (same, nothing)

still_none : (packet : PacketOf) (earlier : List PacketOf) (start state : Extraction) (text : List ℕ)
    → TakesPackets (packet_rules extract_rules) start earlier state text → IsNone start packet → IsNone state packet
still_none packet earlier start state text taken none =
    subst (λ (e : Extraction). IsNone e packet) (same_asked earlier start state text taken) none

dropped : (packet : PacketOf) (start state : Extraction) → IsNone start packet → (later earlier : List PacketOf)
    (text : List ℕ) → TakesPackets (packet_rules extract_rules) start (later ++ packet ∷ earlier) state text
    → TakesPackets (packet_rules extract_rules) start (later ++ earlier) state text
dropped packet start state none [] earlier text (state', before, written, taken, takes, is) =
    let (kept, nothing) = nothing_taken state' state (length earlier + 1) packet written
    (still_none packet earlier start state' before taken none) takes in
    let same : text ≡ before = is ∙ ap (λ (w : List ℕ). before ++ w) nothing ∙ append-nil before in
    rw (kept, same) taken
dropped packet start state none (first ∷ later) earlier text (state', before, written, taken, takes, is) = (
  state',
  before,
  written,
  dropped packet start state' none later earlier before taken,
  taken_as state' state (length (later ++ packet ∷ earlier) + 1) (length (later ++ earlier) + 1) first written takes,
  is,
)

put : (packet : PacketOf) (start state : Extraction) → IsNone start packet → (later earlier : List PacketOf)
    (text : List ℕ) → TakesPackets (packet_rules extract_rules) start (later ++ earlier) state text
    → TakesPackets (packet_rules extract_rules) start (later ++ packet ∷ earlier) state text
put packet start state none [] earlier text taken =
    let never = still_none packet earlier start state text taken none in
    (state, text, [], taken, inr (λ d is. never (length earlier + 1) d is, refl, refl), sym (append-nil text))
put packet start state none (first ∷ later) earlier text (state', before, written, taken, takes, is) = (
  state',
  before,
  written,
  put packet start state' none later earlier before taken,
  taken_as state' state (length (later ++ earlier) + 1) (length (later ++ packet ∷ earlier) + 1) first written takes,
  is,
)

pub changes_nothing : (packet : PacketOf) (start state : Extraction) → IsNone start packet
    → (later earlier : List PacketOf) (text : List ℕ)
    → TakesPackets (packet_rules extract_rules) start (later ++ packet ∷ earlier) state text
    ↔ TakesPackets (packet_rules extract_rules) start (later ++ earlier) state text
changes_nothing packet start state none later earlier text =
    (dropped packet start state none later earlier text, put packet start state none later earlier text)
