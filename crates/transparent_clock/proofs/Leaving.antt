-- What a decoder answers, forwarded by a clock.
use Rattle.std.proofs.Common.{◌≡◌, ℕ, ◌≤◌, ℤ, List, length, take, Ok, Err, ap, sym, subst, ◌∙◌}
use Rattle.ptp_units.specs.declared.interval.Interval.{Interval}
use Rattle.ptp_units.specs.Interval.{with_residence}
use Rattle.event_codec.specs.declared.message.Message.{Message}
use Rattle.event_codec.specs.Packet.{Contents, Packet, contents}
use Rattle.event_codec.specs.Reading.{Reading, IsReading, Answers}
use Rattle.event_codec.specs.Refusal.{message_length}
use Rattle.event_codec.specs.Correction.{corrected, with_correction}
use Rattle.transparent_clock.specs.Forwarding.{forwarded}

-- what octets say is forwarded as the message read from them
pub forwarded_as_read : (m : Message) (used : ℕ) (said : Reading) (entered left : ℕ) → Answers (Ok (m, used)) said
    → forwarded said entered left ≡ forwarded (Ok (contents m)) entered left
forwarded_as_read m used (Ok read) entered left h = ap (λ (x : Contents). forwarded (Ok x) entered left) (sym h.0)
forwarded_as_read m used (Err refusal) entered left h = absurd h

-- what octets say once their correction is another
IsReading-corrected : (m : Contents) (c : Interval) (old new : List ℕ) → length new ≡ length old
    → ((m : Contents) (n : ℕ) → n ≤ length old → Packet m (take n old) → Packet (with_correction m c) (take n new))
    → IsReading old (Ok m) → IsReading new (Ok (with_correction m c))
IsReading-corrected m c old new same patched h = (subst (λ (n : ℕ). message_length m ≤ n) (sym same) h.0, patched m (message_length m) h.0 h.1)

-- what octets say that were read, once their correction is another
pub left_as_read : (m : Message) (used : ℕ) (said : Reading) (c : Interval) (entered left : ℕ) (old new : List ℕ) → Answers (Ok (m, used)) said
    → forwarded (Ok (contents m)) entered left ≡ Ok (with_correction (contents m) c) → length new ≡ length old
    → ((m : Contents) (n : ℕ) → n ≤ length old → Packet m (take n old) → Packet (with_correction m c) (take n new))
    → IsReading old said → (x : Contents) × (forwarded said entered left ≡ Ok x) × IsReading new (Ok x)
left_as_read m used (Ok read) c entered left old new h goes same patched said = (
  with_correction read c,
  forwarded_as_read m used (Ok read) entered left h ∙ goes ∙ ap (λ (x : Contents). Ok (with_correction x c)) h.0,
  IsReading-corrected read c old new same patched said,
)
left_as_read m used (Err refusal) c entered left old new h goes same patched said = absurd h

-- the correction that the octets say
pub corrected_as_read : (m : Message) (used : ℕ) (said : Contents) (residence : ℕ) (old new : List ℕ) (c : ℤ) → Answers (Ok (m, used)) (Ok said)
    → c ≡ with_residence m.header.correction.0 residence → new ≡ corrected old c → new ≡ corrected old (with_residence said.header.correction.0 residence)
corrected_as_read m used said residence old new c h sum patched =
    patched ∙ ap (corrected old) (sum ∙ ap (λ (x : Contents). with_residence x.header.correction.0 residence) h.0)

pub ruleset leaving = (forwarded_as_read, left_as_read, corrected_as_read)
