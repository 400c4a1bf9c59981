-- The lines of a small datagram, and a packet of which none is taken.
use Rattle.std.proofs.Common.{◌≡◌, [], ◌∷◌, codes, refl, arith}
use Rattle.std.proofs.lemmas.Fmt.{decimal_digit}
use Rattle.hex.proofs.OnLiterals.{hex_on_literals}
use Rattle.ptp_units.specs.Moment.{stamp}
use Rattle.datagram_text.specs.Shown.{stamp_text}
use Rattle.capture_file.specs.Packet.{Timeless}
use Rattle.capture_extract.specs.declared.line.ExtractForm.TheVariants.{Octets, Timed}
use Rattle.datagram_source.specs.Datagram.{DatagramOf}
use Rattle.datagram_source.specs.Rules.{IsGiven}
use Rattle.capture_extract.specs.declared.extracting.Extraction.{Extraction}
use Rattle.capture_extract.specs.Extracted.{extract_rules}
use Rattle.capture_extract.specs.Line.{line_text}

timed : line_text Timed (stamp_text (stamp 1 2)) (202 ∷ 254 ∷ []) ≡ codes "1.000000002 cafe\n"
unfolding hex_on_literals
timed = rw (decimal_digit 1 (omega arith), decimal_digit 2 (omega arith)) refl

octets_alone : line_text Octets (stamp_text (stamp 1 2)) (202 ∷ 254 ∷ []) ≡ codes "cafe\n"
unfolding hex_on_literals
octets_alone = refl

no_time : (e : Extraction) (d : DatagramOf) → IsGiven extract_rules e 1 Timeless d → ⊥
no_time e d is = is.0
