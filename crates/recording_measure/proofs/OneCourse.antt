-- What is done with a datagram is one thing, but for faults of the writer and of memory.
use Rattle.std.proofs.Common.{◌≡◌, ◌∙◌, ℕ, Bool, List, [], ◌∷◌, take, Option, Some, None, true, false, true≢false, refl, sym, ap, subst}
use Rattle.std.specs.Prelude.{is_some}
use Rattle.std.proofs.lemmas.List.{append_cancel_left}
use Rattle.text_lines.specs.declared.line_fault.LineFault.{LineFault}
use Rattle.text_lines.specs.declared.line_fault.LineFault.TheVariants.{Write, Field, Memory}
use Rattle.text_lines.specs.Fault.{is_write}
use Rattle.datagram_source.specs.Datagram.{DatagramOf}
use Rattle.datagram_source.proofs.OneCourse.{IsSole}
use Rattle.event_codec.specs.Layout.{number}
use Rattle.event_codec.specs.Profile.{contents_of}
use Rattle.event_codec.proofs.Again.{octets_same}
use Rattle.signaling_codec.specs.declared.signaling.Signaling.{Signaling}
use Rattle.signaling_codec.proofs.Front.{signaling_same}
use Rattle.recording_measure.specs.declared.own.OwnMessage.{OwnMessage}
use Rattle.recording_measure.specs.Row.{row_of}
use Rattle.recording_measure.specs.Places.{name_in, placed}
use Rattle.recording_measure.specs.Own.{Begins, messages_in, IsOwn}
use Rattle.recording_measure.specs.Measure.{Recording, Takes, Stops, written_of, measure_rules, with_row, with_own, slave_by}
use Rattle.recording_measure.specs.Measure.{IsTold, TellsReadings, TakesOwn, ReadsTold, counted_with}

-- ---- a datagram tells one thing
same_row : (told one other : DatagramOf) (m : OwnMessage) → IsOwn told m one → IsOwn told m other → row_of other ≡ row_of one
same_row told one other m h k =
    let octets = octets_same (contents_of m.message) other.octets one.octets k.packet h.packet in
    let number = k.numbered ∙ sym h.numbered in
    let time = k.moment_is ∙ sym h.moment_is in
    let said = k.said ∙ sym h.said in λ i. record {
      time = (k.written ∙ sym h.written) i;
      octets = octets i;
      datagram = record { line = number i; time = time i; said = said i };
      own = (k.own ∙ sym h.own) i;
    }

same_taken : (told : DatagramOf) (messages : List OwnMessage) (r from one other : Recording) → from ≡ r → TakesOwn told messages r one
    → TakesOwn told messages from other → other ≡ one
same_taken told [] r from one other same h k = k ∙ same ∙ sym h
same_taken told (m ∷ messages) r from one other same (d, is, takes) (d', is', takes') =
    let row = same_row told d d' m is is' in
    same_taken told messages (with_row (placed told.place d) r) (with_row (placed told.place d') from) one other
    (λ i. with_row (record { place = name_in told.place; row = row i }) (same i)) takes takes'

begins_same : (m n : Signaling) (octets : List ℕ) → Begins m octets → Begins n octets → n ≡ m
begins_same m n octets h k = signaling_same n m (take (number octets 2 2) octets) k.1 h.1

told_same : (r : Recording) (octets : List ℕ) (one other : Option Signaling) → IsTold r octets one → IsTold r octets other → other ≡ one
told_same r octets None None h k = refl
told_same r octets None (Some n) h k = absurd (true≢false (sym k.1 ∙ h n k.0))
told_same r octets (Some m) None h k = absurd (true≢false (sym h.1 ∙ k m h.0))
told_same r octets (Some m) (Some n) h k = ap Some (begins_same m n octets h.0 k.0)

tells_same : (octets : List ℕ) (one other : Bool) → TellsReadings octets one → TellsReadings octets other → other ≡ one
tells_same octets true true h k = refl
tells_same octets true false h k = absurd (true≢false (sym h.2 ∙ k h.0 h.1))
tells_same octets false true h k = absurd (true≢false (sym k.2 ∙ h k.0 k.1))
tells_same octets false false h k = refl

reads_same : (d : DatagramOf) (r one other : Recording) (told : Option Signaling) → ReadsTold d told r one → ReadsTold d told r other
    → other ≡ one
reads_same d r one other None h k = k ∙ sym h
reads_same d r one other (Some m) h k =
    let slave = slave_by r.wanted m.header in
    same_taken d (messages_in slave m) (with_own r.by slave r) (with_own r.by slave r) one other refl h k

one_taken : (d : DatagramOf) (r one other : Recording) (text text' : List ℕ) → Takes d r one text → Takes d r other text'
    → (other ≡ one) × (text' ≡ text)
one_taken d r one other text text' ((told, is, tells, tell, reads), out) ((told', is', tells', tell', reads'), out') =
    let counted = subst (λ (b : Bool). ReadsTold d told' (counted_with d (is_some told') b r) other)
    (tells_same d.octets tells tells' tell tell') reads' in
    let again = subst (λ (t : Option Signaling). ReadsTold d t (counted_with d (is_some t) tells r) other)
    (told_same r d.octets told told' is is') counted in
    let same : other ≡ one = reads_same d (counted_with d (is_some told) tells r) one other told reads again in
    (same, append_cancel_left (written_of r) text' text (sym out' ∙ ap written_of same ∙ out))

never : (Device : LineFault → Type 0) → Device Write → Device Memory → (d : DatagramOf) (r : Recording) (text : List ℕ) (fault : LineFault)
    → (Device fault → ⊥) → Stops d r fault text → ⊥
never Device write memory d r text Write sure stops = sure write
never Device write memory d r text Field sure stops = stops
never Device write memory d r text Memory sure stops = sure memory

of_writer : (Device : LineFault → Type 0) → Device Write → (fault : LineFault) → is_write fault ≡ true → Device fault
of_writer Device write Write is = write
of_writer Device write _ is = absurd cc

pub measure_sole : (Device : LineFault → Type 0) → Device Write → Device Memory → IsSole measure_rules Device
measure_sole Device write memory = record {
  one_step = λ number line d r one other text text' is h k. one_taken d r one other text text' h k;
  no_fault = λ number line d r later text text' fault sure is takes stops. never Device write memory d r text' fault sure stops;
  one_fault = λ number line d r text text' one other sure sure' is h k. absurd (never Device write memory d r text one sure h);
  one_end = λ r one other text text' h k. k.1 ∙ sym h.1;
  no_end = λ r later text text' fault sure ends stops. stops;
  one_fault_at_end = λ r text text' one other sure sure' h k. absurd h;
  memory = memory;
  writer = of_writer Device write;
}
