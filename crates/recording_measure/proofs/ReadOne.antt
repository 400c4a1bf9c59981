-- What one more datagram does to a recording.
use Rattle.std.proofs.Common.{◌≡◌, ◌∙◌, Bool, true, false, true≢false, List, [], ◌∷◌, length, Some, None, refl, sym, ap, subst}
use Rattle.std.specs.Prelude.{nat_lt, ◌&&◌}
use Rattle.std.specs.List.{All}
use Rattle.std.proofs.lemmas.Bool.{and_parts}
use Rattle.std.proofs.lemmas.List.Elements.{All-nil, All-cons}
use Rattle.datagram_source.specs.Datagram.{DatagramOf, Line}
use Rattle.event_codec.specs.declared.port.PortIdentity.{PortIdentity}
use Rattle.signaling_codec.specs.Tlv.{readings_of}
use Rattle.recording_measure.specs.declared.own.OwnMessage.{OwnMessage}
use Rattle.recording_measure.specs.declared.readings.By.{By}
use Rattle.recording_measure.specs.declared.readings.By.TheVariants.{Any, Captured, Own}
use Rattle.recording_measure.specs.Chosen.{settled}
use Rattle.recording_measure.specs.Own.{messages_in}
use Rattle.recording_measure.specs.Places.{PlacedRow, name_in, placed}
use Rattle.recording_measure.specs.Measure.{Recording, Reads, TakesOwn, with_row, captured_by, counted_with, with_own, is_captured}
use Rattle.recording_measure.specs.Measure.{is_asked, slave_by, are_by, has_reported}
use Rattle.recording_measure.proofs.Settled.{settled_line}

-- all were met at no place of a name
abbrev pub AreNameless : List PlacedRow → Type 0
AreNameless rows = All (λ r. r.place ≡ None) rows

-- A recording after one more datagram: where what was captured is measured, it has its row and no other. What is at no place of a name
-- stays there.
pub record IsReadOne (d : DatagramOf) (r later : Recording) : Type 0 where
  pub form : later.form ≡ r.form
  pub wanted : later.wanted ≡ r.wanted
  pub before : is_captured later.by ≡ true → is_captured r.by ≡ true
  pub row : is_captured later.by ≡ true → later.rows ≡ placed (settled r.wanted r.rows d) d ∷ r.rows
  pub nameless : d.place ≡ Line → AreNameless r.rows → AreNameless later.rows

-- ---- what was captured
at_line : (d : DatagramOf) (r : Recording) → d.place ≡ Line → AreNameless r.rows
    → AreNameless (placed (settled r.wanted r.rows d) d ∷ r.rows)
at_line d r is at = All-cons (λ (x : PlacedRow). x.place ≡ None) _ r.rows (settled_line r.wanted r.rows d is) at

captured_one : (by : By) (d : DatagramOf) (r : Recording) → r.by ≡ by → IsReadOne d r (captured_by by d r)
captured_one Any d r is = record {
  form = refl;
  wanted = refl;
  before = λ captured. captured;
  row = λ captured. refl;
  nameless = at_line d r;
}
captured_one Captured d r is = record {
  form = refl;
  wanted = refl;
  before = λ captured. captured;
  row = λ captured. refl;
  nameless = at_line d r;
}
captured_one (Own slave) d r is = record {
  form = refl;
  wanted = refl;
  before = λ captured. captured;
  row = λ captured. absurd (true≢false (sym captured ∙ ap is_captured is));
  nameless = λ place at. at;
}

-- ---- a slave's own readings
own_one : (told : DatagramOf) (messages : List OwnMessage) (r later : Recording) → TakesOwn told messages r later
    → (later.form ≡ r.form) × (later.wanted ≡ r.wanted) × (later.by ≡ r.by)
    × (told.place ≡ Line → AreNameless r.rows → AreNameless later.rows)
own_one told [] r later same = (
  ap (λ (x : Recording). x.form) same,
  ap (λ (x : Recording). x.wanted) same,
  ap (λ (x : Recording). x.by) same,
  λ place at. subst (λ (x : Recording). AreNameless x.rows) (sym same) at,
)
own_one told (m ∷ messages) r later (d, is, takes) =
    let (form, wanted, by, nameless) = own_one told messages (with_row (placed told.place d) r) later takes in (
      form,
      wanted,
      by,
      λ place at. nameless place (All-cons (λ (x : PlacedRow). x.place ≡ None) _ r.rows
          (ap name_in place) at),
    )

-- they begin
begins_own : (by : By) (slave : PortIdentity) (r : Recording) (reported : Bool) → are_by by slave reported ≡ true
    → ((with_own by slave r).form ≡ r.form) × ((with_own by slave r).wanted ≡ r.wanted)
    × (is_captured (with_own by slave r).by ≡ false) × (AreNameless r.rows → AreNameless (with_own by slave r).rows)
begins_own Any slave r reported are = (refl, refl, refl, λ at. All-nil (λ (x : PlacedRow). x.place ≡ None))
begins_own Captured slave r reported are = absurd cc
begins_own (Own own) slave r reported are = (refl, refl, refl, λ at. at)

-- as it is after what was counted
counted_one : (d : DatagramOf) (r later : Recording) (tells : Bool) → IsReadOne d (counted_with d false tells r) later → IsReadOne d r later
counted_one d r later tells one = record {
  form = one.form;
  wanted = one.wanted;
  before = one.before;
  row = one.row;
  nameless = one.nameless;
}

pub one_read : (d : DatagramOf) (r later : Recording) → Reads d r later → IsReadOne d r later
one_read d r later (None, told, tells, tell, same) =
    subst (λ (x : Recording). IsReadOne d r x) (sym same) (counted_one d r _ tells (captured_one r.by d (counted_with d false tells r) refl))
one_read d r later (Some m, told, tells, tell, takes) =
    let slave = slave_by r.wanted m.header in
    let counted = counted_with d true tells r in
    let rest = and_parts (nat_lt 0 (length (readings_of m.tlvs)))
    (is_asked r.wanted m.header && are_by r.by slave (has_reported r)) told.1 in
    let by = and_parts (is_asked r.wanted m.header) (are_by r.by slave (has_reported r)) rest.1 in
    let begins = begins_own r.by slave counted (has_reported r) by.1 in
    let one = own_one d (messages_in slave m) (with_own r.by slave counted) later takes in
    let own : is_captured later.by ≡ false = ap is_captured one.2 ∙ begins.2 in record {
      form = one.0 ∙ begins.0;
      wanted = one.1 ∙ begins.1;
      before = λ captured. absurd (true≢false (sym captured ∙ own));
      row = λ captured. absurd (true≢false (sym captured ∙ own));
      nameless = λ place at. one.3 place (begins.3 at);
    }
