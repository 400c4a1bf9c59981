-- The messages that a slave's own readings stand for, as they are taken one after the other.
use Rattle.std.proofs.Common.{◌≡◌, ◌∙◌, ℕ, Bool, true, false, true≢false, List, [], ◌∷◌, ◌++◌, length, Option, Some, None, Result, Ok, Err}
use Rattle.std.proofs.Common.{◌⊎◌, inl, inr, refl, sym, ap, subst, arith}
use Rattle.std.specs.Prelude.{not, nat_lt, ◌&&◌, is_some, MatchResult}
use Rattle.std.specs.Io.KnownBytes.{Appends}
use Rattle.std.proofs.KnownBytes.{Appends-nil}
use Rattle.std.proofs.lemmas.Bool.{and_parts, lt-ltb}
use Rattle.std.proofs.lemmas.List.{append_assoc, take_all}
use Rattle.text_lines.specs.declared.line_fault.LineFault.{LineFault}
use Rattle.text_lines.specs.declared.line_fault.LineFault.TheVariants.{Write, Field, Memory}
use Rattle.text_lines.specs.Fault.{is_write}
use Rattle.text_lines.specs.Task.{WentOut}
use Rattle.event_codec.specs.declared.port.PortIdentity.{PortIdentity}
use Rattle.event_codec.specs.Packet.{Contents, Packet}
use Rattle.event_codec.specs.Reading.{Reading, IsReading}
use Rattle.event_codec.specs.Refusal.{message_length}
use Rattle.event_codec.proofs.Lengths.{length-Packet}
use Rattle.datagram_source.specs.Datagram.{DatagramOf}
use Rattle.datagram_source.specs.Rules.{is_field}
use Rattle.datagram_source.proofs.OneCourse.{one_reading}
use Rattle.signaling_codec.specs.declared.signaling.Signaling.{Signaling}
use Rattle.signaling_codec.specs.Tlv.{readings_of}
use Rattle.recording_measure.specs.Made.{Measured}
use Rattle.recording_measure.specs.Measured.{texts_as}
use Rattle.recording_measure.specs.declared.form.Form.{Form}
use Rattle.recording_measure.specs.declared.own.OwnMessage.{OwnMessage}
use Rattle.recording_measure.specs.declared.readings.By.{By}
use Rattle.recording_measure.specs.declared.readings.By.TheVariants.{Any, Captured, Own}
use Rattle.recording_measure.specs.declared.measuring.Measuring.{Measuring}
use Rattle.recording_measure.specs.declared.task.MeasureTask.{MeasureTask}
use Rattle.recording_measure.specs.Chosen.{settled}
use Rattle.recording_measure.specs.Own.{IsOwn}
use Rattle.recording_measure.specs.Places.{placed}
use Rattle.recording_measure.specs.Measure.{Recording, measured_so_far, with_row, captured_by, with_own, is_asked, slave_by, are_by, has_reported}
use Rattle.recording_measure.specs.Measure.{TakesOwn, TakesSome, IsTold, TellsReadings, ReadsTold, ReadsSome, counted_with, measure_rules}
use Rattle.recording_measure.specs.Inner.Hearing.{GoesUntil}
use Rattle.recording_measure.specs.Inner.Measuring.{IsMeasuring, AddsRow}
use Rattle.recording_measure.specs.Inner.Task.{AreCounted, IsTask, Adds, AddsOwn}
use Rattle.recording_measure.proofs.Goes.{texts-append, texts-after, GoesUntil-after, until_whole}

-- octets of a message say it
pub says_packet : (m : Contents) (octets : List ℕ) (said : Reading) → Packet m octets → IsReading octets said → said ≡ Ok m
says_packet m octets said packet reads =
    let long = length-Packet m octets packet in
    one_reading octets (Ok m) said (
      omega (arith, long),
      subst (Packet m) (sym (take_all (message_length m) octets (omega (arith, long)))) packet,
    ) reads

-- ---- messages, and more of them
module _ (told : DatagramOf) where
  own_form : (messages : List OwnMessage) (r later : Recording) → TakesOwn told messages r later → later.form ≡ r.form
  own_form [] r later same = ap (λ (x : Recording). x.form) same
  own_form (m ∷ messages) r later (d, is, takes) = own_form messages (with_row (placed told.place d) r) later takes

  own_append : (first next : List OwnMessage) (r mid later : Recording) → TakesOwn told first r mid → TakesOwn told next mid later
      → TakesOwn told (first ++ next) r later
  own_append [] next r mid later same takes = subst (λ (x : Recording). TakesOwn told next x later) same takes
  own_append (m ∷ first) next r mid later (d, is, takes) rest =
      (d, is, own_append first next (with_row (placed told.place d) r) mid later takes rest)

  some_more : (first next : List OwnMessage) (r upto : Recording) → TakesSome told first r upto → TakesSome told (first ++ next) r upto
  some_more first next r upto (some, others, split, takes) =
      (some, others ++ next, ap (λ (x : List OwnMessage). x ++ next) split ∙ append_assoc some others next, takes)

  some_after : (first next : List OwnMessage) (r mid upto : Recording) → TakesOwn told first r mid → TakesSome told next mid upto
      → TakesSome told (first ++ next) r upto
  some_after first next r mid upto before (some, others, split, takes) = (
    first ++ some,
    others,
    ap (λ (x : List OwnMessage). first ++ x) split ∙ sym (append_assoc first some others),
    own_append first some r mid upto before takes,
  )

-- ---- what they add
-- one of them
pub adds_one : {T : Type 0} (result : Result T LineFault) (told d : DatagramOf) (m : OwnMessage) (r : Recording) (new : Measuring)
    (task : MeasureTask) (a b : Option (List ℕ)) → IsOwn told m d → task.measuring ≡ new → task.by ≡ r.by
    → AreCounted r.captured r.untaken task.passed
    → AddsRow result r (placed told.place d) new a b → AddsOwn result told (m ∷ []) r task a b
adds_one (Ok x) told d m r new task a b is same by passed (at, ms, grown, goes) = (
  with_row (placed told.place d) r,
  (d, is, refl),
  record { measuring = rw same at; by = by; passed = passed },
  ms,
  grown,
  goes,
)
adds_one (Err fault) told d m r new task a b is same by passed (at, ms, grown, goes) =
    (with_row (placed told.place d) r, (m ∷ [], [], refl, (d, is, refl)), ms, grown, goes)

-- none
pub adds_none : (told : DatagramOf) (r : Recording) (task : MeasureTask) (a : Option (List ℕ)) → IsTask task r
    → (later : Recording) × TakesOwn told [] r later × IsTask task later
    × (ms : List Measured) × (measured_so_far later ≡ ms ++ measured_so_far r) × Appends a a (texts_as r.form ms)
adds_none told r task a at = (r, refl, at, [], refl, Appends-nil a)

-- those before a fault, whatever comes behind them
pub adds_until : (T : Type 0) (fault : LineFault) (told : DatagramOf) (first next : List OwnMessage) (r : Recording)
    (task task' : MeasureTask) (a b : Option (List ℕ)) → AddsOwn {T = T} (Err fault) told first r task a b
    → AddsOwn {T = T} (Err fault) told (first ++ next) r task' a b
adds_until T fault told first next r task task' a b (upto, some, ms, grown, until) =
    (upto, some_more told first next r upto some, ms, grown, until)

-- those behind others
pub adds_after : {T : Type 0} (result : Result T LineFault) (told : DatagramOf) (first next : List OwnMessage) (r mid : Recording)
    (ms : List Measured) (task : MeasureTask) (a b c : Option (List ℕ)) → TakesOwn told first r mid
    → measured_so_far mid ≡ ms ++ measured_so_far r → Appends a b (texts_as r.form ms)
    → AddsOwn result told next mid task b c → AddsOwn result told (first ++ next) r task a c
adds_after (Ok x) told first next r mid ms task a b c before brought went (later, takes, at, more, grown, goes) = (
  later,
  own_append told first next r mid later before takes,
  at,
  more ++ ms,
  grown ∙ ap (λ (x : List Measured). more ++ x) brought ∙ sym (append_assoc more ms (measured_so_far r)),
  texts-after r.form more ms a b c went
      (subst (λ (f : Form). Appends b c (texts_as f more)) (own_form told first r mid before) goes),
)
adds_after (Err fault) told first next r mid ms task a b c before brought went (upto, some, more, grown, until) = (
  upto,
  some_after told first next r mid upto before some,
  more ++ ms,
  grown ∙ ap (λ (x : List Measured). more ++ x) brought ∙ sym (append_assoc more ms (measured_so_far r)),
  GoesUntil-after r.form fault ms more [] (more ++ ms) a b c went (subst (λ (f : Form). GoesUntil f fault more b c) (own_form told first r mid before) until) refl,
)

-- ---- what was captured
-- nothing of it is measured
pub captured_nothing : (by : By) (own : Option PortIdentity) (d : DatagramOf) (r : Recording) → by ≡ Own own → r ≡ captured_by by d r
captured_nothing by own d r is = ap (λ (b : By). captured_by b d r) (sym is)

pub not_own : (by : By) → (by ≡ Any) ⊎ (by ≡ Captured) → (own : Option PortIdentity) → by ≡ Own own → ⊥
not_own by (inl any) own is = absurd (cc (any, is))
not_own by (inr captured) own is = absurd (cc (captured, is))

captured_row : (by : By) (d : DatagramOf) (r : Recording) → ((own : Option PortIdentity) → by ≡ Own own → ⊥)
    → captured_by by d r ≡ with_row (placed (settled r.wanted r.rows d) d) r
captured_row Any d r other = refl
captured_row Captured d r other = refl
captured_row (Own own) d r other = absurd (other own refl)

pub adds_captured : {T : Type 0} (result : Result T LineFault) (d : DatagramOf) (r : Recording) (new : Measuring) (task : MeasureTask)
    (a b : Option (List ℕ)) → ((own : Option PortIdentity) → r.by ≡ Own own → ⊥) → task.measuring ≡ new → task.by ≡ r.by
    → AreCounted r.captured r.untaken task.passed
    → AddsRow result r (placed (settled r.wanted r.rows d) d) new a b
    → Adds result (λ later. later ≡ captured_by r.by d r) (λ upto. upto ≡ captured_by r.by d r) r task a b
adds_captured (Ok x) d r new task a b other same by passed (at, ms, grown, goes) = (
  with_row (placed (settled r.wanted r.rows d) d) r,
  sym (captured_row r.by d r other),
  record { measuring = rw same at; by = by; passed = passed },
  ms,
  grown,
  goes,
)
adds_captured (Err fault) d r new task a b other same by passed (at, ms, grown, goes) =
    (with_row (placed (settled r.wanted r.rows d) d) r, sym (captured_row r.by d r other), ms, grown, goes)

-- ---- where they begin
own_begins : (by : By) (slave : PortIdentity) (r : Recording) → (with_own by slave r).form ≡ r.form
own_begins Any slave r = refl
own_begins Captured slave r = refl
own_begins (Own own) slave r = refl

nothing_yet : (ms : List Measured) → not (nat_lt 0 (length ms)) ≡ true → [] ≡ ms
nothing_yet [] is = refl
nothing_yet (m ∷ ms) is = absurd (true≢false (sym is ∙ ap not (lt-ltb 0 (length (m ∷ ms)) (omega arith))))

-- nothing was measured that isn't any longer
own_measures : (by : By) (slave : PortIdentity) (r : Recording) → are_by by slave (has_reported r) ≡ true
    → measured_so_far (with_own by slave r) ≡ measured_so_far r
own_measures Any slave r is = nothing_yet (measured_so_far r) is
own_measures Captured slave r is = absurd cc
own_measures (Own own) slave r is = refl

captured_form : (by : By) (d : DatagramOf) (r : Recording) → (captured_by by d r).form ≡ r.form
captured_form Any d r = refl
captured_form Captured d r = refl
captured_form (Own own) d r = refl

reads_form : (d : DatagramOf) (told : Option Signaling) (r later : Recording) → ReadsTold d told r later → later.form ≡ r.form
reads_form d None r later same = ap (λ (x : Recording). x.form) same ∙ captured_form r.by d r
reads_form d (Some m) r later takes =
    let slave = slave_by r.wanted m.header in own_form d _ (with_own r.by slave r) later takes ∙ own_begins r.by slave r

-- ---- a datagram
-- what is counted of it changes nothing of what is kept
pub counted_measuring : (d : DatagramOf) (is_taken tells : Bool) (r : Recording) (m : Measuring) → IsMeasuring m r
    → IsMeasuring m (counted_with d is_taken tells r)
counted_measuring d is_taken tells r m is = record {
  form = is.form;
  wanted = is.wanted;
  stage = is.stage;
  whom = is.whom;
  counts = is.counts;
  recents = is.recents;
  handing = is.handing;
}

abbrev pub IsRead : {T : Type 0} → Result T LineFault → DatagramOf → Recording → MeasureTask → (a b : Option (List ℕ)) → Type 0
IsRead result d r task a b = MatchResult result
    (λ _. (later : Recording) × (out : List ℕ) × IsTask task later × measure_rules.Takes d r later out × Appends a b out)
    (λ fault. (out : List ℕ) × measure_rules.Stops d r fault out × WentOut (is_write fault) (Appends a b out))

reads : {T : Type 0} (result : Result T LineFault) (d : DatagramOf) (told : Option Signaling) (tells : Bool) (r from : Recording)
    (task : MeasureTask) (a b : Option (List ℕ)) → IsTold r d.octets told → TellsReadings d.octets tells → from.form ≡ r.form
    → measured_so_far from ≡ measured_so_far r
    → Adds result (ReadsTold d told (counted_with d (is_some told) tells r)) (ReadsSome d told (counted_with d (is_some told) tells r)) from
    task a b → IsRead result d r task a b
reads (Ok x) d told tells r from task a b is tell form same (later, takes, at, ms, grown, went) = (
  later,
  texts_as r.form ms,
  at,
  (
    (told, is, tells, tell, takes),
    ap (texts_as later.form) (grown ∙ ap (λ (x : List Measured). ms ++ x) same)
        ∙ ap (λ f. texts_as f (ms ++ measured_so_far r)) (reads_form d told (counted_with d (is_some told) tells r) later takes)
        ∙ texts-append r.form ms (measured_so_far r),
  ),
  subst (λ (f : Form). Appends a b (texts_as f ms)) form went,
)
reads (Err Write) d told tells r from task a b is tell form same (upto, takes, ms, grown, until) =
    let (left, may, out, whole, known) = until_whole r.form Write ms (measured_so_far r) (measured_so_far upto) a b
    (grown ∙ ap (λ (x : List Measured). ms ++ x) same) (subst (λ (f : Form). GoesUntil f Write ms a b) form until) in
    (out, (left, may, (told, is, tells, tell, upto, takes, whole)), known)
reads (Err Field) d told tells r from task a b is tell form same (upto, takes, ms, grown, until) =
    absurd (until_whole r.form Field ms (measured_so_far r) (measured_so_far upto) a b
    (grown ∙ ap (λ (x : List Measured). ms ++ x) same) (subst (λ (f : Form). GoesUntil f Field ms a b) form until)).1
reads (Err Memory) d told tells r from task a b is tell form same (upto, takes, ms, grown, until) =
    let (left, may, out, whole, known) = until_whole r.form Memory ms (measured_so_far r) (measured_so_far upto) a b
    (grown ∙ ap (λ (x : List Measured). ms ++ x) same) (subst (λ (f : Form). GoesUntil f Memory ms a b) form until) in
    (out, (left, (told, is, tells, tell, upto, takes, whole)), known)

-- one that was captured
pub reads_captured : {T : Type 0} (result : Result T LineFault) (d : DatagramOf) (tells : Bool) (r : Recording) (task : MeasureTask)
    (a b : Option (List ℕ)) → IsTold r d.octets None → TellsReadings d.octets tells
    → Adds result (ReadsTold d None (counted_with d false tells r)) (ReadsSome d None (counted_with d false tells r))
    (counted_with d false tells r) task a b → IsRead result d r task a b
reads_captured result d tells r task a b is tell adds =
    reads result d None tells r (counted_with d false tells r) task a b is tell refl refl adds

-- one that tells a slave's own readings
pub reads_own : {T : Type 0} (result : Result T LineFault) (d : DatagramOf) (m : Signaling) (tells : Bool) (r : Recording)
    (task : MeasureTask) (a b : Option (List ℕ)) → IsTold r d.octets (Some m) → TellsReadings d.octets tells
    → Adds result (ReadsTold d (Some m) (counted_with d true tells r)) (ReadsSome d (Some m) (counted_with d true tells r))
    (with_own r.by (slave_by r.wanted m.header) (counted_with d true tells r)) task a b → IsRead result d r task a b
reads_own result d m tells r task a b is tell adds =
    let slave = slave_by r.wanted m.header in
    let counted = counted_with d true tells r in
    let rest = and_parts (nat_lt 0 (length (readings_of m.tlvs)))
    (is_asked r.wanted m.header && are_by r.by slave (has_reported r)) is.1 in
    let by = and_parts (is_asked r.wanted m.header) (are_by r.by slave (has_reported r)) rest.1 in
    reads result d (Some m) tells r (with_own r.by slave counted) task a b is tell (own_begins r.by slave counted)
    (own_measures r.by slave counted by.1) adds

-- no fault leaves what is kept
pub never_kept : {T : Type 0} (result : Result T LineFault) (what : LineFault) (d : DatagramOf) (r : Recording) (task : MeasureTask)
    (a b : Option (List ℕ)) → IsRead result d r task a b → result ≡ Err what → is_field what ≡ true → ⊥
never_kept (Ok x) what d r task a b read is field = cc
never_kept (Err Write) what d r task a b read is field =
    let same : Write ≡ what = cc in absurd (true≢false (sym field ∙ sym (ap is_field same)))
never_kept (Err Field) what d r task a b read is field = read.1
never_kept (Err Memory) what d r task a b read is field =
    let same : Memory ≡ what = cc in absurd (true≢false (sym field ∙ sym (ap is_field same)))
