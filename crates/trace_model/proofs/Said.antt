-- What the octets of a line say, where they tell the same as the message that its port or its clock writes.
use Rattle.std.proofs.Common.{◌≡◌, ◌∙◌, ℕ, ℤ, pos, ◌%◌, ◌^◌, ◌<◌, ◌≤◌, Bool, true, false, ◌&&◌, List, length}
use Rattle.std.proofs.Common.{Option, Some, None, refl, sym, ap, subst, arith, cond, ◌==◌, option_map, option_and_then}
use Rattle.std.proofs.Common.{if◌then◌else◌}
use Rattle.std.specs.Prelude.{slice_index, is_none}
use Rattle.std.specs.Int.{w64, cast_signed}
use Rattle.std.proofs.lemmas.Bool.{lt-ltb, eq-eqb}
use Rattle.std.proofs.lemmas.Bool.Decides.{nat_tests}
use Rattle.std.proofs.lemmas.Int.{ints}
use Rattle.ptp_units.specs.Interval.{with_residence}
use Rattle.ptp_units.specs.Moment.{stamp, stamp_of, fraction_of}
use Rattle.event_codec.specs.declared.port.PortConfig.{PortConfig}
use Rattle.event_codec.specs.declared.refusal.DecodeRefusal.TheVariants.{Nanoseconds}
use Rattle.event_codec.specs.Correction.{with_correction}
use Rattle.event_codec.specs.Layout.{number, number_of, type_of, fields_length, stamp_in}
use Rattle.event_codec.specs.Packet.{Contents}
use Rattle.event_codec.specs.Refusal.{decode_refusal}
use Rattle.event_codec.proofs.Fields.{fields_length_above}
use Rattle.event_codec.proofs.Front.{IsWhole, decode_refusal-whole}
use Rattle.master_port.specs.Written.{sync, one_step_sync}
use Rattle.slave_port.specs.Usable.{is_two_step}
use Rattle.slave_port.specs.Written.{delay_req}
use Rattle.slave_port.proofs.Options.{some_step, some_image}
use Rattle.transparent_clock.specs.Forwarding.{resided}
use Rattle.network_model.specs.declared.event.Event.{Event}
use Rattle.network_model.specs.declared.event.Event.TheVariants.{Sync, SyncOne, Leave, Request}
use Rattle.network_model.specs.Network.{Network, PortSetup}
use Rattle.network_model.specs.Kinds.{is_one_step_sync, draws_sync}
use Rattle.trace_model.specs.declared.field.Field.TheVariants as fields
use Rattle.trace_model.specs.declared.line.TraceOut.{TraceOut}
use Rattle.trace_model.specs.declared.line.TraceOut.TheVariants as outs
use Rattle.trace_model.specs.Record.{LinePlace, event_of, reading, sequence}
use Rattle.trace_model.specs.Journey.{LineJourney, line_begun, line_residence, line_journey_made, line_journey_of}
use Rattle.trace_model.specs.Octets.{drawing_port, message_sent, sent, sent_after, message_made}
use Rattle.trace_model.specs.Field.{is_stamp_read, tells_same}
use Rattle.trace_model.specs.Sound.{fraction_sent}
use Rattle.trace_model.specs.ByMessages.{sync_type, Said, said_in, said_out, said_at, tells_message, tells_right}
use Rattle.trace_model.proofs.FieldTests.{IsWholeFor, IsStampAt, reads_told}

-- something is said that is the message's, as far as it is read
pub record Says (m : Contents) (there : Option Said) : Type 0 where
  pub said : Said
  pub is : there ≡ Some said
  pub correction : said.correction ≡ m.header.correction.0
  pub timestamp : is_stamp_read (is_two_step m.header) m.body ≡ true → said.timestamp ≡ stamp_in m.body

says_in : (m : Contents) (b : List ℕ) → tells_same m b ≡ true → Says m (said_in (number_of (type_of m.body)) b)
says_in m b tells =
    let room : IsWholeFor m.body b = reads_told m b tells fields.Whole refl in
    let kind : number_of (type_of m.body) ≡ slice_index b 0 % 16 = reads_told m b tells fields.MessageType refl in
    let least : 44 ≤ fields_length (type_of m.body) = fields_length_above (type_of m.body) in
    let header : 34 ≤ length b = omega (arith, least, room.room, room.there) in
    let whole : IsWhole b (type_of m.body) = record {
      header = header;
      version = reads_told m b tells fields.Version refl;
      numbered = sym kind;
      long = room.room;
      whole = room.there;
    } in
    let small : number b 40 4 < 10 ^ 9 = reads_told m b tells fields.Nanoseconds refl in
    let unrefused : decode_refusal b ≡ None = decode_refusal-whole b (type_of m.body) whole
    ∙ ap (λ (t : Bool). cond t None (Some Nanoseconds)) (lt-ltb (number b 40 4) (10 ^ 9) small) in
    let numbered : (slice_index b 0 % 16 == number_of (type_of m.body)) ≡ true = eq-eqb _ _ (sym kind) in
    record {
      said = record { timestamp = stamp (number b 34 6) (number b 40 4); correction = cast_signed w64 (number b 8 8) };
      is = (λ i. if is_none (unrefused i) && numbered i then Some (record {
        timestamp = stamp (number b 34 6) (number b 40 4);
        correction = cast_signed w64 (number b 8 8);
      }) else None);
      correction = sym (reads_told m b tells fields.Correction refl);
      timestamp = λ read.
          let s : IsStampAt (stamp_in m.body) b = reads_told m b tells fields.Timestamp read in
          ap (λ (x : ℕ). stamp x (number b 40 4)) (sym s.seconds)
          ∙ ap (λ (y : ℕ). stamp (stamp_in m.body).seconds y) (sym s.nanoseconds);
    }

says_out : (made : Option Contents) (out : TraceOut) → tells_message made out ≡ true
    → (m : Contents) × (made ≡ Some m) × Says m (said_out (number_of (type_of m.body)) out)
says_out (Some m) (outs.Made octets) tells = (m, refl, says_in m octets.items tells)
says_out (Some m) _ tells = cc
says_out None out tells = cc

-- a line that tells right has a message, and says what that says
pub line_says : (network : Network) (e : LinePlace) → tells_right network e ≡ true
    → (m : Contents) × (message_made network (event_of e) e ≡ Some m) × Says m (said_at (number_of (type_of m.body)) e)
line_says network e tells = says_out (message_made network (event_of e) e) e.line.out tells

-- what a port sends at an event and at a reading
record IsSent (event : Event) (now : ℕ) (m : Contents) : Type 0 where
  fraction : m.header.correction.0 ≡ pos (if is_one_step_sync event then fraction_of now else 0)
  kind : draws_sync event ≡ true → number_of (type_of m.body) ≡ sync_type
  one_step : is_one_step_sync event ≡ true
      → (is_stamp_read (is_two_step m.header) m.body ≡ true) × (stamp_in m.body ≡ stamp_of now)

is_sent : (config : PortConfig) (event : Event) (number now : ℕ) (m : Contents)
    → message_sent config event number now ≡ Some m → IsSent event now m
is_sent config (Sync node at) number now m is =
    let same : sync config number ≡ m = cc in
    subst (λ (o : Contents). IsSent (Sync node at) now o) same
    (record { fraction = refl; kind = λ _. refl; one_step = λ e. cc })
is_sent config (SyncOne node at) number now m is =
    let same : one_step_sync config number now ≡ m = cc in
    subst (λ (o : Contents). IsSent (SyncOne node at) now o) same
    (record { fraction = refl; kind = λ _. refl; one_step = λ _. (refl, refl) })
is_sent config (Request node at) number now m is =
    let same : delay_req config number ≡ m = cc in
    subst (λ (o : Contents). IsSent (Request node at) now o) same
    (record { fraction = refl; kind = λ e. cc; one_step = λ e. cc })
is_sent config _ number now m is = cc

sent_by : (network : Network) (e : LinePlace) (m : Contents) → sent network e ≡ Some m
    → IsSent (event_of e) (reading e) m
sent_by network e m is =
    let port = some_step (λ (port : PortSetup). message_sent port.config (event_of e) (sequence network port e) (reading e))
    (drawing_port network (event_of e)) is in
    is_sent port.0.config (event_of e) (sequence network port.0 e) (reading e) m port.2

-- a fraction alone is kept where no residence is added
small_fraction : (event : Event) (now : ℕ) → (if is_one_step_sync event then fraction_of now else 0) < 65536
small_fraction event now = by (is_one_step_sync event)
  where
    by : (is : Bool) → (if is then fraction_of now else 0) < 65536
    by true = omega arith
    by false = omega arith

kept_fraction : (fraction : ℕ) → fraction < 65536 → with_residence (pos fraction) 0 ≡ pos fraction
kept_fraction fraction small = grind (arith, ints, nat_tests)

resided_none : (event : Event) (now : ℕ) (m : Contents) → IsSent event now m → resided m 0 ≡ m
resided_none event now m is =
    let kept : with_residence m.header.correction.0 0 ≡ m.header.correction.0 =
    ap (λ (c : ℤ). with_residence c 0) is.fraction
    ∙ kept_fraction (if is_one_step_sync event then fraction_of now else 0) (small_fraction event now)
    ∙ sym is.fraction in
    ap (λ (c : ℤ). with_correction m (record { 0 = c })) kept

-- the message that a line made is what was sent, after the journey of its copy
sends : (network : Network) (e : LinePlace) (journey : LineJourney) (m : Contents) → line_begun e ≡ journey
    → sent network e ≡ Some m → sent_after network journey ≡ Some m
sends network e journey m same is =
    ap (sent_after network) (sym same)
    ∙ ap (option_map (λ (o : Contents). resided o 0)) is
    ∙ ap Some (resided_none (event_of e) (reading e) m (sent_by network e m is))

pub made_after : (network : Network) (event : Event) (e : LinePlace) (journey : LineJourney) (m : Contents)
    → line_journey_made network event e (line_journey_of network e.earlier) ≡ Some journey
    → message_made network event e ≡ Some m → sent_after network journey ≡ Some m
made_after network (Sync node at) e journey m made is = sends network e journey m (cc) is
made_after network (SyncOne node at) e journey m made is = sends network e journey m (cc) is
made_after network (Request node at) e journey m made is = sends network e journey m (cc) is
made_after network (Leave node transit at) e journey m made is =
    sym (ap (option_and_then (sent_after network)) made) ∙ is
made_after network _ e journey m made is = cc

-- what is sent, after a journey
pub record IsAfter (journey : LineJourney) (m : Contents) : Type 0 where
  pub correction : m.header.correction.0 ≡ with_residence (pos (fraction_sent journey.origin)) (line_residence journey)
  pub kind : draws_sync (event_of journey.origin) ≡ true → number_of (type_of m.body) ≡ sync_type
  pub one_step : is_one_step_sync (event_of journey.origin) ≡ true
      → (is_stamp_read (is_two_step m.header) m.body ≡ true) × (stamp_in m.body ≡ stamp_of (reading journey.origin))

pub is_after : (network : Network) (journey : LineJourney) (m : Contents) → sent_after network journey ≡ Some m
    → IsAfter journey m
is_after network journey m is =
    let begun = some_image (λ (o : Contents). resided o (line_residence journey)) (sent network journey.origin) is in
    let from = sent_by network journey.origin begun.0 begun.1 in
    let here : IsAfter journey (resided begun.0 (line_residence journey)) = record {
      correction = ap (λ (c : ℤ). with_residence c (line_residence journey)) from.fraction;
      kind = from.kind;
      one_step = from.one_step;
    } in
    subst (λ (o : Contents). IsAfter journey o) begun.2 here
