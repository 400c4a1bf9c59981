-- What clocks showed and which numbers were drawn by lines that tell a run: what they were in the run. The events
-- of lines that count leave out only events that step no clock and draw no number.
use Rattle.std.proofs.Common.{◌≡◌, ◌∙◌, ℕ, ℤ, pos, ◌+◌, ◌≤◌, ◌+ℤ◌, Bool, true, false, [], ◌∷◌, Option, Some}
use Rattle.std.proofs.Common.{None, refl, sym, ap, arith, if◌then◌else◌, option_map, option_and_then}
use Rattle.std.specs.Prelude.{is_some, unwrap_or, count_by, nat_lt}
use Rattle.std.proofs.lemmas.Bool.Decides.{Decides-int_eq}
use Rattle.ptp_units.specs.Moment.{bound, moment_of}
use Rattle.ptp_units.specs.Sequence.{of_count}
use Rattle.network_model.specs.declared.event.Event.{Event}
use Rattle.network_model.specs.declared.event.Event.TheVariants.{Sync, SyncOne, Request}
use Rattle.network_model.specs.Network.{Network, NodeName, PortSetup, is_named}
use Rattle.network_model.specs.Run.{Run, Place, place, until, site_of, true_moment}
use Rattle.network_model.specs.Kinds.{draws_sync, is_request, is_step, named_difference}
use Rattle.network_model.specs.Clock.{difference, shown_at, reading_of, reading}
use Rattle.network_model.specs.Numbering.{draws_with, number_of}
use Rattle.network_model.specs.Outcome.{IsRun}
use Rattle.network_model.proofs.Sites.{at_kind}
use Rattle.network_model.proofs.Sequences.{count-yes, count-no, count-more}
use Rattle.network_model.proofs.Journeys.{IsIn-last}
use Rattle.network_model.proofs.Readings.{shown_reading}
use Rattle.network_model.proofs.Steady.{unstepped}
use Rattle.trace_model.specs.declared.line.TraceLine.{TraceLine}
use Rattle.trace_model.specs.Line.{Lines, counts}
use Rattle.trace_model.specs.Record.{LinePlace, events, place_of, is_reading, reads_right, sequence}
use Rattle.trace_model.specs.Told.{TellsEvent, TellsRun}
use Rattle.trace_model.specs.Faithful.{took_effect, TellsPlace, EachEventIsRecorded}
use Rattle.trace_model.proofs.Certain.{is_certain, certain_takes, draws_certain, request_certain, step_certain}
use Rattle.trace_model.proofs.Lines.{events_more}
use Rattle.trace_model.proofs.Found.{event_told, line_counts}

-- an event that always takes effect has a line that counts
pub certain_counts : (network : Network) (event : Event) (earlier : Run) (line : TraceLine)
    → TellsEvent network event earlier line → is_certain event ≡ true
    → counts network line ≡ true
certain_counts network event earlier line told certain =
    line_counts network event earlier line told
    (ap took_effect told.answered.outcome
    ∙ certain_takes network earlier event told.stepped.outcome certain told.answered.outcome)

-- an event is of no such kind that has a line that doesn't count
uncounted : (network : Network) (event : Event) (earlier : Run) (line : TraceLine) (kind : Event → Bool)
    → ((e : Event) → kind e ≡ true → is_certain e ≡ true)
    → TellsEvent network event earlier line → counts network line ≡ false → kind event ≡ false
uncounted network event earlier line kind certain told other = by (kind event) refl
  where
    by : (is : Bool) → kind event ≡ is → kind event ≡ false
    by true is = let counted = certain_counts network event earlier line told (certain event is) in cc
    by false is = is

-- a clock's difference
stepped_alike : (node : NodeName) (event : Event) (one other : Run) → difference node one ≡ difference node other
    → difference node (event ∷ one) ≡ difference node (event ∷ other)
stepped_alike node event one other same =
    ap (λ (d : ℤ). if is_named (site_of event) node then unwrap_or (named_difference event) d else d) same

pub difference_told : (network : Network) (node : NodeName) (run : Run) (lines : Lines) → TellsRun network run lines
    → difference node (events network lines) ≡ difference node run
difference_told network node [] [] told = refl
difference_told network node [] (line ∷ lines) told = absurd told
difference_told network node (event ∷ earlier) [] told = absurd told
difference_told network node (event ∷ earlier) (line ∷ lines) told =
    by (counts network line) refl (difference_told network node earlier lines told.1)
  where
    by : (counted : Bool) → counts network line ≡ counted
        → difference node (events network lines) ≡ difference node earlier
        → difference node (events network (line ∷ lines)) ≡ difference node (event ∷ earlier)
    by true is before =
        ap (difference node) (events_more network line lines true is)
        ∙ ap (λ (e : Event). difference node (e ∷ events network lines)) (event_told network event earlier line told.0)
        ∙ stepped_alike node event (events network lines) earlier before
    by false is before =
        ap (difference node) (events_more network line lines false is) ∙ before
        ∙ sym (unstepped node event earlier (uncounted network event earlier line is_step step_certain told.0 is))

-- how many events of a kind
more_of : (kind : Event → Bool) (event : Event) (one other : Run) → count_by kind one ≡ count_by kind other
    → count_by kind (event ∷ one) ≡ count_by kind (event ∷ other)
more_of kind event one other same = by (kind event) refl
  where
    by : (is : Bool) → kind event ≡ is → count_by kind (event ∷ one) ≡ count_by kind (event ∷ other)
    by true is = count-yes kind event one is ∙ ap (λ (n : ℕ). n + 1) same ∙ sym (count-yes kind event other is)
    by false is = count-no kind event one is ∙ same ∙ sym (count-no kind event other is)

pub count_told : (network : Network) (kind : Event → Bool) → ((e : Event) → kind e ≡ true → is_certain e ≡ true)
    → (run : Run) (lines : Lines) → TellsRun network run lines
    → count_by kind (events network lines) ≡ count_by kind run
count_told network kind certain [] [] told = refl
count_told network kind certain [] (line ∷ lines) told = absurd told
count_told network kind certain (event ∷ earlier) [] told = absurd told
count_told network kind certain (event ∷ earlier) (line ∷ lines) told =
    by (counts network line) refl (count_told network kind certain earlier lines told.1)
  where
    by : (counted : Bool) → counts network line ≡ counted
        → count_by kind (events network lines) ≡ count_by kind earlier
        → count_by kind (events network (line ∷ lines)) ≡ count_by kind (event ∷ earlier)
    by true is before =
        ap (count_by kind) (events_more network line lines true is)
        ∙ ap (λ (e : Event). count_by kind (e ∷ events network lines)) (event_told network event earlier line told.0)
        ∙ more_of kind event (events network lines) earlier before
    by false is before =
        ap (count_by kind) (events_more network line lines false is) ∙ before
        ∙ sym (count-no kind event earlier (uncounted network event earlier line kind certain told.0 is))

-- never more than in the run
pub count_at_most : (network : Network) (kind : Event → Bool) (run : Run) (lines : Lines) → TellsRun network run lines
    → count_by kind (events network lines) ≤ count_by kind run
count_at_most network kind [] [] told = omega arith
count_at_most network kind [] (line ∷ lines) told = absurd told
count_at_most network kind (event ∷ earlier) [] told = absurd told
count_at_most network kind (event ∷ earlier) (line ∷ lines) told =
    by (counts network line) refl (count_at_most network kind earlier lines told.1)
  where
    by : (counted : Bool) → counts network line ≡ counted
        → count_by kind (events network lines) ≤ count_by kind earlier
        → count_by kind (events network (line ∷ lines)) ≤ count_by kind (event ∷ earlier)
    by true is before =
        let list = ap (count_by kind) (events_more network line lines true is)
        ∙ ap (λ (e : Event). count_by kind (e ∷ events network lines))
        (event_told network event earlier line told.0) in
        with_one (kind event) refl list before
      where
        with_one : (same : Bool) → kind event ≡ same
            → count_by kind (events network (line ∷ lines)) ≡ count_by kind (event ∷ events network lines)
            → count_by kind (events network lines) ≤ count_by kind earlier
            → count_by kind (events network (line ∷ lines)) ≤ count_by kind (event ∷ earlier)
        with_one true here list before =
            omega (arith, count-yes kind event (events network lines) here, count-yes kind event earlier here)
        with_one false here list before =
            omega (arith, count-no kind event (events network lines) here, count-no kind event earlier here)
    by false is before = omega (
      arith,
      ap (count_by kind)
          (events_more network line lines false is),
      count-more kind event earlier,
    )

-- events that draw from one sequence always take effect
drawn_certain : (event other : Event) → draws_with event other ≡ true → is_certain other ≡ true
drawn_certain (Sync node at) other is = draws_certain other (at_kind draws_sync node other is)
drawn_certain (SyncOne node at) other is = draws_certain other (at_kind draws_sync node other is)
drawn_certain (Request node at) other is = request_certain other (at_kind is_request node other is)
drawn_certain _ other is = cc

module _ (network : Network) (p : Place) (e : LinePlace) (tells : TellsPlace network p e) where
  -- what the clock showed
  pub shown_told : shown_at (place_of network e) ≡ shown_at p
  shown_told =
      ap (λ (event : Event). shown_at (place event (events network e.earlier)))
      (event_told network p.event p.earlier e.line tells.told)
      ∙ ap (λ (d : ℤ). option_map (λ (at : ℕ). pos at +ℤ d) (true_moment p.event))
      (difference_told network (site_of p.event) p.earlier e.earlier tells.before)

  -- the number that is drawn
  pub sequence_told : (port : PortSetup) → sequence network port e ≡ of_count (number_of port p)
  sequence_told port =
      ap (λ (event : Event). of_count (number_of port (place event (events network e.earlier))))
      (event_told network p.event p.earlier e.line tells.told)
      ∙ ap (λ (n : ℕ). of_count (port.first + n))
      (count_told network (draws_with p.event) (drawn_certain p.event) p.earlier e.earlier tells.before)

  -- the reading that was told
  pub read_told : IsRun network (until p) → is_some (true_moment p.event) ≡ true
      → (e.line.reading ≡ Some (reading p)) × (reads_right network e ≡ true)
  read_told accepted timed =
      let shown : shown_at p ≡ Some (pos (reading p)) =
      shown_reading network (until p) p accepted (IsIn-last p.event p.earlier) timed in
      let said : e.line.reading ≡ reading_of p = tells.told.told.reading ∙ tells.told.answered.reading in
      let moment : reading_of p ≡ moment_of (pos (reading p)) = ap (option_and_then moment_of) shown in
      let is : reading_of p ≡ Some (reading p) = small (nat_lt (reading p) bound) refl moment in (
        said ∙ is,
        ap (λ (r : Option ℕ). is_reading r (shown_at (place_of network e))) (said ∙ is)
            ∙ ap (is_reading (Some (reading p))) (shown_told ∙ shown)
            ∙ (Decides-int_eq (pos (reading p)) (pos (reading p))).1 refl,
      )
    where
      small : (below : Bool) → nat_lt (reading p) bound ≡ below
          → reading_of p ≡ (if below then Some (reading p) else None) → reading_of p ≡ Some (reading p)
      small true is moment = moment
      small false is moment =
          let zero_reading : reading p ≡ 0 = ap (λ (r : Option ℕ). unwrap_or r 0) moment in
          let other : true ≡ false = sym (ap (λ (n : ℕ). nat_lt n bound) zero_reading) ∙ is in
          cc

pub each_event_is_recorded : EachEventIsRecorded
each_event_is_recorded network p e accepted tells timed =
    let read = read_told network p e tells accepted timed in
    record { reading = read.0; right = read.1 }
