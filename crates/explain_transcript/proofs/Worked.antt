-- Two inputs of a clock and one more line, worked by hand: what `write_judgements` and `explain` say of each.
use Rattle.std.proofs.Common.{◌≡◌, ◌≢◌, inl, inr, refl, ℕ, List, [], ◌∷◌, codes, true, false, Some, None, Ok, Err, arith}
use Rattle.std.specs.Str.{is_utf8, chars}
use Rattle.serde_json.proofs.OnLiterals.{serde_json_on_literals}
use Rattle.network_model.specs.declared.event.Event.{Event}
use Rattle.network_model.specs.declared.event.Event.TheVariants as events
use Rattle.network_model.specs.declared.node.NodeKind.TheVariants as kinds
use Rattle.network_model.specs.declared.node.NodeSpec.{NodeSpec}
use Rattle.network_model.specs.declared.refusal.WorldRefusal.TheVariants.{WrongKind}
use Rattle.text_lines.specs.declared.fault.Cause.TheVariants.{Task}
use Rattle.text_lines.specs.Lines.{lines_of}
use Rattle.schedule_lines.specs.declared.reading.schedule.Line.TheVariants as entries
use Rattle.schedule_lines.specs.declared.reading.transcript.TranscriptLine.TheVariants as recorded
use Rattle.schedule_reading.specs.declared.fault.TaskFault.TheVariants.{Json, World, Memory}
use Rattle.schedule_reading.specs.Entry.{entry_in, recorded_in}
use Rattle.schedule_reading.specs.Schedule.{refusal_of}
use Rattle.schedule_reading.specs.Transcript.{Recorded}
use Rattle.explain_input.specs.declared.input.Input.TheVariants.{Transcript}
use Rattle.explain_input.specs.Input.{is_schedule, BeginsSchedule, Faults}
use Rattle.explain_transcript.specs.declared.explaining.Explained.TheVariants.{Flawed}
use Rattle.explain_transcript.specs.Explained.{Explains}
use Rattle.explain_transcript.specs.Judgements.{Judges}

abbrev pub clock : NodeSpec
clock = record { name = codes "T"; kind = kinds.Clock }

abbrev clock_alone : Recorded
clock_alone = record { nodes = clock ∷ []; lines = [] }

pub clock_recorded : recorded_in (codes "{\"kind\":\"clock\",\"node\":\"T\"}") ≡ Ok (recorded.Node clock)
unfolding serde_json_on_literals is_utf8 chars
clock_recorded = refl

pub clock_scheduled : entry_in (codes "{\"kind\":\"clock\",\"node\":\"T\"}") ≡ Ok (entries.Node clock)
unfolding serde_json_on_literals is_utf8 chars
clock_scheduled = refl

-- ---- no JSON behind the clock: a transcript with fault 805 at line 2

abbrev pub no_json : List ℕ
no_json = codes "{\"kind\":\"clock\",\"node\":\"T\"}\nx\n"

pub x_recorded : recorded_in (codes "x") ≡ Err Json
unfolding serde_json_on_literals is_utf8 chars
x_recorded = refl

x_scheduled : entry_in (codes "x") ≡ Err Json
unfolding serde_json_on_literals is_utf8 chars
x_scheduled = refl

pub no_json_is : is_schedule (lines_of no_json) ≡ false
unfolding serde_json_on_literals is_utf8 chars
no_json_is = refl

x_begins_none : (event : Event) → BeginsSchedule (codes "x") clock_alone event → ⊥
x_begins_none event begins = let is = begins.1 in absurd (cc (is, x_scheduled))

x_faults : Faults Json (Transcript clock_alone) (codes "x")
x_faults = inr (x_begins_none, x_recorded)

pub no_json_judged : Judges false no_json (Some []) None None (Err (record { line = 2; what = Task Json }))
no_json_judged = record {
  earlier = 1;
  number = refl;
  state = record { first = false; input = Transcript clock_alone };
  text = [];
  taken = (
    record { first = false; input = Transcript clock_alone },
    [],
    [],
    refl,
    (None, (recorded.Node clock, clock_recorded, ((refl, refl), refl)), refl, refl),
    (refl, refl),
    refl,
  );
  last = [];
  stops = inl (codes "x", omega arith, refl, refl, (x_faults, refl), refl);
  output = tt;
}

json_is_known : Json ≢ Memory
json_is_known is = absurd (cc is)

pub no_json_explained : Explains false no_json (Some []) None None 0 0 (Ok (Flawed 2 Json))
no_json_explained = record {
  state = record { first = false; input = Transcript clock_alone; reports = []; fault = Some (2, Json) };
  text = [];
  taken = (
    record { first = false; input = Transcript clock_alone; reports = []; fault = None },
    [],
    [],
    refl,
    (refl, (None, (recorded.Node clock, clock_recorded, ((refl, refl), refl)), refl, refl)),
    (
      record { first = false; input = Transcript clock_alone; reports = []; fault = Some (2, Json) },
      [],
      [],
      refl,
      (refl, (refl, json_is_known, x_faults, refl, refl)),
      (refl, refl),
      refl,
    ),
    refl,
  );
  last = [];
  ends = (refl, tt);
  output = tt;
  input = refl;
}

-- ---- a clock that ticks: a schedule with fault 807 at line 2, since a clock is no slave

abbrev pub clock_ticks : List ℕ
clock_ticks = codes "{\"kind\":\"clock\",\"node\":\"T\"}\n{\"ev\":\"tick\",\"node\":\"T\"}\n"

pub tick_scheduled : entry_in (codes "{\"ev\":\"tick\",\"node\":\"T\"}") ≡ Ok (entries.Event (events.Tick (codes "T")))
unfolding serde_json_on_literals is_utf8 chars
tick_scheduled = refl

pub tick_refused : refusal_of (clock ∷ []) [] (events.Tick (codes "T")) ≡ Some WrongKind
tick_refused = refl

pub clock_ticks_is : is_schedule (lines_of clock_ticks) ≡ true
unfolding serde_json_on_literals is_utf8 chars
clock_ticks_is = refl

tick_faults : Faults (World WrongKind) (Transcript clock_alone) (codes "{\"ev\":\"tick\",\"node\":\"T\"}")
tick_faults = inl (events.Tick (codes "T"), (refl, tick_scheduled), (events.Tick (codes "T"), tick_scheduled, tick_refused))

pub clock_ticks_judged : Judges false clock_ticks (Some []) None None (Err (record { line = 2; what = Task (World WrongKind) }))
clock_ticks_judged = record {
  earlier = 1;
  number = refl;
  state = record { first = false; input = Transcript clock_alone };
  text = [];
  taken = (
    record { first = false; input = Transcript clock_alone },
    [],
    [],
    refl,
    (None, (recorded.Node clock, clock_recorded, ((refl, refl), refl)), refl, refl),
    (refl, refl),
    refl,
  );
  last = [];
  stops = inl (codes "{\"ev\":\"tick\",\"node\":\"T\"}", omega arith, refl, refl, (tick_faults, refl), refl);
  output = tt;
}
