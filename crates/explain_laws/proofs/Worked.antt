-- A worked judgement: its JSON, and that it is within its range; and two worked inputs.
use Rattle.std.proofs.Common.{◌≡◌, inl, List, ℕ, [], ◌∷◌, codes, false, pos, negsuc, Option, Some, None, Result, Ok, Err, refl, arith}
use Rattle.std.specs.Fmt.{digits}
use Rattle.std.specs.Str.{is_utf8, chars}
use Rattle.ptp_units.specs.Nanoseconds.{decimals}
use Rattle.serde_json.proofs.OnLiterals.{serde_json_on_literals}
use Rattle.network_model.specs.declared.event.Event.TheVariants as events
use Rattle.network_model.specs.declared.refusal.WorldRefusal.TheVariants.{WrongKind}
use Rattle.text_lines.specs.declared.fault.Cause.{Cause}
use Rattle.text_lines.specs.declared.fault.Cause.TheVariants.{Task}
use Rattle.text_lines.specs.declared.fault.Stopped.{Stopped}
use Rattle.text_lines.specs.Lines.{lines_of}
use Rattle.schedule_lines.specs.declared.reading.schedule.Line.TheVariants as entries
use Rattle.schedule_lines.specs.declared.reading.transcript.TranscriptLine.TheVariants as recorded
use Rattle.schedule_reading.specs.declared.fault.TaskFault.{TaskFault}
use Rattle.schedule_reading.specs.declared.fault.TaskFault.TheVariants.{Json, World}
use Rattle.trace_model.specs.declared.verdict.Why.TheVariants.{WrongValue, Bytes}
use Rattle.schedule_lines.proofs.Names.{IsName-from_test}
use Rattle.schedule_reading.specs.declared.transcript.Judged.{Judged}
use Rattle.explain_input.specs.declared.input.FoundInput.{FoundInput}
use Rattle.explain_input.specs.declared.input.FoundInput.TheVariants.{Transcript, Schedule}
use Rattle.explain_input.specs.Input.{is_schedule}
use Rattle.explain_transcript.specs.declared.details.Details.{Details}
use Rattle.explain_transcript.specs.declared.details.Octets.TheVariants.{Told}
use Rattle.explain_transcript.specs.Judged.{judged_text}
use Rattle.explain_transcript.specs.declared.explaining.Explained.TheVariants.{Flawed}
use Rattle.explain_transcript.specs.Judgements.{Judges}
use Rattle.explain_transcript.proofs.Worked.{clock, clock_recorded, clock_scheduled, no_json, x_recorded, no_json_is, no_json_judged, no_json_explained}
use Rattle.explain_transcript.proofs.Worked.{clock_ticks, tick_scheduled, tick_refused, clock_ticks_is, clock_ticks_judged}
use Rattle.transcript_text.specs.declared.fault.FaultKind.TheVariants as kinds
use Rattle.transcript_text.specs.CheckText.{Checks}
use Rattle.transcript_text.specs.Fault.{task_kind}
use Rattle.transcript_text.specs.OneAnswer.{IsOfInput}
use Rattle.transcript_text.specs.Replay.{nodes_text, Replays}
use Rattle.explain_laws.specs.AsChecked.{IsSame, IsBeside}
use Rattle.explain_laws.specs.ReadBack.{IsWithinRange}
use Rattle.explain_laws.proofs.AsChecked.{judgements_one, judges_as_checked, explains_as_checked}

-- an offset that is one unit too much, and other octets
abbrev judged : Judged
judged = record {
  line = 17;
  event = 13;
  node = codes "S";
  report = record {
    offset2 = pos 131072001;
    path2 = pos 131072000;
    sync_tag = 2;
    follow_tag = Some 6;
    request_tag = 8;
    response_tag = 11;
  };
  judgement = record {
    reasons = WrongValue ∷ Bytes ∷ [];
    by_readings = Some (record { offset2 = pos 131072000; path2 = pos 131072000 });
  };
}

-- the Follow_Up tells t1 50,000 ns later; the Delay_Req left at 2.000001 s and 3/65536 ns
abbrev details : Details
details = record {
  by_messages = Some (record { offset2 = negsuc 3145727999; path2 = negsuc 3145727999 });
  octets = Some Told;
  otherwise = Some 6;
  moments = Some (record { t1 = 65536000000000; t2 = 65536262144000; t3 = 131072065536003; t4 = 131072294928384 });
  time = Some 131072065536003;
}

text_is : judged_text judged details
    ≡ codes "{\"brackets\":{\"a\":\"2000\",\"b\":\"0\"},\"by_messages\":{\"offset2\":\"-3145728000\",\"path2\":\"-3145728000\"},\"by_readings\":{\"offset2\":\"131072000\",\"path2\":\"131072000\"},\"error\":{\"by_messages\":{\"offset\":\"25000.00000762939453125\",\"path\":\"25000\"},\"by_readings\":{\"offset\":\"0.00000762939453125\",\"path\":\"0\"}},\"event\":13,\"line\":17,\"node\":\"S\",\"octets\":\"told\",\"offset2\":\"131072001\",\"otherwise\":6,\"path2\":\"131072000\",\"reasons\":[706,708],\"t1\":[1,0,0],\"t2\":[1,4000,0],\"t3\":[2,1000,3],\"t4\":[2,4500,16384],\"tags\":[2,6,8,11],\"time\":[2,1000,3]}\n"
unfolding digits decimals
text_is = refl

is_within : IsWithinRange judged details
is_within = record {
  event = omega arith;
  line = omega arith;
  node = IsName-from_test (codes "S") refl;
  offset2 = omega arith;
  path2 = omega arith;
  by_readings = (omega arith, omega arith);
  by_messages = (omega arith, omega arith);
  otherwise = omega arith;
  moments = record { t1 = omega arith; t2 = omega arith; t3 = omega arith; t4 = omega arith };
  tags = record { sync = omega arith; follow = omega arith; request = omega arith; response = omega arith };
  time = omega arith;
}

-- ---- two inputs of a clock and one more line: `check_text` and `replay` have the fault of `write_judgements` and of
-- `explain`, by the laws, and so it is computed

no_json_checked : Checks no_json (Some []) None None (Err (record { line = 2; what = kinds.Json }))
no_json_checked = (
  Task Json,
  refl,
  record {
    earlier = 1;
    number = refl;
    state = record { nodes = clock ∷ []; lines = [] };
    text = [];
    taken = (
      record { nodes = clock ∷ []; lines = [] },
      [],
      [],
      refl,
      (recorded.Node clock, clock_recorded, (refl, refl), refl),
      (refl, refl),
      refl,
    );
    last = [];
    stops = inl (codes "x", omega arith, refl, refl, (x_recorded, refl), refl);
    output = tt;
  },
)

no_json_same : IsSame Transcript (Err (record { line = 2; what = Task Json })) (Err (record { line = 2; what = kinds.Json }))
no_json_same = (judges_as_checked.transcript false no_json (Some []) None None (Some []) None None (Err (record { line = 2; what = Task Json }))
    (Err (record { line = 2; what = kinds.Json })) no_json_is no_json_judged no_json_checked (λ device. device) (λ device. device)).0

no_json_beside : IsBeside Transcript (Ok (Flawed 2 Json)) (Err (record { line = 2; what = kinds.Json }))
no_json_beside = explains_as_checked.transcript false no_json (Some []) None None (Some []) None None 0 0 (Ok (Flawed 2 Json))
    (Err (record { line = 2; what = kinds.Json })) no_json_is no_json_explained no_json_checked tt (λ device. device)

no_json_one : (left after : Option (List ℕ)) (answer : Result FoundInput (Stopped (Cause TaskFault))) → Judges false no_json left (Some []) after answer → IsOfInput task_kind answer
    → answer ≡ Err (record { line = 2; what = Task Json })
no_json_one left after answer says sure =
    (judgements_one false no_json (Some []) None None left (Some []) after (Err (record { line = 2; what = Task Json })) answer no_json_judged says (λ device. device) sure).0

clock_ticks_replayed : Replays clock_ticks (Some []) None None (Err (record { line = 2; what = kinds.World WrongKind }))
clock_ticks_replayed = (
  Task (World WrongKind),
  refl,
  record {
    earlier = 1;
    number = refl;
    state = record { network = clock ∷ []; run = [] };
    text = [];
    taken = (
      record { network = clock ∷ []; run = [] },
      [],
      [],
      refl,
      (entries.Node clock, clock_scheduled, (refl, refl, refl)),
      (refl, refl),
      refl,
    );
    last = nodes_text (clock ∷ []);
    stops = inl (
      codes "{\"ev\":\"tick\",\"node\":\"T\"}",
      omega arith,
      refl,
      refl,
      ((events.Tick (codes "T"), tick_scheduled, tick_refused), refl),
      refl,
    );
    output = tt;
  },
)

clock_ticks_same : IsSame Schedule (Err (record { line = 2; what = Task (World WrongKind) })) (Err (record { line = 2; what = kinds.World WrongKind }))
clock_ticks_same = (judges_as_checked.schedule false clock_ticks (Some []) None None (Some []) None None (Err (record { line = 2; what = Task (World WrongKind) }))
    (Err (record { line = 2; what = kinds.World WrongKind })) clock_ticks_is clock_ticks_judged clock_ticks_replayed (λ device. device) (λ device. device)).0

-- a recorded event makes no schedule
recorded_is : is_schedule (lines_of (codes "{\"kind\":\"clock\",\"node\":\"T\"}\n{\"ev\":\"tick\",\"n\":0,\"node\":\"T\",\"out\":\"done\"}\n")) ≡ false
unfolding serde_json_on_literals is_utf8 chars
recorded_is = refl
