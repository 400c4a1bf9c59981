-- The exchange of each report is there, and its results are the report's.
use Rattle.std.proofs.Common.{◌≡◌, ◌∙◌, ℕ, List, ◌∷◌, Option, Some, None, Ok, Err, refl, sym, ap, subst}
use Rattle.std.specs.Prelude.{option_map, option_and_then}
use Rattle.std.specs.Option.{option_map_or}
use Rattle.std.specs.Result.{result_ok}
use Rattle.event_codec.specs.declared.message.Body.{Body}
use Rattle.event_codec.specs.declared.message.Body.TheVariants as bodies
use Rattle.event_codec.specs.Packet.{Contents}
use Rattle.event_codec.specs.Reading.{Reading}
use Rattle.slave_port.specs.declared.exchange.LastExchange.{LastExchange}
use Rattle.slave_port.specs.declared.heard.Heard.{Heard}
use Rattle.slave_port.specs.declared.heard.Heard.TheVariants as answers
use Rattle.slave_port.specs.declared.heard.Report.{Report}
use Rattle.slave_port.specs.Answer.{answer}
use Rattle.slave_port.specs.Exchange.{exchange_of, exchanged as exchanged_of, last_exchange, IsReportOf}
use Rattle.slave_port.specs.History.{Setup, Call, Event, General}
use Rattle.slave_port.proofs.Uses.{report_parts}
use Rattle.recording_model.specs.declared.watched.Watched.{Watched}
use Rattle.recording_model.specs.Listening.{Listening, setup_in, answer_in, answered, after_all, report_in, report_at}
use Rattle.recording_model.specs.Listening.{ready_sync, ready_follow_up, ready_response}
use Rattle.recording_measure.specs.Exchanged.{exchange_after, exchanged, exchange_at}
use Rattle.recording_laws.specs.EachExchange.{EachReportIsOfItsExchange}
use Rattle.recording_lines.specs.declared.measurement.Half.TheVariants as halves
use Rattle.recording_measure.specs.Made.{Measured}
use Rattle.recording_measure.specs.Measured.{half_of, measured_at}
use Rattle.recording_measure.specs.Row.{Row, datagrams}

some_is : {A : Type 0} (a b : A) → Some a ≡ Some b → a ≡ b
some_is a b same = cc

report_is : (heard : Heard) (report : Report) → report_in heard ≡ Some report → heard ≡ answers.Report report
report_is (answers.Report own) report is = ap answers.Report (some_is own report is)
report_is _ report is = absurd cc

-- an exchange is there, and a report is of it
abbrev IsThere : Option LastExchange → Report → Type 0
IsThere there report = (x : LastExchange) × (there ≡ Some x) × IsReportOf x report

after_report : (setup : Setup) (call : Call) (earlier : List Call) (report : Report) → answer setup earlier call ≡ answers.Report report
    → IsThere (last_exchange setup (call ∷ earlier)) report
after_report setup call earlier report is =
    let parts = report_parts setup earlier call report is in (
      exchange_of parts.0 parts.1,
      (λ i. exchanged_of (parts.2 i) (parts.3 i)),
      subst (IsReportOf (exchange_of parts.0 parts.1)) (sym parts.4) (record { offset2 = refl; path2 = refl }),
    )

module _ (w : Watched) where
  by_ready : (call : Call) (ready : Option Listening) (report : Report)
      → option_and_then report_in (option_map (λ l. answer_in w l call) ready) ≡ Some report
      → IsThere (option_and_then (exchange_after w call) ready) report
  by_ready call None report is = absurd cc
  by_ready call (Some l) report is = after_report (setup_in w l) call l.calls report (report_is (answer_in w l call) report is)

  by_body : (line time : ℕ) (m : Contents) (body : Body) (l : Listening) (report : Report)
      → option_and_then report_in (answered w line time m body l) ≡ Some report
      → IsThere (exchanged w line time m body l) report
  by_body line time m (bodies.Sync origin) l report is = by_ready (Event (Ok m) time line) (ready_sync w line time m l) report is
  by_body line time m (bodies.DelayReq origin) l report is = absurd cc
  by_body line time m (bodies.FollowUp precise) l report is = by_ready (General (Ok m) line) (ready_follow_up w time m l) report is
  by_body line time m (bodies.DelayResp receive requesting) l report is =
      by_ready (General (Ok m) line) (ready_response w time m requesting l) report is

  by_said : (line time : ℕ) (said : Reading) (l : Listening) (report : Report)
      → option_and_then report_in (option_and_then (λ (m : Contents). answered w line time m m.body l) (result_ok said)) ≡ Some report
      → IsThere (option_and_then (λ (m : Contents). exchanged w line time m m.body l) (result_ok said)) report
  by_said line time (Ok m) l report is = by_body line time m m.body l report is
  by_said line time (Err refusal) l report is = absurd cc

-- what is measured at a row with this report
abbrev pub made_with : Watched → List Row → Row → Report → Measured
made_with w earlier row report = record {
  by = option_map_or (λ x. half_of x.body) (result_ok row.datagram.said) halves.Sync;
  own = row.own;
  line = row.datagram.line;
  time = row.time;
  report = report;
  exchange = exchange_at w (datagrams earlier) row.datagram;
}

pub each_is_of_its_exchange : EachReportIsOfItsExchange
each_is_of_its_exchange w earlier row m is = by (report_at w (datagrams earlier) row.datagram) refl is
  where
    by : (report : Option Report) → report_at w (datagrams earlier) row.datagram ≡ report
        → measured_at w earlier row ≡ Some m → IsThere m.exchange m.report
    by None none is = absurd cc
    by (Some report) same is =
        let there = by_said w row.datagram.line row.datagram.time row.datagram.said (after_all w (datagrams earlier)) report same in
        let made = some_is (made_with w earlier row report) m (sym (ap (option_map (made_with w earlier row)) same) ∙ is) in
        subst (λ (x : Measured). IsThere x.exchange x.report) made there
