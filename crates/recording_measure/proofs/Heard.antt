-- What comes of a datagram that is heard.
use Rattle.std.proofs.Common.{◌≡◌, ◌∙◌, ℕ, Bool, List, [], ◌∷◌, Option, Some, None, Result, Ok, Err, refl, sym, ap}
use Rattle.std.specs.Prelude.{OnOk, option_map, option_to_list}
use Rattle.std.specs.Option.{option_map_or}
use Rattle.std.specs.Result.{result_ok}
use Rattle.slave_port.specs.declared.exchange.LastExchange.{LastExchange}
use Rattle.slave_port.specs.declared.heard.Report.{Report}
use Rattle.recording_model.specs.declared.watched.Watched.{Watched}
use Rattle.recording_model.specs.Listening.{report_at}
use Rattle.recording_model.specs.Recorded.{Recorded}
use Rattle.recording_lines.specs.declared.measurement.Half.{Half}
use Rattle.recording_lines.specs.declared.measurement.Half.TheVariants as halves
use Rattle.recording_measure.specs.Made.{Measured}
use Rattle.recording_measure.specs.declared.reports.Completed.{Completed}
use Rattle.recording_measure.specs.Row.{Row, datagrams}
use Rattle.recording_measure.specs.Exchanged.{exchange_at}
use Rattle.recording_measure.specs.Measured.{half_of, measured_at}
use Rattle.recording_measure.specs.Inner.Hearing.{completion, measured_by}

-- whatever holds, it holds where there is an answer
pub on_ok : {T E P : Type 0} (r : Result T E) → P → OnOk r P
on_ok (Ok x) p = p
on_ok (Err e) p = tt

-- what follows of an answer that is there
pub on_ok_then : {T E P Q : Type 0} (r : Result T E) → (P → Q) → OnOk r P → OnOk r Q
on_ok_then (Ok x) f p = f p
on_ok_then (Err e) f p = tt

pub on_ok_both : {T E P Q S : Type 0} (r : Result T E) → (P → Q → S) → OnOk r P → OnOk r Q → OnOk r S
on_ok_both (Ok x) f p q = f p q
on_ok_both (Err e) f p q = tt

pub on_ok_all : {T E P Q R S : Type 0} (r : Result T E) → (P → Q → R → S) → OnOk r P → OnOk r Q → OnOk r R → OnOk r S
on_ok_all (Ok x) f p q s = f p q s
on_ok_all (Err e) f p q s = tt

-- what is measured at a row by its report, and by the exchange that it was made of
abbrev pub measured_with : Half → (own : Bool) → (line : ℕ) → (time : List ℕ) → Option LastExchange → Option Report → List Measured
measured_with by own line time exchange report = option_to_list
    (option_map (λ r. record { by = by; own = own; line = line; time = time; report = r; exchange = exchange }) report)

-- which half a datagram completes
abbrev half_said : Recorded → Half
half_said d = option_map_or (λ m. half_of m.body) (result_ok d.said) halves.Sync

abbrev completed_by : Half → Option LastExchange → Report → Completed
completed_by by exchange report = record { by = by; report = report; exchange = exchange }

none_completed : (by : Half) (exchange : Option LastExchange) (report : Option Report)
    → option_map (λ r. completed_by by exchange r) report ≡ None → report ≡ None
none_completed by exchange None none = refl
none_completed by exchange (Some report) none = absurd cc

one_completed : (by : Half) (own : Bool) (line : ℕ) (time : List ℕ) (exchange : Option LastExchange) (report : Option Report) (completed : Completed)
    → option_map (λ r. completed_by by exchange r) report ≡ Some completed
    → measured_with by own line time exchange report ≡ measured_by completed own time line ∷ []
one_completed by own line time exchange None completed is = absurd cc
one_completed by own line time exchange (Some report) completed is =
    ap (λ o. option_to_list (option_map (λ (c : Completed). measured_by c own time line) o)) is

module _ (watched : Watched) (earlier : List Row) (row : Row) (d : Recorded) (same : row.datagram ≡ d) where
  -- a datagram that completes nothing
  pub nothing_said : (result : Option Completed) → result ≡ completion watched (datagrams earlier) d → result ≡ None
      → option_to_list (measured_at watched earlier row) ≡ []
  nothing_said result is none =
      ap (λ (d : Recorded). measured_with (half_said d) row.own d.line row.time (exchange_at watched (datagrams earlier) d)
      (report_at watched (datagrams earlier) d)) same
      ∙ ap (measured_with (half_said d) row.own d.line row.time (exchange_at watched (datagrams earlier) d))
      (none_completed (half_said d) (exchange_at watched (datagrams earlier) d) (report_at watched (datagrams earlier) d) (sym is ∙ none))

  -- one that completes a report
  pub said_at : (result : Option Completed) (completed : Completed) (time : List ℕ)
      → result ≡ completion watched (datagrams earlier) d → result ≡ Some completed → row.time ≡ time
      → option_to_list (measured_at watched earlier row) ≡ measured_by completed row.own time d.line ∷ []
  said_at result completed time is some spelled =
      ap (λ (d : Recorded). measured_with (half_said d) row.own d.line row.time (exchange_at watched (datagrams earlier) d)
      (report_at watched (datagrams earlier) d)) same
      ∙ ap (λ (t : List ℕ). measured_with (half_said d) row.own d.line t (exchange_at watched (datagrams earlier) d)
      (report_at watched (datagrams earlier) d)) spelled
      ∙ one_completed (half_said d) row.own d.line time (exchange_at watched (datagrams earlier) d) (report_at watched (datagrams earlier) d)
      completed (sym is ∙ some)
