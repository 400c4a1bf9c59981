-- What is written of a recording: the reports of the datagrams that are heard, in order. A list of measurements has the
-- newest in front.
use Rattle.std.specs.Prelude.{◌≡◌, ℕ, List, [], ◌∷◌, ◌++◌, Option, option_map, option_to_list}
use Rattle.std.specs.Option.{option_map_or}
use Rattle.std.specs.Result.{result_ok}
use Rattle.event_codec.specs.declared.message.Body.{Body}
use Rattle.event_codec.specs.declared.message.Body.TheVariants.{Sync, DelayReq, FollowUp, DelayResp}
use Rattle.recording_model.specs.declared.watched.Watched.{Watched}
use Rattle.recording_model.specs.Listening.{report_at}
use Rattle.recording_lines.specs.declared.measurement.Half.{Half}
use Rattle.recording_lines.specs.declared.measurement.Half.TheVariants as halves
use Rattle.recording_lines.specs.Measurement.{json_text, row_text}
use Rattle.recording_measure.specs.Exchange as full
use Rattle.recording_measure.specs.declared.form.Form.{Form}
use Rattle.recording_measure.specs.declared.form.Form.TheVariants.{Json, Table, FullJson, FullTable, Sums, Completions}
use Rattle.recording_measure.specs.declared.watch.WantedPorts.{WantedPorts}
use Rattle.recording_measure.specs.Watch.{watched_in}
use Rattle.recording_measure.specs.Row.{Row, datagrams, heard}
use Rattle.recording_measure.specs.Made.{Measured, plain}
use Rattle.recording_measure.specs.Exchanged.{exchange_at}

-- which half of a report a message completes
abbrev pub half_of : Body → Half
half_of (Sync origin) = halves.Sync
half_of (DelayReq origin) = halves.Sync
half_of (FollowUp precise) = halves.Sync
half_of (DelayResp receive requesting) = halves.Response

-- a measurement as it is asked for; in full with its exchange, which is there (`laws::each_report_is_of_its_exchange`); nothing where
-- sums are asked for, or they are handed on
abbrev pub text_as : Form → Measured → List ℕ
text_as Json m = json_text (plain m)
text_as Table m = row_text (plain m)
text_as FullJson m = option_map_or (full.json_text (plain m)) m.exchange []
text_as FullTable m = option_map_or (full.row_text (plain m)) m.exchange []
text_as Sums m = []
text_as Completions m = []

-- the texts of measurements, in order
abbrev pub texts_as : Form → List Measured → List ℕ
texts_as form [] = []
texts_as form (m ∷ earlier) = texts_as form earlier ++ text_as form m

-- what is measured at a datagram, after these that were heard, if it brings a report
abbrev pub measured_at : Watched → List Row → Row → Option Measured
measured_at watched earlier row = option_map
    (λ report. record {
      by = option_map_or (λ m. half_of m.body) (result_ok row.datagram.said) halves.Sync;
      own = row.own;
      line = row.datagram.line;
      time = row.time;
      report = report;
      exchange = exchange_at watched (datagrams earlier) row.datagram;
    })
    (report_at watched (datagrams earlier) row.datagram)

-- all that is measured at datagrams that are heard
abbrev pub measurements : Watched → List Row → List Measured
measurements watched [] = []
measurements watched (row ∷ earlier) = option_to_list (measured_at watched earlier row) ++ measurements watched earlier

-- all that is measured once these lines were read
abbrev pub measured_in : WantedPorts → List Row → List Measured
measured_in w rows = option_map_or (λ watched. measurements watched (heard w rows)) (watched_in w (datagrams rows)) []

-- all that is written of them
abbrev pub written : Form → WantedPorts → List Row → List ℕ
written form w rows = texts_as form (measured_in w rows)

-- Where all that is measured grew so, the texts of some of what is new went out, each of them whole, and these are left.
pub record GoesWhole (form : Form) (before after left : List Measured) (out : List ℕ) : Type 0 where
  pub went : List Measured
  pub brought : after ≡ left ++ (went ++ before)
  pub texts : out ≡ texts_as form went
