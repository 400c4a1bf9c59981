-- A worked recording, of two masters and two slaves in two domains: whom it is of, which of its lines are heard, and
-- what is written of them.
use Rattle.std.proofs.Common.{◌≡◌, ℕ, ◌*◌, pos, refl, List, [], ◌∷◌, map, codes, false, Some, None, Ok, Err}
use Rattle.ptp_units.specs.Moment.{stamp}
use Rattle.event_codec.specs.declared.message.Body.{Body}
use Rattle.event_codec.specs.declared.message.Body.TheVariants.{Sync, DelayReq, DelayResp}
use Rattle.event_codec.specs.declared.port.PortConfig.{PortConfig}
use Rattle.event_codec.specs.declared.refusal.DecodeRefusal.TheVariants.{OtherType}
use Rattle.event_codec.specs.Profile.{header_of}
use Rattle.event_codec.specs.Reading.{Reading}
use Rattle.ptp_units.specs.Nanoseconds.{decimals}
use Rattle.std.specs.Fmt.{digits}
use Rattle.recording_measure.specs.declared.form.Form.TheVariants.{Table}
use Rattle.recording_measure.specs.declared.watch.WantedPorts.{WantedPorts}
use Rattle.recording_measure.specs.Watch.{watched_in}
use Rattle.recording_measure.specs.Row.{Row, datagrams, heard}
use Rattle.recording_measure.specs.Measured.{written}
use Rattle.recording_measure.specs.Summary.{whom_in}
use Rattle.recording_measure.specs.Counts.{fates_in}
use Rattle.recording_summary.specs.declared.kind.Kind.TheVariants as kinds
use Rattle.recording_summary.specs.declared.no_report.NoReport.TheVariants.{OfSlave, Alone, OtherDomain, NoPart, TooEarly}

-- a port of this number and domain
abbrev pub port : (number domain : ℕ) → PortConfig
port number domain = record {
  identity = record { clock = 0 ∷ 17 ∷ 34 ∷ 255 ∷ 254 ∷ 51 ∷ 68 ∷ 85 ∷ []; port = number };
  domain = domain;
  log = pos 0;
}

abbrev pub said : PortConfig → (number : ℕ) → Body → Reading
said config number body = Ok (record {
  header = header_of config (0 ∷ 0 ∷ []) (pos 0) number 0 (pos 0);
  body = body;
  suffix = [];
})

-- a line with a time of so many seconds and microseconds; nothing is asked of its octets
abbrev pub a_line : (number : ℕ) → List ℕ → (nanoseconds : ℕ) → Reading → Row
a_line number time nanoseconds reading = record {
  time = time;
  octets = [];
  datagram = record { line = number; time = nanoseconds * 65536; said = reading };
  own = false;
}

-- nobody is asked for
abbrev pub anybody : WantedPorts
anybody = record { slave = None; master = None; domain = None; interface = None; readings = None }

-- an Announce, the Delay_Req of a slave in another domain, a Sync of the master, and a Delay_Req of the slave
abbrev first_rows : List Row
first_rows =
    a_line 3 (codes "7.000005") 7000005000 (said (port 1 0) 9 (Sync (stamp 7 0)))
    ∷ a_line 2 (codes "6") 6000000000 (said (port 3 4) 1 (DelayReq (stamp 0 0)))
    ∷ a_line 1 (codes "5") 5000000000 (Err (OtherType 11)) ∷ []

abbrev rows : List Row
rows =
    a_line 5 (codes "8.1") 8100000000 (said (port 1 0) 5 (DelayResp (stamp 8 3000) (port 2 0).identity))
    ∷ a_line 4 (codes "8") 8000000000 (said (port 2 0) 5 (DelayReq (stamp 0 0)))
    ∷ first_rows

-- the Sync tells domain and master, and a Delay_Req of this domain the slave
not_yet : watched_in anybody (datagrams first_rows) ≡ None
not_yet = refl

told : watched_in anybody (datagrams rows)
    ≡ Some (record { slave = (port 2 0).identity; master = (port 1 0).identity; domain = 0 })
told = refl

-- domain 4 is asked for, and its only Delay_Req came before; nobody is its master
asked_for : watched_in (record { slave = None; master = None; domain = Some 4; interface = None; readings = None }) (datagrams rows) ≡ None
asked_for = refl

-- the master is asked for, which sent no Sync, so nothing tells its domain
no_sync : watched_in (record { slave = None; master = Some (port 9 0).identity; domain = None; interface = None; readings = None }) (datagrams rows) ≡ None
no_sync = refl

-- by the Sync of line 3, and the Delay_Req of line 4
told_by : whom_in anybody (datagrams rows) ≡ record {
  domain = Some (record { value = 0; line = Some 3 });
  master = Some (record { value = (port 1 0).identity; line = Some 3 });
  slave = Some (record { value = (port 2 0).identity; line = Some 4 });
}
told_by = refl

-- all lines are heard
heard_all : heard anybody rows ≡ rows
heard_all = refl

-- (5,000 - 3,000) / 2 ns and (5,000 + 3,000) / 2 ns
row_written : written Table anybody rows ≡ codes "8.1,1000,4000,response,5\n"
unfolding digits decimals
row_written = refl

-- the Delay_Resp brings the report, and the Sync came while no Delay_Resp was there
why_not : map (λ fate. fate.why) (fates_in anybody rows)
    ≡ None ∷ Some OfSlave ∷ Some Alone ∷ Some OtherDomain ∷ Some NoPart ∷ []
why_not = refl

what_they_are : map (λ fate. fate.kind) (fates_in anybody rows)
    ≡ kinds.DelayResp ∷ kinds.DelayReq ∷ kinds.Sync ∷ kinds.DelayReq ∷ kinds.Announce ∷ []
what_they_are = refl

-- as long as it isn't known whom to watch
why_not_yet : map (λ fate. fate.why) (fates_in anybody first_rows) ≡ Some TooEarly ∷ Some TooEarly ∷ Some NoPart ∷ []
why_not_yet = refl
