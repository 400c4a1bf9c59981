-- A worked capture of two interfaces, at one of which alone a slave asks: which is measured, which of its rows are heard, and what
-- is written of them.
use Rattle.std.proofs.Common.{◌≡◌, refl, List, [], ◌∷◌, map, codes, Some, None}
use Rattle.ptp_units.specs.Moment.{stamp}
use Rattle.event_codec.specs.declared.message.Body.TheVariants.{Sync, DelayReq, DelayResp}
use Rattle.ptp_units.specs.Nanoseconds.{decimals}
use Rattle.std.specs.Fmt.{digits}
use Rattle.recording_measure.specs.declared.form.Form.TheVariants.{Table}
use Rattle.capture_file.specs.Name.{called}
use Rattle.recording_measure.specs.declared.watch.WantedPorts.{WantedPorts}
use Rattle.datagram_source.specs.Stream.{plain}
use Rattle.recording_measure.specs.Row.{Row}
use Rattle.recording_measure.specs.Places.{Named, PlacedRow, places_in}
use Rattle.recording_measure.specs.Chosen.{chosen, heard_at, input_written}
use Rattle.recording_measure.specs.Counts.{input_fates}
use Rattle.recording_summary.specs.declared.no_report.NoReport.TheVariants.{OfSlave, Alone}
use Rattle.recording_measure.proofs.Worked.{port, said, a_line, anybody}

-- an interface without a name, and one that has one
abbrev first : Named
first = record { name = called 0 None; stream = plain }

abbrev tap : Named
tap = record { name = called 1 (Some (codes "tap")); stream = plain }

abbrev at : Named → Row → PlacedRow
at interface it = record { place = Some interface; row = it }

abbrev sync : Row
sync = a_line 2 (codes "7.000005") 7000005000 (said (port 1 0) 9 (Sync (stamp 7 0)))

abbrev request : Row
request = a_line 6 (codes "8") 8000000000 (said (port 2 0) 5 (DelayReq (stamp 0 0)))

abbrev response : Row
response = a_line 8 (codes "8.1") 8100000000 (said (port 1 0) 5 (DelayResp (stamp 8 3000) (port 2 0).identity))

-- a Sync of another master at the first interface before that at the tap, and one more behind the slave's Delay_Req
abbrev rows : List PlacedRow
rows =
    at tap response
    ∷ at first (a_line 7 (codes "8.05") 8050000000 (said (port 5 0) 8 (Sync (stamp 8 0))))
    ∷ at tap request
    ∷ at tap sync
    ∷ at first (a_line 1 (codes "7") 7000000000 (said (port 5 0) 7 (Sync (stamp 7 0)))) ∷ []

both : places_in rows ≡ Some first ∷ Some tap ∷ []
unfolding digits
both = refl

-- one without a name at another place, and one of that name in another section, which is the same
nameless : called 3 None ≡ codes "if3"
unfolding digits
nameless = refl

measured : chosen anybody rows ≡ Some (Some tap)
unfolding digits
measured = refl

those_at_the_tap : heard_at anybody rows ≡ response ∷ request ∷ sync ∷ []
unfolding digits
those_at_the_tap = refl

-- of a domain that was met nowhere nothing is measured
not_met : chosen (record { slave = None; master = None; domain = Some 4; interface = None; readings = None }) rows ≡ None
unfolding digits
not_met = refl

-- the slave that is asked for sent nothing, though it is told to whom the tap's response goes
no_slave : chosen (record { slave = Some (port 9 0).identity; master = None; domain = None; interface = None; readings = None }) rows ≡ None
unfolding digits
no_slave = refl

-- (5,000 - 3,000) / 2 ns and (5,000 + 3,000) / 2 ns
row_written : input_written Table anybody rows ≡ codes "8.1,1000,4000,response,8\n"
unfolding digits decimals
row_written = refl

-- of those at the tap the Delay_Resp brings the report, and those at the first interface aren't counted
why_not : map (λ fate. fate.why) (input_fates anybody (Some tap) rows) ≡ None ∷ Some OfSlave ∷ Some Alone ∷ []
unfolding digits
why_not = refl

-- ---- lines, which are met at no place of a name
abbrev lines : List PlacedRow
lines = map (λ it. record { place = None; row = it }) (response ∷ request ∷ sync ∷ [])

measured_lines : chosen anybody lines ≡ Some None
measured_lines = refl

-- where all three are asked for the first is heard, though a slave that is asked for at an interface has to be met there
abbrev asked_for : WantedPorts
asked_for = record { slave = Some (port 2 0).identity; master = Some (port 1 0).identity; domain = Some 0; interface = None; readings = None }

heard_at_once : heard_at asked_for (record { place = None; row = sync } ∷ []) ≡ sync ∷ []
heard_at_once = refl

waits_at_the_tap : heard_at asked_for (at tap sync ∷ []) ≡ []
unfolding digits
waits_at_the_tap = refl
