-- A worked case of other octets: the worked exchange with minorVersionPTP 0 in its Follow_Up, which nobody here reads, meets
-- all premises, so its results by the messages are those by the readings; and with a timestamp that is 50,000 ns later, which
-- the slave reads, it doesn't.
use Rattle.std.proofs.Common.{◌≡◌, ℕ, pos, refl, List, [], ◌∷◌, reverse, Some}
use Rattle.slave_port.specs.declared.heard.Report.{Report}
use Rattle.trace_model.specs.declared.line.TraceLine.{TraceLine}
use Rattle.trace_model.specs.Line.{Lines}
use Rattle.trace_model.proofs.WorkedExchange.{network_with, report_with, before_with, reported}
use Rattle.exchange_check.specs.Evidence.{last_by_messages}
use Rattle.explain_transcript.specs.declared.details.Octets.TheVariants.{Told, Other}
use Rattle.explain_laws.specs.Unread.{octets_told}
use Rattle.explain_laws.proofs.Unread.{each_other_tells_the_readings}

-- the octets of the Follow_Up with this octet 1, and with this timestamp in two octets of nanoseconds
abbrev follow_up_with : (version high low : ℕ) → List ℕ
follow_up_with version high low =
    8 ∷ version ∷ 0 ∷ 44 ∷ 0 ∷ 0 ∷ 0 ∷ 0 ∷ 0 ∷ 0 ∷ 0 ∷ 0 ∷ 0 ∷ 0 ∷ 0 ∷ 0 ∷ 0 ∷ 0 ∷ 0 ∷ 0 ∷ 0 ∷ 17 ∷ 34 ∷ 255 ∷ 254 ∷
    51 ∷ 68 ∷ 85 ∷ 0 ∷ 1 ∷ 0 ∷ 0 ∷ 2 ∷ 0 ∷ 0 ∷ 0 ∷ 0 ∷ 0 ∷ 0 ∷ 1 ∷ 0 ∷ 0 ∷ high ∷ low ∷ []

abbrev report : Report
report = report_with (pos 131072000) 5 7 8 13

abbrev last : TraceLine
last = reported (pos 131072000)

abbrev earlier_with : (version high low : ℕ) → Lines
earlier_with version high low = reverse (before_with (follow_up_with version high low))

other_version : octets_told (network_with 0) last (earlier_with 2 0 0) report ≡ Some Other
other_version = refl

as_read : last_by_messages (network_with 0) (last ∷ earlier_with 2 0 0) report
    ≡ Some (record { offset2 = pos 131072000; path2 = pos 131072000 })
as_read = each_other_tells_the_readings (network_with 0) last (earlier_with 2 0 0) report _ _ _ (record {
  lines = refl;
  sync_unbroken = refl;
  request_unbroken = refl;
  paired = refl;
  sync_fits = refl;
  request_fits = refl;
}) other_version

told_later : octets_told (network_with 0) last (earlier_with 18 195 80) report ≡ Some Told
told_later = refl
