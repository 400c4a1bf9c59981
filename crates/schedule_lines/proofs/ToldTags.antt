-- The tags of a line that tells an event of a run: its own, and those of earlier events.
use Rattle.std.proofs.Common.{◌≡◌, ◌∙◌, ℕ, ◌^◌, ◌<◌, ◌≤◌, Bool, true, false, nat_lt, ◌∷◌, length, Option, Some, None}
use Rattle.std.proofs.Common.{IfSome, Result, Ok, Err, IsOk, refl, sym, ap, subst, arith, option_and_then}
use Rattle.std.specs.Prelude.{ok_or}
use Rattle.std.proofs.lemmas.Bool.Decides.{nat_tests}
use Rattle.event_codec.specs.Packet.{Contents}
use Rattle.slave_port.proofs.Options.{some_step}
use Rattle.slave_port.specs.declared.heard.Heard.{Heard}
use Rattle.slave_port.specs.declared.heard.Report.{Report}
use Rattle.network_model.specs.declared.event.Event.{Event}
use Rattle.network_model.specs.declared.event.Event.TheVariants.{Enter, Leave, Arrive, Hear}
use Rattle.network_model.specs.declared.stepped.Outcome.{Outcome}
use Rattle.network_model.specs.declared.refusal.WorldRefusal.{WorldRefusal}
use Rattle.network_model.specs.declared.refusal.WorldRefusal.TheVariants.{NoCopy, NoTransit}
use Rattle.network_model.specs.Network.{Network, slave_port}
use Rattle.network_model.specs.Run.{Run, place, place_at, site_of}
use Rattle.network_model.specs.Kinds.{named_transit, named_copy}
use Rattle.network_model.specs.Truth.{copy_of}
use Rattle.network_model.specs.Outcome.{◌>>=◌, node_as, clock_of, port_of, open_transit, outcome_of}
use Rattle.network_model.specs.Premises.{IsAcceptedRun}
use Rattle.network_model.specs.Reported.{Reports}
use Rattle.network_model.specs.Exact.{IsMeasurement}
use Rattle.network_model.specs.Evidence.{TagsInOrder}
use Rattle.network_model.proofs.Evidence.{each_has_evidence}
use Rattle.network_model.proofs.Leaving.{copy_of-ahead}
use Rattle.network_model.proofs.Options.{ok_some}
use Rattle.network_model.proofs.Places.{place_at-bound}
use Rattle.trace_model.specs.declared.line.TraceLine.{TraceLine}
use Rattle.trace_model.specs.declared.line.TraceOut.{TraceOut}
use Rattle.trace_model.specs.Told.{TellsMade, TellsOutcome, TellsEvent, heard_out}
use Rattle.schedule_lines.specs.Written.{out_report}
use Rattle.schedule_lines.specs.Ranges.{IsTag, HasTags, IsTagged}
use Rattle.slave_port.specs.declared.heard.Heard.TheVariants as answers
use Rattle.network_model.specs.declared.stepped.Outcome.TheVariants as outcomes
use Rattle.trace_model.specs.declared.line.TraceOut.TheVariants as outs

under : {A : Type 0} (o : Result A WorldRefusal) (f : A → Result Outcome WorldRefusal) (P : Type 0) → IsOk (o >>= f)
    → ((a : A) → o ≡ Ok a → IsOk (f a) → P) → P
under (Ok a) f P accepted each = each a refl accepted
under (Err refusal) f P accepted each = absurd cc

copy_below : (network : Network) (run : Run) (copy : ℕ) (m : Contents) → copy_of network run copy ≡ Some m → copy < length run
copy_below network run copy m is = by (nat_lt copy (length run)) refl
  where
    by : (below : Bool) → nat_lt copy (length run) ≡ below → copy < length run
    by true below = grind (arith, nat_tests)
    by false above =
        let late : length run ≤ copy = grind (arith, nat_tests) in
        let none = copy_of-ahead network run copy late in
        absurd cc

copy_named : (network : Network) (event : Event) (earlier : Run) → IsOk (outcome_of network earlier event) → IfSome (named_copy event) (λ copy. copy < length earlier)
copy_named network (Enter node copy at) earlier accepted =
    under (node_as clock_of network node) _ (copy < length earlier) accepted
    (λ clock _ rest. under (ok_or (copy_of network earlier copy) NoCopy) _ (copy < length earlier) rest
    (λ m is _. copy_below network earlier copy m (ok_some (copy_of network earlier copy) NoCopy is)))
copy_named network (Arrive node copy at) earlier accepted =
    under (node_as port_of network node) _ (copy < length earlier) accepted
    (λ kind _ rest. under (ok_or (copy_of network earlier copy) NoCopy) _ (copy < length earlier) rest
    (λ m is _. copy_below network earlier copy m (ok_some (copy_of network earlier copy) NoCopy is)))
copy_named network (Hear node copy) earlier accepted =
    under (node_as slave_port network node) _ (copy < length earlier) accepted
    (λ port _ rest. under (ok_or (copy_of network earlier copy) NoCopy) _ (copy < length earlier) rest
    (λ m is _. copy_below network earlier copy m (ok_some (copy_of network earlier copy) NoCopy is)))
copy_named network _ earlier accepted = tt

transit_named : (network : Network) (event : Event) (earlier : Run) → IsOk (outcome_of network earlier event) → IfSome (named_transit event) (λ transit. transit < length earlier)
transit_named network (Leave node transit at) earlier accepted =
    let found = option_and_then (open_transit node earlier transit) (place_at earlier transit) in
    under (node_as clock_of network node) _ (transit < length earlier) accepted
    (λ clock _ rest. under (ok_or found NoTransit) _ (transit < length earlier) rest
    (λ entered is _.
    let there = some_step (open_transit node earlier transit) (place_at earlier transit) (ok_some found NoTransit is) in
    place_at-bound earlier transit there.0 there.1))
transit_named network _ earlier accepted = tt

-- tags below a number of 64 bits are tags
below_tag : (o : Option ℕ) (n : ℕ) → n < 2 ^ 64 → IfSome o (λ tag. tag < n) → IfSome o IsTag
below_tag None n small h = tt
below_tag (Some tag) n small h = omega (arith, h, small)

within_tag : (o : Option ℕ) (n : ℕ) → n < 2 ^ 64 → IfSome o (λ tag. tag ≤ n) → IfSome o IsTag
within_tag None n small h = tt
within_tag (Some tag) n small h = omega (arith, h, small)

report_tags : (n : ℕ) (report : Report) → n < 2 ^ 64 → TagsInOrder n report → HasTags report
report_tags n report small order = record {
  sync = omega (arith, order.sync, small);
  follow = within_tag report.follow_tag n small order.follow;
  request = omega (arith, order.request, order.response, small);
  response = omega (arith, order.response, small);
}

-- ---- the outcome

abbrev HasTaggedReports : Outcome → Type 0
HasTaggedReports outcome = (report : Report) → outcome ≡ outcomes.Heard (answers.Report report) → HasTags report

abbrev IsTaggedOut : TraceOut → Type 0
IsTaggedOut out = IfSome (out_report out) HasTags

tagged_made : (copy : Option Contents) (out : TraceOut) → TellsMade copy out → IsTaggedOut out
tagged_made copy (outs.Report report) told = absurd told
tagged_made copy _ told = tt

tagged_heard : (heard : Heard) → HasTaggedReports (outcomes.Heard heard) → IsTaggedOut (heard_out heard)
tagged_heard (answers.Report report) tags = tags report refl
tagged_heard _ tags = tt

tagged_out : (copy : Option Contents) (outcome : Outcome) (out : TraceOut) → HasTaggedReports outcome → TellsOutcome copy outcome out → IsTaggedOut out
tagged_out copy outcomes.Made out tags told = tagged_made copy out told
tagged_out copy (outcomes.Heard heard) out tags told = subst IsTaggedOut (sym told) (tagged_heard heard tags)
tagged_out copy _ out tags told = subst IsTaggedOut (sym told) tt

-- ---- the line

pub tagged_line : (network : Network) (event : Event) (earlier : Run) (line : TraceLine) → IsAcceptedRun network (event ∷ earlier)
    → ((report : Report) → Reports network (place event earlier) report → IsMeasurement (event ∷ earlier) (site_of event) report)
    → length earlier < 2 ^ 64 → TellsEvent network event earlier line → IsTagged (length earlier) line
tagged_line network event earlier line accepted measured small told = record {
  number = small;
  copy = subst (λ (v : Event). IfSome (named_copy v) IsTag) (sym told.told.event)
      (below_tag (named_copy event) (length earlier) small (copy_named network event earlier accepted.accepted.0));
  transit = subst (λ (v : Event). IfSome (named_transit v) IsTag) (sym told.told.event)
      (below_tag (named_transit event) (length earlier) small (transit_named network event earlier accepted.accepted.0));
  report = tagged_out (copy_of network (event ∷ earlier) told.stepped.tag) told.stepped.outcome line.out
      (λ report is.
      let reports : Reports network (place event earlier) report = told.answered.outcome ∙ ap Ok is in
      report_tags (length earlier) report small (each_has_evidence network (place event earlier) report accepted reports).order)
      told.told.outcome;
}
