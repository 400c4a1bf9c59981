-- What the messages tell by what is kept and noted, right after the line of a report, is what the lines say.
use Rattle.std.proofs.Common.{◌≡◌, ◌∙◌, ℕ, ◌+◌, ◌-◌, ◌&&◌, ℤ, [], ◌∷◌, length, List, Option, Some, None}
use Rattle.std.proofs.Common.{refl, ap, arith}
use Rattle.std.specs.Prelude.{option_map, option_and_then}
use Rattle.slave_port.specs.declared.heard.Report.{Report}
use Rattle.network_model.specs.Network.{Network, NodeName}
use Rattle.network_model.specs.Kinds.{draws_sync, is_follow, is_request, is_arrival, is_hearing}
use Rattle.trace_model.specs.declared.judgement.Results.{Results}
use Rattle.trace_model.specs.declared.line.TraceLine.{TraceLine}
use Rattle.trace_model.specs.declared.line.TraceOut.{TraceOut}
use Rattle.trace_model.specs.declared.line.TraceOut.TheVariants as outs
use Rattle.trace_model.specs.Line.{Lines, counts, is_made, completes}
use Rattle.trace_model.specs.Record.{LinePlace, line_number, event_of, line_at, reading}
use Rattle.trace_model.specs.ByMessages.{Said, sync_type, follow_up_type, delay_resp_type, said_in, said_out, said_at}
use Rattle.trace_model.specs.ByMessages.{follow_said, sync_told, results_told}
use Rattle.trace_model.specs.Sound.{Exchange as Lined, where_passes, line_of, sender, sync_line, follow_line, follow_lines}
use Rattle.trace_model.specs.Sound.{arrival_line, lines_to, unbroken}
use Rattle.ptp_units.specs.Exchange.{delay_bracket, offset2, path2}
use Rattle.trace_model.proofs.OctetsOfExchanges.{passed, heard_of}
use Rattle.exchange_check.specs.declared.facts.Fact.{Fact}
use Rattle.exchange_check.specs.declared.kept.Kept.{Kept}
use Rattle.exchange_check.specs.Evidence.{Table, octets_in, octets_at, last_by_messages}
use Rattle.exchange_check.specs.Inner.Found.{of_found}
use Rattle.exchange_check.specs.Inner.Machine.{IsKept, machine, facts_of, stamps_of}
use Rattle.exchange_check.specs.Inner.Messages.{said_of, follow_said_by, sync_said_by}
use Rattle.exchange_check.specs.Inner.Messages.{results_told_by, by_messages_by}
use Rattle.exchange_check.specs.Inner.Stays.{last_stays}
use Rattle.copy_stays.specs.Leaves.{once_of}
use Rattle.copy_stays.specs.Stays.{once_in}
use Rattle.exchange_check.proofs.Bounds.{chain_parts}
use Rattle.exchange_check.proofs.Exchanges.{found_of, senders}
use Rattle.exchange_check.proofs.Inside.{facts-kept, once-kept, stamps-kept}
use Rattle.exchange_check.proofs.Noted.{leaves_at, stamps_at}
use Rattle.exchange_check.proofs.OfExchange.{journeys-there, last_if}
use Rattle.exchange_check.proofs.Standing.{slave, all_lines}
use Rattle.exchange_check.proofs.Told.{fact_of, facts_at}
use Rattle.std.proofs.lemmas.Option.{none-some, same_Some}

said_made : (kind : ℕ) (out : TraceOut) → option_and_then (said_in kind) (octets_in out) ≡ said_out kind out
said_made kind (outs.Made octets) = refl
said_made kind _ = refl

module _ (network : Network) (fed : Lines) where
  abbrev octets : Table (List ℕ)
  octets = octets_at network fed

  -- what a line says
  said-there : (kind : ℕ) (e : LinePlace) → line_at network fed (line_number e) ≡ Some e
      → said_of octets kind (line_number e) ≡ said_at kind e
  said-there kind e there =
      ap (λ (o : Option LinePlace). option_and_then (said_in kind)
      (option_and_then (λ (x : LinePlace). octets_in x.line.out) o)) there
      ∙ said_made kind e.line.out

  sender_said : (arrival : LinePlace) (o : Option LinePlace) → sender network fed arrival ≡ o
      → option_and_then (λ (fact : Fact). said_of octets sync_type fact.line) (option_map (fact_of network) o)
      ≡ option_and_then (said_at sync_type) o
  sender_said arrival None is = refl
  sender_said arrival (Some k) is = said-there sync_type k (heard_of network fed (Some arrival) k is)

  sync_said : (arrival : LinePlace)
      → sync_said_by (facts_at network fed) octets (fact_of network arrival)
      ≡ option_and_then (said_at sync_type) (sender network fed arrival)
  sync_said arrival =
      ap (option_and_then (λ (fact : Fact). said_of octets sync_type fact.line)) (senders network fed (Some arrival))
      ∙ sender_said arrival (sender network fed arrival) refl

  follow_at : (at : NodeName) (tag : Option ℕ) (f : Option LinePlace) → follow_lines network fed at tag ≡ Some f
      → follow_said_by octets (option_map (fact_of network) f) ≡ follow_said f
  follow_at at tag None is = refl
  follow_at at None (Some f) is = absurd (none-some f (same_Some None (Some f) is))
  follow_at at (Some hearing) (Some f) is =
      by (follow_line network fed at hearing) refl is
    where
      by : (o : Option LinePlace) → follow_line network fed at hearing ≡ o → option_map Some o ≡ Some (Some f)
          → follow_said_by octets (Some (fact_of network f)) ≡ follow_said (Some f)
      by None found h = absurd (none-some (Some f) h)
      by (Some k) found h =
          let same : Some k ≡ Some f = same_Some (Some k) (Some f) h in
          let heard = passed (λ (x : LinePlace). is_follow (event_of x))
          (option_and_then (sender network fed) (line_of network fed is_hearing at hearing)) (found ∙ same) in
          ap (λ (o : Option Said). option_map Some o) (said-there follow_up_type f
          (heard_of network fed (line_of network fed is_hearing at hearing) f heard.0))

module _ (network : Network) (line : TraceLine) (earlier : Lines) (report : Report) where
  abbrev fed : Lines
  fed = line ∷ earlier

  abbrev at : NodeName
  at = slave network line earlier

  results-there : (x : Lined) → all_lines network line earlier report ≡ Some x
      → results_told_by (facts_at network fed) (octets_at network fed) (found_of network x) ≡ results_told network fed x
  results-there x found =
      let parts = chain_parts network fed (sync_line network fed at report)
      (follow_lines network fed at report.follow_tag)
      (line_of network fed is_request at report.request_tag)
      (arrival_line network fed at report.response_tag) x found in
      let heard : Option LinePlace = where_passes (λ (l : LinePlace). completes l.line.out)
      (line_of network fed is_hearing at report.response_tag) in
      let arrives = passed (λ (l : LinePlace). is_arrival (event_of l) && is_made l.line.out)
      (option_and_then (sender network fed) heard) parts.1 in
      let response = said-there network fed delay_resp_type x.request_arrival
      (heard_of network fed heard x.request_arrival arrives.0) in
      λ i. option_and_then (λ a. option_map (λ b. results a b)
      (option_map (λ response. delay_bracket response.timestamp response.correction (reading x.request)) (response i)))
      (option_and_then (λ sync. option_map (λ follow. sync_told (reading x.sync_arrival) follow sync)
      (follow_at network fed at report.follow_tag x.follow parts.2 i)) (sync_said network fed x.sync_arrival i))
    where
      results : (a b : ℤ) → Results
      results a b = record { offset2 = offset2 a b; path2 = path2 a b }

  pub told-there : (number : ℕ) → number + 1 ≡ length fed
      → by_messages_by (facts_at network fed) (once_of (last_stays (facts_at network fed)) (leaves_at network fed))
      (stamps_at network fed) (octets_at network fed) number report ≡ last_by_messages network fed report
  told-there number h =
      let last : number ≡ length earlier = omega (arith, h) in
      ap (λ (n : ℕ). by_messages_by (facts_at network fed)
      (once_of (last_stays (facts_at network fed)) (leaves_at network fed)) (stamps_at network fed) (octets_at network fed)
      n report) last
      ∙ last_if network report
      (λ e x. option_and_then (λ sync. option_and_then (λ request. results_told network (lines_to e) x)
      (unbroken network e is_request x.request_arrival)) (unbroken network e draws_sync x.sync_arrival))
      (λ fact. of_found (facts_at network fed) (once_of (last_stays (facts_at network fed)) (leaves_at network fed))
      (λ told sync request. results_told_by (facts_at network fed) (octets_at network fed) told)) line earlier (counts network line) refl
      (λ counted. journeys-there network line earlier report counted
      (λ told sync request. results_told_by (facts_at network fed) (octets_at network fed) told)
      (λ x sync request. results_told network fed x)
      (λ x found quiet s r p q. results-there x found))

module _ (network : Network) (report : Report) (fed : Lines) (kept : Kept)
    (h : IsKept network kept (length fed) (machine network fed)) (number : ℕ)
    (number_is : number ≡ length kept.facts.items - 1) where
  at_last : (l : Lines) → length kept.facts.items ≡ length l
      → by_messages_by (facts_at network l) (once_of (last_stays (facts_at network l)) (leaves_at network l))
      (stamps_at network l) (octets_at network l) number report ≡ last_by_messages network l report
  at_last [] n = refl
  at_last (line ∷ earlier) n = told-there network line earlier report number (omega (arith, n, number_is))

  pub messages-told : by_messages_by (facts_of kept) (once_in kept.stays) (stamps_of kept) (octets_at network fed) number report
      ≡ last_by_messages network fed report
  messages-told =
      (λ i. by_messages_by (facts-kept network fed kept h i) (once-kept network fed kept h i)
      (stamps-kept network fed kept h i) (octets_at network fed) number report)
      ∙ at_last fed h.count_is
