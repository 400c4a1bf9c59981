-- The lines of an exchange are among those that it was found in.
use Rattle.std.proofs.Common.{◌≡◌, ℕ, ◌<◌, Bool, true, false, ◌&&◌, ◌||◌, cond, length, Option, Some, None}
use Rattle.std.proofs.Common.{refl, ap, arith}
use Rattle.std.specs.Prelude.{option_and_then, is_some}
use Rattle.std.proofs.lemmas.Option.{same_Some, none-some}
use Rattle.slave_port.specs.declared.heard.Report.{Report}
use Rattle.network_model.specs.Network.{Network, NodeName}
use Rattle.network_model.specs.Kinds.{is_at, heard_copy, is_arrival, is_hearing}
use Rattle.trace_model.specs.Line.{Lines, is_made, completes}
use Rattle.trace_model.specs.Record.{LinePlace, line_number, event_of, line_at}
use Rattle.trace_model.specs.Sound.{where_passes, below, Exchange, line_of, sender, sync_line, arrival_line}
use Rattle.trace_model.proofs.OctetsOfExchanges.{passed}
use Rattle.trace_model.proofs.Lines.{line_at-bound, line_at-number}
use Rattle.exchange_check.proofs.Exchanges.{line_chain}

pub bound : {X Y : Type 0} (f : X → Option Y) (o : Option X) (y : Y) → option_and_then f o ≡ Some y
    → (x : X) × (f x ≡ Some y) × (o ≡ Some x)
bound f None y h = absurd (none-some y h)
bound f (Some x) y h = (x, h, refl)

under : (network : Network) (lines : Lines) (b : Bool) (n : ℕ) (e : LinePlace)
    → cond b (line_at network lines n) None ≡ Some e → line_number e < length lines
under network lines true n e h =
    let same : line_number e ≡ n = line_at-number network lines n e h in
    let inside : n < length lines = line_at-bound network lines n e h in
    omega (arith, same, inside)
under network lines false n e h = absurd (none-some e h)

pub sync_within : (network : Network) (lines : Lines) (slave : NodeName) (report : Report) (e : LinePlace)
    → sync_line network lines slave report ≡ Some e → line_number e < length lines
sync_within network lines slave report e h =
    under network lines true report.sync_tag e
    (passed (λ x. is_at is_arrival slave (event_of x)) (line_at network lines report.sync_tag)
    (passed (λ x. is_some report.follow_tag || completes x.line.out)
    (line_of network lines is_arrival slave report.sync_tag) h).0).0

pub arrival_within : (network : Network) (lines : Lines) (slave : NodeName) (n : ℕ) (e : LinePlace)
    → arrival_line network lines slave n ≡ Some e → line_number e < length lines
arrival_within network lines slave n e h =
    let heard : Option LinePlace =
    where_passes (λ x. completes x.line.out) (line_of network lines is_hearing slave n) in
    let sent = bound (sender network lines) heard e
    (passed (λ x. is_arrival (event_of x) && is_made x.line.out)
    (option_and_then (sender network lines) heard) h).0 in
    let copy = bound (below (line_at network lines) (line_number sent.0)) (heard_copy (event_of sent.0)) e sent.1 in
    under network lines _ copy.0 e copy.1

-- three of the lines of an exchange
pub chain_parts : (network : Network) (lines : Lines) (s : Option LinePlace) (f : Option (Option LinePlace))
    (u r : Option LinePlace) (x : Exchange)
    → line_chain network lines s f u r ≡ Some x
    → (s ≡ Some x.sync_arrival) × (r ≡ Some x.request_arrival) × (f ≡ Some x.follow)
chain_parts network lines None f u r x h = absurd (none-some x h)
chain_parts network lines (Some s) None u r x h = absurd (none-some x h)
chain_parts network lines (Some s) (Some f) None r x h = absurd (none-some x h)
chain_parts network lines (Some s) (Some f) (Some u) None x h = absurd (none-some x h)
chain_parts network lines (Some s) (Some f) (Some u) (Some r) x h =
    let same = same_Some _ x h in (
      ap (λ (y : Exchange). Some y.sync_arrival) same,
      ap (λ (y : Exchange). Some y.request_arrival) same,
      ap (λ (y : Exchange). Some y.follow) same,
    )
