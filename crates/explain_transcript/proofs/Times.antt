-- When a report was, by what a checker tells of its exchange and of the Delay_Req that it names.
use Rattle.std.proofs.Common.{◌≡◌, ◌∙◌, ℕ, nat_lt, Bool, true, false, [], ◌∷◌, Option, Some, None, refl, sym, ap}
use Rattle.std.specs.Prelude.{option_map, option_and_then, if◌then◌else◌}
use Rattle.slave_port.specs.declared.heard.Report.{Report}
use Rattle.network_model.specs.Kinds.{draws_sync, is_at, is_request}
use Rattle.network_model.specs.Network.{Network}
use Rattle.trace_model.specs.Journey.{LineJourney}
use Rattle.trace_model.specs.Line.{Lines}
use Rattle.trace_model.specs.Record.{LinePlace, event_of, line_at, line_number, line_place, reading, site}
use Rattle.trace_model.specs.Sound.{Exchange, exchange_of, lines_to, unbroken}
use Rattle.trace_model.proofs.Lines.{line_at-number}
use Rattle.trace_model.proofs.OctetsOfExchanges.{exchange_parts, passed}
use Rattle.exchange_check.specs.declared.exchange.Exchange.{Exchange as Told}
use Rattle.exchange_check.specs.declared.kept_line.KeptLine.{KeptLine}
use Rattle.exchange_check.specs.Exchange.{exchange_lines, last_exchange}
use Rattle.exchange_check.specs.KeptLine.{kept_line}
use Rattle.explain_transcript.specs.Details.{last_reading, last_time}
use Rattle.explain_transcript.specs.Inner.Times.{later_reading}

-- ---- what is there, and two more that are found by it

abbrev chain : {X S R A : Type 0} → (X → S → R → A) → Option X → (X → Option S) → (X → Option R) → Option A
chain f o a b = option_and_then (λ x. option_and_then (λ s. option_map (f x s) (b x)) (a x)) o

neither_there : {S R A B : Type 0} (f : S → R → A) (g : S → R → B) (s : Option S) (r : Option R)
    → option_and_then (λ y. option_map (f y) r) s ≡ None → option_and_then (λ y. option_map (g y) r) s ≡ None
neither_there f g None r h = refl
neither_there f g (Some y) None h = refl
neither_there f g (Some y) (Some z) h = absurd cc

not_there : {X S R A B : Type 0} (f : X → S → R → A) (g : X → S → R → B) (o : Option X) (a : X → Option S) (b : X → Option R)
    → chain f o a b ≡ None → chain g o a b ≡ None
not_there f g None a b h = refl
not_there f g (Some x) a b h = neither_there (f x) (g x) (a x) (b x) h

both_there : {S R A : Type 0} (f : S → R → A) (s : Option S) (r : Option R) (w : A)
    → option_and_then (λ y. option_map (f y) r) s ≡ Some w
    → (y : S) × (z : R) × (s ≡ Some y) × (r ≡ Some z) × (f y z ≡ w)
both_there f None r w h = absurd cc
both_there f (Some y) None w h = absurd cc
both_there f (Some y) (Some z) w h = (y, z, refl, refl, cc)

all_there : {X S R A : Type 0} (f : X → S → R → A) (o : Option X) (a : X → Option S) (b : X → Option R) (w : A)
    → chain f o a b ≡ Some w
    → (x : X) × (y : S) × (z : R) × (o ≡ Some x) × (a x ≡ Some y) × (b x ≡ Some z) × (f x y z ≡ w)
all_there f None a b w h = absurd cc
all_there f (Some x) a b w h =
    let (y, z, first, second, is) = both_there (f x) (a x) (b x) w h in
    (x, y, z, refl, first, second, is)

of_all : {X S R A : Type 0} (f : X → S → R → A) (o : Option X) (a : X → Option S) (b : X → Option R) (x : X) (y : S) (z : R)
    → o ≡ Some x → a x ≡ Some y → b x ≡ Some z → chain f o a b ≡ Some (f x y z)
of_all f o a b x y z p q r = rw (p, q, r) refl

-- ---- the time

-- there is none without an exchange
pub no_time : (network : Network) (lines : Lines) (report : Report) → last_exchange network lines report ≡ None
    → last_time network lines report ≡ None
no_time network [] report h = refl
no_time network (line ∷ earlier) report h =
    let e : LinePlace = line_place line earlier in
    not_there (exchange_lines network e) (λ (x : Exchange). λ (sync : LineJourney). λ (request : LineJourney). last_reading x) (exchange_of network (site e) e report)
    (λ x. unbroken network e draws_sync x.sync_arrival) (λ x. unbroken network e is_request x.request_arrival) h

-- by an exchange, and by the line of the Delay_Req
pub time_by : (network : Network) (lines : Lines) (report : Report) (told : Told) → last_exchange network lines report ≡ Some told
    → later_reading network lines report.request_tag told.sync.arrived ≡ last_time network lines report
time_by network [] report told h = absurd cc
time_by network (line ∷ earlier) report told h =
    let e : LinePlace = line_place line earlier in
    let (x, sync, request, found, first, second, is) =
    all_there (exchange_lines network e) (exchange_of network (site e) e report)
    (λ x. unbroken network e draws_sync x.sync_arrival) (λ x. unbroken network e is_request x.request_arrival) told h in
    let parts = exchange_parts network (site e) e report x found in
    let there = (passed (λ (f : LinePlace). is_at is_request (site e) (event_of f))
    (line_at network (lines_to e) report.request_tag) parts.request).0 in
    let number : line_number x.request ≡ report.request_tag =
    line_at-number network (lines_to e) report.request_tag x.request there in
    let arrived : line_number x.sync_arrival ≡ told.sync.arrived.number = ap (λ (w : Told). w.sync.arrived.number) is in
    let read : reading x.sync_arrival ≡ told.sync.arrived.reading = ap (λ (w : Told). w.sync.arrived.reading) is in
    let time : last_time network (line ∷ earlier) report ≡ Some (last_reading x) =
    of_all (λ (x : Exchange). λ (sync : LineJourney). λ (request : LineJourney). last_reading x)
    (exchange_of network (site e) e report) (λ x. unbroken network e draws_sync x.sync_arrival)
    (λ x. unbroken network e is_request x.request_arrival) x sync request found first second in
    ap (λ (o : Option LinePlace). if nat_lt report.request_tag told.sync.arrived.number then Some told.sync.arrived.reading
    else option_map (λ (k : KeptLine). k.reading) (option_map (kept_line network) o)) there
    ∙ (λ i. if nat_lt (sym number i) (sym arrived i) then Some (sym read i) else Some (reading x.request))
    ∙ either (nat_lt (line_number x.request) (line_number x.sync_arrival)) (reading x.sync_arrival) (reading x.request)
    ∙ sym time
  where
    either : (b : Bool) (one other : ℕ) → (if b then Some one else Some other) ≡ Some (if b then one else other)
    either true one other = refl
    either false one other = refl
