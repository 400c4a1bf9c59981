-- What is kept of nodes, stays and requests is what the lines say of them.
use Rattle.std.proofs.Common.{◌≡◌, ◌∙◌, ℕ, suc, ◌+◌, ℤ, Bool, true, false, ◌&&◌, cond, eqb}
use Rattle.std.proofs.Common.{[], ◌∷◌, length, Option, Some, None, refl, sym, ap, arith}
use Rattle.std.specs.Prelude.{count_by, option_map, option_and_then, unwrap_or}
use Rattle.std.proofs.lemmas.List.Sums.{sum_by-cons}
use Rattle.std.specs.Option.{option_or, option_map_or}
use Rattle.ptp_units.specs.Sequence.{of_count, next}
use Rattle.network_model.specs.declared.event.Event.{Event}
use Rattle.network_model.specs.declared.event.Event.TheVariants.{Sync, SyncOne}
use Rattle.network_model.specs.declared.event.Event.TheVariants.{Request, SetMaster, StepClock}
use Rattle.network_model.specs.Network.{Network, NodeName, is_named}
use Rattle.network_model.specs.Run.{Run, site_of}
use Rattle.network_model.specs.Kinds.{is_at, is_sync, draws_sync, is_request, is_stamped, named_transit}
use Rattle.network_model.specs.Kinds.{is_set_master, named_master, is_step, named_difference}
use Rattle.network_model.specs.Clock.{difference}
use Rattle.exchange_check.specs.declared.facts.Fact.{Fact}
use Rattle.exchange_check.specs.declared.facts.Site.{Site}
use Rattle.trace_model.specs.declared.line.TraceLine.{TraceLine}
use Rattle.trace_model.specs.Line.{Lines, counts}
use Rattle.trace_model.specs.Record.{LinePlace, line_place, line_number, event_of, last_line, events, first_stamp}
use Rattle.trace_model.specs.Finding.{leave_of}
use Rattle.trace_model.proofs.Lines.{events_if, events_more, last_more}
use Rattle.exchange_check.specs.Inner.Kept.{Sites, Stamps, moved, stamped, sites_after, leaves_after}
use Rattle.copy_stays.proofs.Kept.{or_nothing}
use Rattle.copy_stays.specs.Leaves.{Leaves, Firsts, first_kept}
use Rattle.exchange_check.specs.Inner.Kept.{firsts_after, stamps_after}
use Rattle.exchange_check.specs.Inner.Machine.{sites_told, leaves_told, firsts_told, stamps_told}

pub cond_same : {X : Type 0} (b : Bool) (x : X) → cond b x x ≡ x
cond_same true x = refl
cond_same false x = refl

-- the master that a line tells, with the line's number
abbrev pub told_master : Event → ℕ → Option (NodeName × ℕ)
told_master event n = option_map (λ master. (master, n)) (named_master event)

-- what lines say of a node, from what they say of its parts
abbrev site_made : ℤ → (syncs requests : ℕ) → (last_sync last_request : Option ℕ) → Option (NodeName × ℕ)
    → (last_step : Option ℕ) → Site
site_made diff syncs requests last_sync last_request set last_step = record {
  difference = diff;
  syncs = record { 0 = of_count syncs };
  requests = record { 0 = of_count requests };
  last_sync = last_sync;
  last_request = last_request;
  set_master = set;
  last_step = last_step;
}

-- what lines say of a node
abbrev pub site_at : Network → Lines → Sites
site_at network lines name = site_made
    (difference name (events network lines))
    (count_by (is_at draws_sync name) (events network lines))
    (count_by (is_at is_request name) (events network lines))
    (option_map line_number (last_line network is_sync name lines))
    (option_map line_number (last_line network is_request name lines))
    (option_and_then (λ e. told_master (event_of e) (line_number e)) (last_line network is_set_master name lines))
    (option_map line_number (last_line network is_step name lines))

counted : (n : ℕ) → next (of_count n) ≡ of_count (suc n)
counted n = omega arith

-- a node after an event of it, or of another node
moved_is : (event : Event) (named : Bool) (n : ℕ) (d : ℤ) (s r : ℕ) (ls lr : Option ℕ) (set : Option (NodeName × ℕ))
    (lt : Option ℕ)
    → cond named (moved event n (site_made d s r ls lr set lt)) (site_made d s r ls lr set lt)
    ≡ site_made (cond named (unwrap_or (named_difference event) d) d) (cond (draws_sync event && named) (suc s) s)
    (cond (is_request event && named) (suc r) r)
    (cond (is_sync event && named) (Some n) ls) (cond (is_request event && named) (Some n) lr)
    (cond (is_set_master event && named) (told_master event n) set) (cond (is_step event && named) (Some n) lt)
moved_is (Sync node at) true n d s r ls lr set lt =
    λ i. record {
      difference = d;
      syncs = record { 0 = counted s i };
      requests = record { 0 = of_count r };
      last_sync = Some n;
      last_request = lr;
      set_master = set;
      last_step = lt;
    }
moved_is (SyncOne node at) true n d s r ls lr set lt =
    λ i. record {
      difference = d;
      syncs = record { 0 = counted s i };
      requests = record { 0 = of_count r };
      last_sync = ls;
      last_request = lr;
      set_master = set;
      last_step = lt;
    }
moved_is (Request node at) true n d s r ls lr set lt =
    λ i. record {
      difference = d;
      syncs = record { 0 = of_count s };
      requests = record { 0 = counted r i };
      last_sync = ls;
      last_request = Some n;
      set_master = set;
      last_step = lt;
    }
moved_is (Request node at) false n d s r ls lr set lt = refl
moved_is _ true n d s r ls lr set lt = refl
moved_is _ false n d s r ls lr set lt = refl

sites_after_is : (event : Event) (n : ℕ) (sites : Sites) (name : NodeName)
    → sites_after event n sites name ≡ cond (is_named (site_of event) name) (moved event n (sites name)) (sites name)
sites_after_is (Sync node at) n sites name = refl
sites_after_is (SyncOne node at) n sites name = refl
sites_after_is (Request node at) n sites name = refl
sites_after_is (SetMaster node master) n sites name = refl
sites_after_is (StepClock node diff) n sites name = refl
sites_after_is event n sites name = sym (cond_same (is_named (site_of event) name) (sites name))

number_if : (b : Bool) (e : LinePlace) (o : Option LinePlace)
    → option_map line_number (cond b (Some e) o) ≡ cond b (Some (line_number e)) (option_map line_number o)
number_if true e o = refl
number_if false e o = refl

master_if : (b : Bool) (e : LinePlace) (o : Option LinePlace)
    → option_and_then (λ x. told_master (event_of x) (line_number x)) (cond b (Some e) o)
    ≡ cond b (told_master (event_of e) (line_number e))
    (option_and_then (λ x. told_master (event_of x) (line_number x)) o)
master_if true e o = refl
master_if false e o = refl

-- what the lines say of a node with one more line
site_more : (network : Network) (line : TraceLine) (earlier : Lines) (name : NodeName) (b : Bool)
    → counts network line ≡ b
    → site_at network (line ∷ earlier) name ≡ site_made
    (difference name (events_if b line.event (events network earlier)))
    (count_by (is_at draws_sync name) (events_if b line.event (events network earlier)))
    (count_by (is_at is_request name) (events_if b line.event (events network earlier)))
    (cond (b && is_at is_sync name line.event) (Some (length earlier))
    (option_map line_number (last_line network is_sync name earlier)))
    (cond (b && is_at is_request name line.event) (Some (length earlier))
    (option_map line_number (last_line network is_request name earlier)))
    (cond (b && is_at is_set_master name line.event) (told_master line.event (length earlier))
    (option_and_then (λ e. told_master (event_of e) (line_number e))
    (last_line network is_set_master name earlier)))
    (cond (b && is_at is_step name line.event) (Some (length earlier))
    (option_map line_number (last_line network is_step name earlier)))
site_more network line earlier name b h =
    let run = events_more network line earlier b h in
    let sync = ap (λ (o : Option LinePlace). option_map line_number o)
    (last_more network is_sync name line earlier b h)
    ∙ number_if (b && is_at is_sync name line.event) (line_place line earlier)
    (last_line network is_sync name earlier) in
    let request = ap (λ (o : Option LinePlace). option_map line_number o)
    (last_more network is_request name line earlier b h)
    ∙ number_if (b && is_at is_request name line.event) (line_place line earlier)
    (last_line network is_request name earlier) in
    let master = ap (λ (o : Option LinePlace). option_and_then (λ e. told_master (event_of e) (line_number e)) o)
    (last_more network is_set_master name line earlier b h)
    ∙ master_if (b && is_at is_set_master name line.event) (line_place line earlier)
    (last_line network is_set_master name earlier) in
    let step = ap (λ (o : Option LinePlace). option_map line_number o)
    (last_more network is_step name line earlier b h)
    ∙ number_if (b && is_at is_step name line.event) (line_place line earlier)
    (last_line network is_step name earlier) in
    λ i. site_made (difference name (run i)) (count_by (is_at draws_sync name) (run i))
    (count_by (is_at is_request name) (run i)) (sync i) (request i) (master i) (step i)

if_number : (b : Bool) (n : ℕ) → cond b 1 0 + n ≡ cond b (suc n) n
if_number true n = omega arith
if_number false n = omega arith

pub count_more : (p : Event → Bool) (event : Event) (run : Run)
    → count_by p (event ∷ run) ≡ cond (p event) (suc (count_by p run)) (count_by p run)
count_more p event run = sum_by-cons (λ (x : Event). cond (p x) 1 0) event run ∙ if_number (p event) (count_by p run)

-- what is said of a node with one more event
site_line : (network : Network) (line : TraceLine) (earlier : Lines) (run : Run) (event : Event) (name : NodeName)
    → run ≡ events network earlier → event ≡ line.event → counts network line ≡ true
    → sites_after event (length earlier) (site_at network earlier) name ≡ site_at network (line ∷ earlier) name
site_line network line earlier run event name run_is same h =
    let ls = option_map line_number (last_line network is_sync name earlier) in
    let lr = option_map line_number (last_line network is_request name earlier) in
    let lm = option_and_then (λ (e : LinePlace). told_master (event_of e) (line_number e))
    (last_line network is_set_master name earlier) in
    let lt = option_map line_number (last_line network is_step name earlier) in
    let r = events network earlier in
    let counted : site_at network (line ∷ earlier) name ≡ site_made
    (difference name (line.event ∷ r))
    (cond (draws_sync line.event && is_named (site_of line.event) name) (suc (count_by (is_at draws_sync name) r))
    (count_by (is_at draws_sync name) r))
    (cond (is_request line.event && is_named (site_of line.event) name) (suc (count_by (is_at is_request name) r))
    (count_by (is_at is_request name) r))
    (cond (is_sync line.event && is_named (site_of line.event) name) (Some (length earlier)) ls)
    (cond (is_request line.event && is_named (site_of line.event) name) (Some (length earlier)) lr)
    (cond (is_set_master line.event && is_named (site_of line.event) name)
    (told_master line.event (length earlier)) lm)
    (cond (is_step line.event && is_named (site_of line.event) name) (Some (length earlier)) lt) =
    site_more network line earlier name true h
    ∙ (λ i. site_made (difference name (line.event ∷ r)) (count_more (is_at draws_sync name) line.event r i)
    (count_more (is_at is_request name) line.event r i)
    (cond (is_sync line.event && is_named (site_of line.event) name) (Some (length earlier)) ls)
    (cond (is_request line.event && is_named (site_of line.event) name) (Some (length earlier)) lr)
    (cond (is_set_master line.event && is_named (site_of line.event) name)
    (told_master line.event (length earlier)) lm)
    (cond (is_step line.event && is_named (site_of line.event) name) (Some (length earlier)) lt)) in
    ap (λ (e : Event). sites_after e (length earlier) (site_at network earlier) name) same
    ∙ sites_after_is line.event (length earlier) (site_at network earlier) name
    ∙ moved_is line.event (is_named (site_of line.event) name) (length earlier) (difference name r)
    (count_by (is_at draws_sync name) r) (count_by (is_at is_request name) r) ls lr lm lt
    ∙ sym counted

-- what is kept of nodes after one more line
pub sites-line : (network : Network) (line : TraceLine) (earlier : Lines) (fact : Fact) (b : Bool)
    → counts network line ≡ b → fact.event ≡ line.event
    → sites_told (cond b (Some fact) None) (length earlier) (site_at network earlier)
    ≡ site_at network (line ∷ earlier)
sites-line network line earlier fact false h same = λ i name. sym (site_more network line earlier name false h) i
sites-line network line earlier fact true h same =
    λ i name. site_line network line earlier (events network earlier) fact.event name refl same h i

-- what lines say of each stay: whether it was left again
abbrev pub leaves_at : Network → Lines → Leaves
leaves_at network [] = λ stay. None
leaves_at network (line ∷ earlier) =
    cond (counts network line) (leaves_after line.event (leaves_at network earlier)) (leaves_at network earlier)

-- what is kept of stays after one more line
pub leaves-line : (network : Network) (line : TraceLine) (earlier : Lines) (fact : Fact) (b : Bool)
    → counts network line ≡ b → fact.event ≡ line.event
    → leaves_told (cond b (Some fact) None) (leaves_at network earlier) ≡ leaves_at network (line ∷ earlier)
leaves-line network line earlier fact true h same =
    ap (λ (e : Event). leaves_after e (leaves_at network earlier)) same
    ∙ sym (λ i. cond (h i) (leaves_after line.event (leaves_at network earlier)) (leaves_at network earlier))
leaves-line network line earlier fact false h same =
    sym (λ i. cond (h i) (leaves_after line.event (leaves_at network earlier)) (leaves_at network earlier))

-- what lines say of the first Leave line of each stay
abbrev pub firsts_at : Network → Lines → Firsts
firsts_at network lines transit = leave_of network transit lines

leave_if : (counted : Bool) (named : Option ℕ) (n : ℕ) (firsts : Firsts) (stay : ℕ)
    → cond counted (option_map_or (λ transit. first_kept transit n firsts) named firsts) firsts stay
    ≡ option_or (firsts stay)
    (cond (counted && option_map_or (λ transit. eqb transit stay) named false) (Some n) None)
leave_if false named n firsts stay = sym (or_nothing (firsts stay))
leave_if true None n firsts stay = sym (or_nothing (firsts stay))
leave_if true (Some transit) n firsts stay = refl

-- what is kept of the first Leave lines after one more line
pub firsts-line : (network : Network) (line : TraceLine) (earlier : Lines) (fact : Fact) (b : Bool)
    → counts network line ≡ b → fact.event ≡ line.event
    → firsts_told (cond b (Some fact) None) (length earlier) (firsts_at network earlier)
    ≡ firsts_at network (line ∷ earlier)
firsts-line network line earlier fact b h same =
    told_if b
    ∙ (λ i. cond (sym h i) (firsts_after (same i) (length earlier) (firsts_at network earlier)) (firsts_at network earlier))
    ∙ (λ i stay. leave_if (counts network line) (named_transit line.event) (length earlier)
    (firsts_at network earlier) stay i)
  where
    told_if : (b : Bool) → firsts_told (cond b (Some fact) None) (length earlier) (firsts_at network earlier)
        ≡ cond b (firsts_after fact.event (length earlier) (firsts_at network earlier)) (firsts_at network earlier)
    told_if true = refl
    told_if false = refl

-- what lines say of each request: where its departure was learned
abbrev pub stamps_at : Network → Lines → Stamps
stamps_at network lines request = first_stamp network request lines

asked : (o : Option LinePlace) (request : ℕ)
    → option_map_or (λ last. eqb last request) (option_map line_number o) false
    ≡ option_map_or (λ last. eqb (line_number last) request) o false
asked None request = refl
asked (Some e) request = refl

stamps_after_is : (stamp : Bool) (n : ℕ) (last : Option LinePlace) (stamps : Stamps) (request : ℕ)
    → (cond stamp (stamped (option_map line_number last) n stamps) stamps) request
    ≡ option_or (stamps request)
    (cond (stamp && option_map_or (λ x. eqb (line_number x) request) last false) (Some n) None)
stamps_after_is true n last stamps request =
    ap (λ (b : Bool). option_or (stamps request) (cond b (Some n) None)) (asked last request)
stamps_after_is false n last stamps request = sym (or_nothing (stamps request))

pub stamp_more : (network : Network) (line : TraceLine) (earlier : Lines) (request : ℕ) (b : Bool)
    → counts network line ≡ b
    → first_stamp network request (line ∷ earlier)
    ≡ option_or (first_stamp network request earlier)
    (cond (b && is_stamped line.event
    && option_map_or (λ last. eqb (line_number last) request)
    (last_line network is_request (site_of line.event) earlier) false) (Some (length earlier)) None)
stamp_more network line earlier request b h =
    λ i. option_or (first_stamp network request earlier)
    (cond (h i && is_stamped line.event
    && option_map_or (λ last. eqb (line_number last) request)
    (last_line network is_request (site_of line.event) earlier) false) (Some (length earlier)) None)

-- what is kept of requests after one more line
pub stamps-line : (network : Network) (line : TraceLine) (earlier : Lines) (fact : Fact) (b : Bool)
    → counts network line ≡ b → fact.event ≡ line.event
    → stamps_told (cond b (Some fact) None) (length earlier) (site_at network earlier) (stamps_at network earlier)
    ≡ stamps_at network (line ∷ earlier)
stamps-line network line earlier fact true h same = λ i request. at request i
  where
    at : (request : ℕ) → stamps_after fact.event (length earlier) (site_at network earlier)
        (stamps_at network earlier) request ≡ first_stamp network request (line ∷ earlier)
    at request =
        ap (λ (e : Event). stamps_after e (length earlier) (site_at network earlier)
        (stamps_at network earlier) request) same
        ∙ stamps_after_is (is_stamped line.event) (length earlier)
        (last_line network is_request (site_of line.event) earlier) (stamps_at network earlier) request
        ∙ sym (stamp_more network line earlier request true h)
stamps-line network line earlier fact false h same =
    λ i request. (sym (or_nothing (first_stamp network request earlier))
    ∙ sym (stamp_more network line earlier request false h)) i
