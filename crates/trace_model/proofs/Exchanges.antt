-- The lines of an exchange are there: the lines that tell the events of a report's four tags, and that they were used.
use Rattle.std.proofs.Common.{◌≡◌, ◌∙◌, ℕ, ◌<◌, ◌≤◌, Bool, true, false, [], ◌∷◌, length, Option, Some, None, Ok, Err}
use Rattle.std.proofs.Common.{Result, IsOk, refl, sym, ap, subst, arith, option_map, option_and_then, if◌then◌else◌}
use Rattle.std.specs.Prelude.{◌==◌, ◌&&◌, ◌||◌, is_some, ok_or, count_by, IfSome}
use Rattle.std.specs.Option.{option_or, option_map_or}
use Rattle.std.proofs.lemmas.Bool.{and_from, eq-eqb, eqb-true, lt-ltb}
use Rattle.event_codec.specs.Packet.{Contents}
use Rattle.slave_port.specs.declared.heard.Heard.{Heard}
use Rattle.slave_port.specs.declared.heard.Report.{Report}
use Rattle.network_model.specs.declared.event.Event.{Event}
use Rattle.network_model.specs.declared.event.Event.TheVariants.{Arrive, Hear, Stamped}
use Rattle.network_model.specs.declared.refusal.WorldRefusal.{WorldRefusal}
use Rattle.network_model.specs.declared.refusal.WorldRefusal.TheVariants.{NoCopy}
use Rattle.network_model.specs.declared.stepped.Outcome.{Outcome}
use Rattle.network_model.specs.Network.{Network, NodeName, slave_port}
use Rattle.network_model.specs.Run.{Run, Place, place, place_at, tag_of, site_of, IsIn, events_after}
use Rattle.network_model.specs.Kinds.{is_at, is_sync, is_one_step_sync, is_follow, is_request, is_stamped, heard_copy}
use Rattle.network_model.specs.Kinds.{is_arrival, is_hearing}
use Rattle.network_model.specs.Truth.{copy_made, copy_of}
use Rattle.network_model.specs.Outcome.{◌>>=◌, node_as, heard, outcome_of, IsRun}
use Rattle.network_model.specs.Premises.{is_used}
use Rattle.network_model.specs.Exact.{HearsOf, LearnsDeparture}
use Rattle.network_model.specs.Evidence.{is_complete, is_completing, HasOutcome, SyncWasUsed}
use Rattle.network_model.proofs.Options.{ok_step, ok_some, ok_value}
use Rattle.network_model.proofs.Places.{IsIn-before, tag_of-place_at, place_at-bound, place_at-within, IsIn-place_at}
use Rattle.network_model.proofs.Places.{accepted-place_at}
use Rattle.network_model.proofs.Sites.{named-self, at_kind}
use Rattle.network_model.proofs.Made.{copy_of-place_at}
use Rattle.trace_model.specs.declared.line.TraceLine.{TraceLine}
use Rattle.trace_model.specs.declared.line.TraceOut.{TraceOut}
use Rattle.trace_model.specs.Line.{Lines, is_made, completes}
use Rattle.trace_model.specs.Record.{LinePlace, line_place, event_of, site, line_number, line_at, last_line, stamps}
use Rattle.trace_model.specs.Record.{first_stamp}
use Rattle.trace_model.specs.Sound.{where_passes, below, line_of, sender, sync_line, follow_lines, arrival_line}
use Rattle.trace_model.specs.Sound.{is_followed}
use Rattle.trace_model.specs.Told.{TellsOutcome, TellsEvent, TellsRun, heard_out}
use Rattle.trace_model.specs.Faithful.{is_effective, took_effect, TellsPlace}
use Rattle.trace_model.proofs.Certain.{is_certain, sync_certain, request_certain}
use Rattle.trace_model.proofs.Good.{made_told, the_value}
use Rattle.trace_model.proofs.Found.{same_event, same_number, same_length, line_counts, each_event_has_its_line}
use Rattle.trace_model.proofs.Last.{last_at-waiting, last_at-alone, last_told}
use Rattle.trace_model.proofs.MessagesAfter.{accepted_told, certain_took}
use Rattle.trace_model.proofs.Octets.{arrival_parts}
use Rattle.slave_port.specs.declared.heard.Heard.TheVariants as answers
use Rattle.slave_port.specs.History as calls
use Rattle.network_model.specs.declared.stepped.Outcome.TheVariants as outcomes

-- what is found, and that it tells an event
pub record Finds (network : Network) (found : Option LinePlace) (p : Place) : Type 0 where
  pub e : LinePlace
  pub there : found ≡ Some e
  pub tells : TellsPlace network p e

pub passes : {X : Type 0} (test : X → Bool) (x : X) → test x ≡ true → where_passes test (Some x) ≡ Some x
passes test x is = ap (λ (b : Bool). if b then Some x else None) is

pub found_below : {X : Type 0} (found : ℕ → Option X) (limit number : ℕ) → number < limit
    → below found limit number ≡ found number
found_below found limit number small = ap (λ (b : Bool). if b then found number else None) (lt-ltb number limit small)

-- what completes is used, and what is used took effect
pub used_took : (outcome : Result Outcome WorldRefusal) → is_used outcome ≡ true → took_effect outcome ≡ true
used_took (Ok outcomes.Done) is = refl
used_took (Ok outcomes.Made) is = refl
used_took (Ok outcomes.Entered) is = refl
used_took (Ok (outcomes.Heard answer)) is = is
used_took (Ok (outcomes.Refused code)) is = cc
used_took (Err refusal) is = cc

pub completing_took : (outcome : Result Outcome WorldRefusal) → is_completing outcome ≡ true
    → took_effect outcome ≡ true
completing_took (Ok outcomes.Done) is = refl
completing_took (Ok outcomes.Made) is = refl
completing_took (Ok outcomes.Entered) is = refl
completing_took (Ok (outcomes.Heard answers.Held)) is = refl
completing_took (Ok (outcomes.Heard answers.Completed)) is = refl
completing_took (Ok (outcomes.Heard (answers.Report report))) is = refl
completing_took (Ok (outcomes.Heard (answers.Ignored reason))) is = cc
completing_took (Ok (outcomes.Refused code)) is = cc
completing_took (Err refusal) is = cc

completes_heard : (answer : Heard) → is_complete answer ≡ true → completes (heard_out answer) ≡ true
completes_heard answers.Completed is = refl
completes_heard (answers.Report report) is = refl
completes_heard _ is = cc

completes_out : (copy : Option Contents) (outcome : Outcome) (out : TraceOut) → is_completing (Ok outcome) ≡ true
    → TellsOutcome copy outcome out → completes out ≡ true
completes_out copy (outcomes.Heard answer) out is told = ap completes told ∙ completes_heard answer is
completes_out copy _ out is told = cc

-- a line whose event completed says so
pub completes_told : (network : Network) (event : Event) (earlier : Run) (line : TraceLine)
    → TellsEvent network event earlier line
    → is_completing (outcome_of network earlier event) ≡ true → completes line.out ≡ true
completes_told network event earlier line told is =
    completes_out (copy_of network (event ∷ earlier) told.stepped.tag) told.stepped.outcome line.out
    (ap is_completing (sym told.answered.outcome) ∙ is) told.told.outcome

-- a line whose event made a message says so
pub is_made_told : (network : Network) (event : Event) (earlier : Run) (line : TraceLine)
    → (told : TellsEvent network event earlier line)
    → told.stepped.outcome ≡ outcomes.Made → is_made line.out ≡ true
is_made_told network event earlier line told is =
    made_told (copy_of network (event ∷ earlier) told.stepped.tag) line.out
    (subst (λ (o : Outcome). TellsOutcome (copy_of network (event ∷ earlier) told.stepped.tag) o line.out) is
    told.told.outcome)

-- the copy that a slave heard
heard_parts : (network : Network) (node : NodeName) (copy : ℕ) (earlier : Run)
    → IsOk (outcome_of network earlier (Hear node copy)) → (m : Contents) × (copy_of network earlier copy ≡ Some m)
heard_parts network node copy earlier accepted =
    let outcome = ok_value (outcome_of network earlier (Hear node copy)) accepted in
    let port = ok_step (node_as slave_port network node)
    (λ port. ok_or (copy_of network earlier copy)
    NoCopy >>= (λ m. Ok (heard network port node earlier (calls.General (Ok m) (length earlier))))) outcome.1 in
    let message = ok_step (ok_or (copy_of network earlier copy) NoCopy)
    (λ m. Ok (heard network port.0 node earlier (calls.General (Ok m) (length earlier)))) port.2 in
    (message.0, ok_some (copy_of network earlier copy) NoCopy {x = message.0} message.1)

-- a line by which the slave learns when its request left has a number below that of lines
stamp_bound : (network : Network) (request : ℕ) (lines : Lines) (n : ℕ) → first_stamp network request lines ≡ Some n
    → n < length lines
stamp_bound network request [] n is = cc
stamp_bound network request (line ∷ lines) n is =
    by (first_stamp network request lines) refl (stamps network request line lines) is
    (stamp_bound network request lines n)
  where
    by : (first : Option ℕ) → first_stamp network request lines ≡ first → (stamp : Bool)
        → option_or first (if stamp then Some (length lines) else None) ≡ Some n
        → (first_stamp network request lines ≡ Some n → n < length lines) → n < length (line ∷ lines)
    by (Some m) e stamp is before = let bound = before (e ∙ is) in omega arith
    by None e true is before = let same : length lines ≡ n = cc in omega arith
    by None e false is before = cc

-- the first such line
stamped_first : (network : Network) (request : ℕ) (run : Run) (lines : Lines) (tag : ℕ) (p : Place)
    → TellsRun network run lines → place_at run tag ≡ Some p
    → ((e : LinePlace) → TellsPlace network p e → stamps network request e.line e.earlier ≡ true)
    → (first : ℕ) × (first_stamp network request lines ≡ Some first) × (first ≤ tag)
stamped_first network request [] lines tag p told there stamped = cc
stamped_first network request (event ∷ earlier) [] tag p told there stamped = absurd told
stamped_first network request (event ∷ earlier) (line ∷ lines) tag p told there stamped =
    at (length earlier == tag) refl there
    (λ there. stamped_first network request earlier lines tag p told.1 there stamped)
  where
    here : Option ℕ
    here = if stamps network request line lines then Some (length lines) else None

    at : (same : Bool) → (length earlier == tag) ≡ same
        → (if same then Some (place event earlier) else place_at earlier tag) ≡ Some p
        → (place_at earlier tag ≡ Some p
        → (first : ℕ) × (first_stamp network request lines ≡ Some first) × (first ≤ tag))
        → (first : ℕ) × (option_or (first_stamp network request lines) here ≡ Some first) × (first ≤ tag)
    at true is there before =
        let same : place event earlier ≡ p = cc in
        let tells : TellsPlace network (place event earlier) (line_place line lines) =
        record { told = told.0; before = told.1 } in
        let stamp : stamps network request line lines ≡ true =
        stamped (line_place line lines)
        (subst (λ (o : Place). TellsPlace network o (line_place line lines)) same tells) in
        let long = same_length network earlier lines told.1 in
        let number : length earlier ≡ tag = eqb-true (length earlier) tag is in
        by (first_stamp network request lines) refl (ap (λ (b : Bool). if b then Some (length lines) else None) stamp)
        (long ∙ number)
      where
        by : (first : Option ℕ) → first_stamp network request lines ≡ first → here ≡ Some (length lines)
            → length lines ≡ tag
            → (n : ℕ) × (option_or (first_stamp network request lines) here ≡ Some n) × (n ≤ tag)
        by None e h number = (length lines, ap (λ (o : Option ℕ). option_or o here) e ∙ h, omega arith)
        by (Some n) e h number = let bound = stamp_bound network request lines n e in
            (n, ap (λ (o : Option ℕ). option_or o here) e, omega arith)
    at false is there before =
        let found = before there in (found.0, ap (λ (o : Option ℕ). option_or o here) found.1, found.2)

-- the Follow_Up of a report, where it has one: its line follows the Sync
pub record HasFollow (network : Network) (lines : Lines) (slave : NodeName) (follow : Option ℕ)
    (origin : Place) : Type 0 where
  pub found : Option LinePlace
  pub there : follow_lines network lines slave follow ≡ Some found
  pub followed : (e : LinePlace) → TellsPlace network origin e → is_followed network found e ≡ true

module _ (network : Network) (run : Run) (lines : Lines) (told : TellsRun network run lines) where
  accepted : IsRun network run
  accepted = accepted_told network run lines told

  -- the line of an event that took effect
  pub line_found : (tag : ℕ) (p : Place) → place_at run tag ≡ Some p
      → took_effect (outcome_of network p.earlier p.event) ≡ true → Finds network (line_at network lines tag) p
  line_found tag p there took =
      let has = each_event_has_its_line network run lines tag p told there took in
      record { e = has.e; there = has.there; tells = has.tells }

  pub certain_found : (tag : ℕ) (p : Place) → place_at run tag ≡ Some p → is_certain p.event ≡ true
      → Finds network (line_at network lines tag) p
  certain_found tag p there certain =
      line_found tag p there (certain_took network p.event p.earlier certain
      (accepted-place_at network run tag p accepted there))

  -- where it is of a kind and at a node
  kind_found : (kind : Event → Bool) (node : NodeName) (tag : ℕ) (p : Place) → is_at kind node p.event ≡ true
      → Finds network (line_at network lines tag) p
      → Finds network (line_of network lines kind node tag) p
  kind_found kind node tag p at found = record {
    e = found.e;
    there = ap (where_passes (λ (e : LinePlace). is_at kind node (event_of e))) found.there
        ∙ passes (λ (e : LinePlace). is_at kind node (event_of e)) found.e
        (ap (is_at kind node) (same_event network p found.e found.tells) ∙ at);
    tells = found.tells;
  }

  -- the line that made what was heard
  sender_found : (h : Place) (e : LinePlace) (copy : ℕ) (q : Place) → TellsPlace network h e
      → heard_copy h.event ≡ Some copy → copy < length h.earlier
      → Finds network (line_at network lines copy) q → Finds network (sender network lines e) q
  sender_found h e copy q tells hears small found = record {
    e = found.e;
    there = ap (option_and_then (below (line_at network lines) (line_number e)))
        (ap heard_copy (same_event network h e tells) ∙ hears)
        ∙ found_below (line_at network lines) (line_number e) copy
        (subst (λ (n : ℕ). copy < n) (sym (same_number network h e tells)) small)
        ∙ found.there;
    tells = found.tells;
  }

  -- the event of an outcome
  outcome_at : (kind : Result Outcome WorldRefusal → Bool) (tag : ℕ) (p : Place) → place_at run tag ≡ Some p
      → HasOutcome network run kind tag
      → kind (outcome_of network p.earlier p.event) ≡ true
  outcome_at kind tag p there has =
      let places : Some has.p ≡ Some p = sym has.there ∙ there in
      let same : has.p ≡ p = cc in
      subst (λ (o : Place). kind (outcome_of network o.earlier o.event) ≡ true) same has.outcome

  -- the Sync's arrival
  pub sync_found : (slave : NodeName) (report : Report) (arrival : Place) (copy moment : ℕ)
      → place_at run report.sync_tag ≡ Some arrival → arrival.event ≡ Arrive slave copy moment
      → SyncWasUsed network run report.follow_tag report.sync_tag
      → Finds network (sync_line network lines slave report) arrival
  sync_found slave report arrival copy moment there event used = by report.follow_tag used
    where
      here : is_at is_arrival slave arrival.event ≡ true
      here = ap (is_at is_arrival slave) event ∙ named-self slave

      by : (follow : Option ℕ) → SyncWasUsed network run follow report.sync_tag
          → Finds network (where_passes (λ e. is_some follow || completes e.line.out)
          (line_of network lines is_arrival slave report.sync_tag)) arrival
      by None used =
          let outcome = outcome_at is_completing report.sync_tag arrival there used in
          let found = kind_found is_arrival slave report.sync_tag arrival here
          (line_found report.sync_tag arrival there
          (completing_took (outcome_of network arrival.earlier arrival.event) outcome)) in
          record {
            e = found.e;
            there = ap (where_passes (λ (e : LinePlace). completes e.line.out)) found.there
                ∙ passes (λ (e : LinePlace). completes e.line.out) found.e
                (completes_told network arrival.event arrival.earlier found.e.line found.tells.told outcome);
            tells = found.tells;
          }
      by (Some tag) used =
          let outcome = outcome_at is_used report.sync_tag arrival there used in
          let found = kind_found is_arrival slave report.sync_tag arrival here
          (line_found report.sync_tag arrival there
          (used_took (outcome_of network arrival.earlier arrival.event) outcome)) in
          record { e = found.e; there = ap (where_passes (λ (e : LinePlace). true)) found.there; tells = found.tells }

  -- the Follow_Up
  pub follow_found : (slave master : NodeName) (follow : Option ℕ) (origin : Place)
      → LearnsDeparture run slave master follow origin
      → IfSome follow (HasOutcome network run is_used) → HasFollow network lines slave follow origin
  follow_found slave master None origin learns used = record {
    found = None;
    there = refl;
    followed = λ e tells. ap is_one_step_sync (same_event network origin e tells)
        ∙ at_kind is_one_step_sync master origin.event learns;
  }
  follow_found slave master (Some tag) origin learns used =
      let hears = learns.hears in
      let heard_at : is_at is_hearing slave hears.hearing.event ≡ true =
      ap (is_at is_hearing slave) hears.event ∙ named-self slave in
      let hearing = kind_found is_hearing slave tag hears.hearing heard_at
      (line_found tag hears.hearing hears.there
      (used_took (outcome_of network hears.hearing.earlier hears.hearing.event)
      (outcome_at is_used tag hears.hearing hears.there used))) in
      let there = place_at-within run hears.hearing hears.copy learns.follow
      (IsIn-place_at run tag hears.hearing hears.there) hears.made_by in
      let made = certain_found hears.copy learns.follow there (ap is_certain learns.follows) in
      let sent = sender_found hears.hearing hearing.e hears.copy learns.follow hearing.tells
      (ap heard_copy hears.event)
      (place_at-bound hears.hearing.earlier hears.copy learns.follow hears.made_by) made in
      let follows : is_follow (event_of sent.e) ≡ true =
      ap is_follow (same_event network learns.follow sent.e sent.tells ∙ learns.follows) in
      let site_is : site sent.e ≡ master =
      ap site_of (same_event network learns.follow sent.e sent.tells ∙ learns.follows) in
      let last = last_told network is_sync sync_certain master learns.follow.earlier sent.e.earlier origin
      sent.tells.before (last_at-waiting master learns.follow.earlier origin learns.followed) in
      record {
        found = Some sent.e;
        there = ap (λ (o : Option LinePlace). option_map Some
            (where_passes (λ (e : LinePlace). is_follow (event_of e)) (option_and_then (sender network lines) o)))
            hearing.there
            ∙ ap (λ (o : Option LinePlace). option_map Some
            (where_passes (λ (e : LinePlace). is_follow (event_of e)) o)) sent.there
            ∙ ap (option_map Some) (passes (λ (e : LinePlace). is_follow (event_of e)) sent.e follows);
        followed = λ e tells.
            ap (λ (node : NodeName). option_map_or (λ (last : LinePlace). line_number last == line_number e)
            (last_line network is_sync node sent.e.earlier) false) site_is
            ∙ ap (λ (o : Option LinePlace). option_map_or
            (λ (last : LinePlace). line_number last == line_number e) o false) last.there
            ∙ eq-eqb (line_number last.e) (line_number e)
            (same_number network origin last.e last.tells ∙ sym (same_number network origin e tells));
      }

  -- the line that sent the Delay_Req
  pub request_found : (slave : NodeName) (tag : ℕ) (origin : Place) → place_at run tag ≡ Some origin
      → is_at is_request slave origin.event ≡ true
      → Finds network (line_of network lines is_request slave tag) origin
  request_found slave tag origin there drawn =
      kind_found is_request slave tag origin drawn
      (certain_found tag origin there (request_certain origin.event (at_kind is_request slave origin.event drawn)))

  -- the arrival of the Delay_Req
  pub answer_found : (slave master : NodeName) (tag : ℕ) (arrival : Place) (copy moment : ℕ)
      → HearsOf run tag slave arrival → arrival.event ≡ Arrive master copy moment
      → HasOutcome network run is_completing tag → Finds network (arrival_line network lines slave tag) arrival
  answer_found slave master tag arrival copy moment hears event completes_at =
      let outcome = outcome_at is_completing tag hears.hearing hears.there completes_at in
      let heard_at : is_at is_hearing slave hears.hearing.event ≡ true =
      ap (is_at is_hearing slave) hears.event ∙ named-self slave in
      let hearing = kind_found is_hearing slave tag hears.hearing heard_at
      (line_found tag hears.hearing hears.there
      (completing_took (outcome_of network hears.hearing.earlier hears.hearing.event) outcome)) in
      let hearing_in = IsIn-place_at run tag hears.hearing hears.there in
      let there = place_at-within run hears.hearing hears.copy arrival hearing_in hears.made_by in
      let message = heard_parts network slave hears.copy hears.hearing.earlier
      (subst (λ (v : Event). IsOk (outcome_of network hears.hearing.earlier v)) hears.event
      (accepted-place_at network run tag hears.hearing accepted hears.there)) in
      let made : copy_made network arrival.event arrival.earlier (copy_of network arrival.earlier) ≡ Some message.0 =
      ap (option_and_then (λ (p : Place). copy_made network p.event p.earlier (copy_of network p.earlier)))
      (sym hears.made_by)
      ∙ sym (copy_of-place_at network hears.hearing.earlier hears.copy) ∙ message.1 in
      let arrived = ok_value (outcome_of network arrival.earlier arrival.event)
      (accepted-place_at network run hears.copy arrival accepted there) in
      let parts = arrival_parts network master copy moment arrival.earlier arrived.0 message.0
      (subst (λ (v : Event). outcome_of network arrival.earlier v ≡ Ok arrived.0) event arrived.1)
      (subst (λ (v : Event). copy_made network v arrival.earlier (copy_of network arrival.earlier) ≡ Some message.0)
      event made) in
      let sent = sender_found hears.hearing hearing.e hears.copy arrival hearing.tells (ap heard_copy hears.event)
      (place_at-bound hears.hearing.earlier hears.copy arrival hears.made_by)
      (line_found hears.copy arrival there (ap took_effect arrived.1 ∙ ap is_effective parts.is_made)) in
      let arrives : is_arrival (event_of sent.e) ≡ true =
      ap is_arrival (same_event network arrival sent.e sent.tells ∙ event) in
      let made_here : sent.tells.told.stepped.outcome ≡ outcomes.Made =
      the_value sent.tells.told.stepped.outcome outcomes.Made
      (sym sent.tells.told.answered.outcome ∙ arrived.1 ∙ ap Ok parts.is_made) in
      let is_made_here = is_made_told network arrival.event arrival.earlier sent.e.line sent.tells.told made_here in
      record {
        e = sent.e;
        there = ap (λ (o : Option LinePlace). where_passes
            (λ (e : LinePlace). is_arrival (event_of e) && is_made e.line.out)
            (option_and_then (sender network lines) (where_passes (λ (e : LinePlace). completes e.line.out) o)))
            hearing.there
            ∙ ap (λ (o : Option LinePlace). where_passes
            (λ (e : LinePlace). is_arrival (event_of e) && is_made e.line.out)
            (option_and_then (sender network lines) o))
            (passes (λ (e : LinePlace). completes e.line.out) hearing.e
            (completes_told network hears.hearing.event hears.hearing.earlier hearing.e.line hearing.tells.told
            outcome))
            ∙ ap (where_passes (λ (e : LinePlace). is_arrival (event_of e) && is_made e.line.out)) sent.there
            ∙ passes (λ (e : LinePlace). is_arrival (event_of e) && is_made e.line.out) sent.e
            (and_from (is_arrival (event_of sent.e)) (is_made sent.e.line.out) arrives is_made_here);
        tells = sent.tells;
      }

  -- a Stamped between the request and the hearing of its answer
  pub stamp_found : (slave : NodeName) (request : ℕ) (origin p : Place) → IsIn run p → p.event ≡ Stamped slave
      → outcome_of network p.earlier p.event ≡ Ok outcomes.Done
      → place_at run request ≡ Some origin → request < tag_of p → is_at is_request slave origin.event ≡ true
      → count_by (is_at is_request slave) (events_after request p.earlier) ≡ 0
      → (first : ℕ) × (first_stamp network request lines ≡ Some first) × (first ≤ tag_of p)
  stamp_found slave request origin p there event done requested after drawn alone =
      stamped_first network request run lines (tag_of p) p told there
      (λ e tells.
      let last = last_told network is_request request_certain slave p.earlier e.earlier origin tells.before
      (last_at-alone is_request slave p.earlier request origin
      (before p request origin there requested after) drawn alone) in
      let here : site_of (event_of e) ≡ slave = ap site_of (same_event network p e tells ∙ event) in
      let counted = line_counts network p.event p.earlier e.line tells.told (ap took_effect done) in
      let is : is_stamped (event_of e) ≡ true = ap is_stamped (same_event network p e tells ∙ event) in
      let number : line_number last.e ≡ request =
      same_number network origin last.e last.tells ∙ tag_of-place_at run request origin requested in
      let names : option_map_or (λ (l : LinePlace). line_number l == request)
      (last_line network is_request (site_of (event_of e)) e.earlier) false ≡ true =
      ap (λ (node : NodeName). option_map_or (λ (l : LinePlace). line_number l == request)
      (last_line network is_request node e.earlier) false) here
      ∙ ap (λ (o : Option LinePlace). option_map_or (λ (l : LinePlace). line_number l == request) o false) last.there
      ∙ eq-eqb (line_number last.e) request number in
      (λ i. counted i && is i && names i))
    where
      before : (p : Place) (request : ℕ) (origin : Place) → IsIn run p → place_at run request ≡ Some origin
          → request < tag_of p → place_at p.earlier request ≡ Some origin
      before p request origin there requested after =
          let tag = tag_of-place_at run request origin requested in
          let earlier : IsIn p.earlier origin =
          IsIn-before run p origin there (IsIn-place_at run request origin requested) (omega arith) in
          subst (λ (t : ℕ). place_at p.earlier t ≡ Some origin) tag earlier
