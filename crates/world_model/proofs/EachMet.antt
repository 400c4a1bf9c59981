-- Where an event isn't accepted, something stands in its way.
use Rattle.std.proofs.Common.{◌≡◌, ◌∙◌, ◌⊎◌, inl, inr, ℕ, ℤ, pos, ◌<◌, Bool, true, false, [], ◌∷◌, Result, Ok, Err, Option, Some, None, refl, sym, ap, subst, arith, if◌then◌else◌, option_map, option_and_then, length}
use Rattle.std.specs.Prelude.{◌+ℤ◌, ok_or, is_some, IfSome, IsSome, unwrap_or, ◌&&◌, ◌||◌, nat_lt, unsigned_abs}
use Rattle.std.specs.Option.{option_map_or}
use Rattle.std.proofs.lemmas.Bool.Decides.{nat_tests}
use Rattle.ptp_units.specs.Moment.{bound, moment_of}
use Rattle.event_codec.specs.Packet.{Contents}
use Rattle.transparent_clock.specs.Forwarding.{forwarded}
use Rattle.slave_port.specs.History as calls
use Rattle.network_model.specs.declared.event.Event.{Event}
use Rattle.network_model.specs.declared.event.Event.TheVariants.{Sync, SyncOne, Follow, Enter, Leave, Arrive, Hear}
use Rattle.network_model.specs.declared.event.Event.TheVariants.{Request, Stamped, Tick, SetMaster, StepClock}
use Rattle.network_model.specs.declared.node.NodeKind.{NodeKind}
use Rattle.network_model.specs.declared.refusal.WorldRefusal.{WorldRefusal}
use Rattle.network_model.specs.declared.refusal.WorldRefusal.TheVariants as refusals
use Rattle.network_model.specs.declared.stepped.Outcome.{Outcome}
use Rattle.network_model.specs.declared.stepped.Outcome.TheVariants.{Done, Made, Entered}
use Rattle.network_model.specs.Network.{Network, NodeName, PortSetup, kind_of, is_named, master_port, slave_port}
use Rattle.network_model.specs.Run.{Run, Place, place, place_at, site_of, tag_of, true_moment}
use Rattle.network_model.specs.Kinds.{is_at, is_sync, is_follow, is_request, is_stamped, is_one_step_sync, is_step}
use Rattle.network_model.specs.Kinds.{named_difference}
use Rattle.network_model.specs.Clock.{difference, reading, reading_of, clock_shows}
use Rattle.network_model.specs.Numbering.{waiting_sync, waiting_request}
use Rattle.network_model.specs.Truth.{copy_of}
use Rattle.network_model.specs.Outcome.{◌>>=◌, node_as, clock_of, port_of, reads, open_transit, copy_in, left_outcome, arrived_outcome, heard, stamped_outcome}
use Rattle.world_model.specs.declared.obstacle.Obstacle.TheVariants.{TooFar, NoSync, OneStepSync, FollowUpSent, NoDelayReq, DepartureTold}
use Rattle.world_model.specs.Obstacle.{newest, is_sync_or_follow, obstacle_of, clock_set, follow_up_met, sync_met, request_met, IsMet}

-- what is made of a value that is there is there
some_mapped : {A B : Type 0} (f : A → B) (o : Option A) (x : A) → o ≡ Some x → is_some (option_map f o) ≡ true
some_mapped {A = A} f o x there = subst (λ (p : Option A). is_some (option_map f p) ≡ true) (sym there) refl

-- one failure is another
same_refusal : {X : Type 0} (a b : WorldRefusal) → ◌≡◌ {A = Result X WorldRefusal} (Err a) (Err b) → a ≡ b
same_refusal a b e = grind arith

not_refused : {X : Type 0} (x : X) (b : WorldRefusal) → ◌≡◌ {A = Result X WorldRefusal} (Ok x) (Err b) → ⊥
not_refused x b e = grind arith

-- a step fails, or the next one does
step_fails : {X Y : Type 0} (r : Result X WorldRefusal) (next : X → Result Y WorldRefusal) (why : WorldRefusal) → (r >>= next) ≡ Err why
    → (r ≡ Err why) ⊎ ((x : X) × (r ≡ Ok x) × (next x ≡ Err why))
step_fails (Ok x) next why e = inr (x, refl, e)
step_fails {X = X} {Y = Y} (Err a) next why e = inl (ap (λ (w : WorldRefusal). Err w) (same_refusal {X = Y} a why e))

-- what is asked for isn't there
asked : {X : Type 0} (o : Option X) (a why : WorldRefusal) → ok_or o a ≡ Err why → (o ≡ None) × (a ≡ why)
asked (Some x) a why e = absurd (not_refused x why e)
asked {X = X} None a why e = (refl, same_refusal {X = X} a why e)

given : {X : Type 0} (o : Option X) (a : WorldRefusal) (x : X) → ok_or o a ≡ Ok x → o ≡ Some x
given (Some y) a x e = grind arith
given None a x e = grind arith

module _ (network : Network) (run : Run) where
  abbrev Told : Event → WorldRefusal → Type 0
  Told event why = IsSome (obstacle_of network run event why)

  -- the node isn't there, or is of another kind
  node_told : {X : Type 0} (wanted : NodeKind → Option X) (event : Event) (why : WorldRefusal) → node_as wanted network (site_of event) ≡ Err why → Told event why
  node_told wanted event why e = by (kind_of network (site_of event)) refl e
    where
      by : (k : Option NodeKind) → kind_of network (site_of event) ≡ k → (ok_or k refusals.NoNode >>= (λ (kind : NodeKind). ok_or (wanted kind) refusals.WrongKind)) ≡ Err why → Told event why
      by None there f = subst (Told event) (same_refusal refusals.NoNode why f) refl
      by (Some kind) there f = subst (Told event) (asked (wanted kind) refusals.WrongKind why f).1 (some_mapped _ (kind_of network (site_of event)) kind there)

  -- the clock reads no moment
  no_step : (node : NodeName) (run : Run) → newest (is_at is_step node) run ≡ None → difference node run ≡ pos 0
  no_step node [] none = refl
  no_step node (event ∷ earlier) none = by (named_difference event) (is_named (site_of event) node) none (no_step node earlier)
    where
      by : (d : Option ℤ) (here : Bool) → (if is_some d && here then Some (place event earlier) else newest (is_at is_step node) earlier) ≡ None
          → (newest (is_at is_step node) earlier ≡ None → difference node earlier ≡ pos 0)
          → (if here then unwrap_or d (difference node earlier) else difference node earlier) ≡ pos 0
      by (Some d) true none rest = grind arith
      by (Some d) false none rest = rest none
      by None true none rest = rest none
      by None false none rest = rest none

  set_told : (node : NodeName) (run : Run) (p : Place) → newest (is_at is_step node) run ≡ Some p → is_some (clock_set p) ≡ true
  set_told node [] p there = grind arith
  set_told node (event ∷ earlier) p there = by (named_difference event) refl (is_named (site_of event) node) there (set_told node earlier p)
    where
      by : (d : Option ℤ) → named_difference event ≡ d → (here : Bool) → (if is_some d && here then Some (place event earlier) else newest (is_at is_step node) earlier) ≡ Some p
          → (newest (is_at is_step node) earlier ≡ Some p → is_some (clock_set p) ≡ true) → is_some (clock_set p) ≡ true
      by (Some d) is true there rest = let same : place event earlier ≡ p = cc in
          subst (λ (q : Place). is_some (clock_set q) ≡ true) same (some_mapped _ (named_difference event) d is)
      by (Some d) is false there rest = rest there
      by None is true there rest = rest there
      by None is false there rest = rest there

  -- a moment is a reading of a clock that was never set
  unset_reads : (at : ℕ) → at < bound → (d : ℤ) → d ≡ pos 0 → moment_of (pos at +ℤ d) ≡ Some at
  unset_reads at within d none = ap (λ (e : ℤ). moment_of (pos at +ℤ e)) none ∙ from at within
    where
      from : (at : ℕ) → at < bound → moment_of (pos at +ℤ pos 0) ≡ Some at
      from at within = grind (arith, nat_tests)

  reads_told : (event : Event) (why : WorldRefusal) → IfSome (true_moment event) (λ at. at < bound) → IsSome (true_moment event) → named_difference event ≡ None
      → reads event run ≡ Err why → Told event why
  reads_told event why within timed none e =
      subst (Told event) (asked (reading_of (place event run)) refusals.ReadingOutOfRange why e).1
      (subst (λ (d : Option ℤ). is_some (option_map_or (λ (x : ℤ). Some (TooFar x)) d (option_and_then clock_set (newest (is_at is_step (site_of event)) run))) ≡ true) (sym none)
      (by (newest (is_at is_step (site_of event)) run) refl (set_told (site_of event) run) (no_step (site_of event) run)))
    where
      unread : (m : Option ℕ) → IfSome m (λ at. at < bound) → IsSome m → option_and_then moment_of (option_map (clock_shows (site_of event) run) m) ≡ None
          → difference (site_of event) run ≡ pos 0 → ⊥
      unread (Some at) within timed out zero = let reads : moment_of (pos at +ℤ difference (site_of event) run) ≡ Some at = unset_reads at within (difference (site_of event) run) zero in cc
      unread None within timed out zero = cc

      by : (set : Option Place) → newest (is_at is_step (site_of event)) run ≡ set
          → ((p : Place) → newest (is_at is_step (site_of event)) run ≡ Some p → is_some (clock_set p) ≡ true)
          → (newest (is_at is_step (site_of event)) run ≡ None → difference (site_of event) run ≡ pos 0)
          → is_some (option_and_then clock_set set) ≡ true
      by (Some p) is told zero = told p is
      by None is told zero = absurd (unread (true_moment event) within timed (asked (reading_of (place event run)) refusals.ReadingOutOfRange why e).0 (zero is))

  -- and else the event is accepted
  then_reads : (event : Event) (outcome : ℕ → Outcome) (why : WorldRefusal) → IfSome (true_moment event) (λ at. at < bound) → IsSome (true_moment event) → named_difference event ≡ None
      → (reads event run >>= (λ (now : ℕ). Ok (outcome now))) ≡ Err why → Told event why
  then_reads event outcome why within timed none e =
      elim (step_fails (reads event run) (λ (now : ℕ). Ok (outcome now)) why e)
      [ inl f ↦ reads_told event why within timed none f | inr p ↦ absurd (not_refused (outcome p.0) why p.2) ]

  -- the last of a master's Syncs and Follow_Ups is a two-step Sync, so it waits
  last_waits : (node : NodeName) (run : Run) (p : Place) → newest (is_at is_sync_or_follow node) run ≡ Some p
      → is_one_step_sync p.event ≡ false → is_follow p.event ≡ false → waiting_sync node run ≡ Some p
  last_waits node [] p there one follow = grind arith
  last_waits node (event ∷ earlier) p there one follow =
      by (is_sync event) (is_one_step_sync event) (is_follow event) refl refl (is_named (site_of event) node) there (λ rest. last_waits node earlier p rest one follow)
    where
      by : (a b c : Bool) → is_one_step_sync event ≡ b → is_follow event ≡ c → (here : Bool)
          → (if ((a || b) || c) && here then Some (place event earlier) else newest (is_at is_sync_or_follow node) earlier) ≡ Some p
          → (newest (is_at is_sync_or_follow node) earlier ≡ Some p → waiting_sync node earlier ≡ Some p)
          → (if a && here then Some (place event earlier) else if c && here then None else waiting_sync node earlier) ≡ Some p
      by true b c isb isc true there rest = there
      by true b c isb isc false there rest = rest_of c
        where
          rest_of : (c : Bool) → (if c && false then None else waiting_sync node earlier) ≡ Some p
          rest_of true = rest there
          rest_of false = rest there
      by false true c isb isc true there rest = let same : place event earlier ≡ p = cc in
          let yes : is_one_step_sync p.event ≡ true = subst (λ (q : Place). is_one_step_sync q.event ≡ true) same isb in cc
      by false true true isb isc false there rest = rest there
      by false true false isb isc false there rest = rest there
      by false false true isb isc true there rest = let same : place event earlier ≡ p = cc in
          let yes : is_follow p.event ≡ true = subst (λ (q : Place). is_follow q.event ≡ true) same isc in cc
      by false false true isb isc false there rest = rest there
      by false false false isb isc true there rest = rest there
      by false false false isb isc false there rest = rest there

  -- no Sync waits for its Follow_Up
  sync_told : (node : NodeName) (run : Run) → waiting_sync node run ≡ None → is_some (sync_met run node) ≡ true
  sync_told node run waits = by (newest (is_at is_sync_or_follow node) run) refl
    where
      told : (p : Place) → newest (is_at is_sync_or_follow node) run ≡ Some p → (one follow : Bool) → is_one_step_sync p.event ≡ one → is_follow p.event ≡ follow
          → is_some (if one then Some (OneStepSync (tag_of p)) else if follow
          then Some (option_map_or (λ (sync : Place). FollowUpSent (tag_of sync) (tag_of p)) (newest (is_at is_sync node) run) NoSync) else None) ≡ true
      told p there true follow one is = refl
      told p there false true one is = refl
      told p there false false one is = let waiting : waiting_sync node run ≡ Some p = last_waits node run p there one is in cc

      by : (s : Option Place) → newest (is_at is_sync_or_follow node) run ≡ s → is_some (option_map_or (follow_up_met run node) s (Some NoSync)) ≡ true
      by None is = refl
      by (Some p) is = told p is (is_one_step_sync p.event) (is_follow p.event) refl refl

  -- no Delay_Req waits for its departure time
  told_both : (node : NodeName) (run : Run) → waiting_request node run ≡ None → newest (is_at is_stamped node) run ≡ None → newest (is_at is_request node) run ≡ None
  told_both node [] waits told = refl
  told_both node (event ∷ earlier) waits told = by (is_at is_request node event) (is_at is_stamped node event) waits told (told_both node earlier)
    where
      by : (a b : Bool) → (if a then Some (place event earlier) else if b then None else waiting_request node earlier) ≡ None
          → (if b then Some (place event earlier) else newest (is_at is_stamped node) earlier) ≡ None
          → (waiting_request node earlier ≡ None → newest (is_at is_stamped node) earlier ≡ None → newest (is_at is_request node) earlier ≡ None)
          → (if a then Some (place event earlier) else newest (is_at is_request node) earlier) ≡ None
      by true b waits told rest = waits
      by false true waits told rest = absurd (none_is told)
        where
          none_is : Some (place event earlier) ≡ None → ⊥
          none_is e = grind arith
      by false false waits told rest = rest waits told

  request_told : (node : NodeName) (run : Run) → waiting_request node run ≡ None → is_some (request_met run node) ≡ true
  request_told node run waits = by (newest (is_at is_request node) run) refl (newest (is_at is_stamped node) run) refl
    where
      by : (r : Option Place) → newest (is_at is_request node) run ≡ r → (t : Option Place) → newest (is_at is_stamped node) run ≡ t
          → is_some (option_map_or (λ (request : Place). option_map (λ (told : Place). DepartureTold (tag_of request) (tag_of told)) t) r (Some NoDelayReq)) ≡ true
      by None is t told = refl
      by (Some p) is (Some t) told = refl
      by (Some p) is None told = let none : newest (is_at is_request node) run ≡ None = told_both node run waits told in cc

  pub is_met : (event : Event) (why : WorldRefusal) → IsMet network run event why
  is_met (Sync node at) why within e = elim (step_fails (node_as master_port network node) (λ (port : PortSetup). reads (Sync node at) run >>= (λ (now : ℕ). Ok Made)) why e)
      [ inl f ↦ node_told master_port (Sync node at) why f | inr p ↦ then_reads (Sync node at) (λ (now : ℕ). Made) why within refl refl p.2 ]
  is_met (SyncOne node at) why within e = elim (step_fails (node_as master_port network node) (λ (port : PortSetup). reads (SyncOne node at) run >>= (λ (now : ℕ). Ok Made)) why e)
      [ inl f ↦ node_told master_port (SyncOne node at) why f | inr p ↦ then_reads (SyncOne node at) (λ (now : ℕ). Made) why within refl refl p.2 ]
  is_met (Follow node) why within e = elim (step_fails (node_as master_port network node) (λ (port : PortSetup). ok_or (waiting_sync node run) refusals.NothingWaiting >>= (λ (w : Place). Ok Made)) why e) [
    | inl f ↦ node_told master_port (Follow node) why f
    | inr p ↦ elim (step_fails (ok_or (waiting_sync node run) refusals.NothingWaiting) (λ (w : Place). Ok Made) why p.2) [
      | inl f ↦ let none = asked (waiting_sync node run) refusals.NothingWaiting why f in subst (Told (Follow node)) none.1 (sync_told node run none.0)
      | inr q ↦ absurd (not_refused Made why q.2)
    ]
  ]
  is_met (Enter node copy at) why within e = elim (step_fails (node_as clock_of network node)
      (λ (clock : Unit {0}). ok_or (copy_of network run copy) refusals.NoCopy >>= (λ (m : Contents). reads (Enter node copy at) run >>= (λ (now : ℕ). Ok Entered))) why e) [
        | inl f ↦ node_told clock_of (Enter node copy at) why f
        | inr p ↦ elim (step_fails (ok_or (copy_of network run copy) refusals.NoCopy) (λ (m : Contents). reads (Enter node copy at) run >>= (λ (now : ℕ). Ok Entered)) why p.2) [
          | inl f ↦ subst (Told (Enter node copy at)) (asked (copy_of network run copy) refusals.NoCopy why f).1 refl
          | inr q ↦ then_reads (Enter node copy at) (λ (now : ℕ). Entered) why within refl refl q.2
        ]
      ]
  is_met (Leave node transit at) why within e = elim (step_fails (node_as clock_of network node)
      (λ (clock : Unit {0}). ok_or (option_and_then (open_transit node run transit) (place_at run transit)) refusals.NoTransit >>= leaves) why e) [
        | inl f ↦ node_told clock_of (Leave node transit at) why f
        | inr p ↦ elim (step_fails (ok_or (option_and_then (open_transit node run transit) (place_at run transit)) refusals.NoTransit) leaves why p.2) [
          | inl f ↦ subst (Told (Leave node transit at)) (asked (option_and_then (open_transit node run transit) (place_at run transit)) refusals.NoTransit why f).1 refl
          | inr q ↦ elim (step_fails (ok_or (copy_in network q.0) refusals.NoTransit) (shows q.0) why q.2) [
            | inl f ↦ subst (Told (Leave node transit at)) (asked (copy_in network q.0) refusals.NoTransit why f).1 refl
            | inr m ↦ then_reads (Leave node transit at) (λ (now : ℕ). left_outcome (forwarded (Ok m.0) (reading q.0) now)) why within refl refl m.2
          ]
        ]
      ]
    where
      shows : Place → Contents → Result Outcome WorldRefusal
      shows entered m = reads (Leave node transit at) run >>= (λ (now : ℕ). Ok (left_outcome (forwarded (Ok m) (reading entered) now)))

      leaves : Place → Result Outcome WorldRefusal
      leaves entered = ok_or (copy_in network entered) refusals.NoTransit >>= shows entered
  is_met (Arrive node copy at) why within e = elim (step_fails (node_as port_of network node)
      (λ (kind : NodeKind). ok_or (copy_of network run copy) refusals.NoCopy >>= (λ (m : Contents). reads (Arrive node copy at) run >>= (λ (now : ℕ). Ok (arrived_outcome network kind node run now m)))) why e) [
        | inl f ↦ node_told port_of (Arrive node copy at) why f
        | inr p ↦ elim (step_fails (ok_or (copy_of network run copy) refusals.NoCopy) (λ (m : Contents). reads (Arrive node copy at) run >>= (λ (now : ℕ). Ok (arrived_outcome network p.0 node run now m))) why p.2) [
          | inl f ↦ subst (Told (Arrive node copy at)) (asked (copy_of network run copy) refusals.NoCopy why f).1 refl
          | inr q ↦ then_reads (Arrive node copy at) (λ (now : ℕ). arrived_outcome network p.0 node run now q.0) why within refl refl q.2
        ]
      ]
  is_met (Hear node copy) why within e = elim (step_fails (node_as slave_port network node)
      (λ (port : PortSetup). ok_or (copy_of network run copy) refusals.NoCopy >>= (λ (m : Contents). Ok (heard network port node run (calls.General (Ok m) (length run))))) why e) [
        | inl f ↦ node_told slave_port (Hear node copy) why f
        | inr p ↦ elim (step_fails (ok_or (copy_of network run copy) refusals.NoCopy) (λ (m : Contents). Ok (heard network p.0 node run (calls.General (Ok m) (length run)))) why p.2) [
          | inl f ↦ subst (Told (Hear node copy)) (asked (copy_of network run copy) refusals.NoCopy why f).1 refl
          | inr q ↦ absurd (not_refused (heard network p.0 node run (calls.General (Ok q.0) (length run))) why q.2)
        ]
      ]
  is_met (Request node at) why within e = elim (step_fails (node_as slave_port network node) (λ (port : PortSetup). reads (Request node at) run >>= (λ (now : ℕ). Ok Made)) why e)
      [ inl f ↦ node_told slave_port (Request node at) why f | inr p ↦ then_reads (Request node at) (λ (now : ℕ). Made) why within refl refl p.2 ]
  is_met (Stamped node) why within e = elim (step_fails (node_as slave_port network node)
      (λ (port : PortSetup). ok_or (waiting_request node run) refusals.NothingWaiting >>= (λ (w : Place). Ok (stamped_outcome network port node run w))) why e) [
        | inl f ↦ node_told slave_port (Stamped node) why f
        | inr p ↦ elim (step_fails (ok_or (waiting_request node run) refusals.NothingWaiting) (λ (w : Place). Ok (stamped_outcome network p.0 node run w)) why p.2) [
          | inl f ↦ let none = asked (waiting_request node run) refusals.NothingWaiting why f in subst (Told (Stamped node)) none.1 (request_told node run none.0)
          | inr q ↦ absurd (not_refused (stamped_outcome network p.0 node run q.0) why q.2)
        ]
      ]
  is_met (Tick node) why within e = elim (step_fails (node_as slave_port network node) (λ (port : PortSetup). Ok Done) why e)
      [ inl f ↦ node_told slave_port (Tick node) why f | inr p ↦ absurd (not_refused Done why p.2) ]
  is_met (SetMaster node master) why within e = elim (step_fails (ok_or (kind_of network node) refusals.NoNode) named why e) [
    | inl f ↦ subst (Told (SetMaster node master)) (asked (kind_of network node) refusals.NoNode why f).1 refl
    | inr k ↦ elim (step_fails (ok_or (kind_of network master) refusals.NoNode) (follows k.0) why k.2) [
      | inl f ↦ subst (Told (SetMaster node master)) (asked (kind_of network master) refusals.NoNode why f).1 refl
      | inr o ↦ elim (step_fails (ok_or (slave_port k.0) refusals.WrongKind) (λ (port : PortSetup). present o.0) why o.2) [
        | inl f ↦ subst (Told (SetMaster node master)) (asked (slave_port k.0) refusals.WrongKind why f).1 (some_mapped _ (kind_of network node) k.0 (given (kind_of network node) refusals.NoNode k.0 k.1))
        | inr p ↦ elim (step_fails (ok_or (master_port o.0) refusals.WrongKind) (λ (port : PortSetup). Ok Done) why p.2) [
          | inl f ↦ subst (Told (SetMaster node master)) (asked (master_port o.0) refusals.WrongKind why f).1 (some_mapped _ (kind_of network node) k.0 (given (kind_of network node) refusals.NoNode k.0 k.1))
          | inr q ↦ absurd (not_refused Done why q.2)
        ]
      ]
    ]
  ]
    where
      present : NodeKind → Result Outcome WorldRefusal
      present other = ok_or (master_port other) refusals.WrongKind >>= (λ (port : PortSetup). Ok Done)

      follows : NodeKind → NodeKind → Result Outcome WorldRefusal
      follows kind other = ok_or (slave_port kind) refusals.WrongKind >>= (λ (port : PortSetup). present other)

      named : NodeKind → Result Outcome WorldRefusal
      named kind = ok_or (kind_of network master) refusals.NoNode >>= follows kind
  is_met (StepClock node diff) why within e = elim (step_fails (ok_or (kind_of network node) refusals.NoNode)
      (λ (kind : NodeKind). if nat_lt (unsigned_abs diff) bound then Ok Done else Err refusals.ReadingOutOfRange) why e) [
        | inl f ↦ subst (Told (StepClock node diff)) (asked (kind_of network node) refusals.NoNode why f).1 refl
        | inr p ↦ by_size (nat_lt (unsigned_abs diff) bound) p.2
      ]
    where
      by_size : (b : Bool) → ◌≡◌ {A = Result Outcome WorldRefusal} (if b then Ok Done else Err refusals.ReadingOutOfRange) (Err why) → Told (StepClock node diff) why
      by_size true f = absurd (not_refused Done why f)
      by_size false f = subst (Told (StepClock node diff)) (same_refusal {X = Outcome} refusals.ReadingOutOfRange why f) refl
