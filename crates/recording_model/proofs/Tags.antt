-- Each tag of a report is that of a call since the port was told its master last: what holds of the tags of these calls
-- holds of those of what it holds, and of its reports.
use Rattle.std.proofs.Common.{◌≡◌, ◌∙◌, ℕ, Bool, true, false, List, [], ◌∷◌, Some, None}
use Rattle.std.proofs.Common.{sym, ap, subst, if◌then◌else◌}
use Rattle.std.specs.Prelude.{◌==◌, option_to_list}
use Rattle.std.specs.List.{All}
use Rattle.std.proofs.lemmas.List.Elements.{All-nil, All-cons, All-head, All-tail, All-append, All-take}
use Rattle.event_codec.specs.Reading.{Reading}
use Rattle.event_codec.specs.declared.port.PortIdentity.{PortIdentity}
use Rattle.pairing.specs.Marked.{Entry, entry, first_value}
use Rattle.slave_port.specs.declared.heard.Report.{Report}
use Rattle.slave_port.specs.declared.heard.Heard.TheVariants as answers
use Rattle.slave_port.specs.History as calls
use Rattle.slave_port.specs.History.{Call, Setup, next_number}
use Rattle.slave_port.specs.Window.{Window, all, with_brought}
use Rattle.slave_port.specs.Values.{SyncValue, FollowValue, RequestValue}
use Rattle.slave_port.specs.Requests.{requests, stamped, held_requests}
use Rattle.slave_port.specs.Completion.{SyncCompletion, DelayCompletion}
use Rattle.slave_port.specs.Kept.{kept, criteria, delay_completions, held_syncs, held_follows, usable_two_step_sync}
use Rattle.slave_port.specs.Kept.{usable_follow_up, sync_completion, delay_completion}
use Rattle.slave_port.specs.Answer.{answer}
use Rattle.slave_port.proofs.Uses.{two_step_entry, follow_entry, sync_completion_of, delay_completion_of, report_parts}
use Rattle.slave_port.proofs.Uses.{IsSyncCompletion, BySync, Alone, ByFollowUp, HeardSync, HeardFollowUp}
use Rattle.network_model.proofs.Pairing.{found_in}
use Rattle.network_model.proofs.Reports.{first_of}
use Rattle.recording_model.specs.Lives.{lines_of}
use Rattle.recording_model.proofs.Near.{All-brought}

-- in both parts of a window
abbrev pub AllIn : {E : Type 0} → (E → Type 0) → Window E → Type 0
AllIn P window = All P window.since × All P window.before

pub all-in : {E : Type 0} (P : E → Type 0) (window : Window E) → AllIn P window → All P (all window)
all-in P window are = All-append P window.since window.before are.0 are.1

-- what is found first is one of them
found-all : {V : Type 0} (P : V → Type 0) (es : List (Entry V)) (number : ℕ) (v : V) → All (λ (e : Entry V). P e.value) es
    → first_value number es ≡ Some v → P v
found-all {V = V} P es number v are found =
    let one = found_in (λ (e : Entry V). P e.value) es number v are found in subst P one.3 one.1

module _ (P : ℕ → Type 0) where
  -- the tags of each kind of thing that is held
  abbrev pub OfSync : SyncCompletion → Type 0
  OfSync c = P c.sync_tag × All P (option_to_list c.follow_tag)

  abbrev pub OfDelay : DelayCompletion → Type 0
  OfDelay c = P c.request_tag × P c.response_tag

  pub record AreTagged (setup : Setup) (history : List Call) : Type 0 where
    pub syncs : AllIn (λ (e : Entry SyncValue). P e.value.tag) (kept setup history).syncs
    pub follows : AllIn (λ (e : Entry FollowValue). P e.value.tag) (kept setup history).follows
    pub completions : AllIn OfSync (kept setup history).completions
    pub delays : AllIn OfDelay (delay_completions setup history)
    pub requested : All (λ (e : Entry RequestValue). P e.value.tag) (requests setup history)

  -- a port that was told its master holds nothing
  pub tagged-master : (setup : Setup) (master : PortIdentity) (history : List Call)
      → AreTagged setup (calls.SetMaster master ∷ history)
  tagged-master setup master history = record {
    syncs = (All-nil (λ (e : Entry SyncValue). P e.value.tag), All-nil (λ (e : Entry SyncValue). P e.value.tag));
    follows = (All-nil (λ (e : Entry FollowValue). P e.value.tag), All-nil (λ (e : Entry FollowValue). P e.value.tag));
    completions = (All-nil OfSync, All-nil OfSync);
    delays = (All-nil OfDelay, All-nil OfDelay);
    requested = All-nil (λ (e : Entry RequestValue). P e.value.tag);
  }

  stamped-tagged : (number t3 : ℕ) (es : List (Entry RequestValue)) → All (λ (e : Entry RequestValue). P e.value.tag) es
      → All (λ (e : Entry RequestValue). P e.value.tag) (stamped number t3 es)
  stamped-tagged number t3 [] are = are
  stamped-tagged number t3 (request ∷ others) are = by (request.number == number)
      (All-head (λ (e : Entry RequestValue). P e.value.tag) request others are)
      (All-tail (λ (e : Entry RequestValue). P e.value.tag) request others are)
      (stamped-tagged number t3 others (All-tail (λ (e : Entry RequestValue). P e.value.tag) request others are))
    where
      by : (same : Bool) → P request.value.tag → All (λ (e : Entry RequestValue). P e.value.tag) others
          → All (λ (e : Entry RequestValue). P e.value.tag) (stamped number t3 others)
          → All (λ (e : Entry RequestValue). P e.value.tag)
          (if same then entry number (record { t3 = Some t3; tag = request.value.tag }) ∷ others
          else request ∷ stamped number t3 others)
      by true head rest later = All-cons (λ (e : Entry RequestValue). P e.value.tag)
          (entry number (record { t3 = Some t3; tag = request.value.tag })) others head rest
      by false head rest later = All-cons (λ (e : Entry RequestValue). P e.value.tag) request (stamped number t3 others)
          head later

  module _ (setup : Setup) (history : List Call) (are : AreTagged setup history) where
    pub tagged-tick : AreTagged setup (calls.Tick ∷ history)
    tagged-tick = record {
      syncs = (All-nil (λ (e : Entry SyncValue). P e.value.tag), are.syncs.0);
      follows = (All-nil (λ (e : Entry FollowValue). P e.value.tag), are.follows.0);
      completions = (All-nil OfSync, are.completions.0);
      delays = (All-nil OfDelay, are.delays.0);
      requested = are.requested;
    }

    pub tagged-request : (tag : ℕ) → P tag → AreTagged setup (calls.NextRequest tag ∷ history)
    tagged-request tag of = record {
      syncs = are.syncs;
      follows = are.follows;
      completions = are.completions;
      delays = are.delays;
      requested = All-cons (λ (e : Entry RequestValue). P e.value.tag)
          (entry (next_number setup history) (record { t3 = None; tag = tag })) (requests setup history) of are.requested;
    }

    pub tagged-left : (number t3 : ℕ) → AreTagged setup (calls.RequestLeft number t3 ∷ history)
    tagged-left number t3 = record {
      syncs = are.syncs;
      follows = are.follows;
      completions = are.completions;
      delays = are.delays;
      requested = stamped-tagged number t3 (requests setup history) are.requested;
    }

    -- what is held of each kind
    sync_held : (number : ℕ) (sync : SyncValue) → first_value number (held_syncs setup history) ≡ Some sync → P sync.tag
    sync_held number sync found =
        found-all (λ (v : SyncValue). P v.tag) (held_syncs setup history) number sync
        (All-take (λ (e : Entry SyncValue). P e.value.tag) setup.capacities.syncs (all (kept setup history).syncs)
        (all-in (λ (e : Entry SyncValue). P e.value.tag) (kept setup history).syncs are.syncs)) found

    follow_held : (number : ℕ) (follow : FollowValue) → first_value number (held_follows setup history) ≡ Some follow
        → P follow.tag
    follow_held number follow found =
        found-all (λ (v : FollowValue). P v.tag) (held_follows setup history) number follow
        (All-take (λ (e : Entry FollowValue). P e.value.tag) setup.capacities.follows (all (kept setup history).follows)
        (all-in (λ (e : Entry FollowValue). P e.value.tag) (kept setup history).follows are.follows)) found

    request_held : (number : ℕ) (request : RequestValue) → first_value number (held_requests setup history) ≡ Some request
        → P request.tag
    request_held number request found =
        found-all (λ (v : RequestValue). P v.tag) (held_requests setup history) number request
        (All-take (λ (e : Entry RequestValue). P e.value.tag) setup.capacities.requests (requests setup history)
        are.requested) found

    one-tag : (tag : ℕ) → P tag → All P (option_to_list (Some tag))
    one-tag tag of = All-cons P tag [] of (All-nil P)

    -- a message whose call has this tag
    module _ (call : Call) (tag : ℕ) (of : P tag)
        (sync_tag : (h : HeardSync (criteria setup history) call) → h.tag ≡ tag) (follow_tag : (h : HeardFollowUp (criteria setup history) call) → h.tag ≡ tag)
        (response_tag : (c : DelayCompletion) → delay_completion setup history call ≡ Some c → c.response_tag ≡ tag)
      where
        brought_sync : (e : Entry SyncValue) → usable_two_step_sync setup history call ≡ Some e → P e.value.tag
        brought_sync e is =
            let one = two_step_entry setup history call e is in
            subst P (sym (ap (λ (e : Entry SyncValue). e.value.tag) one.is ∙ sync_tag one.h)) of

        brought_follow : (e : Entry FollowValue) → usable_follow_up setup history call ≡ Some e → P e.value.tag
        brought_follow e is =
            let one = follow_entry setup history call e is in
            subst P (sym (ap (λ (e : Entry FollowValue). e.value.tag) one.is ∙ follow_tag one.h)) of

        brought_completion : (c : SyncCompletion) → sync_completion setup history call ≡ Some c → OfSync c
        brought_completion c is = by (sync_completion_of setup history call c is).0
          where
            by : IsSyncCompletion setup history call c → OfSync c
            by (BySync h follow flag found same) = subst OfSync (sym same) (
              subst P (sym (sync_tag h)) of,
              one-tag follow.tag (follow_held h.m.header.sequence.0 follow found),
            )
            by (Alone h flag same) = subst OfSync (sym same) (subst P (sym (sync_tag h)) of, All-nil P)
            by (ByFollowUp h sync found same) = subst OfSync (sym same) (
              sync_held h.m.header.sequence.0 sync found,
              one-tag h.tag (subst P (sym (follow_tag h)) of),
            )

        brought_delay : (c : DelayCompletion) → delay_completion setup history call ≡ Some c → OfDelay c
        brought_delay c is =
            let one = delay_completion_of setup history call c is in (
              subst P (sym (ap (λ (c : DelayCompletion). c.request_tag) one.is))
                  (request_held one.h.m.header.sequence.0 one.request one.found),
              subst P (sym (response_tag c is)) of,
            )

        -- all that is held with what it brings
        with_syncs : AllIn (λ (e : Entry SyncValue). P e.value.tag)
            (with_brought (usable_two_step_sync setup history call) (kept setup history).syncs)
        with_syncs = (
          All-brought (λ (e : Entry SyncValue). P e.value.tag) (usable_two_step_sync setup history call)
              (kept setup history).syncs.since brought_sync are.syncs.0,
          are.syncs.1,
        )

        with_follows : AllIn (λ (e : Entry FollowValue). P e.value.tag)
            (with_brought (usable_follow_up setup history call) (kept setup history).follows)
        with_follows = (
          All-brought (λ (e : Entry FollowValue). P e.value.tag) (usable_follow_up setup history call)
              (kept setup history).follows.since brought_follow are.follows.0,
          are.follows.1,
        )

        with_completions : AllIn OfSync (with_brought (sync_completion setup history call) (kept setup history).completions)
        with_completions = (
          All-brought OfSync (sync_completion setup history call) (kept setup history).completions.since
              brought_completion are.completions.0,
          are.completions.1,
        )

        with_delays : AllIn OfDelay (with_brought (delay_completion setup history call) (delay_completions setup history))
        with_delays = (
          All-brought OfDelay (delay_completion setup history call) (delay_completions setup history).since brought_delay
              are.delays.0,
          are.delays.1,
        )

    pub tagged-event : (heard : Reading) (t2 tag : ℕ) → P tag → AreTagged setup (calls.Event heard t2 tag ∷ history)
    tagged-event heard t2 tag of =
        let call : Call = calls.Event heard t2 tag in
        let sync_tag : (h : HeardSync (criteria setup history) call) → h.tag ≡ tag = λ h. let is = h.call_is in cc in
        let follow_tag : (h : HeardFollowUp (criteria setup history) call) → h.tag ≡ tag = λ h. let is = h.call_is in cc in
        let response_tag : (c : DelayCompletion) → delay_completion setup history call ≡ Some c → c.response_tag ≡ tag =
        λ c is. let done = delay_completion_of setup history call c is in let other = done.h.call_is in cc in
        record {
          syncs = with_syncs call tag of sync_tag follow_tag response_tag;
          follows = with_follows call tag of sync_tag follow_tag response_tag;
          completions = with_completions call tag of sync_tag follow_tag response_tag;
          delays = with_delays call tag of sync_tag follow_tag response_tag;
          requested = are.requested;
        }

    pub tagged-general : (heard : Reading) (tag : ℕ) → P tag → AreTagged setup (calls.General heard tag ∷ history)
    tagged-general heard tag of =
        let call : Call = calls.General heard tag in
        let sync_tag : (h : HeardSync (criteria setup history) call) → h.tag ≡ tag = λ h. let is = h.call_is in cc in
        let follow_tag : (h : HeardFollowUp (criteria setup history) call) → h.tag ≡ tag = λ h. let is = h.call_is in cc in
        let response_tag : (c : DelayCompletion) → delay_completion setup history call ≡ Some c → c.response_tag ≡ tag =
        λ c is.
        let done = delay_completion_of setup history call c is in
        let same = done.h.call_is in
        let tags : done.h.tag ≡ tag = cc in
        ap (λ (c : DelayCompletion). c.response_tag) done.is ∙ tags in
        record {
          syncs = with_syncs call tag of sync_tag follow_tag response_tag;
          follows = with_follows call tag of sync_tag follow_tag response_tag;
          completions = with_completions call tag of sync_tag follow_tag response_tag;
          delays = with_delays call tag of sync_tag follow_tag response_tag;
          requested = are.requested;
        }

  -- so are those of a report
  pub tagged-report : (setup : Setup) (history : List Call) (call : Call) (report : Report)
      → AreTagged setup (call ∷ history) → answer setup history call ≡ answers.Report report → All P (lines_of report)
  tagged-report setup history call report are is =
      let parts = report_parts setup history call report is in
      let sync : OfSync parts.0 = first_of OfSync (all (kept setup (call ∷ history)).completions) parts.0
      (all-in OfSync (kept setup (call ∷ history)).completions are.completions) parts.2 in
      let delay : OfDelay parts.1 = first_of OfDelay (all (delay_completions setup (call ∷ history))) parts.1
      (all-in OfDelay (delay_completions setup (call ∷ history)) are.delays) parts.3 in
      subst (λ (r : Report). All P (lines_of r)) (sym parts.4)
      (All-cons P parts.0.sync_tag
      (parts.1.request_tag ∷ parts.1.response_tag ∷ option_to_list parts.0.follow_tag) sync.0
      (All-cons P parts.1.request_tag (parts.1.response_tag ∷ option_to_list parts.0.follow_tag) delay.0
      (All-cons P parts.1.response_tag (option_to_list parts.0.follow_tag) delay.1 sync.1)))
