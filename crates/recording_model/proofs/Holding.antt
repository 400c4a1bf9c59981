-- What holds of a listening port's calls: it follows the master, what it holds and what completed is of events that
-- lines tell, and the numbers of what it holds are near. It goes on holding over ticks, requests and messages.
use Rattle.std.proofs.Common.{◌≡◌, ℕ, zero, suc, ◌+◌, ◌≤◌, List, ◌∷◌, Some, refl, sym, ◌∙◌, subst, arith}
use Rattle.pairing.specs.Marked.{Entry}
use Rattle.slave_port.specs.History as calls
use Rattle.slave_port.specs.History.{Call, Setup, present_master}
use Rattle.slave_port.specs.Values.{SyncValue, FollowValue}
use Rattle.slave_port.specs.Requests.{requests}
use Rattle.slave_port.specs.Window.{Window}
use Rattle.slave_port.specs.Completion.{SyncCompletion, DelayCompletion}
use Rattle.slave_port.specs.Kept.{Kept, kept, delay_completions, usable_two_step_sync, usable_follow_up}
use Rattle.slave_port.specs.Kept.{sync_completion}
use Rattle.slave_port.specs.Kept.{delay_completion}
use Rattle.event_codec.specs.Reading.{Reading}
use Rattle.event_codec.specs.declared.port.PortIdentity.{PortIdentity}
use Rattle.network_model.specs.Network.{Network, NodeName, PortSetup}
use Rattle.recording_model.specs.Agreement.{Moved}
use Rattle.recording_model.specs.Listening.{draws}
use Rattle.recording_model.proofs.Lines.{Lines, Extends}
use Rattle.recording_model.proofs.Near.{Reach, AreNear, near-brought, near-ticked, near-later}
use Rattle.recording_model.proofs.HeldMessages.{IsHeldSync, IsHeldFollow, held_sync-later, held_follow-later}
use Rattle.recording_model.proofs.HeldMessages.{held_sync-wider, held_follow-wider}
use Rattle.recording_model.proofs.Completions.{IsOneSync, IsOneRequest, one_sync-later, one_request-later}
use Rattle.recording_model.proofs.Requests.{AreRequests, requests-later}

module _ (network : Network) (slave master : NodeName) (moved : Moved) (own other : PortSetup) (identity : PortIdentity)
    (reach : Reach) where
  -- after so many Syncs of the master, of which these are since the last tick, and requests of the slave
  pub record Holds (lines : Lines) (syncs sent slack : ℕ) (setup : Setup) (history : List Call) : Type 0 where
    pub follows_master : present_master history ≡ Some identity
    pub near_syncs : AreNear (IsHeldSync network slave master moved other lines syncs) reach slack (kept setup history).syncs
    pub near_follows : AreNear (IsHeldFollow network slave master moved other lines syncs) reach slack
        (kept setup history).follows
    pub near_completions : AreNear (λ bound. IsOneSync lines slave master) reach slack (kept setup history).completions
    pub near_delays : AreNear (λ bound. IsOneRequest lines slave master) reach slack (delay_completions setup history)
    pub last_requests : AreRequests slave own lines sent (requests setup history)

  -- later, where more lines are told and the master drew no more Syncs than are added
  pub holds-later : (lines more : Lines) (syncs count sent fewer slack grown : ℕ) (setup : Setup) (history : List Call)
      → Extends lines more
      → count + slack ≤ syncs + grown → fewer ≤ sent → Holds lines syncs sent slack setup history
      → Holds more count fewer grown setup history
  holds-later lines more syncs count sent fewer slack grown setup history extends few less holds = record {
    follows_master = holds.follows_master;
    near_syncs = near-later (IsHeldSync network slave master moved other lines syncs)
        (IsHeldSync network slave master moved other more count) reach slack grown
        (kept setup history).syncs
        (λ b e. held_sync-later network slave master moved other lines more syncs count (b + slack) (b + grown) e extends
        (omega arith)) holds.near_syncs;
    near_follows = near-later (IsHeldFollow network slave master moved other lines syncs)
        (IsHeldFollow network slave master moved other more count) reach slack grown
        (kept setup history).follows
        (λ b e. held_follow-later network slave master moved other lines more syncs count (b + slack) (b + grown) e extends
        (omega arith)) holds.near_follows;
    near_completions = near-later (λ bound. IsOneSync lines slave master) (λ bound. IsOneSync more slave master) reach
        slack grown
        (kept setup history).completions (λ b. one_sync-later lines more slave master extends) holds.near_completions;
    near_delays = near-later (λ bound. IsOneRequest lines slave master) (λ bound. IsOneRequest more slave master) reach
        slack grown
        (delay_completions setup history) (λ b. one_request-later lines more slave master extends) holds.near_delays;
    last_requests = requests-later slave own lines more sent fewer (requests setup history) extends less
        holds.last_requests;
  }

  module _ (lines : Lines) (syncs sent slack : ℕ) (setup : Setup) (history : List Call)
      (holds : Holds lines syncs sent slack setup history) where
    pub holds-ticked : slack ≤ reach.between → Holds lines syncs sent 0 setup (calls.Tick ∷ history)
    holds-ticked few = record {
      follows_master = holds.follows_master;
      near_syncs = near-ticked (IsHeldSync network slave master moved other lines syncs) reach
          (held_sync-wider network slave master moved other lines syncs) slack (kept setup history).syncs few
          holds.near_syncs;
      near_follows = near-ticked (IsHeldFollow network slave master moved other lines syncs) reach
          (held_follow-wider network slave master moved other lines syncs) slack (kept setup history).follows few
          holds.near_follows;
      near_completions = near-ticked (λ bound. IsOneSync lines slave master) reach (λ b c e wide one. one) slack
          (kept setup history).completions few
          holds.near_completions;
      near_delays = near-ticked (λ bound. IsOneRequest lines slave master) reach (λ b c e wide one. one) slack
          (delay_completions setup history) few
          holds.near_delays;
      last_requests = holds.last_requests;
    }

    -- a message on the event port
    pub holds-event : (heard : Reading) (t2 tag : ℕ)
        → ((e : Entry SyncValue) → usable_two_step_sync setup history (calls.Event heard t2 tag) ≡ Some e
        → IsHeldSync network slave master moved other lines syncs (reach.late + slack) e)
        → ((e : Entry FollowValue) → usable_follow_up setup history (calls.Event heard t2 tag) ≡ Some e
        → IsHeldFollow network slave master moved other lines syncs (reach.late + slack) e)
        → ((c : SyncCompletion) → sync_completion setup history (calls.Event heard t2 tag) ≡ Some c
        → IsOneSync lines slave master c)
        → ((c : DelayCompletion) → delay_completion setup history (calls.Event heard t2 tag) ≡ Some c
        → IsOneRequest lines slave master c)
        → Holds lines syncs sent slack setup (calls.Event heard t2 tag ∷ history)
    holds-event heard t2 tag sync follow completion delay = record {
      follows_master = holds.follows_master;
      near_syncs = near-brought (IsHeldSync network slave master moved other lines syncs) reach slack
          (usable_two_step_sync setup history (calls.Event heard t2 tag)) (kept setup history).syncs sync
          holds.near_syncs;
      near_follows = near-brought (IsHeldFollow network slave master moved other lines syncs) reach slack
          (usable_follow_up setup history (calls.Event heard t2 tag)) (kept setup history).follows follow
          holds.near_follows;
      near_completions = near-brought (λ bound. IsOneSync lines slave master) reach slack
          (sync_completion setup history (calls.Event heard t2 tag)) (kept setup history).completions completion
          holds.near_completions;
      near_delays = near-brought (λ bound. IsOneRequest lines slave master) reach slack
          (delay_completion setup history (calls.Event heard t2 tag)) (delay_completions setup history) delay
          holds.near_delays;
      last_requests = holds.last_requests;
    }

    -- a message on the general port
    pub holds-general : (heard : Reading) (tag : ℕ)
        → ((e : Entry SyncValue) → usable_two_step_sync setup history (calls.General heard tag) ≡ Some e
        → IsHeldSync network slave master moved other lines syncs (reach.late + slack) e)
        → ((e : Entry FollowValue) → usable_follow_up setup history (calls.General heard tag) ≡ Some e
        → IsHeldFollow network slave master moved other lines syncs (reach.late + slack) e)
        → ((c : SyncCompletion) → sync_completion setup history (calls.General heard tag) ≡ Some c
        → IsOneSync lines slave master c)
        → ((c : DelayCompletion) → delay_completion setup history (calls.General heard tag) ≡ Some c
        → IsOneRequest lines slave master c)
        → Holds lines syncs sent slack setup (calls.General heard tag ∷ history)
    holds-general heard tag sync follow completion delay = record {
      follows_master = holds.follows_master;
      near_syncs = near-brought (IsHeldSync network slave master moved other lines syncs) reach slack
          (usable_two_step_sync setup history (calls.General heard tag)) (kept setup history).syncs sync
          holds.near_syncs;
      near_follows = near-brought (IsHeldFollow network slave master moved other lines syncs) reach slack
          (usable_follow_up setup history (calls.General heard tag)) (kept setup history).follows follow
          holds.near_follows;
      near_completions = near-brought (λ bound. IsOneSync lines slave master) reach slack
          (sync_completion setup history (calls.General heard tag)) (kept setup history).completions completion
          holds.near_completions;
      near_delays = near-brought (λ bound. IsOneRequest lines slave master) reach slack
          (delay_completion setup history (calls.General heard tag)) (delay_completions setup history) delay
          holds.near_delays;
      last_requests = holds.last_requests;
    }

    -- requests that are drawn leave all else as it was, and so does one that departed
    drawn-kept : (count tag : ℕ)
        → (present_master (draws count tag history) ≡ present_master history)
        × (kept setup (draws count tag history) ≡ kept setup history)
        × (delay_completions setup (draws count tag history) ≡ delay_completions setup history)
    drawn-kept zero tag = (refl, refl, refl)
    drawn-kept (suc count) tag = drawn-kept count tag

    pub holds-asked : (count tag number t3 more : ℕ)
        → AreRequests slave own lines more (requests setup (calls.RequestLeft number t3 ∷ draws count tag history))
        → Holds lines syncs more slack setup (calls.RequestLeft number t3 ∷ draws count tag history)
    holds-asked count tag number t3 more asked =
        let same = drawn-kept count tag in
        record {
          follows_master = same.0 ∙ holds.follows_master;
          near_syncs = subst (λ (k : Kept). AreNear (IsHeldSync network slave master moved other lines syncs) reach slack
              k.syncs) (sym same.1) holds.near_syncs;
          near_follows = subst (λ (k : Kept). AreNear (IsHeldFollow network slave master moved other lines syncs) reach slack
              k.follows) (sym same.1)
              holds.near_follows;
          near_completions = subst (λ (k : Kept). AreNear (λ bound. IsOneSync lines slave master) reach slack
              k.completions) (sym same.1)
              holds.near_completions;
          near_delays = subst (λ (d : Window DelayCompletion). AreNear (λ bound. IsOneRequest lines slave master) reach
              slack d) (sym same.2)
              holds.near_delays;
          last_requests = asked;
        }
