-- A report of a listening port joins a completion of a Sync and one of a request, each of events that lines tell. So it
-- is exact.
use Rattle.std.proofs.Common.{◌≡◌, ℕ, List, ◌∷◌, Option, Some, None, refl, sym, ap, subst, option_map}
use Rattle.slave_port.specs.declared.heard.Report.{Report}
use Rattle.slave_port.specs.declared.heard.Heard.TheVariants as answers
use Rattle.slave_port.specs.History.{Call, Setup}
use Rattle.slave_port.specs.Completion.{SyncCompletion, DelayCompletion, bracket_of_sync, bracket_of_delay}
use Rattle.slave_port.specs.Kept.{kept, delay_completions}
use Rattle.slave_port.specs.Answer.{answer, report_of}
use Rattle.slave_port.proofs.Uses.{report_parts}
use Rattle.network_model.specs.Network.{Network, NodeName, PortSetup}
use Rattle.network_model.specs.Run.{Run, Place, tag_of}
use Rattle.network_model.specs.Exact.{LearnsDeparture}
use Rattle.network_model.proofs.Places.{IsIn-within, IsIn-place_at}
use Rattle.event_codec.specs.declared.port.PortIdentity.{PortIdentity}
use Rattle.recording_model.specs.Recorded.{Recorded}
use Rattle.recording_model.specs.declared.watched.Watched.{Watched}
use Rattle.recording_model.specs.Agreement.{Moved}
use Rattle.recording_model.specs.Told.{Tells, event_told}
use Rattle.recording_model.specs.Exact.{IsExact, TellsTags}
use Rattle.recording_model.proofs.Lines.{Lines, Extends, told-in}
use Rattle.recording_model.proofs.Near.{Reach, near-last}
use Rattle.recording_model.proofs.Completions.{IsLearnt, IsOneSync, IsOneRequest, one_sync-later, one_request-later}
use Rattle.recording_model.proofs.Holding.{Holds}

-- the two completions that a report is made of
pub record IsMadeOf (lines : Lines) (slave master : NodeName) (report : Report) : Type 0 where
  pub sync : SyncCompletion
  pub delay : DelayCompletion
  pub one_sync : IsOneSync lines slave master sync
  pub one_request : IsOneRequest lines slave master delay
  pub is : report ≡ report_of sync delay

pub made-later : (lines more : Lines) (slave master : NodeName) → Extends lines more → (report : Report)
    → IsMadeOf lines slave master report
    → IsMadeOf more slave master report
made-later lines more slave master extends report made = record {
  sync = made.sync;
  delay = made.delay;
  one_sync = one_sync-later lines more slave master extends made.sync made.one_sync;
  one_request = one_request-later lines more slave master extends made.delay made.one_request;
  is = made.is;
}

-- a report that a port answers
pub made_of : (network : Network) (slave master : NodeName) (moved : Moved) (own other : PortSetup) (identity : PortIdentity)
    (reach : Reach) (lines : Lines)
    (syncs sent slack : ℕ) (setup : Setup) (history : List Call) (call : Call) (report : Report)
    → Holds network slave master moved own other identity reach lines syncs sent slack setup (call ∷ history)
    → answer setup history call ≡ answers.Report report → IsMadeOf lines slave master report
made_of network slave master moved own other identity reach lines syncs sent slack setup history call report holds is =
    let parts = report_parts setup history call report is in
    record {
      sync = parts.0;
      delay = parts.1;
      one_sync = near-last (λ bound. IsOneSync lines slave master) reach (λ b c e wide one. one) slack
          (kept setup (call ∷ history)).completions parts.0
          holds.near_completions parts.2;
      one_request = near-last (λ bound. IsOneRequest lines slave master) reach (λ b c e wide one. one) slack
          (delay_completions setup (call ∷ history)) parts.1
          holds.near_delays parts.3;
      is = parts.4;
    }

-- the tag of the Follow_Up that a line tells
abbrev follow_tag : (lines : Lines) (slave master : NodeName) (origin : Place) (line : Option ℕ)
    → IsLearnt lines slave master line origin → Option ℕ
follow_tag lines slave master origin None learnt = None
follow_tag lines slave master origin (Some line) learnt = Some (tag_of learnt.hearing)

module _ (network : Network) (slave master : NodeName) {w : Watched} {moved : Moved} {run : Run}
    {ds : List Recorded} (tells : Tells network slave w moved run ds) where
  tells_follow : (line : Option ℕ) (origin : Place) (learnt : IsLearnt (event_told tells) slave master line origin)
      → TellsTags tells line (follow_tag (event_told tells) slave master origin line learnt)
  tells_follow None origin learnt = refl
  tells_follow (Some line) origin learnt = (tag_of learnt.hearing, ap (option_map tag_of) learnt.told, refl)

  learns : (line : Option ℕ) (origin : Place) (learnt : IsLearnt (event_told tells) slave master line origin)
      → LearnsDeparture run slave master (follow_tag (event_told tells) slave master origin line learnt) origin
  learns None origin learnt = learnt
  learns (Some line) origin learnt = record {
    drawn = learnt.drawn;
    follow = learnt.follow;
    hears = record {
      hearing = learnt.hearing;
      copy = learnt.copy;
      there = told-in network slave tells line learnt.hearing learnt.told;
      event = learnt.event;
      made_by = learnt.made_by;
    };
    follows = learnt.follows;
    followed = learnt.followed;
  }

  -- it is exact for the events that the lines tell
  pub exact_of : (report : Report) → IsMadeOf (event_told tells) slave master report → IsExact master tells report
  exact_of report made = subst (IsExact master tells) (sym made.is) (
      let sync = made.one_sync in
      let request = made.one_request in
      let tag : Option ℕ = follow_tag (event_told tells) slave master sync.journey.origin made.sync.follow_tag
      sync.learnt in
      let hearing_there = told-in network slave tells made.delay.response_tag request.hearing request.told in
      record {
        told = record {
          offset2 = (report_of made.sync made.delay).offset2;
          path2 = (report_of made.sync made.delay).path2;
          sync_tag = tag_of sync.arrival;
          follow_tag = tag;
          request_tag = tag_of request.journey.origin;
          response_tag = tag_of request.hearing;
        };
        events = record {
          offset = refl;
          path = refl;
          sync = ap (option_map tag_of) sync.told;
          follow = tells_follow made.sync.follow_tag sync.journey.origin sync.learnt;
          request = ap (option_map tag_of) request.requested;
          response = ap (option_map tag_of) request.told;
        };
        sync_arrival = sync.arrival;
        sync = sync.journey;
        of_sync = record {
          arrives = record {
            copy = sync.copy;
            moment = sync.moment;
            there = told-in network slave tells made.sync.sync_tag sync.arrival sync.told;
            event = sync.event;
            journey_is = sync.journey_is;
          };
          departure = learns made.sync.follow_tag sync.journey.origin sync.learnt;
        };
        request_arrival = request.arrival;
        request = request.journey;
        of_request = record {
          requested = told-in network slave tells made.delay.request_tag request.journey.origin request.requested;
          drawn = request.drawn;
          hears = record {
            hearing = request.hearing;
            copy = request.copy;
            there = hearing_there;
            event = request.event;
            made_by = request.made_by;
          };
          arrives = record {
            copy = request.asked;
            moment = request.moment;
            there = IsIn-within run request.hearing request.arrival hearing_there
                (IsIn-place_at request.hearing.earlier request.copy request.arrival request.made_by);
            event = request.arrives;
            journey_is = request.journey_is;
          };
        };
        exact = record {
          a = bracket_of_sync made.sync;
          b = bracket_of_delay made.delay;
          of_sync = sync.bracket;
          of_request = request.bracket;
          offset = refl;
          path = refl;
        };
      })
