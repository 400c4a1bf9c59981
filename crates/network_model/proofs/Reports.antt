-- Each report is of one Sync of the present master, and of one Delay_Req to it: those of its tags.
-- It joins the two completions that the window has, and each of these is of one origin.
use Rattle.std.proofs.Common.{◌≡◌, ◌∙◌, false, ℕ, ◌<◌, ◌≤◌, List, [], ◌∷◌, ◌++◌, Some, refl, sym, ap, subst, arith}
use Rattle.std.specs.Prelude.{slice_get, IfSome}
use Rattle.std.specs.List.{All}
use Rattle.std.proofs.lemmas.List.Elements.{All-head}
use Rattle.slave_port.specs.declared.heard.Report.{Report}
use Rattle.slave_port.specs.declared.heard.Heard.TheVariants as answers
use Rattle.slave_port.specs.History as calls
use Rattle.slave_port.specs.History.{Call, Setup}
use Rattle.slave_port.specs.Completion.{SyncCompletion, DelayCompletion}
use Rattle.slave_port.specs.Kept.{kept, delay_completions, sync_completion, delay_completion, last_sync_completion, last_delay_completion}
use Rattle.slave_port.specs.Answer as slaves
use Rattle.slave_port.specs.Answer.{report_of}
use Rattle.slave_port.proofs.Uses.{report_parts}
use Rattle.network_model.specs.Network.{Network, NodeName, PortSetup}
use Rattle.network_model.specs.Run.{Run, Place, until, tag_of, site_of}
use Rattle.network_model.specs.Kinds.{is_tick, is_set_master}
use Rattle.network_model.specs.Truth.{slave_at}
use Rattle.network_model.specs.SlaveHistory.{slave_setup, history_of}
use Rattle.network_model.specs.Outcome.{IsRun}
use Rattle.network_model.specs.Present.{last_set_master}
use Rattle.network_model.specs.Premises.{whichever, exact_limits, IsFreshAndTicked, IsFreshAndTickedFor, IsWithinTurn}
use Rattle.network_model.specs.Reported.{Reports}
use Rattle.network_model.specs.Exact.{IsOfOneSync, IsOfOneRequest}
use Rattle.network_model.specs.Headline.{EachReportIsOfOneSync, EachReportIsOfOneRequest}
use Rattle.network_model.proofs.Sites.{named-self}
use Rattle.network_model.proofs.Calls.{history-here, ticks, sets, call_kind}
use Rattle.network_model.proofs.Windows.{CameFrom}
use Rattle.network_model.proofs.Masters.{last_set_master-since}
use Rattle.network_model.proofs.Pairing.{NumbersMeet, meet_for, meet-fresh_ticked, meet-one_turn}
use Rattle.network_model.proofs.HeldMessages.{completions_came, delay_completions_came}
use Rattle.network_model.proofs.OneSync.{IsOneSync, one_sync}
use Rattle.network_model.proofs.OneRequest.{IsOneRequest, one_request}
use Rattle.network_model.proofs.Answers.{answered_by}

-- the last of a window is one of it
pub first_of : {E : Type 0} (P : E → Type 0) (es : List E) (e : E) → All P es → slice_get es 0 ≡ Some e → P e
first_of P [] e all is = cc
first_of P (first ∷ others) e all is = let same : first ≡ e = cc in subst P same (All-head P first others all)

-- the two completions that a report is made of, and where they came
pub record IsMadeOf (network : Network) (run : Run) (slave : NodeName) (report : Report) : Type 0 where
  pub port : PortSetup
  pub slave_is : slave_at network slave ≡ Some port
  pub sync : SyncCompletion
  pub delay : DelayCompletion
  pub sync_is : CameFrom network port slave (sync_completion (slave_setup port)) 1 run sync
  pub delay_is : CameFrom network port slave (delay_completion (slave_setup port)) 1 run delay
  pub is : report ≡ report_of sync delay
  pub last : last_sync_completion (slave_setup port) (history_of network port slave run) ≡ Some sync

-- what is reported is told by a call that is neither a tick nor a set_master
hearing_reports : (setup : Setup) (history : List Call) (call : Call) (report : Report) → answers.Report report ≡ slaves.answer setup history call
    → (ticks call ≡ false) × (sets call ≡ false)
hearing_reports setup history (calls.SetMaster master) report is = cc
hearing_reports setup history calls.Tick report is = cc
hearing_reports setup history (calls.NextRequest tag) report is = (refl, refl)
hearing_reports setup history (calls.RequestLeft number t3) report is = (refl, refl)
hearing_reports setup history (calls.Event m t2 tag) report is = (refl, refl)
hearing_reports setup history (calls.General m tag) report is = (refl, refl)

-- an event that answers a report is neither a Tick nor a SetMaster
pub report_event : (network : Network) (answered : Place) (report : Report) → Reports network answered report
    → (is_tick answered.event ≡ false) × (is_set_master answered.event ≡ false)
report_event network answered report reports =
    let by = answered_by network answered.earlier (answers.Report report) answered.event reports in
    let kind = call_kind network by.port answered.event answered.earlier by.call by.made in
    let heard = hearing_reports (slave_setup by.port) (history_of network by.port (site_of answered.event) answered.earlier) by.call report by.is in
    (kind.0 ∙ heard.0, kind.1 ∙ heard.1)

pub made_of : (network : Network) (answered : Place) (report : Report) → IsRun network (until answered) → Reports network answered report
    → IsMadeOf network (until answered) (site_of answered.event) report
made_of network answered report accepted reports =
    let by = answered_by network answered.earlier (answers.Report report) answered.event reports in
    let slave : NodeName = site_of answered.event in
    let history : List Call = history_of network by.port slave answered.earlier in
    let parts = report_parts (slave_setup by.port) history by.call report (sym by.is) in
    let longer : history_of network by.port slave (until answered) ≡ by.call ∷ history =
    history-here network by.port slave answered.event answered.earlier (Some by.call) (named-self slave) by.made in
    record {
      port = by.port;
      slave_is = by.slave;
      sync = parts.0;
      delay = parts.1;
      sync_is = first_of (CameFrom network by.port slave (sync_completion (slave_setup by.port)) 1 (until answered))
          ((kept (slave_setup by.port) (history_of network by.port slave (until answered))).completions.since
          ++ (kept (slave_setup by.port) (history_of network by.port slave (until answered))).completions.before)
          parts.0 (completions_came network by.port slave by.slave (until answered) accepted)
          (ap (last_sync_completion (slave_setup by.port)) longer ∙ parts.2);
      delay_is = first_of (CameFrom network by.port slave (delay_completion (slave_setup by.port)) 1 (until answered))
          ((delay_completions (slave_setup by.port) (history_of network by.port slave (until answered))).since
          ++ (delay_completions (slave_setup by.port) (history_of network by.port slave (until answered))).before)
          parts.1 (delay_completions_came network by.port slave by.slave (until answered) accepted)
          (ap (last_delay_completion (slave_setup by.port)) longer ∙ parts.3);
      is = parts.4;
      last = ap (last_sync_completion (slave_setup by.port)) longer ∙ parts.2;
    }

module _ (reach : ℕ) (fits : reach ≤ 65536) (network : Network) (answered : Place) (report : Report) (meet : NumbersMeet reach network (site_of answered.event) (until answered))
    (reports : Reports network answered report) where
  made : IsMadeOf network (until answered) (site_of answered.event) report
  made = made_of network answered report meet.accepted reports

  sync : IsOneSync network (site_of answered.event) (until answered) made.sync_is.p made.sync
  sync = one_sync reach fits network made.port (site_of answered.event) made.slave_is (until answered) meet made.sync_is.p made.sync_is.there made.sync_is.site made.sync_is.call
      made.sync_is.made made.sync made.sync_is.brought

  request : IsOneRequest network (site_of answered.event) (until answered) made.delay_is.p made.delay
  request = one_request reach fits network made.port (site_of answered.event) made.slave_is (until answered) meet made.delay_is.p made.delay_is.there made.delay_is.site made.delay_is.call
      made.delay_is.made made.delay made.delay_is.brought

  -- both completions came under the present SetMaster
  sync_set : last_set_master (site_of answered.event) (until answered) ≡ Some sync.told.set
  sync_set = last_set_master-since (site_of answered.event) (until answered) made.sync_is.p made.sync_is.there sync.unset made.sync_is.no_master ∙ sync.told.last

  request_set : last_set_master (site_of answered.event) (until answered) ≡ Some request.told.set
  request_set = last_set_master-since (site_of answered.event) (until answered) made.delay_is.p made.delay_is.there request.unset made.delay_is.no_master ∙ request.told.last

  one_set : sync.told.set ≡ request.told.set
  one_set = let both : Some sync.told.set ≡ Some request.told.set = sym sync_set ∙ request_set in cc

  -- of one Sync
  pub is_of_one_sync : IsOfOneSync (until answered) (site_of answered.event) report
  is_of_one_sync = subst (IsOfOneSync (until answered) (site_of answered.event)) (sym made.is) (record {
    master = sync.told.master;
    arrival = sync.arrival;
    journey = sync.journey;
    present = record {
      set = sync.told.set;
      last = sync_set;
      named = sync.told.named;
      later = record {
        sync = sync.later_sync;
        follow = sync.later_follow;
        request = subst (λ (s : Place). tag_of s < made.delay.request_tag) (sym one_set) request.later_request;
        response = subst (λ (s : Place). tag_of s < made.delay.response_tag) (sym one_set) request.later_response;
      };
    };
    sync = record { arrives = sync.arrives; departure = sync.departure };
  })

  -- of one Delay_Req
  pub is_of_one_request : IsOfOneRequest (until answered) (site_of answered.event) report
  is_of_one_request = subst (IsOfOneRequest (until answered) (site_of answered.event)) (sym made.is) (record {
    master = request.told.master;
    arrival = request.arrival;
    journey = request.journey;
    present = record {
      set = request.told.set;
      last = request_set;
      named = request.told.named;
      later = record {
        sync = subst (λ (s : Place). tag_of s < made.sync.sync_tag) one_set sync.later_sync;
        follow = subst (λ (s : Place). IfSome made.sync.follow_tag (λ tag. tag_of s < tag)) one_set sync.later_follow;
        request = request.later_request;
        response = request.later_response;
      };
    };
    request = record { requested = request.requested; drawn = request.drawn; hears = request.hears; arrives = request.arrives };
  })

-- in runs that are fresh and ticked for the slave
pub each_of_one_sync-slave : EachReportIsOfOneSync (IsFreshAndTickedFor exact_limits)
each_of_one_sync-slave network answered report premise reports =
    is_of_one_sync 65536 (omega arith) network answered report (meet_for exact_limits network (site_of answered.event) (until answered) premise) reports

pub each_of_one_request-slave : EachReportIsOfOneRequest (IsFreshAndTickedFor exact_limits)
each_of_one_request-slave network answered report premise reports =
    is_of_one_request 65536 (omega arith) network answered report (meet_for exact_limits network (site_of answered.event) (until answered) premise) reports

-- in runs that are fresh and ticked
pub each_of_one_sync : EachReportIsOfOneSync (whichever (IsFreshAndTicked exact_limits))
each_of_one_sync network answered report premise reports =
    is_of_one_sync 65536 (omega arith) network answered report (meet-fresh_ticked exact_limits network (site_of answered.event) (until answered) premise) reports

pub each_of_one_request : EachReportIsOfOneRequest (whichever (IsFreshAndTicked exact_limits))
each_of_one_request network answered report premise reports =
    is_of_one_request 65536 (omega arith) network answered report (meet-fresh_ticked exact_limits network (site_of answered.event) (until answered) premise) reports

-- in runs within one turn of the numbers
pub each_of_one_sync-one_turn : EachReportIsOfOneSync (whichever IsWithinTurn)
each_of_one_sync-one_turn network answered report premise reports =
    is_of_one_sync 65536 (omega arith) network answered report (meet-one_turn network (site_of answered.event) (until answered) premise) reports

pub each_of_one_request-one_turn : EachReportIsOfOneRequest (whichever IsWithinTurn)
each_of_one_request-one_turn network answered report premise reports =
    is_of_one_request 65536 (omega arith) network answered report (meet-one_turn network (site_of answered.event) (until answered) premise) reports
