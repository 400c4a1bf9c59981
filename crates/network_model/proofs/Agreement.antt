-- In a level network both paths of a report take one time, so its offset is the true difference of the two clocks, and two
-- slaves of one master agree.
use Rattle.std.proofs.Common.{◌≡◌, ◌∙◌, ℕ, ℤ, pos, ◌+ℤ◌, ◌-ℤ◌, List, Some, sym, ap, subst, arith, reverse, option_map, option_and_then}
use Rattle.std.proofs.lemmas.Int.{ints}
use Rattle.slave_port.specs.declared.heard.Report.{Report}
use Rattle.slave_port.proofs.Options.{some_step, some_image}
use Rattle.network_model.specs.Network.{Network, NodeName}
use Rattle.network_model.specs.Run.{Run, Place, place_at, IsIn}
use Rattle.network_model.specs.Kinds.{timed_copy, heard_copy}
use Rattle.network_model.specs.Clock.{difference}
use Rattle.network_model.specs.Journey.{Journey, journey_of}
use Rattle.network_model.specs.Outcome.{IsRun}
use Rattle.network_model.specs.Present.{present_master}
use Rattle.network_model.specs.Premises.{exact_limits, IsFreshAndTickedFor}
use Rattle.network_model.specs.Reported.{ReportedIn}
use Rattle.network_model.specs.Level.{Crossing, crossings_of, path_to, maker_heard, sync_path, request_path, time_on, IsLevelFor}
use Rattle.network_model.specs.TrueTime.{twice, KnowsMaster, TellsTrueTime}
use Rattle.network_model.proofs.Places.{IsIn-place_at, IsIn-within}
use Rattle.network_model.proofs.Even.{AreCrossings, zipped, time-reverse, crossings-reverse, path_in}
use Rattle.network_model.proofs.TrueTime.{error_is_asymmetry}

-- a path is made of crossings of the run
path_crosses : (network : Network) (run : Run) (p : Place) (path : List Crossing) → IsRun network run → IsIn run p → path_to p ≡ Some path → AreCrossings run path
path_crosses network run p path accepted there is =
    let copy = some_step (λ (copy : ℕ). option_map (λ (journey : Journey). crossings_of journey.origin journey.stays p) (journey_of p.earlier copy)) (timed_copy p.event) is in
    let journey = some_image (λ (journey : Journey). crossings_of journey.origin journey.stays p) (journey_of p.earlier copy.0) copy.2 in
    subst (AreCrossings run) journey.2 (path_in network run accepted journey.0.origin journey.0.stays p copy.0 there copy.1 journey.1)

sync_crosses : (network : Network) (run : Run) (report : Report) (path : List Crossing) → IsRun network run → sync_path run report ≡ Some path → AreCrossings run path
sync_crosses network run report path accepted is =
    let p = some_step path_to (place_at run report.sync_tag) is in path_crosses network run p.0 path accepted (IsIn-place_at run report.sync_tag p.0 p.1) p.2

request_crosses : (network : Network) (run : Run) (report : Report) (path : List Crossing) → IsRun network run → request_path run report ≡ Some path → AreCrossings run path
request_crosses network run report path accepted is =
    let p = some_step path_to (option_and_then maker_heard (place_at run report.response_tag)) is in
    let hearing = some_step maker_heard (place_at run report.response_tag) p.1 in
    let copy = some_step (place_at hearing.0.earlier) (heard_copy hearing.0.event) hearing.2 in
    path_crosses network run p.0 path accepted
    (IsIn-within run hearing.0 p.0 (IsIn-place_at run report.response_tag hearing.0 hearing.1) (IsIn-place_at hearing.0.earlier copy.0 p.0 copy.2)) p.2

even_paths : (network : Network) (run : Run) (report : Report) → IsRun network run → (level : IsLevelFor run report) → time_on level.there ≡ time_on level.back
even_paths network run report accepted level =
    let there = sync_crosses network run report level.there accepted level.sync in
    let back = request_crosses network run report level.back accepted level.request in
    sym (zipped run level.back (reverse level.there) level.even back (crossings-reverse run level.there there) level.goes_back ∙ time-reverse level.there)

-- one slave knows the master's clock
knows_master : (network : Network) (run : Run) (slave master : NodeName) (report : Report) (moment : ℕ) → IsFreshAndTickedFor exact_limits network slave run
    → (reported : ReportedIn network run slave report) → present_master slave reported.answered.earlier ≡ Some master → IsLevelFor run report → KnowsMaster run slave master report moment
knows_master network run slave master report moment premise reported present level =
    let error = error_is_asymmetry network run slave master report premise level.steady reported present in
    let even = even_paths network run report premise.accepted level in
    let theres : Some error.there ≡ Some level.there = sym error.sync ∙ level.sync in
    let backs : Some error.back ≡ Some level.back = sym error.request ∙ level.request in
    let there : time_on error.there ≡ time_on level.there = ap time_on (let same : error.there ≡ level.there = cc in same) in
    let back : time_on error.back ≡ time_on level.back = ap time_on (let same : error.back ≡ level.back = cc in same) in
    known report.offset2 (difference slave run) (difference master run) (time_on error.there) (time_on error.back) (pos moment) error.offset (there ∙ even ∙ sym back)
  where
    known : (offset s m x y t : ℤ) → offset ≡ twice (s -ℤ m) +ℤ (x -ℤ y) → x ≡ y → twice (t +ℤ s) -ℤ offset ≡ twice (t +ℤ m)
    known offset s m x y t e f = omega (arith, ints)

-- in runs that are fresh and ticked for the slaves that report
pub tells_true_time : TellsTrueTime
tells_true_time = record {
  error = error_is_asymmetry;
  even = λ network run slave report premise reported level. even_paths network run report premise.accepted level;
  agreement = λ network run one other master first second moment premise premise_too reported reported_too present present_too level level_too. (
    knows_master network run one master first moment premise reported present level,
    knows_master network run other master second moment premise_too reported_too present_too level_too,
  );
}
