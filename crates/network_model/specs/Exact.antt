-- When a report is exact: of one Sync and one Delay_Req, and twice the standard's two results (IEEE 1588-2019, 11.2,
-- 11.3).
use Rattle.std.specs.Prelude.{◌≡◌, ℕ, ◌<◌, ℤ, pos, ◌-ℤ◌, Option, Some, None, IfSome, IsTrue}
use Rattle.ptp_units.specs.Exchange.{offset2, path2}
use Rattle.slave_port.specs.declared.heard.Report.{Report}
use Rattle.network_model.specs.declared.event.Event.TheVariants.{Follow, Arrive, Hear}
use Rattle.network_model.specs.Network.{NodeName}
use Rattle.network_model.specs.Run.{Run, Place, place_at, tag_of}
use Rattle.network_model.specs.Kinds.{is_at, is_sync, is_one_step_sync, is_request, named_master}
use Rattle.network_model.specs.Clock.{shown_at}
use Rattle.network_model.specs.Numbering.{waiting_sync}
use Rattle.network_model.specs.Journey.{Journey, journey_of, residence}
use Rattle.network_model.specs.Present.{last_set_master}

-- the event of this tag is the arrival at a node of a copy that made this journey
pub record Arrives (run : Run) (tag : ℕ) (node : NodeName) (arrival : Place) (journey : Journey) : Type 0 where
  pub copy : ℕ
  pub moment : ℕ
  pub there : place_at run tag ≡ Some arrival
  pub event : arrival.event ≡ Arrive node copy moment
  pub journey_is : journey_of arrival.earlier copy ≡ Some journey

-- the event of this tag is the hearing at a node of the copy that an event made
pub record HearsOf (run : Run) (tag : ℕ) (node : NodeName) (made : Place) : Type 0 where
  pub hearing : Place
  pub copy : ℕ
  pub there : place_at run tag ≡ Some hearing
  pub event : hearing.event ≡ Hear node copy
  pub made_by : place_at hearing.earlier copy ≡ Some made

-- all tags that a report has are later than an event
pub record AreLater (set : Place) (report : Report) : Type 0 where
  pub sync : tag_of set < report.sync_tag
  pub follow : IfSome report.follow_tag (λ tag. tag_of set < tag)
  pub request : tag_of set < report.request_tag
  pub response : tag_of set < report.response_tag

-- the present master of a slave, and that all tags of a report are later than the SetMaster that named it
pub record OfPresentMaster (run : Run) (slave master : NodeName) (report : Report) : Type 0 where
  pub set : Place
  pub last : last_set_master slave run ≡ Some set
  pub named : named_master set.event ≡ Some master
  pub later : AreLater set report

-- the event of this tag is the hearing of the Follow_Up of the two-step Sync that an event of the master drew
pub record HearsFollowUp (run : Run) (slave master : NodeName) (tag : ℕ) (origin : Place) : Type 0 where
  pub drawn : IsTrue (is_at is_sync master origin.event)
  pub follow : Place
  pub hears : HearsOf run tag slave follow
  pub follows : follow.event ≡ Follow master
  pub followed : waiting_sync master follow.earlier ≡ Some origin

-- How a slave learns when a Sync of the master left: the Follow_Up of that same Sync is the one of this tag, or there
-- is no such tag and the Sync is a one-step one.
abbrev pub LearnsDeparture : Run → (slave master : NodeName) → Option ℕ → Place → Type 0
LearnsDeparture run slave master None origin = IsTrue (is_at is_one_step_sync master origin.event)
LearnsDeparture run slave master (Some tag) origin = HearsFollowUp run slave master tag origin

-- The report's Sync is one Sync of the master: its copy arrived after this journey, and the report's Follow_Up, if it
-- has one, is that of the same Sync.
pub record OfOneSync (run : Run) (slave master : NodeName) (report : Report) (arrival : Place) (journey : Journey) : Type 0 where
  pub arrives : Arrives run report.sync_tag slave arrival journey
  pub departure : LearnsDeparture run slave master report.follow_tag journey.origin

-- The report's request and Delay_Resp are of one Request event of the slave: a copy of its Delay_Req arrived at the
-- master after this journey, and the Delay_Resp is the one that this arrival made.
pub record OfOneRequest (run : Run) (slave master : NodeName) (report : Report) (arrival : Place) (journey : Journey) : Type 0 where
  pub requested : place_at run report.request_tag ≡ Some journey.origin
  pub drawn : IsTrue (is_at is_request slave journey.origin.event)
  pub hears : HearsOf run report.response_tag slave arrival
  pub arrives : Arrives run (tag_of arrival) master arrival journey

-- reading at the arrival, less reading at the departure, less the residence, as whole numbers
pub record IsBracketOf (arrival : Place) (journey : Journey) (bracket : ℤ) : Type 0 where
  pub arrived : ℤ
  pub left : ℤ
  pub arrival_shown : shown_at arrival ≡ Some arrived
  pub departure_shown : shown_at journey.origin ≡ Some left
  pub value : bracket ≡ (arrived -ℤ left) -ℤ pos (residence journey)

-- exactly twice offsetFromMaster and meanPathDelay over these journeys
pub record IsTwice (sync_arrival : Place) (sync : Journey) (request_arrival : Place) (request : Journey) (report : Report) : Type 0 where
  pub a : ℤ
  pub b : ℤ
  pub of_sync : IsBracketOf sync_arrival sync a
  pub of_request : IsBracketOf request_arrival request b
  pub offset : report.offset2 ≡ offset2 a b
  pub path : report.path2 ≡ path2 a b

-- a report is of one Sync of the slave's present master
pub record IsOfOneSync (run : Run) (slave : NodeName) (report : Report) : Type 0 where
  pub master : NodeName
  pub arrival : Place
  pub journey : Journey
  pub present : OfPresentMaster run slave master report
  pub sync : OfOneSync run slave master report arrival journey

-- a report is of one Delay_Req to the slave's present master
pub record IsOfOneRequest (run : Run) (slave : NodeName) (report : Report) : Type 0 where
  pub master : NodeName
  pub arrival : Place
  pub journey : Journey
  pub present : OfPresentMaster run slave master report
  pub request : OfOneRequest run slave master report arrival journey

-- a report is of one Sync and one Delay_Req, and exactly twice the two results over them
pub record IsMeasurement (run : Run) (slave : NodeName) (report : Report) : Type 0 where
  pub one_sync : IsOfOneSync run slave report
  pub one_request : IsOfOneRequest run slave report
  pub exact : IsTwice one_sync.arrival one_sync.journey one_request.arrival one_request.journey report
