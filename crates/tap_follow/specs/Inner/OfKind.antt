-- What is held of one kind.
use Rattle.tap_crossing.specs.declared.sighting.Kind.{Kind}
use Rattle.tap_crossing.specs.declared.sighting.Kind.TheVariants as kinds
use Rattle.tap_sums.specs.declared.untold.Untold.{Untold}
use Rattle.tap_follow.specs.Held.{Held}

-- of how many records of the kind nothing is told
abbrev pub untold_of : Kind → Held → Untold
untold_of kinds.Sync held = held.untold_syncs
untold_of kinds.DelayReq held = held.untold_requests
