use Rattle.std.proofs.Common.{refl}
use Rattle.recording_summary.proofs.Meetings.{no_firsts, no_others}
use Rattle.recording_summary.proofs.others.Others.new.Goals as goal

pub returns : goal.returns
returns c = no_others _ c.new.ensures c.new-2.ensures refl (record { last = refl; newcomer = refl })
    (record { firsts = no_firsts _ refl refl refl refl; least = refl; greatest = refl }) c.new-3.ensures
