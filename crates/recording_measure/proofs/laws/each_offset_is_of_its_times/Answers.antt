use Rattle.std.proofs.Common.{◌∙◌, pos, ap}
use Rattle.slave_port.specs.Exchange.{delay_bracket_of}
use Rattle.ptp_units.specs.Exchange.{offset2, path2}
use Rattle.recording_measure.proofs.Ways.{same_way}
use Rattle.recording_measure.proofs.laws.each_offset_is_of_its_times.Goals as goal

pub returns : goal.returns
returns c = λ x report is.
    let way = same_way (pos x.t1) (pos x.t2) x.follow_correction x.sync_correction in (
      is.offset2 ∙ ap (λ a. offset2 a (delay_bracket_of x)) way,
      is.path2 ∙ ap (λ a. path2 a (delay_bracket_of x)) way,
    )
