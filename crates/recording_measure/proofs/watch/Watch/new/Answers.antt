use Rattle.std.proofs.Common.{◌∙◌, [], sym, None}
use Rattle.std.specs.Option.{option_or}
use Rattle.recording_measure.specs.Summary.{asked_for}
use Rattle.recording_measure.proofs.Told.{or-none, or-nothing}
use Rattle.recording_measure.proofs.Watches.{IsWatch-knows, nothing_in}
use Rattle.recording_measure.proofs.watch.Watch.new.Goals as goal

pub returns : goal.returns
returns c =
    let w = c.args.wanted.now in
    IsWatch-knows w [] _ (record {
      domain = c.asked-3.ensures ∙ sym (or-none (asked_for w.domain));
      master = c.asked-2.ensures ∙ sym (or-nothing (asked_for w.master) (option_or w.domain None));
      slave = c.asked.ensures ∙ sym (or-nothing (asked_for w.slave) (option_or w.domain None));
      requests = nothing_in;
    })
