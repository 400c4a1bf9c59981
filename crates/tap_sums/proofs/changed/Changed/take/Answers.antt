use Rattle.std.proofs.Common.{◌∙◌, refl}
use Rattle.tap_crossing.specs.Changes.{is_any}
use Rattle.statistics.proofs.Counts.{count_more}
use Rattle.tap_sums.proofs.changed.Changed.take.Goals as goal

pub returns : goal.returns
returns c = λ earlier at.
    let x = c.args.changes.now in
    record {
      messages = c.count_if-self.ensures ∙ count_more is_any x earlier _ _ c.is_any.ensures at.messages;
      sdo = c.count_if-self-2.ensures ∙ count_more (λ it. it.sdo) x earlier _ _ refl at.sdo;
      minor_version = c.count_if-self-3.ensures ∙ count_more (λ it. it.minor_version) x earlier _ _ refl at.minor_version;
      flags = c.count_if-self-4.ensures ∙ count_more (λ it. it.flags) x earlier _ _ refl at.flags;
      specific = c.count_if-self-5.ensures ∙ count_more (λ it. it.specific) x earlier _ _ refl at.specific;
      control = c.count_if-self-6.ensures ∙ count_more (λ it. it.control) x earlier _ _ refl at.control;
      log = c.count_if-self-7.ensures ∙ count_more (λ it. it.log) x earlier _ _ refl at.log;
      timestamp = c.count_if-self-8.ensures ∙ count_more (λ it. it.timestamp) x earlier _ _ refl at.timestamp;
    }
