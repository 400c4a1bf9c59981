use Rattle.std.proofs.Common.{◌≡◌, ◌∷◌, List, subst}
use Rattle.trace_model.specs.declared.verdict.Why.{Why}
use Rattle.explain_story.specs.Counts.{counts_of, is_by_readings, is_octets_alone, is_sound}
use Rattle.explain_story.specs.Inner.Tally.{counts_in}
use Rattle.explain_story.specs.declared.tally.Tally.{Tally}
use Rattle.explain_story.proofs.Counted.{IsAfter, counted_by, counts_more}
use Rattle.explain_story.proofs.tally.Tally.count.Goals as goal

pub returns : goal.returns
returns c =
    let new : Tally = record {
      reports = c.saturating_add-self.result;
      sound = c.more-self.result;
      octets_alone = c.more-self-2.result;
      by_messages = c.more-self-3.result;
      by_readings = c.more-self-4.result;
      failing = c.after-self.result;
    } in
    let after : IsAfter c.as_slice-whys.result.now c.args.self.now new = record {
      reports = c.saturating_add-self.ensures;
      sound = counted_by c.is_sound.result (is_sound c.as_slice-whys.result.now) c.args.self.now.sound c.more-self.result
          c.more-self.ensures c.is_sound.ensures;
      octets_alone = counted_by c.is_octets_alone.result (is_octets_alone c.as_slice-whys.result.now) c.args.self.now.octets_alone
          c.more-self-2.result c.more-self-2.ensures c.is_octets_alone.ensures;
      by_readings = counted_by c.is_by_readings.result (is_by_readings c.as_slice-whys.result.now) c.args.self.now.by_readings
          c.more-self-4.result c.more-self-4.ensures c.is_by_readings.ensures;
      failing = c.after-self.ensures;
    } in
    λ reports is.
    subst (λ (whys : List Why). counts_in new ≡ counts_of (whys ∷ reports)) c.as_slice-whys.ensures
    (counts_more c.args.self.now new c.as_slice-whys.result.now reports after is)
