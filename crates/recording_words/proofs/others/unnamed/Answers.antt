use Rattle.std.proofs.Common.{◌∙◌, sym, ap, take, arith, get_or, length}
use Rattle.std.proofs.lemmas.List.{length_push}
use Rattle.recording_words.specs.Others.{lowest}
use Rattle.recording_words.proofs.Listing.{lowest-more_yes, lowest-more_no, unnamed-more_yes, unnamed-more_no}
use Rattle.recording_words.proofs.others.unnamed.Goals as goal
use Rattle.recording_words.proofs.others.unnamed.Goals.{then-is_named, else-is_named}

pub loop-count-preserved : goal.loop-count-preserved
loop-count-preserved c =
    let all = c.args.counts.now in
    let at = c.loop-count.count-index in
    let so_far = c.loop-count.invariant in
    elim c.if-is_named.branch [
      | then-is_named w ↦
          let names = sym c.is_named.ensures ∙ w.if-is_named.true in
          let more = lowest-more_yes all at _ (omega arith) so_far.count names in
          record {
            count = omega (arith, length_push (lowest (take at all)) (at, get_or all at 0), ap length more);
            rest = w.rest-is ∙ (so_far.rest ∙ unnamed-more_yes all at _ (omega arith) so_far.count names);
          }
      | else-is_named w ↦
          let names = sym c.is_named.ensures ∙ w.if-is_named.false in
          let more = lowest-more_no all at _ (omega arith) so_far.count names in
          record {
            count = w.named-is ∙ (so_far.count ∙ ap length more);
            rest = w.rest-is ∙ (w.saturating_add-rest.ensures ∙ unnamed-more_no all at _ _ (omega arith) so_far.count names so_far.rest);
          }
    ]
