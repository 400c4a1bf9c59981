use Rattle.std.proofs.Common.{◌∙◌, sym, ap, take, refl, true, arith, get_or, length}
use Rattle.std.specs.Prelude.{map}
use Rattle.std.proofs.Output.{has_written_append, has_written_of_eq, has_written_to_eq}
use Rattle.std.proofs.lemmas.List.{take_all, length_push}
use Rattle.recording_words.specs.Others.{domain_text, parted, lowest, named_parts}
use Rattle.recording_words.proofs.Listing.{lowest-more_yes, lowest-more_no, named-more_yes}
use Rattle.recording_words.proofs.others.NamedDisplay.fmt.Goals as goal
use Rattle.recording_words.proofs.others.NamedDisplay.fmt.Goals.{then-is_named+in_ok-write, else-is_named}

pub loop-number-preserved : goal.loop-number-preserved
loop-number-preserved g c =
    let all = c.args.self.now.counts in
    let at = c.loop-number.number in
    let so_far = c.loop-number.invariant in
    elim c.if-is_named.branch [
      | then-is_named+in_ok-write w ↦
          let names = sym c.is_named.ensures ∙ w.if-is_named.true in
          let more = lowest-more_yes all at _ (omega arith) so_far.count names in
          record {
            count = omega (arith, length_push (lowest (take at all)) (at, get_or all at 0), ap length more);
            written = λ plain.
                let before = so_far.written plain in
                has_written_to_eq _ _ _ _ _ w.f-is (has_written_of_eq _ _ _ _ _
                (rw w.comma.ensures (named-more_yes all at _ (omega arith) so_far.count names))
                (has_written_append _ _ _ _ _ _ before (w.in_ok-write.ensures.writes before.plain (refl {a = true}))));
          }
      | else-is_named w ↦
          let more = lowest-more_no all at _ (omega arith) so_far.count (sym c.is_named.ensures ∙ w.if-is_named.false) in
          record {
            count = w.named-is ∙ (so_far.count ∙ ap length more);
            written = λ plain.
                has_written_to_eq _ _ _ _ _ w.f-is (has_written_of_eq _ _ _ _ _
                (ap (λ l. parted (map domain_text l)) more) (so_far.written plain));
          }
    ]

pub returns-clause-writes : goal.returns-clause-writes
returns-clause-writes g c = λ plain ok.
    let so_far = c.loop-number.invariant in
    has_written_of_eq _ _ _ _ _ (ap (λ l. parted (named_parts l)) (take_all c.loop-number.number c.args.self.now.counts (omega arith)))
    (so_far.written plain)
