use Rattle.std.proofs.Common.{ℕ, List, ap, take, refl, true, arith}
use Rattle.std.specs.Prelude.{Option}
use Rattle.std.specs.List.{enumerate_from}
use Rattle.std.proofs.Output.{has_written_append, has_written_of_eq}
use Rattle.recording_words.specs.SumArrays.{domain_element, domain_elements, domain_text, parted}
use Rattle.recording_words.proofs.Parted.{enumerate_all, enumerate_more, is_some_counted, none_yet_step, parted_step}
use Rattle.recording_words.proofs.sum_arrays.DomainsDisplay.fmt.Goals as goal

-- a domain by its place
abbrev element : ℕ × ℕ → Option (List ℕ)
element x = domain_element x.0 x.1

pub loop-domain-preserved : goal.loop-domain-preserved
loop-domain-preserved g c =
    let all = enumerate_from 0 c.args.self.now.0.now in
    let at = c.loop-domain.domain in
    let more = enumerate_more c.args.self.now.0.now at _ (omega arith) in
    record {
      first = none_yet_step element (take at all) _ _ _ _ _ more c.loop-domain.invariant.first (is_some_counted _ (domain_text at _))
          c.is_next_first-is_first.ensures;
      written = λ plain.
          let so_far = c.loop-domain.invariant.written plain in
          has_written_of_eq _ _ _ _ _
          (parted_step element (take at all) _ _ _ more c.loop-domain.invariant.first)
          (has_written_append _ _ _ _ _ _ so_far (c.in_ok-write.ensures.writes so_far.plain (refl {a = true})));
    }

pub returns-clause-writes : goal.returns-clause-writes
returns-clause-writes g c = λ plain ok.
    has_written_of_eq _ _ _ _ _
    (ap (λ l. parted (domain_elements l)) (enumerate_all c.args.self.now.0.now c.loop-domain.domain (omega arith)))
    (c.loop-domain.invariant.written plain)
