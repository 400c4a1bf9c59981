use Rattle.std.proofs.Common.{[], ◌∙◌, sym, ap, take, refl, true, arith}
use Rattle.std.specs.Prelude.{flat_map}
use Rattle.std.proofs.Output.{has_written_append, has_written_of_eq}
use Rattle.std.proofs.lemmas.List.{flat_map_more, take_all, take_more}
use Rattle.recording_words.specs.Bewares.{beware_line, bewares_text}
use Rattle.recording_words.proofs.bewares.BewareLinesDisplay.fmt.Goals as goal

pub loop-beware-preserved : goal.loop-beware-preserved
loop-beware-preserved g c =
    let x = c.args.self.now in
    let at = c.loop-beware.beware-index in
    let told = beware_line x.unit x.masters x.slaves x.domains in
    record {
      long = λ more. omega arith;
      written = λ plain.
          let so_far = c.loop-beware.invariant.written plain in
          has_written_of_eq _ _ _ _ _
          (flat_map_more told [] (take at x.bewares) _ ∙ ap (flat_map told) (sym (take_more x.bewares at _ (omega arith))))
          (has_written_append _ _ _ _ _ _ so_far (c.in_ok-write.ensures.writes so_far.plain (refl {a = true})));
    }

pub returns-clause-writes : goal.returns-clause-writes
unfolding bewares_text
returns-clause-writes g c = λ plain ok.
    let x = c.args.self.now in
    let so_far = c.loop-beware.invariant in
    has_written_of_eq _ _ _ _ _
    (ap (flat_map (beware_line x.unit x.masters x.slaves x.domains))
    (take_all c.loop-beware.beware-index x.bewares (omega (arith, so_far.long (omega arith)))))
    (so_far.written plain)
