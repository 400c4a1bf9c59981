use Rattle.std.proofs.Common.{◌∙◌, refl, sym, [], Some, None}
use Rattle.std.proofs.KnownBytes.{Appends-nil}
use Rattle.text_lines.specs.declared.writing.WriteFailed.{WriteFailed}
use Rattle.explain_transcript.specs.Inner.Noting.{IsNotedIn}
use Rattle.explain_transcript.proofs.Untold.{told, told_line, untold}
use Rattle.explain_transcript.proofs.judgements.JudgingLineTask.take.Goals as goal

pub returns-in_default-clause-taken : goal.returns-in_default-clause-taken
returns-in_default-clause-taken g c = λ state is.
    rw is.0 (
      record { first = c.args.self.now.first; input = c.take.new.self },
      [],
      (refl, c.in_ok-note.ensures c.args.self.now.input c.in_ok-taken.ensures.1 is.1),
      (None, rw c.in_default.is at c.in_ok-taken.ensures.0, refl, refl),
      Appends-nil _,
    )

pub returns-then-not-is_told-clause-taken : goal.returns-then-not-is_told-clause-taken
returns-then-not-is_told-clause-taken g c = λ state is.
    rw is.0 (
      record { first = c.args.self.now.first; input = c.take.new.self },
      [],
      (refl, c.in_ok-note.ensures c.args.self.now.input c.in_ok-taken.ensures.1 is.1),
      (
        Some c.in-Some.judged,
        rw c.in-Some.is at c.in_ok-taken.ensures.0,
        refl,
        untold c.args.self.now.first c.take.new.self c.in-Some.judged (sym c.is_told.ensures ∙ c.if-not-is_told.true),
      ),
      Appends-nil _,
    )

pub returns-clause-taken : goal.returns-clause-taken
returns-clause-taken g c = λ state is.
    let notes = c.in_ok-note.ensures c.args.self.now.input c.in_ok-taken.ensures.1 is.1 in
    let so = sym c.is_told.ensures ∙ c.if-not-is_told.false in
    rw is.0 (
    told_line WriteFailed c.write_text.result (record { first = c.args.self.now.first; input = c.args.self.now.input })
    c.take.new.self c.args.line.now c.in-Some.judged c.as_str.result.now _ _ (IsNotedIn c.note.new.evidence c.take.new.self)
    so
    (told c.args.self.now.first c.take.new.self c.in-Some.judged c.details_of-details.result _ c.as_str.result.now so
    (c.details_of-details.ensures notes) c.clear.ensures.bytes (c.as_str.ensures.value ∙ c.in_ok-push_judged.ensures))
    (rw c.in-Some.is at c.in_ok-taken.ensures.0) notes c.write_text.ensures.written
    )
