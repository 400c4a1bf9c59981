use Rattle.std.proofs.Common.{refl, sym}
use Rattle.explain_transcript.specs.Explained.{unseen}
use Rattle.explain_transcript.proofs.Seen.{told_behind}
use Rattle.explain_transcript.proofs.explaining.explain.Goals as goal

pub answer_lines-requires : goal.answer_lines-requires
answer_lines-requires g c =
    (unseen c.args.first, record { first = refl; input = sym c.new.ensures; counts = c.new-2.ensures; fault = refl })

pub returns-in-Reading-clause-explained : goal.returns-in-Reading-clause-explained
returns-in-Reading-clause-explained g c = λ octets known.
    told_behind c.args.first octets _ _ _ _ c.in-Err.stop.line c.in-Err.stop.what c.in-Reading.what _ _ _ _ _ c.in-Reading.is
    (c.in-Err.ensures.answered (unseen c.args.first)
    (record { first = refl; input = sym c.new.ensures; counts = c.new-2.ensures; fault = refl }) octets known)
    c.in-Err.ensures.failures c.tell_unread.ensures
