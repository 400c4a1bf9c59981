use Rattle.std.proofs.Common.{◌∙◌, ap, refl, true, arith}
use Rattle.std.specs.Prelude.{None}
use Rattle.std.proofs.Output.{has_written_append, has_written_of_eq, has_written_to_eq}
use Rattle.std.proofs.lemmas.List.{take_all}
use Rattle.recording_words.specs.Others.{parted, listed_parts}
use Rattle.recording_words.proofs.Listing.{is_empty, listed-more_none, is_empty-more_some, ports-more_some}
use Rattle.recording_words.proofs.others.PortsDisplay.fmt.Goals as goal
use Rattle.recording_words.proofs.others.PortsDisplay.fmt.Goals.{in-Some+in_ok-write, in_default}

pub loop-sender-preserved : goal.loop-sender-preserved
loop-sender-preserved g c =
    let all = c.args.self.now.listed in
    let at = c.loop-sender.sender-index in
    let so_far = c.loop-sender.invariant in
    elim c.match-sender.branch [
      | in-Some+in_ok-write w ↦ record {
        first = w.is_first-is ∙ is_empty-more_some all at None _ (omega arith) w.in-Some.is;
        written = λ plain.
            let before = so_far.written plain in
            has_written_to_eq _ _ _ _ _ w.f-is (has_written_of_eq _ _ _ _ _
            (rw w.comma.ensures (ports-more_some all at None _ _ (omega arith) w.in-Some.is so_far.first))
            (has_written_append _ _ _ _ _ _ before (w.in_ok-write.ensures.writes before.plain (refl {a = true}))));
      }
      | in_default w ↦
          let same = listed-more_none all at None (omega arith) w.in_default.is in
          record {
            first = w.is_first-is ∙ (so_far.first ∙ ap is_empty same);
            written = λ plain. has_written_to_eq _ _ _ _ _ w.f-is (has_written_of_eq _ _ _ _ _ (ap parted same) (so_far.written plain));
          }
    ]

pub returns-clause-writes : goal.returns-clause-writes
returns-clause-writes g c = λ plain ok.
    has_written_of_eq _ _ _ _ _ (ap (λ l. parted (listed_parts l)) (take_all c.loop-sender.sender-index c.args.self.now.listed (omega arith)))
    (c.loop-sender.invariant.written plain)
