use Rattle.std.proofs.Common.{ℕ, List, sym, subst}
use Rattle.event_codec.specs.Reading.{IsReading}
use Rattle.datagram_source.specs.Said.{reading_of}
use Rattle.recording_measure.proofs.Recordings.{kept_row}
use Rattle.recording_measure.proofs.recording.Kept.datagram.Goals as goal

pub returns-clause-only : goal.returns-clause-only
returns-clause-only c = λ row is. kept_row c.args.self.now c.as_str.result.now c.deref.result.now (reading_of c.message_in.result) row
    (sym c.as_str.ensures.value) (sym c.deref.ensures.value)
    (subst (λ (o : List ℕ). IsReading o (reading_of c.message_in.result)) c.deref-2.ensures.value c.message_in.ensures) is
