use Rattle.datagram_text.proofs.Printing.{IsUtf8-encoded, ok_text}
use Rattle.recording_words.proofs.clock.ClockIdentityDisplay.fmt.Goals as goal

pub unwrap-requires-2 : goal.unwrap-requires-2
unwrap-requires-2 g c =
    ok_text _ _ _ _ c.from_utf8.ensures.cases (IsUtf8-encoded _ _ _ _ c.unwrap.ensures c.encode_to_slice.ensures.written)
