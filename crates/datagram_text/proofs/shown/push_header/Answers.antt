use Rattle.std.proofs.lemmas.Str.{encode_ascii}
use Rattle.std.proofs.lemmas.Result.{IfOk-equal}
use Rattle.datagram_text.proofs.Joining.{header_joined}
use Rattle.datagram_text.proofs.shown.push_header.Goals as goal

pub returns : goal.returns
returns c =
    let first = rw (encode_ascii _ c.digit_of.ensures.ascii, c.digit_of.ensures.digit) at c.in_ok-write.ensures.bytes in
    IfOk-equal c.write-3.result _ _ _ c.write-3.ensures.bytes
    (rw (c.in_ok-write-2.ensures.bytes, first, c.value.ensures.value, c.value-2.ensures.value) (header_joined _ _ c.args.header.now))
