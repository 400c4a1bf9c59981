use Rattle.std.proofs.Common.{ℕ, ◌<◌, ◌^◌, arith, subst}
use Rattle.hex.specs.Hex.{encode_lower}
use Rattle.hex.proofs.HexLemmas.{decode_of-encode_lower}
use Rattle.ptp_units.specs.Moment.{IsStamp}
use Rattle.capture_extract.proofs.Lines.{read_back, line_fits, line_alone, line_whole}
use Rattle.capture_extract.proofs.laws.lines_are_read_back.Goals as goal

pub returns : goal.returns
returns c =
    let is : IsStamp c.args.time = record {
      seconds = subst (λ (n : ℕ). n < 2 ^ 48) c.seconds.ensures.value c.seconds.ensures.within;
      nanos = subst (λ (n : ℕ). n < 10 ^ 9) c.nanos.ensures.value c.nanos.ensures.within;
    } in record {
      line = line_alone c.args.form c.args.time c.args.datagram.now is;
      whole = line_whole c.args.form c.args.time c.args.datagram.now is;
      fits = λ short. line_fits c.args.form c.args.time c.args.datagram.now is short;
      parts = read_back c.args.time (encode_lower c.args.datagram.now) is;
      digits = decode_of-encode_lower c.args.datagram.now (λ i. omega (arith, c.type_inv.datagram i));
    }
