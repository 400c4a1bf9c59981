use Rattle.std.proofs.Common.{rules, arith, ◌≡◌, ◌%◌, slice_index, refl}
use Rattle.event_codec.proofs.header.decode_announce.Goals as goal

pub returns : goal.returns
returns c =
    let is = c.if-not-is_announce.ensures in
    let kind : slice_index c.args.octets.now 0 % 16 ≡ 11 = grind (rules, arith, c.is_announce.ensures, is) in
    record {
      header = rw (← kind) c.header_of.ensures;
      least = grind (rules, arith, c.is_announce.ensures, is);
      whole = grind (rules, arith, c.is_announce.ensures, is);
      utc_offset = search (rules, c.cast_signed.ensures, c.u16_at.ensures);
      clock_class = refl;
      grandmaster = c.array_at.ensures;
      steps_removed = c.u16_at-2.ensures;
    }
