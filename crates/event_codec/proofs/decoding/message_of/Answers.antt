use Rattle.std.proofs.Common.{rules, length, arith}
use Rattle.std.proofs.lemmas.Slice.{between_to_end}
use Rattle.event_codec.proofs.decoding.message_of.Goals as goal

pub returns : goal.returns
returns c = record {
  octets = λ k _. search (rules, c.type_inv.octets k);
  least = rw c.body_of.ensures.type_of c.requires.least;
  header = rw (c.body_of.ensures.type_of, ← c.requires.kind, ← c.requires.message_length) c.header_of.ensures;
  timestamp = rw c.body_of.ensures.stamp c.requires.timestamp;
  requesting = c.body_of.ensures.requesting;
  suffix = rw (c.body_of.ensures.type_of, ← c.fields_length.ensures) (between_to_end c.args.octets.now c.fields_length.result (length c.args.octets.now) (omega arith));
}
