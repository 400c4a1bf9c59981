-- How long a message's octets are, and octets that are tested to be such.
use Rattle.std.proofs.Common.{◌≡◌, ℕ, ◌<◌, true, List, length, ap, arith}
use Rattle.std.specs.Prelude.{EachIndex, slice_index, nat_lt}
use Rattle.std.specs.List.{list_all}
use Rattle.std.proofs.lemmas.Bool.Decides.{nat_tests}
use Rattle.std.proofs.lemmas.List.{length-drop}
use Rattle.std.proofs.lemmas.List.Folds.{list_all_at}
use Rattle.event_codec.specs.Layout.{type_of, fields_length}
use Rattle.event_codec.specs.Packet.{Contents, Packet}
use Rattle.event_codec.specs.Refusal.{message_length}

-- octets that are a message are as many as it says
pub length-Packet : (m : Contents) (b : List ℕ) → Packet m b → length b ≡ message_length m
length-Packet m b p = omega (arith, p.least, ap (length {A = ℕ}) p.suffix, length-drop (fields_length (type_of m.body)) b)

-- a test of all numbers for being octets tells that they are
pub all_octets : (b : List ℕ) → list_all (λ octet. nat_lt octet 256) b ≡ true → EachIndex b (λ k. slice_index b k < 256)
all_octets b small k within = grind (arith, nat_tests, list_all_at (λ octet. nat_lt octet 256) b k 0 within)
