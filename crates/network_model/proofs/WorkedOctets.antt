-- The octets of the exchange's messages, field by field.
use Rattle.std.proofs.Common.{ℕ, refl, arith, rules, List, [], ◌∷◌, Some}
use Rattle.event_codec.proofs.Lengths.{all_octets}
use Rattle.network_model.specs.Truth.{TellsTruth, copy_of}
use Rattle.network_model.proofs.Worked.{small_network}
use Rattle.network_model.proofs.WorkedExchange.{whole}

abbrev sync_octets : List ℕ
sync_octets =
    0 ∷ 18 ∷ 0 ∷ 44 ∷ 0 ∷ 0 ∷ 2 ∷ 0 ∷ 0 ∷ 0 ∷ 0 ∷ 0 ∷ 7 ∷ 208 ∷ 0 ∷ 0
    ∷ 0 ∷ 0 ∷ 0 ∷ 0 ∷ 0 ∷ 17 ∷ 34 ∷ 255 ∷ 254 ∷ 51 ∷ 68 ∷ 85 ∷ 0 ∷ 1 ∷ 0 ∷ 0
    ∷ 0 ∷ 0 ∷ 0 ∷ 0 ∷ 0 ∷ 0 ∷ 0 ∷ 0 ∷ 0 ∷ 0 ∷ 0 ∷ 0 ∷ []

-- the Sync that left the clock
sync : TellsTruth (copy_of small_network whole 4) (Some sync_octets)
sync = record {
  octets = all_octets sync_octets refl;
  least = omega arith;
  header = search rules;
  timestamp = search rules;
  requesting = tt;
  suffix = refl;
}

abbrev follow_up_octets : List ℕ
follow_up_octets =
    8 ∷ 18 ∷ 0 ∷ 44 ∷ 0 ∷ 0 ∷ 0 ∷ 0 ∷ 0 ∷ 0 ∷ 0 ∷ 0 ∷ 0 ∷ 0 ∷ 0 ∷ 0
    ∷ 0 ∷ 0 ∷ 0 ∷ 0 ∷ 0 ∷ 17 ∷ 34 ∷ 255 ∷ 254 ∷ 51 ∷ 68 ∷ 85 ∷ 0 ∷ 1 ∷ 0 ∷ 0
    ∷ 2 ∷ 0 ∷ 0 ∷ 0 ∷ 0 ∷ 0 ∷ 0 ∷ 1 ∷ 0 ∷ 0 ∷ 0 ∷ 0 ∷ []

-- the Follow_Up
follow_up : TellsTruth (copy_of small_network whole 6) (Some follow_up_octets)
follow_up = record {
  octets = all_octets follow_up_octets refl;
  least = omega arith;
  header = search rules;
  timestamp = search rules;
  requesting = tt;
  suffix = refl;
}

abbrev request_octets : List ℕ
request_octets =
    1 ∷ 18 ∷ 0 ∷ 44 ∷ 0 ∷ 0 ∷ 0 ∷ 0 ∷ 0 ∷ 0 ∷ 0 ∷ 0 ∷ 13 ∷ 172 ∷ 64 ∷ 0
    ∷ 0 ∷ 0 ∷ 0 ∷ 0 ∷ 0 ∷ 170 ∷ 187 ∷ 255 ∷ 254 ∷ 204 ∷ 221 ∷ 238 ∷ 0 ∷ 1 ∷ 0 ∷ 0
    ∷ 1 ∷ 127 ∷ 0 ∷ 0 ∷ 0 ∷ 0 ∷ 0 ∷ 0 ∷ 0 ∷ 0 ∷ 0 ∷ 0 ∷ []

-- the Delay_Req that left the clock
request : TellsTruth (copy_of small_network whole 10) (Some request_octets)
request = record {
  octets = all_octets request_octets refl;
  least = omega arith;
  header = search rules;
  timestamp = search rules;
  requesting = tt;
  suffix = refl;
}

abbrev response_octets : List ℕ
response_octets =
    9 ∷ 18 ∷ 0 ∷ 54 ∷ 0 ∷ 0 ∷ 0 ∷ 0 ∷ 0 ∷ 0 ∷ 0 ∷ 0 ∷ 13 ∷ 172 ∷ 0 ∷ 0
    ∷ 0 ∷ 0 ∷ 0 ∷ 0 ∷ 0 ∷ 17 ∷ 34 ∷ 255 ∷ 254 ∷ 51 ∷ 68 ∷ 85 ∷ 0 ∷ 1 ∷ 0 ∷ 0
    ∷ 3 ∷ 0 ∷ 0 ∷ 0 ∷ 0 ∷ 0 ∷ 0 ∷ 2 ∷ 0 ∷ 0 ∷ 17 ∷ 148 ∷ 0 ∷ 170 ∷ 187 ∷ 255
    ∷ 254 ∷ 204 ∷ 221 ∷ 238 ∷ 0 ∷ 1 ∷ []

-- the Delay_Resp
response : TellsTruth (copy_of small_network whole 11) (Some response_octets)
response = record {
  octets = all_octets response_octets refl;
  least = omega arith;
  header = search rules;
  timestamp = search rules;
  requesting = record { clock = refl; port = refl };
  suffix = refl;
}
