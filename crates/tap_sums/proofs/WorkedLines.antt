-- A crossing as text, worked by hand: it took 3,000 ns, and its correction grew by 1,999.
use Rattle.std.proofs.Common.{◌≡◌, ◌++◌, ◌*◌, pos, negsuc, codes, Some, None, refl}
use Rattle.std.specs.Fmt.{digits}
use Rattle.ptp_units.specs.Nanoseconds.{decimals}
use Rattle.tap_crossing.specs.declared.crossing.Crossing.{Crossing}
use Rattle.tap_crossing.specs.declared.sighting.Kind.TheVariants as kinds
use Rattle.tap_crossing.specs.Changes.{no_changes}
use Rattle.tap_sums.specs.Crossed.{json_text, row_text}

crossing : Crossing
crossing = record {
  kind = kinds.Sync;
  number = record { 0 = 0 };
  time = 65536000032768000;
  taken = pos (3000 * 65536);
  corrected = pos (1999 * 65536);
  rest = pos (1001 * 65536);
  first_line = 3;
  second_line = 5;
  from_line = Some 4;
  to_line = Some 6;
  event_changes = no_changes;
  other_changes = no_changes;
}

json : json_text (record { crossing = crossing; time = codes "1.000000500"; from = codes "left"; to = codes "right" })
    ≡ codes "{\"corrected\":\"1999\",\"from\":\"left\",\"kind\":\"sync\",\"lines\":[3,5,4,6],\"number\":0,\"rest\":\"1001\""
    ++ codes ",\"taken\":\"3000\",\"time\":\"1.000000500\",\"to\":\"right\"}\n"
unfolding digits decimals crossing
json = refl

-- a Delay_Req that took no time, of which a quarter of a nanosecond rests below 0
request : Crossing
request = record crossing { kind = kinds.DelayReq; taken = pos 0; corrected = pos 16384; rest = negsuc 16383; number = record { 0 = 65535 } }

row : row_text (record { crossing = request; time = codes "7"; from = codes "left"; to = codes "right" })
    ≡ codes "7,delay_req,65535,0,0.25,-0.25\n"
unfolding digits decimals crossing request
row = refl

-- a one-step Sync has neither Follow_Up
one_step : json_text (record {
  crossing = record crossing { from_line = None; to_line = None };
  time = codes "7";
  from = codes "a";
  to = codes "b";
})
    ≡ codes "{\"corrected\":\"1999\",\"from\":\"a\",\"kind\":\"sync\",\"lines\":[3,5,null,null],\"number\":0,\"rest\":\"1001\""
    ++ codes ",\"taken\":\"3000\",\"time\":\"7\",\"to\":\"b\"}\n"
unfolding digits decimals crossing
one_step = refl
