use Rattle.std.proofs.Common.{◌≡◌, ◌+◌, ◌*◌, ℕ, List, ◌++◌, length, refl, sym, subst, ◌∙◌, arith, rules}
use Rattle.std.proofs.lemmas.List.{length-append}
use Rattle.signaling_codec.specs.Record.{IsSyncReading, IsDelayReading, AreRecords}
use Rattle.signaling_codec.specs.Tlv.{SyncTiming, DelayTiming}
use Rattle.signaling_codec.proofs.Writing.{puts_join, IsHead, tlv_whole, value_long, value_master, value_records, tlv_written_is}
use Rattle.signaling_codec.proofs.encoding.put_tlv.Goals as goal

pub returns-in-SyncTiming : goal.returns-in-SyncTiming
returns-in-SyncTiming c =
    let master = c.in-SyncTiming.master in
    let rs = c.in-SyncTiming.readings.now in
    let head : List ℕ = c.tlv_head-head.result in
    let records = c.put_sync_readings.ensures in
    let b : List ℕ = records.0 in
    let len : length head ≡ 14 = search rules in
    let size : 10 + 34 * length rs ≡ 10 + length b = omega (arith, records.1.ends, records.3) in
    let h : IsHead 0x8004 (10 + length b) master head =
    record { whole = len; kind_is = c.tlv_head-head.ensures.kind; size_is = c.tlv_head-head.ensures.length ∙ size; master_is = c.tlv_head-head.ensures.master } in
    let whole = tlv_whole 0x8004 master head b h in
    let long = value_long 0x8004 master head b h in
    let its_master = value_master 0x8004 master head b h in
    let its_records = subst (AreRecords 34 IsSyncReading rs) (sym (value_records 0x8004 master head b h)) records.2 in
    rw c.in-SyncTiming.is (
      head ++ b,
      puts_join c.args.buffer.now c.put-end.new.buffer c.put_sync_readings.new.buffer c.args.at c.put-end.result c.put_sync_readings.result head b c.put-end.ensures records.1,
      tlv_written_is 0x8004 master head b h (SyncTiming master rs) refl (long, its_master, its_records),
      whole,
      omega (arith, length-append head b, len, size),
    )

pub returns-in-DelayTiming : goal.returns-in-DelayTiming
returns-in-DelayTiming c =
    let master = c.in-DelayTiming.master in
    let rs = c.in-DelayTiming.readings.now in
    let head : List ℕ = c.tlv_head-head-in-DelayTiming.result in
    let records = c.put_delay_readings.ensures in
    let b : List ℕ = records.0 in
    let len : length head ≡ 14 = search rules in
    let size : 10 + 30 * length rs ≡ 10 + length b = omega (arith, records.1.ends, records.3) in
    let h : IsHead 0x7f00 (10 + length b) master head =
    record { whole = len; kind_is = c.tlv_head-head-in-DelayTiming.ensures.kind; size_is = c.tlv_head-head-in-DelayTiming.ensures.length ∙ size; master_is = c.tlv_head-head-in-DelayTiming.ensures.master } in
    let whole = tlv_whole 0x7f00 master head b h in
    let long = value_long 0x7f00 master head b h in
    let its_master = value_master 0x7f00 master head b h in
    let its_records = subst (AreRecords 30 IsDelayReading rs) (sym (value_records 0x7f00 master head b h)) records.2 in
    rw c.in-DelayTiming.is (
      head ++ b,
      puts_join c.args.buffer.now c.put-end-in-DelayTiming.new.buffer c.put_delay_readings.new.buffer c.args.at c.put-end-in-DelayTiming.result c.put_delay_readings.result head b c.put-end-in-DelayTiming.ensures records.1,
      tlv_written_is 0x7f00 master head b h (DelayTiming master rs) refl (long, its_master, its_records),
      whole,
      omega (arith, length-append head b, len, size),
    )
