use Rattle.std.proofs.Common.{◌≡◌, ◌+◌, ℕ, List, [], ◌∷◌, ◌++◌, length, take, refl, sym, ap, subst, ◌∙◌, arith, rules, lit<}
use Rattle.std.proofs.lemmas.List.{length-append, take_more, take_all}
use Rattle.signaling_codec.specs.declared.reading.SyncReading.{SyncReading}
use Rattle.signaling_codec.specs.Record.{IsSyncReading, AreRecords}
use Rattle.signaling_codec.proofs.Writing.{puts_none, puts_join, sync_agrees, records_more}
use Rattle.signaling_codec.proofs.encoding.put_sync_readings.Goals as goal

pub loop-reading-init : goal.loop-reading-init
loop-reading-init c = ([], puts_none c.args.buffer.now c.args.at, refl, refl)

pub put-end-requires : goal.put-end-requires
put-end-requires c = let so_far = c.loop-reading.invariant in (lit< tt, omega (arith, so_far.1.ends, so_far.3))

pub loop-reading-preserved : goal.loop-reading-preserved
loop-reading-preserved c =
    let so_far = c.loop-reading.invariant in
    let k : ℕ = c.loop-reading.reading-index in
    let rs : List SyncReading = c.args.readings.now in
    let record_octets : List ℕ = c.sync_octets.result in
    let len : length record_octets ≡ 34 = search rules in
    let more : take (k + 1) rs ≡ take k rs ++ c.reading-item.result ∷ [] =
    take_more rs k c.reading-item.result c.loop-reading-test.true ∙ ap (λ (r : SyncReading). take k rs ++ r ∷ []) (sym c.reading-item.is) in (
      so_far.0 ++ record_octets,
      puts_join c.args.buffer.now c.loop-reading.buffer c.put-end.new.buffer c.args.at c.loop-reading.end c.put-end.result so_far.0 record_octets so_far.1 c.put-end.ensures,
      subst (λ (x : List SyncReading). AreRecords 34 IsSyncReading x (so_far.0 ++ record_octets)) (sym more)
          (records_more 34 IsSyncReading sync_agrees (take k rs) c.reading-item.result so_far.0 record_octets so_far.2 c.sync_octets.ensures len),
      omega (arith, length-append so_far.0 record_octets, so_far.3, len),
    )

pub returns : goal.returns
returns c =
    let so_far = c.loop-reading.invariant in
    let rs : List SyncReading = c.args.readings.now in
    let all : take c.loop-reading.reading-index rs ≡ rs = take_all c.loop-reading.reading-index rs c.loop-reading-test.false in
    (so_far.0, so_far.1, subst (λ (x : List SyncReading). AreRecords 34 IsSyncReading x so_far.0) all so_far.2, omega (arith, so_far.1.ends, so_far.3, c.loop-reading.auto.reading-index-end))
