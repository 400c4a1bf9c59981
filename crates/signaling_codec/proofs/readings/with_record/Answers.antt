use Rattle.std.proofs.Common.{◌≡◌, ◌<◌, List, [], length, sym, subst}
use Rattle.std.specs.Prelude.{MatchOption}
use Rattle.std.proofs.lemmas.Bool.{eqb-true}
use Rattle.signaling_codec.specs.declared.reading.OwnReading.{OwnReading}
use Rattle.signaling_codec.specs.Inner.Left.{left_readings, IsSound}
use Rattle.signaling_codec.proofs.Left.{left_none}
use Rattle.signaling_codec.proofs.readings.with_record.Goals as goal

pub returns-then-is_empty : goal.returns-then-is_empty
returns-then-is_empty c =
    let left = c.args.left.now in
    let none : length left.records.now ≡ 0 = eqb-true (length left.records.now) 0 (sym c.if-is_empty.ensures) in
    subst
    (λ (x : List OwnReading). MatchOption c.next_records.result (x ≡ []) (λ it. (0 < length it.records.now) × IsSound it × (x ≡ left_readings it)))
    (sym (left_none left none)) c.next_records.ensures
