-- What a watch answers, by way of its handle.
use Rattle.std.proofs.Common.{◌≡◌, ℕ, List, refl, subst, Some}
use Rattle.sync_watch.specs.declared.judgement.Judgement.{Judgement}
use Rattle.sync_watch.specs.Told.{Told}
use Rattle.sync_watch.specs.StandsFor as watches
use Rattle.ptpx_c.specs.declared.ring_watch.RingWatch.{RingWatch}
use Rattle.ptpx_c.specs.declared.watch_handle.RawWatch.{RawWatch}
use Rattle.ptpx_c.specs.Watches.{with_watch, code_of_judgement, IsJudged}
use Rattle.ptpx_c.proofs.Slaves.{one_port}

pub judged_by_handle : (judged : (capacity : ℕ) → List Told → Judgement)
    (change : (capacity : ℕ) → List Told → List Told) (handle : RawWatch) (ring after : RingWatch)
    (judgement : Judgement) (code : ℕ) → handle.port ≡ Some ring → code ≡ code_of_judgement judgement
    → watches.IsJudged judged ring.watch judgement → watches.StandsAfter change ring.watch after.watch
    → IsJudged judged change handle (with_watch handle after) code
judged_by_handle judged change handle ring after judgement code lies is says stands = λ before there.
    let P : RingWatch → Type 0 = λ r. (x : RingWatch) × (j : Judgement) × ((with_watch handle after ≡ with_watch handle x)
    × (code ≡ code_of_judgement j) × watches.IsJudged judged r.watch j × watches.StandsAfter change r.watch x.watch) in
    subst P (one_port handle.port ring before lies there) (after, judgement, (refl, is, says, stands))
