-- Watches as C keeps them.
use Rattle.std.specs.Prelude.{◌≡◌, ℕ, List, [], Some}
use Rattle.sync_watch.specs.declared.judgement.Judgement.{Judgement}
use Rattle.sync_watch.specs.declared.judgement.Judgement.TheVariants.{Newer, Repeated, BeganAnew}
use Rattle.sync_watch.specs.Told.{Told}
use Rattle.sync_watch.specs.StandsFor as watches
use Rattle.ptpx_c.specs.declared.ring_watch.RingWatch.{RingWatch}
use Rattle.ptpx_c.specs.declared.watch_handle.RawWatch.{RawWatch}

-- the handle, with this watch in its memory
abbrev pub with_watch : RawWatch → RingWatch → RawWatch
with_watch handle watch = record handle { port = Some watch }

-- the number of a judgement
abbrev pub code_of_judgement : Judgement → ℕ
code_of_judgement Newer = 0
code_of_judgement Repeated = 1
code_of_judgement BeganAnew = 2

-- the memory holds a watch that knows of nothing
abbrev pub IsMadeWatch : (old new : RawWatch) → Type 0
IsMadeWatch old new =
    (watch : RingWatch) × ((new ≡ with_watch old watch) × watches.StandsFor 256 watch.watch [])

-- the watch in the memory judges so, and stands for what was told then
abbrev pub IsJudged : ((capacity : ℕ) → List Told → Judgement) → ((capacity : ℕ) → List Told → List Told)
    → (old new : RawWatch) → (code : ℕ) → Type 0
IsJudged judged change old new code = (before : RingWatch) → old.port ≡ Some before
    → (after : RingWatch) × (judgement : Judgement) × ((new ≡ with_watch old after)
    × (code ≡ code_of_judgement judgement) × watches.IsJudged judged before.watch judgement
    × watches.StandsAfter change before.watch after.watch)
