-- What is left of a task that took the packets of a capture.
use Rattle.std.proofs.Common.{◌≡◌, ℕ, List, [], sym, ◌∙◌, refl, subst, Option, Some, Result, Err}
use Rattle.text_lines.proofs.KnownOctets.{Consumes-known}
use Rattle.capture_file.specs.declared.fault.CaptureCause.TheVariants as causes
use Rattle.capture_file.specs.declared.fault.CaptureStop.{CaptureStop}
use Rattle.capture_file.specs.declared.part.PartStop.{PartStop}
use Rattle.capture_file.specs.declared.part.PartStop.TheVariants.{Read, Memory, Fault}
use Rattle.capture_file.specs.declared.progress.Progress.{Progress}
use Rattle.capture_file.specs.Parts.{Form}
use Rattle.capture_file.specs.Task.{PacketRules, IsLeftAt, LeavesTask}
use Rattle.capture_file.specs.Inner.Taking.{IsTaken, StopsIn}

-- behind the parts so far
pub left_behind : {T S A F : Type 0} (rules : PacketRules S A F) (is_at : T → S → Type 0) (is_left : T → T → F → Type 0)
    (is_ended : T → T → Type 0) (start state : S) (form : Form) (progress : Progress) (i l b n : Option (List ℕ)) (octets : List ℕ)
    (task : T) (result : Result A (CaptureStop F)) (stop : CaptureStop F) → result ≡ Err stop
    → IsTaken rules start form progress i l b n state → i ≡ Some octets
    → stop.packets ≡ progress.packets → IsLeftAt is_at is_left state task stop.what
    → LeavesTask rules is_at is_left is_ended start octets task result
left_behind {T} {S} {A} {F} rules is_at is_left is_ended start state form progress i l b n octets task result stop is t known packets left =
    let (rest, behind, split) = Consumes-known i l _ octets t.read known in
    subst (LeavesTask rules is_at is_left is_ended start octets task) (sym is) (
      t.parts,
      rest,
      state,
      t.text,
      record { are = t.are; split = split; taken = t.taken },
      packets ∙ t.packets,
      left,
    )

-- before the first of them
pub left_before : {T S A F : Type 0} (rules : PacketRules S A F) (is_at : T → S → Type 0) (is_left : T → T → F → Type 0)
    (is_ended : T → T → Type 0) (start : S) (octets : List ℕ) (task : T) (stop : CaptureStop F)
    → stop ≡ record { packets = 0; octet = 0; what = causes.Memory } → is_at task start
    → LeavesTask {T = T} {S = S} {A = A} {F = F} rules is_at is_left is_ended start octets task (Err stop)
left_before {T} {S} {A} {F} rules is_at is_left is_ended start octets task stop is at =
    rw is ([], octets, start, [], record { are = tt; split = refl; taken = (refl, refl) }, refl, at)

-- a fault in reading leaves a task as it is
pub left_reading : {T S F : Type 0} (is_at : T → S → Type 0) (is_left : T → T → F → Type 0) (state : S) (task : T)
    (progress : Progress) (why : PartStop) (stop : CaptureStop F) → StopsIn progress why stop → is_at task state
    → (stop.packets ≡ progress.packets) × IsLeftAt is_at is_left state task stop.what
left_reading is_at is_left state task progress Read stop is at = rw is (refl, at)
left_reading is_at is_left state task progress Memory stop is at = rw is (refl, at)
left_reading is_at is_left state task progress (Fault fault place) stop is at = rw is (refl, at)

-- a fault at the end
pub left_at_end : {T S F : Type 0} (is_at : T → S → Type 0) (is_left : T → T → F → Type 0) (state : S) (before task : T)
    (progress : Progress) (what : F) (stop : CaptureStop F)
    → stop ≡ record { packets = progress.packets; octet = progress.octets; what = causes.Task what } → is_at before state
    → is_left before task what → (stop.packets ≡ progress.packets) × IsLeftAt is_at is_left state task stop.what
left_at_end is_at is_left state before task progress what stop is at left = rw is (refl, (before, at, left))
