-- What is done with a datagram.
use Rattle.std.specs.Prelude.{◌≡◌, ◌≢◌, ℕ, List, [], Option, Some, Result, MatchResult}
use Rattle.std.specs.Io.KnownBytes.{Appends}
use Rattle.text_lines.specs.Task.{WentOut}
use Rattle.tap_choice.specs.declared.met.Met.{Met}
use Rattle.tap_follow.specs.Course.{Course}
use Rattle.tap_follow.specs.Held.{Holding, IsFollower}
use Rattle.tap_follow.specs.declared.fault.FollowFault.{FollowFault}
use Rattle.tap_follow.specs.declared.fault.FollowFault.TheVariants.{Write, Field, Memory, ThirdTap}
use Rattle.tap_follow.specs.Fault.{is_write}
use Rattle.tap_follow.specs.Rules.{Changes}

-- why a message doesn't change a course: what it changes is written, and the writer failed, or there is one and memory was refused,
-- and nothing went out
abbrev pub StopsChanging : FollowFault → Option Met → Course → List ℕ → Type 0
StopsChanging Write m c out = (later : Course) × (new : List ℕ) × (new ≢ []) × Changes m c later new
StopsChanging Field m c out = ⊥
StopsChanging Memory m c out = (out ≡ []) × (met : Met) × (m ≡ Some met)
StopsChanging (ThirdTap name) m c out = ⊥

-- a message, if it is one, changed a course, or didn't, and this went out
abbrev pub ChangesAs : {T : Type 0} → Result T FollowFault → Option Met → Course → (new : Holding)
    → (before after : Option (List ℕ)) → Type 0
ChangesAs result m c new before after = MatchResult result
    (λ _. (later : Course) × (out : List ℕ) × IsFollower new later × Changes m c later out × Appends before after out)
    (λ fault. (out : List ℕ) × StopsChanging fault m c out × WentOut (is_write fault) (Appends before after out))
