-- The sums over the crossings of an input, as they are written.
use Rattle.std.specs.Prelude.{◌≡◌, ℕ, ⊤, List, Option, Result, MatchResult}
use Rattle.std.specs.Io.KnownBytes.{Appends}
use Rattle.tap_follow.specs.Course.{Course}
use Rattle.tap_follow.specs.SoFar.{crossings_so_far}
use Rattle.tap_sums.specs.Text.{sums_text}
use Rattle.tap_follow.specs.declared.fault.FollowFault.{FollowFault}
use Rattle.tap_follow.specs.declared.fault.FollowFault.TheVariants.{Write, Field, Memory, ThirdTap}

-- the sums weren't written: the writer failed, or memory was refused and nothing went out
abbrev pub LacksSums : FollowFault → (before after : Option (List ℕ)) → Type 0
LacksSums Write before after = ⊤
LacksSums Field before after = ⊥
LacksSums Memory before after = after ≡ before
LacksSums (ThirdTap name) before after = ⊥

-- the sums of a course went out, or not
abbrev pub WritesSums : {T : Type 0} → Result T FollowFault → Course → (before after : Option (List ℕ)) → Type 0
WritesSums result c before after = MatchResult result
    (λ _. Appends before after (sums_text (crossings_so_far c)))
    (λ fault. LacksSums fault before after)
