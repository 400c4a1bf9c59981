-- The numbers of faults.
use Rattle.std.specs.Prelude.{ℕ}
use Rattle.tap_follow.specs.declared.fault.FollowFault.{FollowFault}
use Rattle.tap_follow.specs.declared.fault.FollowFault.TheVariants.{Write, Field, Memory, ThirdTap}

-- the number of a fault
abbrev pub follow_number : FollowFault → ℕ
follow_number Write = 802
follow_number Field = 806
follow_number Memory = 808
follow_number (ThirdTap name) = 809
