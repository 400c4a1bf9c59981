-- The two brackets of the delay request-response mechanism, and twice its two results (IEEE 1588-2019, 11.2 and 11.3).
use Rattle.std.specs.Prelude.{ℕ, ◌^◌, ◌-◌, ℤ, pos, negsuc, ◌+ℤ◌, ◌-ℤ◌, ◌<ℤ◌}
use Rattle.ptp_units.specs.Moment.{Stamp, moment}

-- the departure of a Sync, as its Follow_Up says
abbrev pub departure : Stamp → ℤ → ℤ
departure precise c_follow = pos (moment precise 0) +ℤ c_follow

-- t2, less the corrected departure of the Sync, less the Sync's own correction
abbrev pub sync_bracket : ℕ → Stamp → ℤ → ℤ → ℤ
sync_bracket t2 precise c_follow c_sync = (pos t2 -ℤ departure precise c_follow) -ℤ c_sync

-- the corrected arrival of the Delay_Req, less t3
abbrev pub delay_bracket : Stamp → ℤ → ℕ → ℤ
delay_bracket receive c_resp t3 = (pos (moment receive 0) -ℤ c_resp) -ℤ pos t3

-- twice offsetFromMaster
abbrev pub offset2 : ℤ → ℤ → ℤ
offset2 a b = a -ℤ b

-- twice meanPathDelay
abbrev pub path2 : ℤ → ℤ → ℤ
path2 a b = a +ℤ b

-- between -2^96 and 2^96, as every bracket is
pub record IsBracket (a : ℤ) : Type 0 where
  pub above : negsuc (2 ^ 96 - 1) <ℤ a
  pub below : a <ℤ pos (2 ^ 96)
