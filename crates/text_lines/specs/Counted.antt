-- What a counted reader or writer shows.
use Rattle.std.specs.Prelude.{◌≡◌, ℕ, ◌+◌, ◌-◌, ◌^◌, min, Bool, true, false, ◌||◌}
use Rattle.std.specs.declared.io.Error.{Error}
use Rattle.std.specs.IoError.{error_kind}
use Rattle.text_lines.specs.Broken.{is_broken}
use Rattle.text_lines.specs.declared.counted.Counted.{Counted}

-- the reader or writer itself
abbrev pub device_of : {T : Type 0} → Counted T → T
device_of c = c.device

-- how many of its calls failed
abbrev pub failures_of : {T : Type 0} → Counted T → ℕ
failures_of c = c.failures

-- how many octets it gave
abbrev pub given_of : {T : Type 0} → Counted T → ℕ
given_of c = c.given

-- whether a write failed since nobody reads what is written
abbrev pub is_unread : {T : Type 0} → Counted T → Bool
is_unread c = c.unread

-- the greatest count
abbrev pub greatest_count : ℕ
greatest_count = 2 ^ 64 - 1

-- so many more; the count stays at its greatest
abbrev pub with_more : ℕ → ℕ → ℕ
with_more count more = min (count + more) greatest_count

-- one failure more
abbrev pub one_more : ℕ → ℕ
one_more count = with_more count 1

-- one call failed
abbrev pub HasFailed : {T : Type 0} → Counted T → Counted T → Type 0
HasFailed old new = failures_of new ≡ one_more (failures_of old)

-- no call failed
abbrev pub HasNotFailed : {T : Type 0} → Counted T → Counted T → Type 0
HasNotFailed old new = failures_of new ≡ failures_of old

-- one call failed where this says so, and else none
abbrev pub HasFailedIf : {T : Type 0} → Bool → Counted T → Counted T → Type 0
HasFailedIf true old new = HasFailed old new
HasFailedIf false old new = HasNotFailed old new

-- so many octets more were given
abbrev pub HasGiven : {T : Type 0} → ℕ → Counted T → Counted T → Type 0
HasGiven count old new = given_of new ≡ with_more (given_of old) count

-- a write failed with this error: nobody reads where it says so, or one before it did
abbrev pub TellsUnread : {T : Type 0} → Error → Counted T → Counted T → Type 0
TellsUnread error old new = is_unread new ≡ (is_unread old || is_broken (error_kind error))
