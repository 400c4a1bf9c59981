-- How many Syncs have results.
use Rattle.std.specs.Prelude.{ℕ, ◌+◌, ◌-◌, ◌^◌, min, true, false, Option, Some, None, if◌then◌else◌}
use Rattle.std.specs.Option.{option_map_or}
use Rattle.recording_lines.specs.declared.measurement.Half.{Half}
use Rattle.recording_lines.specs.declared.measurement.Half.TheVariants as halves
use Rattle.result_audit.specs.declared.course.Gap.{Gap}
use Rattle.result_audit.specs.declared.coverage.Coverage.{Coverage}
use Rattle.result_audit.specs.declared.held.Held.{Held}

-- one more, up to 2^64 - 1
abbrev pub one_more : ℕ → ℕ
one_more count = min (count + 1) (2 ^ 64 - 1)

-- nothing was counted
abbrev pub covers_nothing : Coverage
covers_nothing = record { syncs = 0; with_result = 0; is_open = false }

-- a report by a message of this half, of a Sync of which nothing was told, where that is so: at a Sync there is one more, which has no result
-- yet; and results behind a Sync without report are of none of these
abbrev pub with_half : Half → (other_sync : Option Gap) → Coverage → Coverage
with_half halves.Sync other c = record c { syncs = one_more c.syncs; is_open = true }
with_half halves.Response None c = c
with_half halves.Response (Some gap) c = record c { is_open = false }

-- a result of the newest Sync: where it is its first, one more Sync has results
abbrev pub with_result : Coverage → Coverage
with_result c = if c.is_open then record c { with_result = one_more c.with_result; is_open = false } else c

-- a result that is judged: it is of the newest Sync, or of none
abbrev pub with_held : Held → Coverage → Coverage
with_held held c = option_map_or (λ found. with_result c) held.answer.found c

-- how many reports at Syncs have no result
abbrev pub without_result : Coverage → ℕ
without_result c = c.syncs - c.with_result
