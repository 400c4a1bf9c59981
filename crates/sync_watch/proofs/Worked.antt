-- Worked cases: what is told of a master, at seconds and tenths of a second.
use Rattle.std.proofs.Common.{◌≡◌, ℕ, ◌+◌, ◌*◌, ℤ, pos, negsuc, true, false, List, [], ◌∷◌, refl}
use Rattle.sync_watch.specs.declared.arrival.Arrival.{Arrival}
use Rattle.sync_watch.specs.declared.judgement.Judgement.TheVariants.{Newer, Repeated, BeganAnew}
use Rattle.sync_watch.specs.Told.{arrival, Told, Sync, FollowUp}
use Rattle.sync_watch.specs.Judged.{judged_sync, judged_follow_up, after_sync}

-- after so many tenths of a second, by this logMessageInterval
abbrev with_log : (log : ℤ) (number tenths : ℕ) → Arrival
with_log log number tenths = arrival number false log (tenths * 6553600000000)

-- the same of one that tells no interval
abbrev at : (number tenths : ℕ) → Arrival
at = with_log (pos 127)

-- Syncs 7 and 8, of which the first has its Follow_Up, and the Follow_Up of 9
abbrev told : List Told
told = FollowUp (at 9 31) ∷ Sync (at 8 30) ∷ FollowUp (at 7 21) ∷ Sync (at 7 20) ∷ []

a_new_number : judged_sync (at 10 40) 256 told ≡ Newer
a_new_number = refl

a_copy : judged_sync (at 8 39) 256 told ≡ Repeated
a_copy = refl

a_second_later : judged_sync (at 8 40) 256 told ≡ BeganAnew
a_second_later = refl

a_second_earlier : judged_sync (at 7 10) 256 told ≡ BeganAnew
a_second_earlier = refl

-- a Follow_Up that overtook its Sync, and one that is of no such Sync; one that came first says nothing of whose life it is
after_its_follow_up : judged_sync (at 9 32) 256 told ≡ Newer
after_its_follow_up = refl

after_a_follow_up_of_another_life : judged_sync (at 3 40) 256 (FollowUp (at 3 39) ∷ told) ≡ BeganAnew
after_a_follow_up_of_another_life = refl

another_life : judged_sync (at 9 41) 256 told ≡ BeganAnew
another_life = refl

-- with unicastFlag numbers are others
apart : judged_sync (arrival 8 true (pos 127) (60 * 6553600000000)) 256 told ≡ Newer
apart = refl

-- a beginning forgets all but its Sync
begun : after_sync (at 8 40) 256 told ≡ Sync (at 8 40) ∷ []
begun = refl

-- the newest is 8: 256 ahead is the farthest, modulo 65,536
the_farthest : judged_sync (at 264 40) 256 told ≡ Newer
the_farthest = refl

too_far : judged_sync (at 265 40) 256 told ≡ BeganAnew
too_far = refl

around : judged_sync (at 3 60) 256 (Sync (at 65530 50) ∷ []) ≡ Newer
around = refl

-- one that was overtaken, by less than a second, and one that was not
overtaken : judged_sync (at 5 31) 256 told ≡ Newer
overtaken = refl

a_second_behind : judged_sync (at 5 40) 256 told ≡ BeganAnew
a_second_behind = refl

too_far_behind : judged_sync (at 65288 31) 256 told ≡ BeganAnew
too_far_behind = refl

-- the newest isn't the one that came last, where that was overtaken
after_overtaken : judged_sync (at 262 33) 256 (Sync (at 5 31) ∷ told) ≡ Newer
after_overtaken = refl

as_far_as_the_newest : judged_sync (at 6 45) 256 (Sync (at 5 40) ∷ Sync (at 8 30) ∷ []) ≡ BeganAnew
as_far_as_the_newest = refl

-- at one a second and one each 128th of a second, 17 ahead: more than twice as many as fit in 8 s and in 62.5 ms, and not
-- in 9 s and in 100 ms; 16 are never too many
too_soon : judged_sync (with_log (pos 0) 25 110) 256 told ≡ BeganAnew
too_soon = refl

late_enough : judged_sync (with_log (pos 0) 25 120) 256 told ≡ Newer
late_enough = refl

a_few : judged_sync (with_log (pos 0) 24 31) 256 told ≡ Newer
a_few = refl

too_soon_at_128 : judged_sync (arrival 25 false (negsuc 6) (30 * 6553600000000 + 4096000000000)) 256 told ≡ BeganAnew
too_soon_at_128 = refl

late_enough_at_128 : judged_sync (with_log (negsuc 6) 25 31) 256 told ≡ Newer
late_enough_at_128 = refl

-- other logarithms tell no interval
no_interval : judged_sync (with_log (pos 7) 200 31) 256 told ≡ Newer
no_interval = refl

its_follow_up : judged_follow_up (at 8 39) 256 told ≡ Newer
its_follow_up = refl

a_second_after_its_sync : judged_follow_up (at 8 40) 256 told ≡ Repeated
a_second_after_its_sync = refl

a_copy_of_a_follow_up : judged_follow_up (at 7 22) 256 told ≡ Repeated
a_copy_of_a_follow_up = refl

a_follow_up_too_far : judged_follow_up (at 265 31) 256 told ≡ Repeated
a_follow_up_too_far = refl

a_follow_up_far_behind : judged_follow_up (at 65288 31) 256 told ≡ Repeated
a_follow_up_far_behind = refl

a_follow_up_of_no_sync : judged_follow_up (at 65289 31) 256 told ≡ Newer
a_follow_up_of_no_sync = refl
