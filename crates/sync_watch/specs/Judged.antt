-- What the number of a master's message says, by what was told before.
use Rattle.std.specs.Prelude.{ℕ, ◌||◌, List, [], ◌∷◌, is_some, if◌then◌else◌, Option, Some, None}
use Rattle.std.specs.Option.{option_map_or}
use Rattle.std.specs.Prelude.{Bool, false}
use Rattle.pairing.specs.Marked.{Entry, entry}
use Rattle.sync_watch.specs.declared.arrival.Arrival.{Arrival}
use Rattle.sync_watch.specs.declared.judgement.Judgement.{Judgement}
use Rattle.sync_watch.specs.declared.judgement.Judgement.TheVariants.{Newer, Repeated, BeganAnew}
use Rattle.sync_watch.specs.Told.{Told, Sync, FollowUp, syncs, follow_ups, known}
use Rattle.sync_watch.specs.Life.{is_apart, is_far, is_of_life, newest}

-- a Sync of whose number none is known, by the newest one
abbrev pub by_newest : Arrival → (newest : Option (Entry ℕ)) → Judgement
by_newest a None = Newer
by_newest a (Some n) = if is_of_life a n then Newer else BeganAnew

-- a Sync, where a Sync and a Follow_Up of its number are known by these times, and this is the newest Sync: it came before
-- where that Sync was less than a second apart; the master began anew where any of the two is farther apart, and where no
-- Sync is known and this one isn't of the life of the newest one
abbrev pub sync_judgement : Arrival → (sync follow_up : Option ℕ) → (newest : Option (Entry ℕ)) → Judgement
sync_judgement a (Some sync) follow_up n = if is_apart a.time sync then BeganAnew else Repeated
sync_judgement a None (Some follow_up) n = if is_apart a.time follow_up then BeganAnew else by_newest a n
sync_judgement a None None n = by_newest a n

-- a Follow_Up: it came before where its number is that of one, and it is of another Sync where that of its number is a
-- second or more apart, or where its number is far from that of the newest Sync
abbrev pub is_repeat : Arrival → (sync follow_up : Option ℕ) → (newest : Option (Entry ℕ)) → Bool
is_repeat a sync follow_up n =
    is_some follow_up || (option_map_or (is_apart a.time) sync false
    || option_map_or (λ n. is_far a.number.0 n.number) n false)

-- what a Sync says
abbrev pub judged_sync : Arrival → (capacity : ℕ) → List Told → Judgement
judged_sync a capacity told = sync_judgement a
    (known capacity a.number.0 (syncs a.is_unicast told)) (known capacity a.number.0 (follow_ups a.is_unicast told))
    (newest (syncs a.is_unicast told))

-- a Follow_Up isn't to be heard
abbrev pub is_repeated : Arrival → (capacity : ℕ) → List Told → Bool
is_repeated a capacity told = is_repeat a
    (known capacity a.number.0 (syncs a.is_unicast told)) (known capacity a.number.0 (follow_ups a.is_unicast told))
    (newest (syncs a.is_unicast told))

-- what a Follow_Up says
abbrev pub judged_follow_up : Arrival → (capacity : ℕ) → List Told → Judgement
judged_follow_up a capacity told = if is_repeated a capacity told then Repeated else Newer

-- what is told from then on: a repeat isn't, and where the master began anew it is that Sync alone
abbrev pub after : Judgement → Arrival → Told → List Told → List Told
after Newer a new told = new ∷ told
after Repeated a new told = told
after BeganAnew a new told = Sync a ∷ []

-- what is told once a Sync came
abbrev pub after_sync : Arrival → (capacity : ℕ) → List Told → List Told
after_sync a capacity told = after (judged_sync a capacity told) a (Sync a) told

-- what is told once a Follow_Up came
abbrev pub after_follow_up : Arrival → (capacity : ℕ) → List Told → List Told
after_follow_up a capacity told = if is_repeated a capacity told then told else FollowUp a ∷ told

-- what a Delay_Resp says, after these, newest first
abbrev pub judged_response : (capacity number : ℕ) → List (Entry ℕ) → Judgement
judged_response capacity number responses = if is_some (known capacity number responses) then Repeated else Newer

-- those that came from then on
abbrev pub after_response : (capacity number time : ℕ) → List (Entry ℕ) → List (Entry ℕ)
after_response capacity number time responses =
    if is_some (known capacity number responses) then responses else entry number time ∷ responses
