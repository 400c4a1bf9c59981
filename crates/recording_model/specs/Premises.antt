-- What is asked of a recording whose reports are exact: no number is too old when it is used, ticks come often enough,
-- and few Delay_Reqs are missing in a row.
use Rattle.std.specs.Prelude.{ℕ, ◌+◌, ◌<◌, ◌≤◌, ⊤, Bool, true, false, not, ◌&&◌, ◌==◌, List, [], ◌∷◌, count_by}
use Rattle.std.specs.Prelude.{if◌then◌else◌, IsTrue, IfSome}
use Rattle.slave_port.specs.History as calls
use Rattle.slave_port.specs.History.{Call}
use Rattle.network_model.specs.Network.{Network, NodeName}
use Rattle.network_model.specs.Run.{Run, place}
use Rattle.network_model.specs.Kinds.{is_at, draws_sync, is_request}
use Rattle.network_model.specs.Numbering.{drawn_later}
use Rattle.network_model.specs.Truth.{origin_heard}
use Rattle.network_model.specs.Premises.{Limits}
use Rattle.recording_model.specs.declared.watched.Watched.{Watched}
use Rattle.recording_model.specs.Recorded.{Recorded}
use Rattle.recording_model.specs.Listening.{Listening, after_all, hear, is_used}
use Rattle.recording_model.specs.Agreement.{Moved}
use Rattle.recording_model.specs.Told.{Tells, Nothing, Untold, Told, Other, AreNumbered}

-- where the port uses a message that is told, fewer numbers than this are later than its own in its sequence
abbrev pub IsFresh : {network : Network} {slave : NodeName} {w : Watched} {moved : Moved} {run : Run} {ds : List Recorded} → (late : ℕ)
    → Tells network slave w moved run ds → Type 0
IsFresh late Nothing = ⊤
IsFresh late (Untold event earlier ds tells) = IsFresh late tells
IsFresh {w = w} late (Told event earlier d ds one tells) =
    (IsTrue (is_used w ds d)
    → IfSome (origin_heard (place event earlier)) (λ origin. drawn_later origin earlier < late))
    × IsFresh late tells
IsFresh late (Other run d ds nothing tells) = IsFresh late tells

-- a call that is a tick, or that tells the port its master, after which nothing is held that came before
abbrev pub is_tick : Call → Bool
is_tick calls.Tick = true
is_tick (calls.SetMaster master) = true
is_tick _ = false

-- how many of these the port was given
abbrev pub ticks_in : Listening → ℕ
ticks_in l = count_by is_tick l.calls

-- after a datagram the port was given another number of these: more, or fewer where it is a new port
abbrev pub brings_tick : Watched → List Recorded → Recorded → Bool
brings_tick w earlier d = not (ticks_in (hear w d (after_all w earlier)) == ticks_in (after_all w earlier))

-- how many Syncs the master drew since the port's last tick, or since the first datagram
abbrev pub syncs_since_tick : {network : Network} {slave : NodeName} {w : Watched} {moved : Moved} {run : Run} {ds : List Recorded}
    → (master : NodeName) → Tells network slave w moved run ds → ℕ
syncs_since_tick master Nothing = 0
syncs_since_tick master (Untold event earlier [] tells) = 0
syncs_since_tick master (Untold event earlier (d ∷ ds) tells) =
    if is_at draws_sync master event then syncs_since_tick master tells + 1 else syncs_since_tick master tells
syncs_since_tick {w = w} master (Told event earlier d ds one tells) =
    if brings_tick w ds d then 0 else syncs_since_tick master tells
syncs_since_tick master (Other run d ds nothing tells) = syncs_since_tick master tells

-- at no point are these more; they grow where an event isn't told
abbrev pub IsTicked : {network : Network} {slave : NodeName} {w : Watched} {moved : Moved} {run : Run} {ds : List Recorded}
    → (between_ticks : ℕ) → (master : NodeName) → Tells network slave w moved run ds → Type 0
IsTicked between_ticks master Nothing = ⊤
IsTicked between_ticks master (Untold event earlier ds tells) =
    (syncs_since_tick master (Untold event earlier ds tells) ≤ between_ticks) × IsTicked between_ticks master tells
IsTicked between_ticks master (Told event earlier d ds one tells) =
    IsTicked between_ticks master tells
IsTicked between_ticks master (Other run d ds nothing tells) = IsTicked between_ticks master tells

-- how many Delay_Reqs the slave sent since the last one that is told, once one was
abbrev pub requests_missing : {network : Network} {slave : NodeName} {w : Watched} {moved : Moved} {run : Run} {ds : List Recorded}
    → Tells network slave w moved run ds → ℕ
requests_missing Nothing = 0
requests_missing {slave = slave} {w = w} (Untold event earlier ds tells) =
    if (after_all w ds).asked && is_at is_request slave event then requests_missing tells + 1
    else requests_missing tells
requests_missing (Told event earlier d ds one tells) =
    if is_request event then 0 else requests_missing tells
requests_missing (Other run d ds nothing tells) = requests_missing tells

-- at no point are these as many; they grow where an event isn't told
abbrev pub MissesFew : {network : Network} {slave : NodeName} {w : Watched} {moved : Moved} {run : Run} {ds : List Recorded}
    → (late : ℕ) → Tells network slave w moved run ds → Type 0
MissesFew late Nothing = ⊤
MissesFew late (Untold event earlier ds tells) =
    (requests_missing (Untold event earlier ds tells) < late) × MissesFew late tells
MissesFew late (Told event earlier d ds one tells) = MissesFew late tells
MissesFew late (Other run d ds nothing tells) = MissesFew late tells

-- The recording of a slave and of a master that it follows: its lines are numbered, no number is too old when it is
-- used, ticks come often enough, and not too many Delay_Reqs are missing in a row.
pub record IsFreshAndTicked (limits : Limits) {network : Network} {slave : NodeName} {w : Watched} {moved : Moved} {run : Run} {ds : List Recorded}
    (master : NodeName) (tells : Tells network slave w moved run ds) : Type 0 where
  pub numbered : AreNumbered ds
  pub fresh : IsFresh limits.late tells
  pub ticked : IsTicked limits.between_ticks master tells
  pub missing : MissesFew limits.late tells
