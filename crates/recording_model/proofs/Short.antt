-- Recordings of short runs meet the premises.
use Rattle.std.proofs.Common.{ℕ, suc, [], ◌∷◌, ◌+◌, ◌<◌, ◌≤◌, Bool, true, false, List, length, arith, if◌then◌else◌}
use Rattle.std.specs.Prelude.{◌&&◌}
use Rattle.network_model.specs.Network.{Network, NodeName}
use Rattle.network_model.specs.Run.{Run, place}
use Rattle.network_model.specs.Kinds.{is_at, draws_sync, is_request}
use Rattle.network_model.specs.Truth.{origin_heard}
use Rattle.network_model.proofs.Short.{each_origin}
use Rattle.recording_model.specs.declared.watched.Watched.{Watched}
use Rattle.recording_model.specs.Recorded.{Recorded}
use Rattle.recording_model.specs.Agreement.{Moved}
use Rattle.recording_model.specs.Told.{Tells, Nothing, Untold, Told, Other}
use Rattle.recording_model.specs.Premises.{IsFresh, IsTicked, MissesFew, syncs_since_tick, requests_missing, brings_tick}
use Rattle.recording_model.specs.Listening.{after_all}

one_more : (counts : Bool) (before room : ℕ) → before ≤ room → (if counts then before + 1 else before) ≤ suc room
one_more true before room fits = omega arith
one_more false before room fits = omega arith

begun : (begins : Bool) (before room : ℕ) → before ≤ room → (if begins then 0 else before) ≤ suc room
begun true before room fits = omega arith
begun false before room fits = omega arith

module _ (network : Network) (slave master : NodeName) (w : Watched) {moved : Moved} where
  -- of a run of at most so many events
  pub IsFresh-short : (late : ℕ) {run : Run} {ds : List Recorded} (tells : Tells network slave w moved run ds)
      → length run ≤ late
      → IsFresh late tells
  IsFresh-short late Nothing short = tt
  IsFresh-short late (Untold event earlier ds tells) short = IsFresh-short late tells (omega arith)
  IsFresh-short late (Told event earlier d ds one tells) short = (
    λ _. each_origin (origin_heard (place event earlier)) earlier late (omega arith),
    IsFresh-short late tells (omega arith),
  )
  IsFresh-short late (Other run d ds nothing tells) short = IsFresh-short late tells short

  -- no more Syncs than events
  syncs_since_tick-le : {run : Run} {ds : List Recorded} (tells : Tells network slave w moved run ds)
      → syncs_since_tick master tells ≤ length run
  syncs_since_tick-le Nothing = omega arith
  syncs_since_tick-le (Untold event earlier [] tells) = omega arith
  syncs_since_tick-le (Untold event earlier (d ∷ ds) tells) =
      one_more (is_at draws_sync master event) (syncs_since_tick master tells) (length earlier)
      (syncs_since_tick-le tells)
  syncs_since_tick-le (Told event earlier d ds one tells) =
      begun (brings_tick w ds d) (syncs_since_tick master tells) (length earlier) (syncs_since_tick-le tells)
  syncs_since_tick-le (Other run d ds nothing tells) = syncs_since_tick-le tells

  pub IsTicked-short : (between_ticks : ℕ) {run : Run} {ds : List Recorded} (tells : Tells network slave w moved run ds)
      → length run ≤ between_ticks → IsTicked between_ticks master tells
  IsTicked-short between_ticks Nothing short = tt
  IsTicked-short between_ticks (Untold event earlier ds tells) short = (
    omega (arith, syncs_since_tick-le (Untold event earlier ds tells)),
    IsTicked-short between_ticks tells (omega arith),
  )
  IsTicked-short between_ticks (Told event earlier d ds one tells) short =
      IsTicked-short between_ticks tells (omega arith)
  IsTicked-short between_ticks (Other run d ds nothing tells) short = IsTicked-short between_ticks tells short

  -- no more Delay_Reqs than events
  requests_missing-le : {run : Run} {ds : List Recorded} (tells : Tells network slave w moved run ds)
      → requests_missing tells ≤ length run
  requests_missing-le Nothing = omega arith
  requests_missing-le (Untold event earlier ds tells) =
      one_more ((after_all w ds).asked && is_at is_request slave event) (requests_missing tells) (length earlier)
      (requests_missing-le tells)
  requests_missing-le (Told event earlier d ds one tells) =
      begun (is_request event) (requests_missing tells) (length earlier) (requests_missing-le tells)
  requests_missing-le (Other run d ds nothing tells) = requests_missing-le tells

  pub MissesFew-short : (late : ℕ) {run : Run} {ds : List Recorded} (tells : Tells network slave w moved run ds)
      → length run < late → MissesFew late tells
  MissesFew-short late Nothing short = tt
  MissesFew-short late (Untold event earlier ds tells) short = (
    omega (arith, requests_missing-le (Untold event earlier ds tells)),
    MissesFew-short late tells (omega arith),
  )
  MissesFew-short late (Told event earlier d ds one tells) short =
      MissesFew-short late tells (omega arith)
  MissesFew-short late (Other run d ds nothing tells) short = MissesFew-short late tells short
