-- Whose Syncs are followed, and which of two taps they meet first: what isn't asked for, the Syncs tell, one by one.
use Rattle.std.specs.Prelude.{ℕ, nat_lt, Bool, false, ◌&&◌, ◌||◌, ◌==◌, Option, Some, None, is_some, if◌then◌else◌}
use Rattle.std.specs.Prelude.{option_map, option_and_then}
use Rattle.std.specs.Option.{option_or, option_map_or}
use Rattle.event_codec.specs.declared.message.Header.{Header}
use Rattle.event_codec.specs.declared.message.Body.{Body}
use Rattle.event_codec.specs.declared.message.Body.TheVariants as bodies
use Rattle.event_codec.specs.declared.port.PortIdentity.{PortIdentity}
use Rattle.event_codec.specs.Port.{is_same_port}
use Rattle.pairing.specs.Marked.{Marked, entry, empty, find, push}
use Rattle.tap_choice.specs.declared.met.Met.{Met}
use Rattle.tap_choice.specs.declared.met.Side.{Side}
use Rattle.tap_choice.specs.declared.met.Side.TheVariants as taps
use Rattle.tap_choice.specs.declared.choice.Pair.{Pair}
use Rattle.tap_choice.specs.declared.wanted.WantedTaps.{WantedTaps}

-- what is known: the domain, the master, the tap that its Syncs meet first; and when the last of them were met at each tap
pub record Known : Type 0 where
  pub domain : Option ℕ
  pub master : Option PortIdentity
  pub from : Option Side
  pub first_syncs : Marked ℕ
  pub second_syncs : Marked ℕ

-- before any message: what is asked for. Where a tap is named, the one that is asked for as `from` is the first.
abbrev pub asked : WantedTaps → Known
asked w = record {
  domain = w.domain;
  master = w.master;
  from = if is_some w.from || is_some w.to then Some taps.First else None;
  first_syncs = empty;
  second_syncs = empty;
}

-- the other tap
abbrev pub other_side : Side → Side
other_side taps.First = taps.Second
other_side taps.Second = taps.First

-- a Sync tells the domain, where that isn't known: its own, where it is of the master that is asked for, if one is
abbrev pub sync_domain : Option ℕ → Option PortIdentity → Header → Option ℕ
sync_domain (Some domain) master header = Some domain
sync_domain None None header = Some header.domain
sync_domain None (Some master) header = if is_same_port header.source master then Some header.domain else None

-- and the master, where that isn't known: its source, where it is of the domain
abbrev pub sync_master : Option ℕ → Option PortIdentity → Header → Option PortIdentity
sync_master domain (Some master) header = Some master
sync_master None None header = None
sync_master (Some domain) None header = if header.domain == domain then Some header.source else None

-- what is known of whom once this Sync was met
abbrev pub told_by : Header → Known → Known
told_by header k = record k {
  domain = sync_domain k.domain k.master header;
  master = sync_master (sync_domain k.domain k.master header) k.master header;
}

-- a Sync of the master, in the domain
abbrev pub is_of : Known → Header → Bool
is_of k header =
    option_map_or (λ domain. header.domain == domain) k.domain false
    && option_map_or (λ master. is_same_port header.source master) k.master false

-- when the last Syncs of the master were met at a tap
abbrev pub syncs_at : Side → Known → Marked ℕ
syncs_at taps.First k = k.first_syncs
syncs_at taps.Second k = k.second_syncs

-- the tap at which a message has the earlier time; where both are equal, the other one, which met it before
abbrev pub earlier_side : Side → (time other : ℕ) → Side
earlier_side side time other = if nat_lt time other then side else other_side side

-- the tap that a Sync met first, where it is one of the last that were met at the other
abbrev pub from_by : Met → Known → Option Side
from_by m k = option_map (earlier_side m.side m.time) (find m.header.sequence.0 (syncs_at (other_side m.side) k))

-- one more Sync was met at this tap
abbrev pub by_side : Side → (capacity : ℕ) → Met → Known → Known
by_side taps.First capacity m k = record k { first_syncs = push capacity (entry m.header.sequence.0 m.time) k.first_syncs }
by_side taps.Second capacity m k = record k { second_syncs = push capacity (entry m.header.sequence.0 m.time) k.second_syncs }

abbrev pub with_sync : (capacity : ℕ) → Met → Known → Known
with_sync capacity m k = by_side m.side capacity m k

-- a Sync of the master tells the tap that it met first, where that isn't known
abbrev pub met_sync : (capacity : ℕ) → Met → Known → Known
met_sync capacity m k =
    if is_of k m.header then with_sync capacity m (record k { from = option_or k.from (from_by m k) }) else k

-- what is known once this message was met
abbrev pub noticed_as : Body → (capacity : ℕ) → Met → Known → Known
noticed_as (bodies.Sync origin) capacity m k = met_sync capacity m (told_by m.header k)
noticed_as (bodies.DelayReq origin) capacity m k = k
noticed_as (bodies.FollowUp precise) capacity m k = k
noticed_as (bodies.DelayResp receive requesting) capacity m k = k

-- what is known once this message was met, of whichever kind
abbrev pub noticed : (capacity : ℕ) → Met → Known → Known
noticed capacity m k = noticed_as m.body capacity m k

-- the three, once all are known
abbrev pub pair_of : Known → Option Pair
pair_of k = option_and_then (λ domain. option_and_then (λ master. option_map
    (λ from. record { domain = domain; master = master; from = from }) k.from) k.master) k.domain
