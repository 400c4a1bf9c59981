-- Which tap the Syncs of the master meet first, by the messages that were met, the newest in front; two of one number
-- are one Sync (IEEE 1588-2019, 7.3.7). `laws::first_sync_at_both_taps_chooses` promises it.
use Rattle.std.specs.Prelude.{◌≡◌, ◌↔◌, ℕ, nat_lt, ◌<◌, Bool, true, false, ◌&&◌, ◌==◌, nat_eq, List, [], ◌∷◌, ◌++◌, count_by}
use Rattle.std.specs.Prelude.{Option, Some, None, IsSome, option_map, if◌then◌else◌}
use Rattle.std.specs.Option.{option_or, option_map_or}
use Rattle.event_codec.specs.declared.message.Header.{Header}
use Rattle.event_codec.specs.declared.message.Body.{Body}
use Rattle.event_codec.specs.declared.message.Body.TheVariants as bodies
use Rattle.event_codec.specs.declared.port.PortIdentity.{PortIdentity}
use Rattle.event_codec.specs.Port.{is_same_port}
use Rattle.tap_choice.specs.declared.met.Met.{Met}
use Rattle.tap_choice.specs.declared.met.Side.{Side}
use Rattle.tap_choice.specs.declared.met.Side.TheVariants as taps
use Rattle.tap_choice.specs.declared.wanted.WantedTaps.{WantedTaps}
use Rattle.tap_choice.specs.Known.{Known, asked, noticed, other_side}

-- what is known once these messages were met
abbrev pub known_after : (capacity : ℕ) → WantedTaps → List Met → Known
known_after capacity w [] = asked w
known_after capacity w (m ∷ earlier) = noticed capacity m (known_after capacity w earlier)

abbrev pub is_sync : Body → Bool
is_sync (bodies.Sync origin) = true
is_sync (bodies.DelayReq origin) = false
is_sync (bodies.FollowUp precise) = false
is_sync (bodies.DelayResp receive requesting) = false

-- it is this one, or none is asked for
abbrev pub is_wanted_domain : Option ℕ → (domain : ℕ) → Bool
is_wanted_domain None domain = true
is_wanted_domain (Some wanted) domain = domain == wanted

abbrev pub is_wanted_master : Option PortIdentity → (source : PortIdentity) → Bool
is_wanted_master None source = true
is_wanted_master (Some wanted) source = is_same_port source wanted

-- a Sync of the domain and the master that are asked for, as far as they are
abbrev pub is_wanted : WantedTaps → Met → Bool
is_wanted w m = is_sync m.body && is_wanted_domain w.domain m.header.domain && is_wanted_master w.master m.header.source

abbrev pub only_if : Bool → Met → Option Met
only_if is m = if is then Some m else None

-- the first of these
abbrev pub first_wanted : WantedTaps → List Met → Option Met
first_wanted w [] = None
first_wanted w (m ∷ earlier) = option_or (first_wanted w earlier) (only_if (is_wanted w m) m)

-- the domain and the master: those that are asked for, or else those of this Sync
abbrev pub domain_told : WantedTaps → List Met → Option ℕ
domain_told w met = option_or w.domain (option_map (λ m. m.header.domain) (first_wanted w met))

abbrev pub master_told : WantedTaps → List Met → Option PortIdentity
master_told w met = option_or w.master (option_map (λ m. m.header.source) (first_wanted w met))

-- whom these messages tell
abbrev pub TellsWhom : Type 0
TellsWhom = (capacity : ℕ) (w : WantedTaps) (met : List Met)
    → ((known_after capacity w met).domain ≡ domain_told w met) × ((known_after capacity w met).master ≡ master_told w met)

-- of this master in this domain, where both are known
abbrev pub is_from : Option ℕ → Option PortIdentity → Header → Bool
is_from domain master header =
    option_map_or (λ d. header.domain == d) domain false && option_map_or (λ p. is_same_port header.source p) master false

-- a Sync of these
abbrev pub is_sync_of : Option ℕ → Option PortIdentity → Met → Bool
is_sync_of domain master m = is_sync m.body && is_from domain master m.header

-- a Sync of the master by these messages
abbrev pub is_of_master : WantedTaps → List Met → Met → Bool
is_of_master w met m = is_sync_of (domain_told w met) (master_told w met) m

-- both are one tap
abbrev pub is_same_side : Side → Side → Bool
is_same_side taps.First taps.First = true
is_same_side taps.First taps.Second = false
is_same_side taps.Second taps.First = false
is_same_side taps.Second taps.Second = true

-- a Sync of the master that was met at this tap
abbrev pub is_sync_at : (of_master : Met → Bool) → Side → Met → Bool
is_sync_at of_master side m = of_master m && is_same_side side m.side

-- and that has this number
abbrev pub is_named_at : (of_master : Met → Bool) → Side → (number : ℕ) → Met → Bool
is_named_at of_master side number m = is_sync_at of_master side m && nat_eq m.header.sequence.0 number

-- The newest Sync of the master that was met at a tap under a number, among its last `capacity` there: fewer of them than that came
-- to this tap since.
pub record IsNewestAt (capacity : ℕ) (of_master : Met → Bool) (side : Side) (number : ℕ) (met : List Met) (sync : Met) : Type 0 where
  pub since : List Met
  pub before : List Met
  pub parts : met ≡ since ++ sync ∷ before
  pub is_named : is_named_at of_master side number sync ≡ true
  pub newest : count_by (is_named_at of_master side number) since ≡ 0
  pub within : count_by (is_sync_at of_master side) since < capacity

-- A Sync of the master was met at both taps: here, and before at the other one, with its number, as `other`.
pub record IsMetAtBoth (capacity : ℕ) (of_master : Met → Bool) (met : List Met) (sync other : Met) : Type 0 where
  pub later : List Met
  pub earlier : List Met
  pub parts : met ≡ later ++ sync ∷ earlier
  pub of_master_is : of_master sync ≡ true
  pub before : IsNewestAt capacity of_master (other_side sync.side) sync.header.sequence.0 earlier other

-- it is the first of these
pub record IsFirstAtBoth (capacity : ℕ) (of_master : Met → Bool) (met : List Met) (sync other : Met) : Type 0 where
  pub at_both : IsMetAtBoth capacity of_master met sync other
  pub first : (s o : Met) → IsMetAtBoth capacity of_master at_both.earlier s o → ⊥

-- the tap at which it has the earlier time, or else the one that met it first
abbrev pub earlier_of : (sync other : Met) → Side
earlier_of sync other = if nat_lt sync.time other.time then sync.side else other.side

-- the first Sync of the master that was met at both taps is this tap's
pub record IsFirstOf (capacity : ℕ) (of_master : Met → Bool) (met : List Met) (from : Side) : Type 0 where
  pub sync : Met
  pub other : Met
  pub is_first : IsFirstAtBoth capacity of_master met sync other
  pub from_is : from ≡ earlier_of sync other

-- where no tap is asked for, `from` is this one just where that is so
abbrev pub ChoosesWhereMetFirst : Type 0
ChoosesWhereMetFirst = (capacity : ℕ) (w : WantedTaps) (met : List Met) (from : Side) → w.from ≡ None → w.to ≡ None
    → ((known_after capacity w met).from ≡ Some from) ↔ IsFirstOf capacity (is_of_master w met) met from

-- and it is known just where some Sync was met at both
abbrev pub ChoosesOnceMetAtBoth : Type 0
ChoosesOnceMetAtBoth = (capacity : ℕ) (w : WantedTaps) (met : List Met) → w.from ≡ None → w.to ≡ None
    → (sync other : Met) → IsMetAtBoth capacity (is_of_master w met) met sync other → IsSome (known_after capacity w met).from
