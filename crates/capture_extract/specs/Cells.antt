-- The cells of a row.
use Rattle.std.specs.Prelude.{ℕ, zero, suc, ◌-◌, ◌*ℤ◌, ℤ, pos, Bool, true, false, take, slice_index_or, if◌then◌else◌}
use Rattle.std.specs.Prelude.{List, [], ◌∷◌, ◌++◌, codes, Option, Some, None}
use Rattle.std.specs.Fmt.{decimal}
use Rattle.std.specs.List.{list_any}
use Rattle.ptp_units.specs.Interval.{exact}
use Rattle.ptp_units.specs.Nanoseconds.{nanoseconds_text}
use Rattle.capture_file.specs.Packet.{InterfaceOf}
use Rattle.datagram_text.specs.Shown.{identity_text, stamp_text}
use Rattle.statistics.specs.declared.rounded.Signed.{Signed}
use Rattle.rounded_text.specs.Rounded.{milliseconds_of_thousandths, milliseconds_text}
use Rattle.capture_extract.specs.declared.message_type.MessageType.{MessageType}
use Rattle.capture_extract.specs.declared.message_type.MessageType.TheVariants as types
use Rattle.capture_extract.specs.declared.row.Row.{Row}
use Rattle.capture_extract.specs.declared.row.RowKey.{RowKey}
use Rattle.capture_extract.specs.Labels.{label_text}
use Rattle.capture_extract.specs.Streams.{stream_text}

-- ---- what cells show
-- a type by its name in IEEE 1588-2019, table 36, and one that has none by its number
abbrev pub type_text : MessageType → List ℕ
type_text types.Sync = codes "Sync"
type_text types.DelayReq = codes "Delay_Req"
type_text types.PdelayReq = codes "Pdelay_Req"
type_text types.PdelayResp = codes "Pdelay_Resp"
type_text types.FollowUp = codes "Follow_Up"
type_text types.DelayResp = codes "Delay_Resp"
type_text types.PdelayRespFollowUp = codes "Pdelay_Resp_Follow_Up"
type_text types.Announce = codes "Announce"
type_text types.Signaling = codes "Signaling"
type_text types.Management = codes "Management"
type_text (types.Reserved number) = codes "type " ++ decimal number

-- a correctionField in nanoseconds, exactly, or that it is too big (13.3.2.9)
abbrev pub correction_text_by : Option ℤ → List ℕ
correction_text_by (Some units) = nanoseconds_text (pos 2 *ℤ units)
correction_text_by None = codes "too big"

abbrev pub correction_text : ℤ → List ℕ
correction_text units = correction_text_by (exact units)

-- one of the minor versions, if it was met, with a comma where one was met before it
abbrev pub version_text : List Bool → (minor : ℕ) → List ℕ
version_text met minor =
    if slice_index_or met minor false
    then (if list_any (λ is. is) (take minor met) then codes "," else []) ++ codes "2." ++ decimal minor
    else []

-- the first so many
abbrev pub versions_text : (count : ℕ) → List Bool → List ℕ
versions_text zero met = []
versions_text (suc minor) met = versions_text minor met ++ version_text met minor

-- a dash where there is no value
abbrev pub or_dash : {A : Type 0} → (A → List ℕ) → Option A → List ℕ
or_dash text (Some value) = text value
or_dash text None = codes "-"

-- twoStepFlag has a meaning in it (table 37)
abbrev pub has_steps : MessageType → Bool
has_steps types.Sync = true
has_steps types.PdelayResp = true
has_steps _ = false

-- ---- cells
-- a count, where twoStepFlag has a meaning
abbrev pub steps_cell : MessageType → ℕ → List ℕ
steps_cell message count = if has_steps message then decimal count else codes "-"

-- a mean in thousandths of a nanosecond
abbrev pub interval_cell : Signed → List ℕ
interval_cell mean = milliseconds_text (milliseconds_of_thousandths mean)

-- the cells of a row at an interface, whose intervals have this mean
abbrev pub row_cells : Option InterfaceOf → (mean : Option Signed) → RowKey → Row → List (List ℕ)
row_cells interface mean key row =
    or_dash label_text interface
    ∷ or_dash stream_text key.stream
    ∷ decimal key.domain
    ∷ identity_text key.source
    ∷ or_dash identity_text key.requesting
    ∷ type_text key.message
    ∷ decimal row.count
    ∷ decimal (row.flow.skipped - row.flow.late)
    ∷ or_dash interval_cell mean
    ∷ steps_cell key.message row.one_step
    ∷ steps_cell key.message row.two_step
    ∷ versions_text 16 row.versions.met
    ∷ stamp_text row.first
    ∷ stamp_text row.last
    ∷ correction_text row.least.0
    ∷ correction_text row.greatest.0
    ∷ []
