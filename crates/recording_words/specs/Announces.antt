-- What the Announces of the master tell, and where that changed, in words.
use Rattle.std.specs.Prelude.{ℕ, ◌==◌, Bool, false, not, ◌||◌, List, [], ◌++◌, codes, Option, Some, None, if◌then◌else◌}
use Rattle.std.specs.Bool.{beq}
use Rattle.std.specs.Ordering.{int_eq}
use Rattle.std.specs.Str.{bytes_eq}
use Rattle.std.specs.Fmt.{decimal, signed_decimal}
use Rattle.hex.specs.Hex.{encode_lower}
use Rattle.recording_summary.specs.declared.announces.Announced.{Announced}
use Rattle.recording_summary.specs.declared.announces.Announcement.{Announcement}
use Rattle.recording_summary.specs.declared.announces.Announces.{Announces}
use Rattle.recording_summary.specs.declared.announces.Change.{Change}
use Rattle.recording_words.specs.declared.announces.Told.{Told}
use Rattle.recording_words.specs.declared.announces.Told.TheVariants.{Clock, Number, UtcOffset, Timescale}
use Rattle.recording_words.specs.declared.unit.InputUnit.{InputUnit}
use Rattle.recording_words.specs.Times.{place_text}
use Rattle.recording_words.specs.Unit.{unit_name}

-- whether currentUtcOffset is valid
unfoldable pub validity_text : (is_valid : Bool) → List ℕ
validity_text is_valid = if is_valid then codes "valid" else codes "not valid"

-- the name of a timescale (IEEE 1588-2019, 7.2.1)
unfoldable pub timescale_text : (is_ptp : Bool) → List ℕ
timescale_text is_ptp = if is_ptp then codes "PTP" else codes "ARB"

-- what a field tells: clockIdentity in hexadecimal, a number, currentUtcOffset and whether it is valid, or a timescale
unfoldable pub told_text : Told → List ℕ
told_text (Clock identity) = encode_lower identity
told_text (Number n) = decimal n
told_text (UtcOffset seconds is_valid) = signed_decimal seconds ++ (codes " s (" ++ (validity_text is_valid ++ codes ")"))
told_text (Timescale is_ptp) = timescale_text is_ptp

-- the fields of an Announce
abbrev pub grandmaster : Announced → Told
grandmaster a = Clock a.grandmaster

abbrev pub clock_class : Announced → Told
clock_class a = Number a.clock_class

abbrev pub steps_removed : Announced → Told
steps_removed a = Number a.steps_removed

abbrev pub utc_offset : Announced → Told
utc_offset a = UtcOffset a.utc_offset a.is_utc_offset_valid

abbrev pub timescale : Announced → Told
timescale a = Timescale a.is_ptp_timescale

-- all that an Announce tells
unfoldable pub announced_text : Announced → List ℕ
announced_text a =
    codes "grandmaster " ++ (told_text (grandmaster a) ++ (codes ", clockClass " ++ (told_text (clock_class a)
    ++ (codes ", stepsRemoved " ++ (told_text (steps_removed a) ++ (codes ", currentUtcOffset " ++ (told_text (utc_offset a)
    ++ (codes ", timescale " ++ told_text (timescale a)))))))))

-- which fields changed
abbrev pub is_other_grandmaster : Change → Bool
is_other_grandmaster c = not (bytes_eq c.before.grandmaster c.after.grandmaster)

abbrev pub is_other_class : Change → Bool
is_other_class c = not (c.before.clock_class == c.after.clock_class)

abbrev pub is_other_distance : Change → Bool
is_other_distance c = not (c.before.steps_removed == c.after.steps_removed)

abbrev pub is_other_offset : Change → Bool
is_other_offset c =
    not (int_eq c.before.utc_offset c.after.utc_offset) || not (beq c.before.is_utc_offset_valid c.after.is_utc_offset_valid)

abbrev pub is_other_timescale : Change → Bool
is_other_timescale c = not (beq c.before.is_ptp_timescale c.after.is_ptp_timescale)

-- whether any field up to one changed
abbrev pub changed_to_class : Change → Bool
changed_to_class c = is_other_grandmaster c || is_other_class c

abbrev pub changed_to_distance : Change → Bool
changed_to_distance c = changed_to_class c || is_other_distance c

abbrev pub changed_to_offset : Change → Bool
changed_to_offset c = changed_to_distance c || is_other_offset c

-- a field that changed, with what it was and what it became; parted from another one in front of it
unfoldable pub field_text : (is_behind has_changed : Bool) → (name before after : List ℕ) → List ℕ
field_text is_behind has_changed name before after =
    if has_changed
    then (if is_behind then codes ", " else []) ++ (name ++ (codes " " ++ (before ++ (codes " became " ++ after))))
    else []

-- each field that changed
unfoldable pub changed_text : Change → List ℕ
changed_text c =
    field_text false (is_other_grandmaster c) (codes "grandmaster")
    (told_text (grandmaster c.before)) (told_text (grandmaster c.after))
    ++ field_text (is_other_grandmaster c) (is_other_class c) (codes "clockClass")
    (told_text (clock_class c.before)) (told_text (clock_class c.after))
    ++ field_text (changed_to_class c) (is_other_distance c) (codes "stepsRemoved")
    (told_text (steps_removed c.before)) (told_text (steps_removed c.after))
    ++ field_text (changed_to_distance c) (is_other_offset c) (codes "currentUtcOffset")
    (told_text (utc_offset c.before)) (told_text (utc_offset c.after))
    ++ field_text (changed_to_offset c) (is_other_timescale c) (codes "timescale")
    (told_text (timescale c.before)) (told_text (timescale c.after))

-- how often something changed, and that it was first
unfoldable pub often_text : (count : ℕ) → List ℕ
often_text count = if count == 1 then codes "once," else decimal count ++ codes " times, first"

-- what the last Announce tells, and since when, if any came
unfoldable pub told_line : InputUnit → (count : ℕ) → Option Announcement → List ℕ
told_line unit count None = []
told_line unit count (Some a) =
    codes "ptpx: Announces: " ++ (decimal count ++ (codes "; " ++ (announced_text a.announced
    ++ (codes ", from " ++ (unit_name unit ++ (codes " " ++ (decimal a.line ++ codes " on\n")))))))

-- how often what they tell changed, and what was first, if it did
unfoldable pub change_line : InputUnit → (changes : ℕ) → Option Change → List ℕ
change_line unit changes None = []
change_line unit changes (Some c) =
    codes "ptpx: what Announces tell changed " ++ (often_text changes ++ (codes " " ++ (place_text unit c.line
    ++ (codes ": " ++ (changed_text c ++ codes "\n")))))

-- what Announces tell, in lines
unfoldable pub announces_text : InputUnit → Announces → List ℕ
announces_text unit a = told_line unit a.count a.told ++ change_line unit a.changes a.first_change
