-- The JSON value of a line, and the values of its fields.
use Rattle.std.specs.Prelude.{ℕ, ◌==◌, ◌&&◌, nat_lt, nat_le, ℤ, pos, negsuc, int_le, neg_ℤ, List, length, drop}
use Rattle.std.specs.Prelude.{slice_index, codes, Bool, false, if◌then◌else◌, Option, Some, None, option_map}
use Rattle.std.specs.Prelude.{option_and_then, unwrap_or}
use Rattle.std.specs.List.{list_all}
use Rattle.std.specs.Result.{result_ok}
use Rattle.std.specs.Str.{all_ascii_digits, bytes_eq, is_utf8}
use Rattle.std.specs.Str.Parse.{digits_value}
use Rattle.hex.specs.Hex.{decode_of, decode_sized}
use Rattle.serde_json.specs.Data.{Data}
use Rattle.serde_json.specs.Read.{read}
use Rattle.serde_json.specs.Events.{items_len, members_len}
use Rattle.serde_json.specs.Find.{get, at, as_number, as_str, as_array, as_object, as_u64, as_i64}
use Rattle.ptp_units.specs.Moment.{stamp, moment}
use Rattle.network_model.specs.Name.{is_name_octet}

-- the JSON value that a line is; None where it isn't UTF-8 or isn't JSON
abbrev pub value_in : List ℕ → Option Data
value_in line = if is_utf8 line then read line else None

-- a whole number from 0 to 2^64 - 1, written without a point or an exponent
abbrev pub whole_in : Data → Option ℕ
whole_in d = option_and_then as_u64 (as_number d)

-- a number, where it is below a bound
abbrev pub below : ℕ → ℕ → Option ℕ
below bound n = if nat_lt n bound then Some n else None

-- a whole number below a bound
abbrev pub whole_below : ℕ → Data → Option ℕ
whole_below bound d = option_and_then (below bound) (whole_in d)

-- a whole number from -128 to 127
abbrev pub signed_octet_in : Data → Option ℤ
signed_octet_in d =
    option_and_then (λ z. if int_le (negsuc 127) z && int_le z (pos 127) then Some z else None)
    (option_and_then as_i64 (as_number d))

-- whether a text is a node's name
abbrev pub is_name : List ℕ → Bool
is_name text = nat_le 1 (length text) && nat_le (length text) 16 && list_all is_name_octet text

-- a node's name
abbrev pub name_in : Data → Option (List ℕ)
name_in d = option_and_then (λ text. if is_name text then Some text else None) (as_str d)

-- a clockIdentity: 16 hexadecimal digits of either case
abbrev pub clock_in : Data → Option (List ℕ)
clock_in d = option_and_then (λ text. result_ok (decode_sized text 8)) (as_str d)

-- octets in hexadecimal of either case, at most 54
abbrev pub octets_in : Data → Option (List ℕ)
octets_in d = option_and_then (λ text. if nat_lt 108 (length text) then None else result_ok (decode_of text)) (as_str d)

-- the item at an index, where it is what is asked for
abbrev pub item_at : {X : Type 0} → (Data → Option X) → ℕ → Data → Option X
item_at reads index d = option_and_then reads (at index d)

-- whether it is an array of this many
abbrev pub has_items : ℕ → Data → Bool
has_items count d = unwrap_or (option_map (λ items. items_len items == count) (as_array d)) false

-- a moment `[s,n,f]`: seconds, nanoseconds, and 2^-16 ns
abbrev pub moment_in : Data → Option ℕ
moment_in d =
    if has_items 3 d then
    option_and_then (λ s. option_and_then (λ n. option_map (moment (stamp s n)) (item_at (whole_below 65536) 2 d))
    (item_at (whole_below 1000000000) 1 d)) (item_at (whole_below 281474976710656) 0 d)
    else None

-- the value of a key, where it is what is asked for
abbrev pub field : {X : Type 0} → (Data → Option X) → List ℕ → Data → Option X
field reads key d = option_and_then reads (get key d)

-- whether it is an object of this many keys
abbrev pub has_keys : ℕ → Data → Bool
has_keys count d = unwrap_or (option_map (λ members. members_len members == count) (as_object d)) false

-- a number above 0, in decimal without leading zeros
abbrev pub positive_of : List ℕ → Option ℕ
positive_of digits =
    if nat_lt 48 (slice_index digits 0) && all_ascii_digits digits then Some (digits_value 10 digits) else None

-- a whole number in decimal, within 32 octets: a sign stands in front of negative ones alone, and there are no leading
-- zeros and no `-0`
abbrev pub difference_of : List ℕ → Option ℤ
difference_of text =
    if bytes_eq text (codes "0") then Some (pos 0)
    else if nat_lt 32 (length text) then None
    else if slice_index text 0 == 45 then option_map (λ n. neg_ℤ (pos n)) (positive_of (drop 1 text))
    else option_map pos (positive_of text)

-- a whole number as its text
abbrev pub difference_in : Data → Option ℤ
difference_in d = option_and_then difference_of (as_str d)
