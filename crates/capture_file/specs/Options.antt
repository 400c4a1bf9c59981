-- The options of an interface description in pcapng: a code, a length, and a value with padding, each of two octets but
-- the value. A list of options has the newest in front.
use Rattle.std.specs.Prelude.{◌≡◌, ◌≢◌, ◌⊎◌, ℕ, ◌+◌, ◌<◌, ◌≤◌, ◌==◌, ℤ, List, [], ◌∷◌, length, drop, slice_range}
use Rattle.std.specs.Prelude.{slice_index, if◌then◌else◌, Option, Some, None, Bool, true, false}
use Rattle.std.specs.Option.{option_or}
use Rattle.std.specs.Int.{w64, cast_signed}
use Rattle.capture_file.specs.declared.order.ByteOrder.{ByteOrder}
use Rattle.capture_file.specs.Order.{number_of, number16}
use Rattle.capture_file.specs.Pcapng.{padded}

pub record OptionOf : Type 0 where
  pub code : ℕ
  pub value : List ℕ

-- the codes of if_name, if_tsresol and if_tsoffset
abbrev pub name_code : ℕ
name_code = 2

abbrev pub resolution_code : ℕ
resolution_code = 9

abbrev pub offset_code : ℕ
offset_code = 14

-- if_tsresol has one octet, if_tsoffset eight, and others any number
abbrev pub is_size_of : (code size : ℕ) → Bool
is_size_of code size =
    if code == resolution_code then size == 1
    else if code == offset_code then size == 8
    else true

-- how many octets an option takes
abbrev pub option_length : OptionOf → ℕ
option_length option = 4 + padded (length option.value)

-- this option stands at the front of octets, where options take so many octets from there on
pub record IsOption (order : ByteOrder) (left : ℕ) (option : OptionOf) (octets : List ℕ) : Type 0 where
  pub head : 4 ≤ length octets
  pub code_is : number16 order octets 0 ≡ option.code
  pub some : option.code ≢ 0
  pub size_is : number16 order octets 2 ≡ length option.value
  pub size_fits : is_size_of option.code (length option.value) ≡ true
  pub fits : option_length option ≤ left
  pub whole : option_length option ≤ length octets
  pub value_is : option.value ≡ slice_range octets 4 (4 + length option.value)

-- options take so many octets, of which these are there: behind these options are these of them
abbrev pub AreFirst : ByteOrder → (left : ℕ) → List ℕ → List OptionOf → (left' : ℕ) → List ℕ → Type 0
AreFirst order left octets [] left' rest = (left' ≡ left) × (rest ≡ octets)
AreFirst order left octets (option ∷ earlier) left' rest =
    (before : ℕ) × (behind : List ℕ) × AreFirst order left octets earlier before behind
    × IsOption order before option behind × (left' + option_length option ≡ before)
    × (rest ≡ drop (option_length option) behind)

-- the next option isn't there whole, though it fits and has the length that it has to have
pub record IsCutOption (order : ByteOrder) (left : ℕ) (octets : List ℕ) : Type 0 where
  pub head : 4 ≤ length octets
  pub fits : 4 + padded (number16 order octets 2) ≤ left
  pub size_fits : is_size_of (number16 order octets 0) (number16 order octets 2) ≡ true
  pub cut : length octets < 4 + padded (number16 order octets 2)

-- no option is looked at any more: none is left, or its head isn't there, or one of code 0 ends them, or the next is cut
abbrev pub EndsOptions : ByteOrder → (left : ℕ) → List ℕ → Type 0
EndsOptions order left octets =
    (left ≡ 0) ⊎ ((length octets < 4)
    ⊎ (((4 ≤ length octets) × (number16 order octets 0 ≡ 0)) ⊎ IsCutOption order left octets))

-- these are the options
abbrev pub AreOptions : ByteOrder → (left : ℕ) → List OptionOf → List ℕ → Type 0
AreOptions order left options octets =
    (left' : ℕ) × (rest : List ℕ) × AreFirst order left octets options left' rest × EndsOptions order left' rest

-- the option at the front doesn't fit, or is of another length than it has
pub record IsWrongOption (order : ByteOrder) (left : ℕ) (octets : List ℕ) : Type 0 where
  pub head : 4 ≤ length octets
  pub some : number16 order octets 0 ≢ 0
  pub wrong : (left < 4 + padded (number16 order octets 2))
      ⊎ (is_size_of (number16 order octets 0) (number16 order octets 2) ≡ false)

-- an option is wrong, and this is the place of its length
abbrev pub HasWrongOption : ByteOrder → (left : ℕ) → List ℕ → (place : ℕ) → Type 0
HasWrongOption order left octets place =
    (options : List OptionOf) × (left' : ℕ) × (rest : List ℕ) × AreFirst order left octets options left' rest
    × IsWrongOption order left' rest × (place + left' ≡ left + 2)

-- what options say of an interface
pub record FoundOf : Type 0 where
  pub name : Option (List ℕ)
  pub resolution : Option ℕ
  pub offset : Option ℤ

-- one more option: of two alike the first counts
abbrev pub with_option : ByteOrder → (code : ℕ) → (value : List ℕ) → FoundOf → FoundOf
with_option order code value found =
    if code == name_code then record found { name = option_or found.name (Some value) }
    else if code == resolution_code
    then record found { resolution = option_or found.resolution (Some (slice_index value 0)) }
    else if code == offset_code
    then record found { offset = option_or found.offset (Some (cast_signed w64 (number_of order w64 value))) }
    else found

-- what all of them say
abbrev pub found_in : ByteOrder → List OptionOf → FoundOf
found_in order [] = record { name = None; resolution = None; offset = None }
found_in order (option ∷ earlier) = with_option order option.code option.value (found_in order earlier)
