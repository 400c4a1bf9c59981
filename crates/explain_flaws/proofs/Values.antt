-- What a line is, by its value.
use Rattle.std.proofs.Common.{◌≡◌, false, ap, List, ℕ, Option, Some, None}
use Rattle.std.specs.Prelude.{option_map, unwrap_or}
use Rattle.serde_json.specs.Data.{Data}
use Rattle.schedule_lines.specs.Json.{value_in}
use Rattle.explain_flaws.specs.Sound.{is_schedule_line, is_transcript_line, is_schedule_value, is_transcript_value}

-- ---- a line of a schedule, by its value

pub no_schedule_line : (events : ℕ) (line : List ℕ) → value_in line ≡ None → is_schedule_line events line ≡ false
no_schedule_line events line none = ap (λ (o : Option Data). unwrap_or (option_map (is_schedule_value events) o) false) none

pub schedule_value : (events : ℕ) (line : List ℕ) (value : Data) → value_in line ≡ Some value
    → is_schedule_line events line ≡ is_schedule_value events value
schedule_value events line value is = ap (λ (o : Option Data). unwrap_or (option_map (is_schedule_value events) o) false) is

-- ---- a line of a transcript, by its value

pub no_transcript_line : (events : ℕ) (line : List ℕ) → value_in line ≡ None → is_transcript_line events line ≡ false
no_transcript_line events line none = ap (λ (o : Option Data). unwrap_or (option_map (is_transcript_value events) o) false) none

pub transcript_value : (events : ℕ) (line : List ℕ) (value : Data) → value_in line ≡ Some value
    → is_transcript_line events line ≡ is_transcript_value events value
transcript_value events line value is = ap (λ (o : Option Data). unwrap_or (option_map (is_transcript_value events) o) false) is
