-- How many datagrams are left aside, in words.
use Rattle.std.specs.Prelude.{ℕ, ◌==◌, Bool, List, [], ◌++◌, codes, if◌then◌else◌}
use Rattle.std.specs.Fmt.{decimal}
use Rattle.recording_measure.specs.declared.aside.Aside.{Aside}

-- so many of one
abbrev pub several_text : ℕ → (one : List ℕ) → List ℕ
several_text count one = decimal count ++ codes " " ++ one ++ (if count == 1 then [] else codes "s")

-- how many captured messages were left aside, where any were
unfoldable pub captured_text : ℕ → List ℕ
captured_text count = if count == 0 then [] else
    (codes "ptpx: " ++ several_text count (codes "captured message") ++ codes " left aside; --readings capture measures what was captured\n")

-- why messages with own readings were left aside, where own readings are measured or not
abbrev pub why_untaken : (is_own : Bool) → List ℕ
why_untaken is_own = if is_own then codes "of another slave or domain"
    else codes "since what was captured is measured, or they are of another slave or domain; --readings own measures a slave's own readings"

-- how many, where any were
unfoldable pub untaken_text : (is_own : Bool) → ℕ → List ℕ
untaken_text is_own count = if count == 0 then [] else
    (codes "ptpx: " ++ several_text count (codes "message") ++ codes " with own readings left aside, " ++ why_untaken is_own ++ codes "\n")

unfoldable pub aside_text : (is_own : Bool) → Aside → List ℕ
aside_text is_own aside = captured_text aside.captured ++ untaken_text is_own aside.untaken
