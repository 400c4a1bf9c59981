-- That own readings are asked for in vain, in words.
use Rattle.std.specs.Prelude.{ℕ, ◌==◌, true, List, ◌++◌, codes, if◌then◌else◌}
use Rattle.recording_measure.specs.declared.aside.Aside.{Aside}
use Rattle.recording_measure.specs.AsideText.{aside_text}

-- why no own reading was measured where they are asked for: no slave tells any, or none that is asked for
abbrev pub why_none : (untaken : ℕ) → List ℕ
why_none untaken = if untaken == 0
    then codes "no slave tells readings of its own: ptp4l does to its slave_event_monitor, and examples/monitor writes them as lines"
    else codes "no slave that is asked for tells readings of its own"

-- that own readings are asked for in vain
unfoldable pub vain_text : Aside → List ℕ
vain_text aside = codes "ptpx: " ++ why_none aside.untaken ++ codes "\nptpx: no report\n" ++ aside_text true aside
