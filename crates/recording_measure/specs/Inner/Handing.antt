-- Whether reports are handed on, and how many were.
use Rattle.recording_measure.specs.declared.completion.Handing.{Handing}
use Rattle.recording_measure.specs.declared.form.Form.{Form}
use Rattle.recording_measure.specs.Fresh.{hands_on}
use Rattle.recording_measure.specs.Measure.{Recording}

-- none was yet
abbrev pub begun_handing : Form → Handing
begun_handing form = record { is_asked = hands_on form; handed = 0 }

-- as many as of what was read
abbrev pub handing_of : Recording → Handing
handing_of r = record { is_asked = hands_on r.form; handed = r.handed }
