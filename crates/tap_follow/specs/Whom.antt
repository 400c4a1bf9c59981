-- Whose messages are followed, and between which taps, in words.
use Rattle.std.specs.Prelude.{ℕ, List, [], ◌++◌, codes, Option, Some, None, Bool, true, false, ◌||◌, is_some, if◌then◌else◌}
use Rattle.std.specs.Fmt.{decimal}
use Rattle.datagram_text.specs.Shown.{identity_text}
use Rattle.event_codec.specs.declared.port.PortIdentity.{PortIdentity}
use Rattle.tap_choice.specs.declared.sides.Sides.{Sides}
use Rattle.tap_follow.specs.declared.ending.Ending.{Ending}
use Rattle.tap_follow.specs.declared.followed.Followed.{Followed}
use Rattle.tap_follow.specs.declared.told.Told.{Told}
use Rattle.tap_follow.specs.declared.whom.Whom.{Whom}
use Rattle.tap_follow.specs.Words.{ending_text}

-- ---- once it is known
unfoldable pub from_text : (from to : List ℕ) → List ℕ
from_text from to = codes "ptpx: from " ++ (from ++ (codes " to " ++ (to ++ codes "\n")))

unfoldable pub master_text : (domain : ℕ) → (master : PortIdentity) → List ℕ
master_text domain master =
    codes "ptpx: domain " ++ decimal domain ++ codes "\nptpx: master " ++ identity_text master ++ codes "\n"

-- the two taps, the domain and the master
unfoldable pub way_text : Option Followed → List ℕ
way_text None = []
way_text (Some f) = from_text f.from_name f.to_name ++ master_text f.watched.domain f.watched.master

unfoldable pub slave_text : Option PortIdentity → List ℕ
slave_text None = []
slave_text (Some slave) = codes "ptpx: slave " ++ identity_text slave ++ codes "\n"

unfoldable pub whom_text : Whom → List ℕ
whom_text whom = way_text whom.way ++ slave_text whom.slave

-- what of it wasn't told before
abbrev pub untold_way : Told → Option Followed → Option Followed
untold_way told known = if told.is_way_told then None else known

abbrev pub slave_of : Option Followed → Option PortIdentity
slave_of None = None
slave_of (Some f) = f.watched.slave

abbrev pub untold_slave : Told → Option Followed → Option PortIdentity
untold_slave told known = if told.is_slave_told then None else slave_of known

abbrev pub untold_whom : Told → Option Followed → Whom
untold_whom told known = record { way = untold_way told known; slave = untold_slave told known }

-- ---- at the end
-- what is known where nothing was followed, of the taps that are asked for or were met
unfoldable pub taps_text : (first second : Option (List ℕ)) → List ℕ
taps_text (Some first) (Some second) =
    codes "ptpx: nothing was followed between " ++ (first ++ (codes " and " ++ (second
    ++ codes ": the domain, the master, the slave or the way isn't known\n")))
taps_text (Some tap) None = codes "ptpx: nothing was met at another tap than " ++ tap ++ codes "\n"
taps_text None (Some tap) = codes "ptpx: nothing was met at another tap than " ++ tap ++ codes "\n"
taps_text None None = codes "ptpx: nothing was met at a tap\n"

-- what wasn't told before, and the ending, or what is known without one
abbrev pub end_told : Told → Option Followed → Sides → Option Ending → List ℕ
end_told told known sides None = taps_text sides.first sides.second
end_told told known sides (Some e) = whom_text (untold_whom told known) ++ ending_text e
