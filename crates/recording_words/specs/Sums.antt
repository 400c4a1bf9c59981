-- What was measured, in one line of JSON. Keys are in the order of their octets. Times are nanoseconds in quotes: with all their
-- decimals, but for means, medians and deviations, which are rounded to a thousandth.
use Rattle.std.specs.Prelude.{ℕ, Bool, List, ◌++◌, codes, Option, if◌then◌else◌}
use Rattle.std.specs.Fmt.{decimal}
use Rattle.recording_summary.specs.declared.beware.Beware.{Beware}
use Rattle.recording_summary.specs.declared.counts.Counts.{Counts}
use Rattle.recording_summary.specs.declared.whom.Whom.{Whom}
use Rattle.recording_words.specs.declared.figures.Figures.{Figures}
use Rattle.recording_words.specs.declared.sum_objects.Measured.{Measured}
use Rattle.recording_words.specs.SumArrays.{bewares_text}
use Rattle.recording_words.specs.SumObjects.{announce_text, corrections_text, follow_ups_text, measured_text, others_text}
use Rattle.recording_words.specs.SumObjects.{requests_text, responses_text, syncs_text}
use Rattle.recording_words.specs.SumValues.{domain_or_null, length_or_null, port_or_null, spread_text}

-- how old delays are, what Announces tell, and what speaks against the numbers
unfoldable pub doubts_text : Counts → List (Option Beware) → List ℕ
doubts_text counts bewares =
    codes "\"age\":" ++ (spread_text counts.quality.statistics.ages ++ (codes ",\"announce\":" ++ (announce_text counts.announces
    ++ (codes ",\"bewares\":" ++ bewares_text bewares))))

-- what messages were corrected by, and what came of the slave
unfoldable pub messages_text : Counts → (requests : Figures) → List ℕ
messages_text counts requests =
    corrections_text counts.quality.statistics ++ (codes "," ++ (requests_text counts.others.flows requests
    ++ (codes "," ++ responses_text counts.others.flows)))

-- whom the reports are of
unfoldable pub master_text : Whom → Counts → List ℕ
master_text whom counts =
    codes "\"domain\":" ++ (domain_or_null whom.domain ++ (codes "," ++ (follow_ups_text counts.others.flows
    ++ (codes ",\"master\":" ++ port_or_null whom.master))))

-- what reports tell, and who else is there
unfoldable pub reports_text : Counts → (offset path : Measured) → List ℕ
reports_text counts offset path =
    codes "\"offset\":" ++ (measured_text offset ++ (codes "," ++ (others_text counts.others ++ (codes ",\"path\":" ++ measured_text path))))

-- whose readings these are
unfoldable pub readings_text : (is_own : Bool) → List ℕ
readings_text is_own = if is_own then codes "own" else codes "capture"

-- how many reports there are, of how long a recording, and of which slave
unfoldable pub slave_text : Whom → Counts → (syncs : Figures) → (is_own : Bool) → List ℕ
slave_text whom counts syncs is_own =
    codes "\"readings\":\"" ++ (readings_text is_own ++ (codes "\",\"reports\":" ++ (decimal counts.reports
    ++ (codes ",\"seconds\":" ++ (length_or_null counts.quality.times.first counts.quality.times.last
    ++ (codes ",\"slave\":" ++ (port_or_null whom.slave ++ (codes "," ++ syncs_text counts.others.flows syncs))))))))

-- all members in front of those of the places
unfoldable pub front_text : Whom → Counts → List (Option Beware) → (offset path : Measured) → (requests : Figures) → List ℕ
front_text whom counts bewares offset path requests =
    doubts_text counts bewares ++ (codes "," ++ (messages_text counts requests ++ (codes "," ++ (master_text whom counts
    ++ (codes "," ++ reports_text counts offset path)))))

-- the object, whose members `place` and `places` these are
unfoldable pub object_text : (front places back : List ℕ) → List ℕ
object_text front places back = codes "{" ++ (front ++ (codes "," ++ (places ++ (codes "," ++ (back ++ codes "}")))))
