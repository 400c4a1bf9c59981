-- Those that are held, one after the other.
use Rattle.std.specs.Prelude.{Bool, true, false, List, [], ◌∷◌, ◌++◌}
use Rattle.recording_lines.specs.declared.measurement.Half.{Half}
use Rattle.result_audit.specs.declared.course.Gap.{Gap}
use Rattle.result_audit.specs.declared.held.Held.{Held}
use Rattle.result_audit.specs.Auditor.{Auditing, with_judged}
use Rattle.result_audit.specs.Held.{learned}

-- the first, if there is any, learned this, and is the last
abbrev pub turned : Half → Gap → List Held → List Held
turned half gap [] = []
turned half gap (held ∷ others) = others ++ learned half gap held ∷ []

-- one more is held, which is judged now, or was before
abbrev pub with_held_as : (is_new : Bool) → Held → Auditing → Auditing
with_held_as true held a = with_judged held a
with_held_as false held a = record a { held = a.held ++ held ∷ [] }
