-- The keys that a line of a form needs.
use Rattle.std.specs.Prelude.{List}
use Rattle.serde_json.specs.Data.{Data}
use Rattle.schedule_lines.specs.Needed.{scheduled_keys, told_keys}
use Rattle.line_object.specs.declared.key.Key.{Key}
use Rattle.explain_flaws.specs.declared.flaw.FileForm.{FileForm}
use Rattle.explain_flaws.specs.declared.flaw.FileForm.TheVariants.{Schedule, Transcript}

-- the keys that a line of this form needs, by its value
abbrev pub needed : FileForm → Data → List Key
needed Schedule d = scheduled_keys d
needed Transcript d = told_keys d
