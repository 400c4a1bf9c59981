-- What is measured for whoever goes on with it.
use Rattle.std.specs.Prelude.{List}
use Rattle.recording_measure.specs.declared.completion.Completion.{Completion}
use Rattle.recording_measure.specs.declared.completion.Fresh.{Fresh}
use Rattle.recording_measure.specs.declared.task.MeasureTask.{MeasureTask}

-- the reports that weren't handed on
abbrev pub fresh_of : MeasureTask → Fresh
fresh_of task = task.measuring.reports.reports.recents.fresh

abbrev pub completions_of : MeasureTask → List Completion
completions_of task = (fresh_of task).completions.items
