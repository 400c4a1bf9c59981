-- A course follows from the tap that was chosen.
use Rattle.tap_laws.proofs.Courses.{each_course}
use Rattle.tap_laws.proofs.laws.a_course_follows_from_the_chosen_tap.Goals as goal

pub returns : goal.returns
returns c = each_course
