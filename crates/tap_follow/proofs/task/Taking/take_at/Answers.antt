use Rattle.std.proofs.Common.{[], ap}
use Rattle.std.specs.Prelude.{⊤, option_map}
use Rattle.std.specs.Result.{result_ok}
use Rattle.std.proofs.KnownBytes.{Appends-nil}
use Rattle.std.proofs.lemmas.Result.{err_from_is_err_and}
use Rattle.tap_follow.specs.Datagram.{met_as}
use Rattle.datagram_source.specs.Said.{reading_of}
use Rattle.datagram_source.specs.Datagram.{datagram_of}
use Rattle.tap_follow.proofs.Takings.{no_change, no_message, no_memory, wrote, cleared}
use Rattle.tap_follow.proofs.task.Taking.take_at.Goals as goal

pub returns-in_default-clause-taken : goal.returns-in_default-clause-taken
returns-in_default-clause-taken g c = λ course at. (
  course,
  [],
  at,
  no_change _ course (ap (option_map (met_as c.args.side (datagram_of c.args.datagram.now)))
      (no_message c.args.datagram.now.said c.in_default.not-Ok)),
  Appends-nil _,
)

pub returns-in_err-take-clause-taken : goal.returns-in_err-take-clause-taken
returns-in_err-take-clause-taken g c = λ course at.
    let e = err_from_is_err_and c.from_residual.result c.from_residual.ensures.1 in
    rw (e.1, e.2) (no_memory ⊤ _ _ course c.args.self.now.follower _
    (ap (λ r. option_map (met_as c.args.side (datagram_of c.args.datagram.now)) (result_ok (reading_of r))) c.in-Ok.is))

pub returns-clause-taken : goal.returns-clause-taken
returns-clause-taken g c = λ course at.
    let (later, told) = c.in_ok-take.ensures course at in
    wrote course _ _ _ c.write.result _ _ _
    (ap (λ r. option_map (met_as c.args.side (datagram_of c.args.datagram.now)) (result_ok (reading_of r))) c.in-Ok.is)
    later (cleared _ _ _ c.clear.ensures.bytes told) c.write.ensures.written
