use Rattle.std.proofs.Common.{◌∙◌, [], inl, inr, refl, sym, subst}
use Rattle.std.proofs.KnownBytes.{Appends-nil}
use Rattle.datagram_source.specs.Datagram.{datagram_of}
use Rattle.tap_follow.specs.declared.follower.Arrival.{Arrival}
use Rattle.tap_follow.specs.Course.{with_tap}
use Rattle.tap_follow.specs.Rules.{TakesAt}
use Rattle.tap_follow.proofs.Takings.{taken_at, no_output_keeps, third_keeps}
use Rattle.tap_follow.proofs.task.TakingDatagramTask.take.Goals as goal

pub returns-in_default-clause-taken : goal.returns-in_default-clause-taken
returns-in_default-clause-taken g c = λ course at. (course, [], at, inr (c.in_default.ensures, refl, refl), Appends-nil _)

pub returns-in-At-clause-taken : goal.returns-in-At-clause-taken
returns-in-At-clause-taken g c = λ course at.
    let (arrives, later) = c.arrive.ensures course at in
    taken_at (datagram_of c.args.datagram.now) c.in-Some.tap course _ _ _ c.take_at.result c.in-At.side c.in-Some.ensures
    (sym arrives ∙ c.in-At.is) (c.take_at.ensures.taken (with_tap c.in-Some.tap course) later)

pub returns-in-At-clause-kept : goal.returns-in-At-clause-kept
returns-in-At-clause-kept g c = λ what is keeps course at.
    absurd (no_output_keeps c.take_at.result _ (with_tap c.in-Some.tap course) _ _ _ what is keeps
    (c.take_at.ensures.taken (with_tap c.in-Some.tap course) (c.arrive.ensures course at).1))

pub returns-in-Elsewhere-clause-taken : goal.returns-in-Elsewhere-clause-taken
returns-in-Elsewhere-clause-taken g c = λ course at.
    let (arrives, later) = c.arrive.ensures course at in
    let tap = c.in-Some.tap in (
      with_tap tap course,
      [],
      later,
      inl (
        tap,
        c.in-Some.ensures,
        subst (λ (a : Arrival). TakesAt a tap (datagram_of c.args.datagram.now) course (with_tap tap course) [])
            (sym c.in-Elsewhere.is ∙ arrives) (refl, refl),
      ),
      Appends-nil _,
    )

pub returns-in-Third-clause-taken : goal.returns-in-Third-clause-taken
returns-in-Third-clause-taken g c = λ course at.
    let (arrives, later) = c.arrive.ensures course at in
    ([], (refl, c.in-Some.ensures, sym arrives ∙ c.in-Third.is), Appends-nil _)

pub returns-in-Third-clause-kept : goal.returns-in-Third-clause-kept
returns-in-Third-clause-kept g c = λ what is keeps course at.
    let (arrives, later) = c.arrive.ensures course at in
    third_keeps course _ c.in-Some.tap (sym arrives ∙ c.in-Third.is) later
