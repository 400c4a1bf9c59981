use Rattle.std.proofs.Common.{refl}
use Rattle.tap_follow.proofs.TapNames.{own_name, other_name, no_name}
use Rattle.tap_follow.proofs.tap.tap_of.Goals as goal

pub returns-in-Some-new-clause-name : goal.returns-in-Some-new-clause-name
returns-in-Some-new-clause-name c =
    own_name c.args.interface.now c.in-Some.name c.in-Some-new.tap c.in-Some.is c.in-Some-new.ensures.text (c.in-Some-new.ensures.some.0 refl)

pub returns-in-None-new-clause-name : goal.returns-in-None-new-clause-name
returns-in-None-new-clause-name c =
    other_name c.args.interface.now c.in-Some.name c.tap_of_place.result c.in-Some.is (λ named. cc (c.in-None-new.ensures.some.1 named)) c.tap_of_place.ensures

pub returns-in-None-clause-name : goal.returns-in-None-clause-name
returns-in-None-clause-name c = no_name c.args.interface.now c.tap_of_place-in-None.result c.in-None.is c.tap_of_place-in-None.ensures
