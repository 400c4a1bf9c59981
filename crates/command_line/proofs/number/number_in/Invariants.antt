use Rattle.std.proofs.Common.{◌≡◌, ◌<◌, ◌^◌, take, true}
use Rattle.std.specs.Str.Parse.{digits_value}
use Rattle.command_line.specs.Number.{are_digits}
use Rattle.command_line.proofs.number.number_in.Given as goal

abbrev pub invariant-loop-digit : goal.invariant-loop-digit
invariant-loop-digit l =
    (l.number ≡ digits_value 10 (take l.digit-index l.digits)) × (are_digits (take l.digit-index l.digits) ≡ true)
    × (l.number < 10 ^ l.digit-index)
