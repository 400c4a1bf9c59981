-- The options so far stand in front of the rest, and what they say was found.
use Rattle.std.proofs.Common.{◌≡◌, ◌≤◌, List}
use Rattle.capture_file.specs.Options.{OptionOf, AreFirst, found_in}
use Rattle.capture_file.specs.Inner.Options.{found_of}
use Rattle.capture_file.proofs.options.options_in.Given as goal

abbrev pub invariant-loop-behind : goal.invariant-loop-behind
invariant-loop-behind l = record {
  first : (options : List OptionOf) × AreFirst l.order l.left l.octets options l.behind l.rest × (found_of l.found ≡ found_in l.order options);
  within : l.behind ≤ l.left;
}

abbrev pub decreases-loop-behind : goal.decreases-loop-behind
decreases-loop-behind l = l.behind
