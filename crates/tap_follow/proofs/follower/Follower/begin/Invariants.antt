-- The messages so far were followed, and what is told of them is appended.
use Rattle.std.proofs.Common.{◌≡◌, ◌++◌, reverse, take}
use Rattle.std.specs.String.{string_bytes}
use Rattle.tap_follow.specs.Written.{written}
use Rattle.tap_follow.specs.Held.{IsFollowing}
use Rattle.tap_follow.proofs.follower.Follower.begin.Given as goal

abbrev pub invariant-loop-met : goal.invariant-loop-met
invariant-loop-met l = record {
  follows : IsFollowing l.fn.self.form l.followed (reverse (take l.met-index l.fn.self.kept)) l.following;
  text : string_bytes l.text ≡ string_bytes l.fn.text
      ++ written l.fn.self.form l.followed (reverse (take l.met-index l.fn.self.kept));
}
