use Rattle.std.proofs.Common.{rules, ◌≡◌, ◌≢◌, ◌+◌, true}
use Rattle.capture_file.specs.Order.{number16}
use Rattle.capture_file.specs.Options.{is_size_of}
use Rattle.capture_file.specs.Inner.Options.{found_of}
use Rattle.capture_file.proofs.OptionSteps.{one_more, value_is, rest_is}
use Rattle.capture_file.proofs.options.options_in.Goals as goal

pub loop-behind-preserved : goal.loop-behind-preserved
loop-behind-preserved c =
    let o = c.loop-behind in
    let (options, first, is) = o.invariant.first in
    let size : c.u16_at-size.result ≡ number16 c.args.order o.rest.now 2 = search rules in
    let code : c.u16_at-code.result ≡ number16 c.args.order o.rest.now 0 = search rules in
    let some : number16 c.args.order o.rest.now 0 ≢ 0 = search rules in
    let known : is_size_of (number16 c.args.order o.rest.now 0) c.u16_at-size.result ≡ true = search rules in
    record {
      first = one_more c.args.order c.args.left c.args.octets.now options o.behind o.rest.now (found_of o.found) (found_of c.with-found.result) c.u16_at-size.result
          (4 + c.padded.result) _ _ first is size (search rules) (search rules) some known (search rules) (search rules) (value_is o.rest.now c.u16_at-size.result)
          (rest_is o.rest.now (4 + c.padded.result)) (search rules);
      within = search rules;
    }
