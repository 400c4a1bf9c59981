use Rattle.std.proofs.Common.{rules, ◌≡◌, ◌+◌, ◌≤◌, length, ◌++◌, take, ◌∙◌, length-append}
use Rattle.std.proofs.lemmas.List.{length-take-le, length-drop}
use Rattle.std.proofs.KnownBytes.{Consumes-trans}
use Rattle.capture_file.proofs.octets.pass_over.Goals as goal

pub loop-left-preserved : goal.loop-left-preserved
loop-left-preserved g c =
    let (passed, counted, read) = c.loop-left.invariant.passed in
    let count = c.in-Ok.passed in
    let within : count ≤ length c.read.new.buf = search rules in
    let more : length (passed ++ take count c.read.new.buf) ≡ length passed + count =
    length-append passed (take count c.read.new.buf) ∙ (λ i. length passed + length-take-le count c.read.new.buf within i) in
    record {
      passed = (
        passed ++ take count c.read.new.buf,
        search rules,
        Consumes-trans _ _ _ passed (take count c.read.new.buf) read c.in-Ok.ensures.bytes.0,
      );
      failures = search rules;
      room = length-append c.read.new.buf _ ∙ search (rules, length-drop);
    }
