use Rattle.std.proofs.Common.{rules, ◌≡◌, ◌∙◌, ◌+◌, ◌-◌, ◌^◌, ◌<◌, ◌∷◌, ◌++◌, [], inl, ℕ, true, false, List, refl, sym, ap, subst, arith}
use Rattle.std.specs.Prelude.{⊤, Ok, Err}
use Rattle.std.specs.Io.KnownBytes.{Consumes}
use Rattle.text_lines.specs.Counted.{device_of}
use Rattle.text_lines.specs.Lines.{without_cr}
use Rattle.capture_file.specs.Beginning.{first_octets}
use Rattle.audit_command.specs.AuditLines.{StopsAs, TakesAs, is_told}
use Rattle.audit_command.specs.Inner.Front.{ReadsRest}
use Rattle.audit_command.proofs.InFront.{none_so_far, failed_behind, other_behind, has_told, one_octet, too_many, not_read, not_taken, taken_too}
use Rattle.audit_command.proofs.front.take_front.Goals as goal

pub loop-beginning-init : goal.loop-beginning-init
loop-beginning-init g c = record {
  taken = λ s at octets known. (s, at, none_so_far s octets _ _ known);
  at = c.requires;
  within = omega arith;
  reader = refl;
  writer = refl;
}

pub returns-in_default-clause-taken : goal.returns-in_default-clause-taken
returns-in_default-clause-taken g c = λ s at octets known.
    let (state, there, so_far) = c.loop-beginning.invariant.taken s at octets known in
    let (seen, read, few) = c.in_default.ensures.read in
    rw c.stop_at.ensures (failed_behind s octets _ c.loop-beginning.count state _ _ so_far _ seen read few)

pub returns-then-not-begins_result-clause-taken : goal.returns-then-not-begins_result-clause-taken
returns-then-not-begins_result-clause-taken g c = λ s at octets known.
    let (state, there, so_far) = c.loop-beginning.invariant.taken s at octets known in
    let (read, are) = c.in-Ok.ensures.read in
    let first = first_octets c.in-Ok.beginning in
    let other : is_told first ≡ false = sym (c.begins_result.ensures ∙ ap is_told c.octets.ensures.octets) ∙ c.if-not-begins_result.true in
    let (rest, is, split, otherwise) = other_behind s octets _ c.loop-beginning.count state _ _ so_far _ first read are other in record {
      state = state;
      at = there;
      text = so_far.taken.text;
      told = has_told s octets _ c.loop-beginning.count state _ _ so_far;
      output = so_far.taken.output;
      other = otherwise;
      rest = rest;
      input = is;
      behind = split;
      enough = are;
    }

pub returns-then-count-clause-taken : goal.returns-then-count-clause-taken
returns-then-count-clause-taken g c = λ s at octets known.
    let (state, there, so_far) = c.loop-beginning.invariant.taken s at octets known in
    let (read, are) = c.in-Ok.ensures.read in
    let first = first_octets c.in-Ok.beginning in
    let tells : is_told first ≡ true = sym (c.begins_result.ensures ∙ ap is_told c.octets.ensures.octets) ∙ c.if-not-begins_result.false in
    let one = subst (λ (o : List ℕ). Consumes (g.R.Read.remaining (device_of c.loop-beginning.input)) (g.R.Read.remaining (device_of c.read.new.input)) o)
    (one_octet first _ are tells) read in
    rw c.stop_at-then-count.ensures (inl (too_many s octets _ c.loop-beginning.count state _ _ so_far _ one c.if-count.true))

pub returns-in-Err-clause-taken : goal.returns-in-Err-clause-taken
returns-in-Err-clause-taken g c = λ s at octets known.
    let (state, there, so_far) = c.loop-beginning.invariant.taken s at octets known in
    let (read, are) = c.in-Ok.ensures.read in
    let first = first_octets c.in-Ok.beginning in
    let tells : is_told first ≡ true = sym (c.begins_result.ensures ∙ ap is_told c.octets.ensures.octets) ∙ c.if-not-begins_result.false in
    let one = subst (λ (o : List ℕ). Consumes (g.R.Read.remaining (device_of c.loop-beginning.input)) (g.R.Read.remaining (device_of c.read.new.input)) o)
    (one_octet first _ are tells) read in
    let allowed : c.loop-beginning.count < 2 ^ 64 - 2 = omega (arith, c.loop-beginning.invariant.within, c.if-count.false) in
    let start : c.push.new.self.items ≡ 123 ∷ [] = c.push.ensures.items ∙ ap (λ (l : List ℕ). l ++ 123 ∷ []) c.clear.ensures in
    let reads = subst (λ (l : List ℕ). ReadsRest {T = ⊤} (Err c.in-Err.fault) l c.read_rest.new.line.items (g.R.Read.remaining (device_of c.read.new.input))
    (g.R.Read.remaining (device_of c.read_rest.new.input))) start c.in-Err.ensures.read in
    rw c.stop_at-in-Err.ensures (inl (not_read s octets _ c.loop-beginning.count state _ _ so_far _ one allowed c.read_rest.new.line.items _
    c.in-Err.fault reads))

pub returns-in-Err-take_line-clause-taken : goal.returns-in-Err-take_line-clause-taken
returns-in-Err-take_line-clause-taken g c = λ s at octets known.
    let (state, there, so_far) = c.loop-beginning.invariant.taken s at octets known in
    let (read, are) = c.in-Ok.ensures.read in
    let first = first_octets c.in-Ok.beginning in
    let tells : is_told first ≡ true = sym (c.begins_result.ensures ∙ ap is_told c.octets.ensures.octets) ∙ c.if-not-begins_result.false in
    let one = subst (λ (o : List ℕ). Consumes (g.R.Read.remaining (device_of c.loop-beginning.input)) (g.R.Read.remaining (device_of c.read.new.input)) o)
    (one_octet first _ are tells) read in
    let allowed : c.loop-beginning.count < 2 ^ 64 - 2 = omega (arith, c.loop-beginning.invariant.within, c.if-count.false) in
    let start : c.push.new.self.items ≡ 123 ∷ [] = c.push.ensures.items ∙ ap (λ (l : List ℕ). l ++ 123 ∷ []) c.clear.ensures in
    let line = c.read_rest.new.line.items in
    let reads = subst (λ (l : List ℕ). ReadsRest {T = ⊤} (Ok tt) l line (g.R.Read.remaining (device_of c.read.new.input))
    (g.R.Read.remaining (device_of c.read_rest.new.input))) start c.in_default-read_rest.ensures.read in
    let told : c.without_cr-told.result.now ≡ without_cr line = c.without_cr-told.ensures.line ∙ ap without_cr c.as_slice.ensures.value in
    let (out, stops, went) = c.in-Err-take_line.ensures.taken state there in
    rw c.stop_at-in-Err-take_line.ensures (inl (not_taken s octets _ c.loop-beginning.count state _ _ so_far _ one allowed line _
    c.in-Err-take_line.fault _ out reads
    (subst (λ (l : List ℕ). StopsAs true (c.loop-beginning.count + 1) l state c.in-Err-take_line.fault out) told stops) went))

pub loop-beginning-preserved : goal.loop-beginning-preserved
loop-beginning-preserved g c =
    let allowed : c.loop-beginning.count < 2 ^ 64 - 2 = omega (arith, c.loop-beginning.invariant.within, c.if-count.false) in record {
      taken = λ s at octets known.
          let (state, there, so_far) = c.loop-beginning.invariant.taken s at octets known in
          let (read, are) = c.in-Ok.ensures.read in
          let first = first_octets c.in-Ok.beginning in
          let tells : is_told first ≡ true = sym (c.begins_result.ensures ∙ ap is_told c.octets.ensures.octets) ∙ c.if-not-begins_result.false in
          let one = subst (λ (o : List ℕ). Consumes (g.R.Read.remaining (device_of c.loop-beginning.input)) (g.R.Read.remaining (device_of c.read.new.input)) o)
          (one_octet first _ are tells) read in
          let start : c.push.new.self.items ≡ 123 ∷ [] = c.push.ensures.items ∙ ap (λ (l : List ℕ). l ++ 123 ∷ []) c.clear.ensures in
          let line = c.read_rest.new.line.items in
          let reads = subst (λ (l : List ℕ). ReadsRest {T = ⊤} (Ok tt) l line (g.R.Read.remaining (device_of c.read.new.input))
          (g.R.Read.remaining (device_of c.read_rest.new.input))) start c.in_default-read_rest.ensures.read in
          let told : c.without_cr-told.result.now ≡ without_cr line = c.without_cr-told.ensures.line ∙ ap without_cr c.as_slice.ensures.value in
          let (later, out, then_there, takes, went) = c.in_default-take_line.ensures.taken state there in (
            later,
            then_there,
            taken_too s octets _ c.loop-beginning.count state _ _ so_far _ one allowed line _ later _ out reads
                (subst (λ (l : List ℕ). TakesAs true (c.loop-beginning.count + 1) l state later out) told takes) went,
          );
      at =
          let (later, out, then_there, takes, went) = c.in_default-take_line.ensures.taken c.loop-beginning.invariant.at.0 c.loop-beginning.invariant.at.1 in
          (later, then_there);
      within = omega (arith, allowed);
      reader = search rules;
      writer = search rules;
    }
