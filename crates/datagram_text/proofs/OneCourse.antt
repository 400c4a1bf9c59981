-- Lines of digits have one answer, but for faults of the writer and of memory.
use Rattle.std.proofs.Common.{◌≡◌, ◌∙◌, ℕ, List, true, false, refl, sym, ap}
use Rattle.std.specs.Prelude.{is_ok}
use Rattle.hex.specs.Hex.{decode_of}
use Rattle.text_lines.specs.declared.line_fault.LineFault.{LineFault}
use Rattle.text_lines.specs.declared.line_fault.LineFault.TheVariants.{Write, Field, Memory}
use Rattle.text_lines.specs.Fault.{is_write}
use Rattle.text_lines.proofs.OneAnswer.{HasOneCourse}
use Rattle.datagram_text.specs.Show.{StopsShowing, show_rules}
use Rattle.datagram_text.proofs.OneLine.{one_answer}

-- ---- where these faults of a line are of a device or of memory

not_hexadecimal : (Device : LineFault → Type 0) → Device Write → Device Memory → (digits : List ℕ) (fault : LineFault) → (Device fault → ⊥) → StopsShowing digits fault
    → (fault ≡ Field) × (is_ok (decode_of digits) ≡ false)
not_hexadecimal Device write memory digits Field sure stops = (refl, stops)
not_hexadecimal Device write memory digits Write sure stops = absurd (sure write)
not_hexadecimal Device write memory digits Memory sure stops = absurd (sure memory)

of_writer : (Device : LineFault → Type 0) → Device Write → (fault : LineFault) → is_write fault ≡ true → Device fault
of_writer Device write Write is = write
of_writer Device write Field is = absurd cc
of_writer Device write Memory is = absurd cc

pub show_course : (Device : LineFault → Type 0) → Device Write → Device Memory → HasOneCourse show_rules Device
show_course Device write memory = record {
  one_step = λ line state one other text text' h k. (refl, one_answer line text' text k h);
  no_fault = λ line state later text text' fault sure takes stops.
      let bad = not_hexadecimal Device write memory line fault sure stops.0 in
      let good = takes.hexadecimal in
      absurd (cc (ap is_ok good, bad.1));
  one_fault = λ line state text text' one other sure sure' h k.
      ((not_hexadecimal Device write memory line other sure' k.0).0 ∙ sym (not_hexadecimal Device write memory line one sure h.0).0, k.1 ∙ sym h.1);
  one_end = λ lines state text text' one other h k. (k.0 ∙ sym h.0, k.1 ∙ sym h.1);
  no_fault_at_end = λ lines state text text' answer fault sure ends stops. stops;
  one_fault_at_end = λ state text text' one other sure sure' h k. absurd h;
  writer = of_writer Device write;
}
