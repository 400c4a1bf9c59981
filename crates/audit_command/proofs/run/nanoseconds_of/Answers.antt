use Rattle.std.proofs.Common.{◌≡◌, ◌∙◌, ℕ, ℤ, pos, Option, Some, None, ap, append_assoc}
use Rattle.std.specs.Option.{UnwrapsOrElse, option_map_or}
use Rattle.datagram_text.proofs.Printing.{styled_decimal-nine}
use Rattle.datagram_text.specs.Shown.{stamp_text}
use Rattle.ptp_units.specs.Moment.{Stamp}
use Rattle.result_verdict.specs.Exact.{exact_in}
use Rattle.audit_command.proofs.run.nanoseconds_of.Goals as goal

unwrapped : (o : Option ℤ) (r : ℤ) → UnwrapsOrElse o (λ e. e ≡ pos 0) r → r ≡ option_map_or (λ e. e) o (pos 0)
unwrapped None r is = is
unwrapped (Some exact) r is = is

pub returns : goal.returns
returns c =
    unwrapped c.from_text.result c.unwrap_or_default.result c.unwrap_or_default.ensures
    ∙ ap (λ (o : Option ℤ). option_map_or (λ e. e) o (pos 0))
    (c.from_text.ensures ∙ ap exact_in (c.as_str.ensures.value ∙ c.in_ok-write.ensures.bytes
    ∙ rw (c.new-text.ensures.bytes, c.laid_out.ensures, styled_decimal-nine c.nanos.result, c.seconds.ensures.value, c.nanos.ensures.value) (simp append_assoc)
    ∙ ap (λ (p : Stamp × ℕ). stamp_text p.0) c.split-stamp.ensures.exact))
