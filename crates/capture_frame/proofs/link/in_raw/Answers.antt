use Rattle.std.proofs.Common.{ℕ, ◌∙◌, ◌/◌, ap, sym}
use Rattle.capture_frame.proofs.Families.{ipv4_by_version, ipv6_by_version}
use Rattle.capture_frame.proofs.Only.{only_same}
use Rattle.capture_frame.proofs.link.in_raw.Goals as goal

pub returns-then-octet_at-eq4 : goal.returns-then-octet_at-eq4
returns-then-octet_at-eq4 c =
    only_same _ _ _ (ipv4_by_version c.args.octets.now (sym (ap (λ (n : ℕ). n / 16) c.octet_at.ensures) ∙ c.if-octet_at-eq4.true)) c.in_ipv4.ensures

pub returns-else-octet_at-eq4 : goal.returns-else-octet_at-eq4
returns-else-octet_at-eq4 c =
    only_same _ _ _ (ipv6_by_version c.args.octets.now (λ e. c.if-octet_at-eq4.false (ap (λ (n : ℕ). n / 16) c.octet_at.ensures ∙ e))) c.in_ipv6.ensures
