use Rattle.std.proofs.Common.{◌≡◌, ap, subst, ◌∙◌}
use Rattle.slave_port.specs.StandsFor.{Port, StandsFor}
use Rattle.ptpx_c.specs.declared.ring.WideRingSlave.{WideRingSlave}
use Rattle.ptpx_c.specs.Slaves.{with_wide_port}
use Rattle.ptpx_c.proofs.Slaves.{one_port, same_wide_handle, code_511, not_held}
use Rattle.ptpx_c.proofs.wide_slave.ptpx_raw_wide_slave_request_left.Goals as goal

pub returns-in-Err-request_left-clause-noted : goal.returns-in-Err-request_left-clause-noted
returns-in-Err-request_left-clause-noted c = λ within before there.
    let same : before ≡ c.port-ring.result.now = one_port c.args.slave.now.port before c.port-ring.result.now there c.port-ring.ensures.value in (
      λ setup history stands. let P : WideRingSlave → Type 0 = λ r. StandsFor setup r.port history in
          not_held _ _ (c.in-Err-request_left.ensures.held setup history (subst P same stands)) (c.code-in-Err-request_left.ensures ∙ code_511 c.in-Err-request_left.refusal),
      λ code. ap (λ (p : Port). with_wide_port c.args.slave.now (record { port = p })) c.in-Err-request_left.ensures.refused
          ∙ same_wide_handle c.args.slave.now c.port-ring.result.now c.port-ring.ensures.value,
    )
