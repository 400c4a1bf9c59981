use Rattle.std.proofs.Common.{◌≤◌, inl, inr, ℕ, Bool, List, length, arith}
use Rattle.text_lines.specs.declared.line_fault.LineFault.{LineFault}
use Rattle.text_lines.specs.declared.line_fault.LineFault.TheVariants.{Write, Field, Memory}
use Rattle.text_lines.specs.Lines.{line_limit}
use Rattle.result_audit.specs.Told.{IsUntold}
use Rattle.audit_command.specs.AuditLines.{IsNoResult}

-- a line isn't so long that its text isn't read
pub no_result : (fault : LineFault) (has_path : Bool) (number : ℕ) (line : List ℕ) → length line ≤ line_limit
    → IsUntold fault has_path number line → IsNoResult fault has_path number line
no_result Write has_path number line within untold = untold
no_result Field has_path number line within (inl none) = inr none
no_result Field has_path number line within (inr long) = absurd (omega (arith, within, long))
no_result Memory has_path number line within untold = tt
