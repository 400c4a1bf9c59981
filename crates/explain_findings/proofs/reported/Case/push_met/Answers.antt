use Rattle.std.proofs.Common.{◌≡◌, ◌∙◌, List, [], ◌++◌, ℕ, Option, Some, Result, refl, sym, subst, append-nil}
use Rattle.std.specs.Prelude.{OnOk}
use Rattle.trace_model.specs.declared.finding.Finding.{Finding}
use Rattle.exchange_check.specs.declared.exchange.Exchange.{Exchange}
use Rattle.exchange_check.specs.Transcript.{Transcript}
use Rattle.explain_findings.specs.declared.reported.Reported.{Reported}
use Rattle.explain_findings.specs.Found.{TellsFound}
use Rattle.explain_findings.specs.Known.{lines_of}
use Rattle.explain_findings.proofs.reported.Case.push_met.Goals as goal

-- what is told of what is found is told of the same
told_same : {E : Type 0} (r : Result (Unit {0}) E) (transcript : Transcript) (reported : Reported) (exchange : Option Exchange)
    (one other : Option Finding) (old new : List ℕ) → one ≡ other
    → OnOk r ((told : List ℕ) × TellsFound transcript reported exchange one told × (new ≡ old ++ told))
    → OnOk r ((told : List ℕ) × TellsFound transcript reported exchange other told × (new ≡ old ++ told))
told_same r transcript reported exchange one other old new same told =
    subst (λ (it : Option Finding).
    OnOk r ((told : List ℕ) × TellsFound transcript reported exchange it told × (new ≡ old ++ told))) same told

pub returns-in-Some : goal.returns-in-Some
returns-in-Some c noted =
    told_same c.push_finding.result (lines_of c.args.self.now.known) c.args.self.now.reported.now
    c.args.self.now.exchange.now _ _ _ _ (sym c.in-Some.is ∙ c.finding.ensures noted) (c.push_finding.ensures noted)

pub returns-in-None : goal.returns-in-None
returns-in-None c noted = (
  [],
  subst (λ (it : Option Finding). TellsFound (lines_of c.args.self.now.known) c.args.self.now.reported.now
      c.args.self.now.exchange.now it []) (sym c.in-None.is ∙ c.finding.ensures noted) refl,
  sym (append-nil _),
)
