-- What is told of results at the end.
use Rattle.std.specs.Prelude.{◌≡◌, ℕ, ◌+◌, ◌-◌, ◌^◌, min, nat_lt, Bool, true, false, not, Option, None, MatchOption}
use Rattle.recording_measure.specs.declared.aside.Aside.{Aside}
use Rattle.recording_measure.specs.Aside.{IsAside}
use Rattle.recording_measure.specs.Measure.{Recording, has_reported, is_captured}
use Rattle.result_audit.specs.declared.totals.Counts.{Counts}
use Rattle.result_audit.specs.Coverage.{without_result}
use Rattle.audit_command.specs.declared.ending.Ending.{Ending}
use Rattle.audit_command.specs.Audit.{Audited}

-- whether a result that was handed out is wrong
abbrev pub is_wrong : Ending → Bool
is_wrong ending = nat_lt 0 ending.totals.counts.wrong

-- one number and another one, up to 2^64 - 1
abbrev pub together : ℕ → ℕ → ℕ
together one other = min (one + other) (2 ^ 64 - 1)

-- how many were answered
abbrev pub answered : Counts → ℕ
answered c = together (together (together (together (together c.exact c.within) c.filtered) c.older) c.wrong) c.unjudged

-- how many weren't
unfoldable pub unanswered : (results : ℕ) → Counts → ℕ
unanswered results c = results - answered c

-- how many datagrams were left aside, once a report was measured
abbrev pub TellsAside : (has_reported : Bool) → Recording → Option Aside → Type 0
TellsAside false r aside = aside ≡ None
TellsAside true r aside = MatchOption aside ⊥ (IsAside r)

-- this is told of what was audited
pub record IsEnding (s : Audited) (ending : Ending) : Type 0 where
  pub results : ending.results ≡ s.told
  pub totals : ending.totals ≡ s.totals
  pub without : ending.without_result ≡ without_result s.audit.coverage
  pub own : ending.is_own ≡ not (is_captured s.reading.by)
  pub aside : TellsAside (has_reported s.reading) s.reading ending.aside
