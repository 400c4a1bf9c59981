-- A line is taken as the rules have it, by what came of its datagram.
use Rattle.std.proofs.Common.{◌≡◌, ℕ, ◌+◌, ◌≤◌, ◌^◌, Bool, true, false, List, [], Option, inl, inr, refl, subst, arith}
use Rattle.std.specs.Io.KnownBytes.{Appends}
use Rattle.std.proofs.KnownBytes.{Appends-nil}
use Rattle.text_lines.specs.declared.line_fault.LineFault.{LineFault}
use Rattle.text_lines.specs.declared.line_fault.LineFault.TheVariants.{Write, Field, Memory}
use Rattle.text_lines.specs.Counted.{greatest_count}
use Rattle.text_lines.specs.Task.{WentOut}
use Rattle.datagram_source.specs.declared.lines.LineForm.{LineForm}
use Rattle.datagram_source.specs.Datagram.{DatagramOf, IsDatagramLine}
use Rattle.datagram_source.specs.Rules.{DatagramRules, LinesRead, IsNext, StopsAtLine}
use Rattle.datagram_source.specs.Unread.{IsUnread}

-- a line of the task's form, behind as many as were counted, is the next
pub is_next : {S F : Type 0} (rules : DatagramRules S F) (form : LineForm) (count : ℕ) (line : List ℕ) (r : LinesRead S) (d : DatagramOf)
    → form ≡ rules.line_form → count ≡ r.count → IsDatagramLine form (count + 1) line d → IsNext rules r line d
is_next rules form count line r d same counted is =
    subst (λ (f : LineForm). IsDatagramLine f (r.count + 1) line d) same
    (subst (λ (n : ℕ). IsDatagramLine form (n + 1) line d) counted is)

-- a datagram that isn't taken stops its line
pub line_stops : {S F : Type 0} (rules : DatagramRules S F) (fault : F) (line : List ℕ) (r : LinesRead S) (d : DatagramOf) (out : List ℕ)
    → IsNext rules r line d → rules.Stops d r.state fault out → StopsAtLine rules line r fault out
line_stops rules fault line r d out is stops = inr (d, is, stops)

-- nothing went out
nothing_out : (of_writer : Bool) (before : Option (List ℕ)) → WentOut of_writer (Appends before before [])
nothing_out true before = tt
nothing_out false before = Appends-nil before

too_many : (count : ℕ) → 2 ^ 64 ≤ count + 1 → greatest_count ≤ count
too_many count many = omega (arith, many)

-- and so does a line that isn't read
pub unread : {S F : Type 0} (rules : DatagramRules S F) (fault : LineFault) (number : ℕ) (line : List ℕ) (r : LinesRead S)
    (before : Option (List ℕ)) → number ≡ r.count + 1 → IsUnread fault rules.line_form number line
    → (out : List ℕ) × StopsAtLine rules line r (rules.fault_of fault) out
    × WentOut (rules.is_of_writer (rules.fault_of fault)) (Appends before before out)
unread rules Write number line r before same is = absurd is
unread rules Field number line r before same none =
    ([], inl (inl (λ d is. none (r.count + 1) d is, refl), refl), nothing_out (rules.is_of_writer (rules.fault_of Field)) before)
unread rules Memory number line r before same (d, is, many) = (
  [],
  inl (
    inr (
      d,
      subst (λ (n : ℕ). IsDatagramLine rules.line_form n line d) same is,
      too_many r.count (subst (λ (n : ℕ). 2 ^ 64 ≤ n) same many),
      refl,
    ),
    refl,
  ),
  nothing_out (rules.is_of_writer (rules.fault_of Memory)) before,
)
