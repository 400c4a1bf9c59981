-- The events that lines tell: each is an event of the run, and each further line tells another one.
use Rattle.std.proofs.Common.{◌≡◌, ◌∙◌, ℕ, ◌<◌, Bool, true, false, List, [], ◌∷◌, Option, Some, refl, ap, subst, arith}
use Rattle.std.proofs.Common.{if◌then◌else◌}
use Rattle.std.specs.Prelude.{◌==◌}
use Rattle.std.specs.List.{All}
use Rattle.std.proofs.lemmas.Bool.{ne_eqb, eq-eqb, eqb-true}
use Rattle.std.proofs.lemmas.List.Elements.{All-nil, All-cons, All-head, All-tail, All-weaker}
use Rattle.network_model.specs.declared.event.Event.{Event}
use Rattle.network_model.specs.Network.{Network, NodeName}
use Rattle.network_model.specs.Run.{Run, Place, place, tag_of, IsIn}
use Rattle.network_model.proofs.Places.{place_at-later}
use Rattle.network_model.proofs.Journeys.{IsIn-last}
use Rattle.recording_model.specs.Recorded.{Recorded}
use Rattle.recording_model.specs.declared.watched.Watched.{Watched}
use Rattle.recording_model.specs.Agreement.{Moved}
use Rattle.recording_model.specs.Told.{Tells, IsToldBy, Nothing, Untold, Told, Other, AreNumbered, event_told}

-- the event that each line tells
abbrev pub Lines : Type 0
Lines = ℕ → Option Place

-- what some lines tell, more lines tell too
abbrev pub Extends : Lines → Lines → Type 0
Extends lines more = (line : ℕ) (p : Place) → lines line ≡ Some p → more line ≡ Some p

-- lines tell events of a run
abbrev pub AreIn : Lines → Run → Type 0
AreIn lines run = (line : ℕ) (p : Place) → lines line ≡ Some p → IsIn run p

-- in lines with growing numbers each is below the next, and so are those before it
pub numbered-below : (d : Recorded) (ds : List Recorded) → AreNumbered (d ∷ ds)
    → All (λ (e : Recorded). e.line < d.line) ds
numbered-below d [] numbered = All-nil (λ (e : Recorded). e.line < d.line)
numbered-below d (before ∷ earlier) numbered =
    let lower : before.line < d.line = numbered.0 in
    All-cons (λ (e : Recorded). e.line < d.line) before earlier lower
    (All-weaker (λ (e : Recorded). e.line < before.line) (λ (e : Recorded). e.line < d.line)
    (λ (e : Recorded) (below : e.line < before.line). omega arith) earlier (numbered-below before earlier numbered.1))

pub numbered-rest : (d : Recorded) (ds : List Recorded) → AreNumbered (d ∷ ds) → AreNumbered ds
numbered-rest d [] numbered = tt
numbered-rest d (before ∷ earlier) numbered = numbered.1

module _ (network : Network) (slave : NodeName) {w : Watched} {moved : Moved} where
  pub told-in : {run : Run} {ds : List Recorded} (tells : Tells network slave w moved run ds) → AreIn (event_told tells) run
  told-in Nothing line p is = cc
  told-in (Untold event earlier ds tells) line p is = place_at-later event earlier (tag_of p) p
      (told-in tells line p is)
  told-in (Other run d ds nothing tells) line p is = told-in tells line p is
  told-in (Told event earlier d ds one tells) line p is = by (d.line == line) is (told-in tells line p)
    where
      by : (same : Bool) → (if same then Some (place event earlier) else event_told tells line) ≡ Some p
          → (event_told tells line ≡ Some p → IsIn earlier p) → IsIn (event ∷ earlier) p
      by true is rest = let same : place event earlier ≡ p = cc in subst (IsIn (event ∷ earlier)) same
          (IsIn-last event earlier)
      by false is rest = place_at-later event earlier (tag_of p) p (rest is)

  -- a line that tells an event is one of the datagrams'
  lines-below : {run : Run} {ds : List Recorded} (n : ℕ) (tells : Tells network slave w moved run ds)
      → All (λ (d : Recorded). d.line < n) ds
      → (line : ℕ) (p : Place) → event_told tells line ≡ Some p → line < n
  lines-below n Nothing below line p is = cc
  lines-below n (Untold event earlier ds tells) below line p is = lines-below n tells below line p is
  lines-below n (Other run d ds nothing tells) below line p is =
      lines-below n tells (All-tail (λ (d : Recorded). d.line < n) d ds below) line p is
  lines-below n (Told event earlier d ds one tells) below line p is =
      by (d.line == line) refl is (lines-below n tells (All-tail (λ (d : Recorded). d.line < n) d ds below) line p)
    where
      by : (same : Bool) → (d.line == line) ≡ same
          → (if same then Some (place event earlier) else event_told tells line) ≡ Some p
          → (event_told tells line ≡ Some p → line < n) → line < n
      by true e is rest = let head : d.line < n = All-head (λ (d : Recorded). d.line < n) d ds below in omega
          (arith, eqb-true d.line line e)
      by false e is rest = rest is

  module _ {ds : List Recorded} (event : Event) (earlier : Run) (d : Recorded)
      (one : IsToldBy network slave moved event earlier d) (tells : Tells network slave w moved earlier ds) where
    pub told-more : AreNumbered (d ∷ ds) → Extends (event_told tells)
        (event_told (Told event earlier d ds one tells))
    told-more numbered line p is =
        let below = lines-below d.line tells (numbered-below d ds numbered) line p is in
        ap (λ (same : Bool). if same then Some (place event earlier) else event_told tells line)
        (ne_eqb d.line line (λ (e : d.line ≡ line). omega arith)) ∙ is

    pub told-now : event_told (Told event earlier d ds one tells) d.line ≡ Some (place event earlier)
    told-now = ap (λ (same : Bool). if same then Some (place event earlier) else event_told tells d.line)
        (eq-eqb d.line d.line refl)
