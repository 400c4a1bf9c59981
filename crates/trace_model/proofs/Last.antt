-- The last line of a kind at a node tells the run's last event of this kind there.
use Rattle.std.proofs.Common.{◌≡◌, ◌∙◌, ℕ, Bool, true, false, [], ◌∷◌, length, Option}
use Rattle.std.proofs.Common.{Some, None, refl, sym, ap, subst, arith, if◌then◌else◌}
use Rattle.std.specs.Prelude.{◌==◌, ◌&&◌, count_by}
use Rattle.network_model.specs.declared.event.Event.{Event}
use Rattle.network_model.specs.Network.{Network, NodeName}
use Rattle.network_model.specs.Run.{Run, Place, place, place_at, tag_of, IsIn, events_after}
use Rattle.network_model.specs.Kinds.{is_at, is_sync, is_follow, is_set_master}
use Rattle.network_model.specs.Numbering.{waiting_sync}
use Rattle.network_model.specs.Present.{last_set_master}
use Rattle.network_model.proofs.Places.{place_at-later}
use Rattle.network_model.proofs.Sites.{at_kind}
use Rattle.network_model.proofs.Journeys.{IsIn-last}
use Rattle.network_model.proofs.Sequences.{count-yes, count-no}
use Rattle.trace_model.specs.Line.{Lines, counts}
use Rattle.trace_model.specs.Record.{LinePlace, line_place, last_line}
use Rattle.trace_model.specs.Told.{TellsRun}
use Rattle.trace_model.specs.Faithful.{TellsPlace}
use Rattle.trace_model.proofs.Certain.{is_certain}
use Rattle.trace_model.proofs.Found.{event_told}
use Rattle.trace_model.proofs.Recorded.{certain_counts}

-- the last event of a kind at a node
abbrev pub last_at : (Event → Bool) → NodeName → Run → Option Place
last_at kind node [] = None
last_at kind node (event ∷ earlier) =
    if is_at kind node event then Some (place event earlier) else last_at kind node earlier

pub last_at-set_master : (node : NodeName) (run : Run) → last_at is_set_master node run ≡ last_set_master node run
last_at-set_master node [] = refl
last_at-set_master node (event ∷ earlier) =
    ap (λ (o : Option Place). if is_at is_set_master node event then Some (place event earlier) else o)
    (last_at-set_master node earlier)

pub last_at-waiting : (node : NodeName) (run : Run) (p : Place) → waiting_sync node run ≡ Some p
    → last_at is_sync node run ≡ Some p
last_at-waiting node [] p is = cc
last_at-waiting node (event ∷ earlier) p is =
    by (is_at is_sync node event) (is_at is_follow node event) is (last_at-waiting node earlier p)
  where
    by : (sent followed : Bool) → (if sent then Some (place event earlier) else if followed then None
        else waiting_sync node earlier) ≡ Some p
        → (waiting_sync node earlier ≡ Some p → last_at is_sync node earlier ≡ Some p)
        → (if sent then Some (place event earlier) else last_at is_sync node earlier) ≡ Some p
    by true followed is before = is
    by false true is before = cc
    by false false is before = before is

-- the event of a tag after which there is no other of its kind at its node
pub last_at-alone : (kind : Event → Bool) (node : NodeName) (run : Run) (tag : ℕ) (p : Place)
    → place_at run tag ≡ Some p → is_at kind node p.event ≡ true
    → count_by (is_at kind node) (events_after tag run) ≡ 0 → last_at kind node run ≡ Some p
last_at-alone kind node [] tag p there at none = cc
last_at-alone kind node (event ∷ earlier) tag p there at none =
    by (length earlier == tag) there none (last_at-alone kind node earlier tag p)
  where
    by : (same : Bool) → (if same then Some (place event earlier) else place_at earlier tag) ≡ Some p
        → count_by (is_at kind node) (if same then [] else event ∷ events_after tag earlier) ≡ 0
        → (place_at earlier tag ≡ Some p → is_at kind node p.event ≡ true
        → count_by (is_at kind node) (events_after tag earlier) ≡ 0 → last_at kind node earlier ≡ Some p)
        → last_at kind node (event ∷ earlier) ≡ Some p
    by true there none before =
        let same : place event earlier ≡ p = cc in
        let here : is_at kind node event ≡ true = ap (λ (o : Place). is_at kind node o.event) same ∙ at in
        ap (λ (b : Bool). if b then Some (place event earlier) else last_at kind node earlier) here ∙ there
    by false there none before = other (is_at kind node event) refl
      where
        other : (is : Bool) → is_at kind node event ≡ is → last_at kind node (event ∷ earlier) ≡ Some p
        other true is = absurd (omega (arith, count-yes (is_at kind node) event (events_after tag earlier) is))
        other false is =
            let rest : count_by (is_at kind node) (events_after tag earlier) ≡ 0 =
            sym (count-no (is_at kind node) event (events_after tag earlier) is) ∙ none in
            ap (λ (b : Bool). if b then Some (place event earlier) else last_at kind node earlier) is
            ∙ before there at rest

-- lines have a last line of this kind at this node, and it tells this event
pub record HasLast (network : Network) (kind : Event → Bool) (node : NodeName) (lines : Lines)
    (p : Place) : Type 0 where
  pub e : LinePlace
  pub there : last_line network kind node lines ≡ Some e
  pub tells : TellsPlace network p e

pub last_told : (network : Network) (kind : Event → Bool) → ((e : Event) → kind e ≡ true → is_certain e ≡ true)
    → (node : NodeName) (run : Run) (lines : Lines) (p : Place)
    → TellsRun network run lines → last_at kind node run ≡ Some p → HasLast network kind node lines p
last_told network kind certain node [] lines p told last = cc
last_told network kind certain node (event ∷ earlier) [] p told last = absurd told
last_told network kind certain node (event ∷ earlier) (line ∷ lines) p told last =
    by (is_at kind node event) refl last (λ last. last_told network kind certain node earlier lines p told.1 last)
  where
    of_line : is_at kind node line.event ≡ is_at kind node event
    of_line = ap (is_at kind node) (event_told network event earlier line told.0)

    by : (is : Bool) → is_at kind node event ≡ is
        → (if is then Some (place event earlier) else last_at kind node earlier) ≡ Some p
        → (last_at kind node earlier ≡ Some p → HasLast network kind node lines p)
        → HasLast network kind node (line ∷ lines) p
    by true is last before =
        let same : place event earlier ≡ p = cc in
        let counted : counts network line ≡ true =
        certain_counts network event earlier line told.0 (certain event (at_kind kind node event is)) in
        let here : TellsPlace network (place event earlier) (line_place line lines) =
        record { told = told.0; before = told.1 } in
        record {
          e = line_place line lines;
          there = ap (λ (b : Bool). if b && is_at kind node line.event then Some (line_place line lines)
              else last_line network kind node lines) counted
              ∙ ap (λ (b : Bool). if b then Some (line_place line lines) else last_line network kind node lines)
              (of_line ∙ is);
          tells = subst (λ (o : Place). TellsPlace network o (line_place line lines)) same here;
        }
    by false is last before =
        let found = before last in
        record {
          e = found.e;
          there = ap (λ (b : Bool). if b then Some (line_place line lines) else last_line network kind node lines)
              (neither (counts network line) (is_at kind node line.event) (of_line ∙ is)) ∙ found.there;
          tells = found.tells;
        }
      where
        neither : (x y : Bool) → y ≡ false → (x && y) ≡ false
        neither true y none = none
        neither false y none = refl

-- the last event of a kind at a node is one of the run
pub last_at-is : (kind : Event → Bool) (node : NodeName) (run : Run) (p : Place) → last_at kind node run ≡ Some p
    → IsIn run p × (is_at kind node p.event ≡ true)
last_at-is kind node [] p last = cc
last_at-is kind node (event ∷ earlier) p last = by (is_at kind node event) refl last (last_at-is kind node earlier p)
  where
    by : (is : Bool) → is_at kind node event ≡ is
        → (if is then Some (place event earlier) else last_at kind node earlier) ≡ Some p
        → (last_at kind node earlier ≡ Some p → IsIn earlier p × (is_at kind node p.event ≡ true))
        → IsIn (event ∷ earlier) p × (is_at kind node p.event ≡ true)
    by true is last before =
        let same : place event earlier ≡ p = cc in (
          subst (λ (o : Place). IsIn (event ∷ earlier) o) same (IsIn-last event earlier),
          subst
              (λ (o : Place). is_at kind node o.event ≡ true) same is,
        )
    by false is last before = let found = before last in (place_at-later event earlier (tag_of p) p found.0, found.1)
