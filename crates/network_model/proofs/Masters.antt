-- A slave's last SetMaster event, before and after other events, and the Sync that waits for its Follow_Up.
-- All tags of what a slave holds are later than this SetMaster.
use Rattle.std.proofs.Common.{◌≡◌, ◌∙◌, Bool, true, false, [], ◌∷◌, length, Some, None, refl, sym, ap, subst, arith, if◌then◌else◌}
use Rattle.std.specs.Prelude.{count_by, ◌==◌, ◌&&◌}
use Rattle.std.proofs.lemmas.Bool.{false_from_ne_true}
use Rattle.network_model.specs.Network.{NodeName, is_named}
use Rattle.network_model.specs.Run.{Run, Place, place, place_at, tag_of, IsIn, site_of, events_after}
use Rattle.network_model.specs.Kinds.{is_at, is_sync, is_follow, is_set_master}
use Rattle.network_model.specs.Numbering.{waiting_sync}
use Rattle.network_model.specs.Present.{last_set_master}
use Rattle.network_model.proofs.Places.{place_at-bound, place_at-later}
use Rattle.network_model.proofs.Sequences.{count-yes, count-no}
use Rattle.network_model.proofs.Journeys.{IsIn-last}
use Rattle.network_model.proofs.Calls.{events_after-later}
use Rattle.network_model.proofs.Reach.{last_set_master-later}

-- it is an event of the run
pub last_set_master-in : (slave : NodeName) (run : Run) (set : Place) → last_set_master slave run ≡ Some set → IsIn run set
last_set_master-in slave [] set is = cc
last_set_master-in slave (event ∷ earlier) set is = at (is_at is_set_master slave event) is (last_set_master-in slave earlier set)
  where
    at : (now : Bool) → (if now then Some (place event earlier) else last_set_master slave earlier) ≡ Some set
        → (last_set_master slave earlier ≡ Some set → IsIn earlier set) → IsIn (event ∷ earlier) set
    at true is rest = let same : place event earlier ≡ set = cc in subst (λ (o : Place). IsIn (event ∷ earlier) o) same (IsIn-last event earlier)
    at false is rest = place_at-later event earlier (tag_of set) set (rest is)

-- it is the same since an event, where no SetMaster came after that
pub last_set_master-since : (slave : NodeName) (run : Run) (p : Place) → IsIn run p → is_set_master p.event ≡ false
    → count_by (is_at is_set_master slave) (events_after (tag_of p) run) ≡ 0 → last_set_master slave run ≡ last_set_master slave p.earlier
last_set_master-since slave [] p there other none = cc
last_set_master-since slave (event ∷ earlier) p there other none =
    at (length earlier == tag_of p) there (λ within unset. last_set_master-since slave earlier p within other unset)
  where
    at : (same : Bool) → (if same then Some (place event earlier) else place_at earlier (tag_of p)) ≡ Some p
        → (IsIn earlier p → count_by (is_at is_set_master slave) (events_after (tag_of p) earlier) ≡ 0 → last_set_master slave earlier ≡ last_set_master slave p.earlier)
        → last_set_master slave (event ∷ earlier) ≡ last_set_master slave p.earlier
    at true there rest =
        let same : place event earlier ≡ p = cc in
        subst (λ (o : Place). last_set_master slave (o.event ∷ o.earlier) ≡ last_set_master slave p.earlier) (sym same)
        (last_set_master-later slave p.event p.earlier (ap (λ (b : Bool). b && is_named (site_of p.event) slave) other))
    at false there rest =
        let longer = events_after-later event earlier (tag_of p) (place_at-bound earlier (tag_of p) p there) in
        let all : count_by (is_at is_set_master slave) (event ∷ events_after (tag_of p) earlier) ≡ 0 = sym (ap (count_by (is_at is_set_master slave)) longer) ∙ none in
        let unset : is_at is_set_master slave event ≡ false = false_from_ne_true (is_at is_set_master slave event)
        (λ set. omega (arith, count-yes (is_at is_set_master slave) event (events_after (tag_of p) earlier) set)) in
        last_set_master-later slave event earlier unset
        ∙ rest there (sym (count-no (is_at is_set_master slave) event (events_after (tag_of p) earlier) unset) ∙ all)

-- what waits is a two-step Sync of this node
pub waiting_sync-is : (node : NodeName) (run : Run) (origin : Place) → waiting_sync node run ≡ Some origin
    → IsIn run origin × (is_at is_sync node origin.event ≡ true)
waiting_sync-is node [] origin is = cc
waiting_sync-is node (event ∷ earlier) origin is =
    at (is_at is_sync node event) refl (is_at is_follow node event) is (waiting_sync-is node earlier origin)
  where
    at : (drawn : Bool) → is_at is_sync node event ≡ drawn → (followed : Bool)
        → (if drawn then Some (place event earlier) else if followed then None else waiting_sync node earlier) ≡ Some origin
        → (waiting_sync node earlier ≡ Some origin → IsIn earlier origin × (is_at is_sync node origin.event ≡ true))
        → IsIn (event ∷ earlier) origin × (is_at is_sync node origin.event ≡ true)
    at true e followed is rest =
        let same : place event earlier ≡ origin = cc in
        subst (λ (o : Place). IsIn (event ∷ earlier) o × (is_at is_sync node o.event ≡ true)) same (IsIn-last event earlier, e)
    at false e true is rest = cc
    at false e false is rest = let before = rest is in (place_at-later event earlier (tag_of origin) origin before.0, before.1)
