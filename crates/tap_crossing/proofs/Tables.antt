-- Tables that hold the last records, and what they hold after a message.
use Rattle.std.proofs.Common.{subst, ◌≡◌, ◌∙◌, ℕ, List, ◌∷◌, take, sym, ap, Option, Some, None, if◌then◌else◌, unwrap_or}
use Rattle.pairing.specs.Marked.{Entry, Marked, entry, newest_first, first_value, replace_first, find}
use Rattle.pairing.proofs.Lists.{take-more}
use Rattle.pairing.proofs.Laws.{newest_first-push, newest_first-set, take-replace_first}
use Rattle.tap_crossing.specs.declared.sighting.Kind.{Kind}
use Rattle.tap_crossing.specs.declared.sighting.Kind.TheVariants as kinds
use Rattle.tap_crossing.specs.declared.sighting.Placed.{Placed}
use Rattle.tap_crossing.specs.declared.places.Record.{Record}
use Rattle.tap_crossing.specs.Records.{unclosed, with, new_record, joined, open_record, records, is_same_kind}
use Rattle.tap_crossing.specs.StandsFor.{Tables, StandsFor}
use Rattle.tap_crossing.specs.Open.{HoldsOpen}
use Rattle.tap_crossing.specs.Inner.Counted.{recounted}
use Rattle.tap_crossing.specs.Inner.Kept.{kept}
use Rattle.tap_crossing.proofs.Counts.{holds-recounted}

module _ (capacity : ℕ) (p : Placed) (table : Marked Record) (all : List (Entry Record))
    (held : newest_first table ≡ take capacity all) where
  pub found : unclosed (find p.number.0 table) ≡ open_record capacity p.number.0 all
  found = ap (λ (es : List (Entry Record)). unclosed (first_value p.number.0 es)) held

  joins : (record_found : Option Record)
      → newest_first (kept capacity p record_found table) ≡ take capacity (joined p record_found all)
  joins None =
      newest_first-push capacity (entry p.number.0 (with p new_record)) table
      ∙ ap (λ (es : List (Entry Record)). take capacity (entry p.number.0 (with p new_record) ∷ es)) held
      ∙ take-more capacity (entry p.number.0 (with p new_record)) all
  joins (Some r) =
      newest_first-set p.number.0 (with p r) table ∙ ap (replace_first p.number.0 (with p r)) held
      ∙ sym (take-replace_first p.number.0 (with p r) capacity all)

  -- the table holds the last records after the message, too
  pub held-kept : newest_first (kept capacity p (unclosed (find p.number.0 table)) table)
      ≡ take capacity (joined p (open_record capacity p.number.0 all) all)
  held-kept =
      joins (unclosed (find p.number.0 table)) ∙ ap (λ (r : Option Record). take capacity (joined p r all)) found

-- what is kept stands for one more Sync or Follow_Up
pub stands-sync : {capacity : ℕ} {met : List Placed} {old : Tables} (p : Placed) (new : Marked Record) (counts : List ℕ) → p.kind ≡ kinds.Sync
    → StandsFor capacity old met → new ≡ kept old.capacity p (unclosed (find p.number.0 old.syncs)) old.syncs
    → counts ≡ recounted (unclosed (find p.number.0 old.syncs))
    (with p (unwrap_or (unclosed (find p.number.0 old.syncs)) new_record)) old.open_syncs
    → StandsFor capacity (record old { syncs = new; open_syncs = counts }) (p ∷ met)
stands-sync {capacity} {met} {old} p new counts is stands joins counted =
    let all = records capacity kinds.Sync met in
    let others = records capacity kinds.DelayReq met in
    record {
      capacity_is = stands.capacity_is;
      syncs_held = ap newest_first joins
          ∙ ap (λ (n : ℕ). newest_first (kept n p (unclosed (find p.number.0 old.syncs)) old.syncs)) stands.capacity_is
          ∙ held-kept capacity p old.syncs all stands.syncs_held
          ∙ sym (ap (λ (k : Kind). take capacity
          (if is_same_kind kinds.Sync k then joined p (open_record capacity p.number.0 all) all else all)) is);
      requests_held = stands.requests_held
          ∙ sym (ap (λ (k : Kind). take capacity
          (if is_same_kind kinds.DelayReq k then joined p (open_record capacity p.number.0 others) others else others)) is);
      syncs_open = subst (λ (c : List ℕ). HoldsOpen c (records capacity kinds.Sync (p ∷ met)))
          (sym (counted ∙ ap (λ (r : Option Record). recounted r (with p (unwrap_or r new_record)) old.open_syncs)
          (found capacity p old.syncs all stands.syncs_held)))
          (subst (λ (k : Kind). HoldsOpen (recounted (open_record capacity p.number.0 all)
          (with p (unwrap_or (open_record capacity p.number.0 all) new_record)) old.open_syncs)
          (if is_same_kind kinds.Sync k then joined p (open_record capacity p.number.0 all) all else all)) (sym is)
          (holds-recounted capacity p all old.open_syncs stands.syncs_open));
      requests_open = subst (λ (k : Kind). HoldsOpen old.open_requests
          (if is_same_kind kinds.DelayReq k then joined p (open_record capacity p.number.0 others) others else others)) (sym is)
          stands.requests_open;
    }

-- and for one more Delay_Req or Delay_Resp
pub stands-request : {capacity : ℕ} {met : List Placed} {old : Tables} (p : Placed) (new : Marked Record) (counts : List ℕ) → p.kind ≡ kinds.DelayReq
    → StandsFor capacity old met → new ≡ kept old.capacity p (unclosed (find p.number.0 old.requests)) old.requests
    → counts ≡ recounted (unclosed (find p.number.0 old.requests))
    (with p (unwrap_or (unclosed (find p.number.0 old.requests)) new_record)) old.open_requests
    → StandsFor capacity (record old { requests = new; open_requests = counts }) (p ∷ met)
stands-request {capacity} {met} {old} p new counts is stands joins counted =
    let others = records capacity kinds.Sync met in
    let all = records capacity kinds.DelayReq met in
    record {
      capacity_is = stands.capacity_is;
      requests_held = ap newest_first joins
          ∙ ap (λ (n : ℕ). newest_first (kept n p (unclosed (find p.number.0 old.requests)) old.requests)) stands.capacity_is
          ∙ held-kept capacity p old.requests all stands.requests_held
          ∙ sym (ap (λ (k : Kind). take capacity
          (if is_same_kind kinds.DelayReq k then joined p (open_record capacity p.number.0 all) all else all)) is);
      syncs_held = stands.syncs_held
          ∙ sym (ap (λ (k : Kind). take capacity
          (if is_same_kind kinds.Sync k then joined p (open_record capacity p.number.0 others) others else others)) is);
      requests_open = subst (λ (c : List ℕ). HoldsOpen c (records capacity kinds.DelayReq (p ∷ met)))
          (sym (counted ∙ ap (λ (r : Option Record). recounted r (with p (unwrap_or r new_record)) old.open_requests)
          (found capacity p old.requests all stands.requests_held)))
          (subst (λ (k : Kind). HoldsOpen (recounted (open_record capacity p.number.0 all)
          (with p (unwrap_or (open_record capacity p.number.0 all) new_record)) old.open_requests)
          (if is_same_kind kinds.DelayReq k then joined p (open_record capacity p.number.0 all) all else all)) (sym is)
          (holds-recounted capacity p all old.open_requests stands.requests_open));
      syncs_open = subst (λ (k : Kind). HoldsOpen old.open_syncs
          (if is_same_kind kinds.Sync k then joined p (open_record capacity p.number.0 others) others else others)) (sym is)
          stands.syncs_open;
    }
