-- How many messages are of each domain, with one message more.
use Rattle.std.proofs.Common.{◌≡◌, ◌∙◌, ◌⊎◌, inl, inr, ℕ, ◌+◌, ◌-◌, ◌^◌, ◌<◌, true, false, List, [], ◌∷◌, length, get_or, sym, ap, subst}
use Rattle.std.proofs.Common.{replicate, Option, Some, None}
use Rattle.std.specs.Prelude.{min, ◌==◌, count_by, slice_set}
use Rattle.std.specs.Option.{option_map_or}
use Rattle.std.proofs.lemmas.Bool.{cases_eq, eq-eqb, ne_eqb}
use Rattle.std.proofs.lemmas.List.{length-set, length-replicate, get_or-replicate, get_or-set_same, get_or-set_other}
use Rattle.recording_summary.specs.declared.others.Meeting.{Meeting}
use Rattle.recording_summary.specs.declared.others.MessageKind.{MessageKind}
use Rattle.recording_summary.specs.declared.others.MessageKind.TheVariants.{Sync, FollowUp, DelayReq, DelayResp}
use Rattle.recording_summary.specs.declared.others.Others.{Others}
use Rattle.recording_summary.specs.declared.others.Repeats.{Repeats}
use Rattle.recording_summary.specs.Flows.{AreFlows}
use Rattle.recording_summary.specs.Others.{other_domain, is_of_domain, kept_of, nobody, AreDomains, IsTurn, AreRepeats, AreOthers}
use Rattle.statistics.specs.Wide.{at_most}
use Rattle.statistics.proofs.Counts.{count_none, count_more}

module _ (m : Meeting) (earlier : List Meeting) (there : List ℕ) (so : AreDomains earlier there) where
  pub one_domain : (own : ℕ) → own < 256 → Some own ≡ other_domain m
      → AreDomains (m ∷ earlier) (slice_set there own (min (get_or there own 0 + 1) (2 ^ 64 - 1)))
  one_domain own few is = record {
    places = length-set there own _ ∙ so.places;
    each = λ domain within. by_place domain within (cases_eq own domain);
  }
    where
      counted : (domain : ℕ) → (own == domain) ≡ is_of_domain domain m
      counted domain = ap (λ (o : Option ℕ). option_map_or (λ other. other == domain) o false) is

      by_place : (domain : ℕ) → domain < 256 → (own ≡ domain) ⊎ (own ≡ domain → ⊥)
          → get_or (slice_set there own (min (get_or there own 0 + 1) (2 ^ 64 - 1))) domain 0
          ≡ at_most (count_by (is_of_domain domain) (m ∷ earlier))
      by_place domain within (inl same) =
          ap (λ (n : ℕ). get_or (slice_set there own (min (get_or there own 0 + 1) (2 ^ 64 - 1))) n 0) (sym same)
          ∙ get_or-set_same there own _ 0 (subst (λ (n : ℕ). own < n) (sym so.places) few)
          ∙ ap (λ (n : ℕ). min (get_or there n 0 + 1) (2 ^ 64 - 1)) same
          ∙ count_more (is_of_domain domain) m earlier (get_or there domain 0) true
          (sym (eq-eqb own domain same) ∙ counted domain) (so.each domain within)
      by_place domain within (inr other) =
          get_or-set_other there own domain _ 0 (λ same. other (sym same))
          ∙ so.each domain within
          ∙ ap at_most (sym (count_none (is_of_domain domain) m earlier (sym (counted domain) ∙ ne_eqb own domain other)))

pub no_firsts : (r : Repeats) → r.sync ≡ None → r.follow_up ≡ None → r.request ≡ None → r.response ≡ None → (kind : MessageKind)
    → kept_of kind r ≡ None
no_firsts r sync follow request response Sync = sync
no_firsts r sync follow request response FollowUp = follow
no_firsts r sync follow request response DelayReq = request
no_firsts r sync follow request response DelayResp = response

pub no_others : (o : Others) → o.masters ≡ nobody → o.slaves ≡ nobody → o.domains ≡ replicate 256 0 → IsTurn [] o.turn
    → AreRepeats [] o.repeats → AreFlows [] o.flows → AreOthers [] o
no_others o masters slaves domains turn repeats flows = record {
  masters = masters;
  slaves = slaves;
  domains = record {
    places = ap length domains ∙ length-replicate {A = ℕ} 256 0;
    each = λ domain few. ap (λ (there : List ℕ). get_or there domain 0) domains ∙ get_or-replicate 256 domain 0 0 few;
  };
  turn = turn;
  repeats = repeats;
  flows = flows;
}
