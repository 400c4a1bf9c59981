use Rattle.std.proofs.Common.{◌∙◌, ◌≡◌, ◌≢◌, ◌<◌, ◌%◌, List, Option, Some, None, ℕ, sym, ap, subst, get_or, arith}
use Rattle.std.proofs.lemmas.Bool.{eqb-true, eqb-false}
use Rattle.pairing.specs.Inner.Ringed.{numbers_of, slot_of, place_of, LeadsBack}
use Rattle.pairing.proofs.Walks.{passed-between, passed-here, passed-all, position-found, position-none}
use Rattle.pairing.proofs.ring_table.RingTable.newest_of.Goals as goal
use Rattle.pairing.proofs.ring_table.RingTable.newest_of.Goals.{then-place-newer-via-then-place-newer, then-place-newer-via-else-place-newer+then-from-bucket}

pub loop-link-init : goal.loop-link-init
loop-link-init g c =
    let s = c.args.self.now in
    let bucket : ℕ = c.args.number.0 % g.row.N in
    rw c.from-bucket.ensures (record {
      inside = s.linked.newest_in bucket;
      within = omega arith;
      leads = s.linked.newest_leads bucket;
      passed = λ slot within past member same. absurd (omega (arith, past, member));
    })

pub loop-link-preserved : goal.loop-link-preserved
loop-link-preserved g c =
    let s = c.args.self.now in
    let slot : ℕ = c.from-slot.result in
    let numbers : List ℕ = numbers_of s.slots.items in
    let at : c.loop-link.link ≡ Some slot = c.in-Some.is ∙ ap Some (sym c.from-slot.ensures) in
    let inside : slot < g.row.N = subst (λ (link : Option ℕ). slot_of link < g.row.N) at c.loop-link.invariant.inside in
    let leads = subst (λ (link : Option ℕ). LeadsBack g.row.N s.oldest numbers link c.loop-link.newer (c.args.number.0 % g.row.N)) at c.loop-link.invariant.leads in
    let bucket : get_or numbers slot 0 % g.row.N ≡ c.args.number.0 % g.row.N =
    ap (λ n. n % g.row.N) (sym (c.from.ensures ∙ c.number_at-held.ensures)) ∙ c.if-from-bucket.false ∙ ap (λ n. n % g.row.N) c.from-bucket.ensures in
    let differs : get_or numbers slot 0 ≢ c.args.number.0 =
    λ e. eqb-false _ _ (sym c.eq.ensures ∙ c.if-eq.false) (c.number_at-held.ensures ∙ e) in
    let member : place_of g.row.N s.oldest slot < s.count = omega (arith, c.place_of-place.ensures, c.if-place-newer.false, c.loop-link.invariant.within) in
    rw c.place_of-place.ensures (record {
      inside = s.linked.older_in slot;
      within = omega (arith, member);
      leads = rw bucket at (s.linked.older_leads slot inside member);
      passed =
          passed-here g.row.N s.oldest s.count numbers c.args.number.0 s.begins slot inside differs
          (passed-between g.row.N s.oldest s.count numbers c.args.number.0 s.begins slot c.loop-link.newer leads c.loop-link.invariant.passed);
    })

pub returns-then-place-newer-clause-newest : goal.returns-then-place-newer-clause-newest
returns-then-place-newer-clause-newest g c =
    let s = c.args.self.now in
    let slot : ℕ = c.from-slot.result in
    let numbers : List ℕ = numbers_of s.slots.items in
    let inv = c.loop-link.invariant in
    let at : c.loop-link.link ≡ Some slot = c.in-Some.is ∙ ap Some (sym c.from-slot.ensures) in
    let leads = subst (λ (link : Option ℕ). LeadsBack g.row.N s.oldest numbers link c.loop-link.newer (c.args.number.0 % g.row.N)) at inv.leads in
    position-none g.row.N s.oldest s.count s.begins s.fits c.args.number.0 s.slots.items s.filled
    (passed-all g.row.N s.oldest s.count numbers c.args.number.0 s.begins (Some slot) c.loop-link.newer leads
    (λ near same. elim c.then-place-newer.branch [
      | then-place-newer-via-then-place-newer w ↦ absurd (omega (arith, near, w.if-place-newer.true, c.place_of-place.ensures))
      | then-place-newer-via-else-place-newer+then-from-bucket w ↦
          w.if-from-bucket.true (ap (λ n. n % g.row.N) (w.from.ensures ∙ c.number_at-held.ensures) ∙ same ∙ ap (λ n. n % g.row.N) (sym c.from-bucket.ensures))
    ]) inv.passed)

pub returns-then-eq-clause-newest : goal.returns-then-eq-clause-newest
returns-then-eq-clause-newest g c =
    let s = c.args.self.now in
    let slot : ℕ = c.from-slot.result in
    let numbers : List ℕ = numbers_of s.slots.items in
    let at : c.loop-link.link ≡ Some slot = c.in-Some.is ∙ ap Some (sym c.from-slot.ensures) in
    let inside : slot < g.row.N = subst (λ (link : Option ℕ). slot_of link < g.row.N) at c.loop-link.invariant.inside in
    let leads = subst (λ (link : Option ℕ). LeadsBack g.row.N s.oldest numbers link c.loop-link.newer (c.args.number.0 % g.row.N)) at c.loop-link.invariant.leads in
    let member : place_of g.row.N s.oldest slot < s.count = omega (arith, c.place_of-place.ensures, c.if-place-newer.false, c.loop-link.invariant.within) in
    position-found g.row.N s.oldest s.count s.begins s.fits c.args.number.0 s.slots.items s.filled slot inside member
    (sym c.number_at-held.ensures ∙ eqb-true _ _ (sym c.eq.ensures ∙ c.if-eq.true))
    (passed-between g.row.N s.oldest s.count numbers c.args.number.0 s.begins slot c.loop-link.newer leads c.loop-link.invariant.passed)

pub returns-clause-newest : goal.returns-clause-newest
returns-clause-newest g c =
    let s = c.args.self.now in
    let inv = c.loop-link.invariant in
    let leads = subst (λ (link : Option ℕ). LeadsBack g.row.N s.oldest (numbers_of s.slots.items) link c.loop-link.newer (c.args.number.0 % g.row.N)) c.in_default.is inv.leads in
    position-none g.row.N s.oldest s.count s.begins s.fits c.args.number.0 s.slots.items s.filled
    (passed-all g.row.N s.oldest s.count (numbers_of s.slots.items) c.args.number.0 s.begins None c.loop-link.newer leads
    (λ near _. absurd (omega (arith, near, inv.within, s.fits))) inv.passed)
