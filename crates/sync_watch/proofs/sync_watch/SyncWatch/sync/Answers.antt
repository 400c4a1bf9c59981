use Rattle.std.proofs.Common.{◌≡◌, ◌∙◌, ℕ, List, Option, sym, subst}
use Rattle.sync_watch.specs.declared.judgement.Judgement.{Judgement}
use Rattle.pairing.specs.Marked.{Entry}
use Rattle.sync_watch.specs.declared.arrival.Arrival.{Arrival}
use Rattle.sync_watch.specs.Told.{Told, Sync}
use Rattle.sync_watch.specs.Judged.{after, judged_sync, sync_judgement}
use Rattle.sync_watch.specs.StandsFor.{Watch, StandsFor}
use Rattle.sync_watch.proofs.Tables.{Finds, IsNewest, judged}
use Rattle.sync_watch.proofs.sync_watch.SyncWatch.sync.Goals as goal

-- what is answered is what the messages that were told say
is_judged : {capacity : ℕ} {told : List Told} {view old : Watch} {result : Judgement} (a : Arrival) → view ≡ old → StandsFor capacity view told
    → (sync follow_up : Option ℕ) (one : Option (Entry ℕ)) → Finds old.capacity a old.syncs sync
    → Finds old.capacity a old.follow_ups follow_up → IsNewest a old.newest one
    → result ≡ sync_judgement a sync follow_up one → result ≡ judged_sync a capacity told
is_judged {capacity} {told} a same stands sync follow_up one finds_sync finds_follow_up is_newest is =
    is ∙ judged a (subst (λ (v : Watch). StandsFor capacity v told) same stands) sync follow_up one finds_sync finds_follow_up
    is_newest

pub returns-in-Newer-clause-judgement : goal.returns-in-Newer-clause-judgement
returns-in-Newer-clause-judgement g c = λ capacity told stands.
    is_judged c.args.arrival.now (sym c.self.view_is) stands c.time_of-sync.result
    c.time_of-follow_up.result c.of-newest.result c.time_of-sync.ensures c.time_of-follow_up.ensures c.of-newest.ensures c.sync_judgement-judgement.ensures

pub returns-in-Newer-clause-stands : goal.returns-in-Newer-clause-stands
returns-in-Newer-clause-stands g c = λ capacity told stands.
    let a = c.args.arrival.now in
    subst (λ (j : Judgement). StandsFor capacity c.know_sync.new.self (after j a (Sync a) told))
    (sym c.in-Newer.is ∙ is_judged a (sym c.self.view_is) stands c.time_of-sync.result c.time_of-follow_up.result c.of-newest.result c.time_of-sync.ensures
    c.time_of-follow_up.ensures c.of-newest.ensures c.sync_judgement-judgement.ensures) (c.know_sync.ensures capacity told stands)

pub returns-in-Repeated-clause-judgement : goal.returns-in-Repeated-clause-judgement
returns-in-Repeated-clause-judgement g c = λ capacity told stands.
    is_judged c.args.arrival.now (sym c.self.view_is) stands c.time_of-sync.result
    c.time_of-follow_up.result c.of-newest.result c.time_of-sync.ensures c.time_of-follow_up.ensures c.of-newest.ensures c.sync_judgement-judgement.ensures

pub returns-in-Repeated-clause-stands : goal.returns-in-Repeated-clause-stands
returns-in-Repeated-clause-stands g c = λ capacity told stands.
    let a = c.args.arrival.now in
    subst (λ (j : Judgement). StandsFor capacity c.args.self.now (after j a (Sync a) told))
    (sym c.in-Repeated.is ∙ is_judged a (sym c.self.view_is) stands c.time_of-sync.result c.time_of-follow_up.result c.of-newest.result c.time_of-sync.ensures
    c.time_of-follow_up.ensures c.of-newest.ensures c.sync_judgement-judgement.ensures) stands

pub returns-in-BeganAnew-clause-judgement : goal.returns-in-BeganAnew-clause-judgement
returns-in-BeganAnew-clause-judgement g c = λ capacity told stands.
    is_judged c.args.arrival.now (sym c.self.view_is) stands c.time_of-sync.result
    c.time_of-follow_up.result c.of-newest.result c.time_of-sync.ensures c.time_of-follow_up.ensures c.of-newest.ensures c.sync_judgement-judgement.ensures

pub returns-in-BeganAnew-clause-stands : goal.returns-in-BeganAnew-clause-stands
returns-in-BeganAnew-clause-stands g c = λ capacity told stands.
    let a = c.args.arrival.now in
    subst (λ (j : Judgement). StandsFor capacity c.begin_anew.new.self (after j a (Sync a) told))
    (sym c.in-BeganAnew.is ∙ is_judged a (sym c.self.view_is) stands c.time_of-sync.result c.time_of-follow_up.result c.of-newest.result c.time_of-sync.ensures
    c.time_of-follow_up.ensures c.of-newest.ensures c.sync_judgement-judgement.ensures) (c.begin_anew.ensures capacity told stands)
