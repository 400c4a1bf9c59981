use Rattle.std.proofs.Common.{◌≡◌, ◌∙◌, ℕ, Bool, true, false, List, ◌∷◌, Option, sym, ap, subst, if◌then◌else◌}
use Rattle.pairing.specs.Marked.{Entry}
use Rattle.sync_watch.specs.declared.arrival.Arrival.{Arrival}
use Rattle.sync_watch.specs.declared.judgement.Judgement.TheVariants.{Newer, Repeated}
use Rattle.sync_watch.specs.Told.{Told, FollowUp}
use Rattle.sync_watch.specs.Judged.{is_repeat, is_repeated}
use Rattle.sync_watch.specs.StandsFor.{Watch, StandsFor}
use Rattle.sync_watch.proofs.Tables.{Finds, IsNewest, stands-follow_up, repeated}
use Rattle.sync_watch.proofs.sync_watch.SyncWatch.follow_up.Goals as goal

-- what is found is what the messages that were told say
repeats : {capacity : ℕ} {told : List Told} {view old : Watch} {result : Bool} (a : Arrival) → view ≡ old
    → StandsFor capacity view told → (sync follow_up : Option ℕ) (one : Option (Entry ℕ)) → Finds old.capacity a old.syncs sync
    → Finds old.capacity a old.follow_ups follow_up → IsNewest a old.newest one
    → result ≡ is_repeat a sync follow_up one → is_repeated a capacity told ≡ result
repeats {capacity} {told} a same stands sync follow_up one finds_sync finds_follow_up is_newest is =
    sym (is ∙ repeated a (subst (λ (v : Watch). StandsFor capacity v told) same stands) sync follow_up one finds_sync
    finds_follow_up is_newest)

pub returns-then-is_repeat-clause-judgement : goal.returns-then-is_repeat-clause-judgement
returns-then-is_repeat-clause-judgement g c = λ capacity told stands.
    let is : is_repeated c.args.arrival.now capacity told ≡ true =
    repeats c.args.arrival.now (sym c.self.view_is) stands c.time_of-sync.result c.time_of-follow_up.result c.of-newest.result
    c.time_of-sync.ensures c.time_of-follow_up.ensures c.of-newest.ensures c.is_repeat.ensures ∙ c.if-is_repeat.true in
    sym (ap (λ (b : Bool). if b then Repeated else Newer) is)

pub returns-then-is_repeat-clause-stands : goal.returns-then-is_repeat-clause-stands
returns-then-is_repeat-clause-stands g c = λ capacity told stands.
    let a = c.args.arrival.now in
    let is : is_repeated a capacity told ≡ true =
    repeats a (sym c.self.view_is) stands c.time_of-sync.result c.time_of-follow_up.result c.of-newest.result
    c.time_of-sync.ensures c.time_of-follow_up.ensures c.of-newest.ensures c.is_repeat.ensures ∙ c.if-is_repeat.true in
    subst (λ (b : Bool). StandsFor capacity c.args.self.now (if b then told else FollowUp a ∷ told)) (sym is) stands

pub returns-clause-judgement : goal.returns-clause-judgement
returns-clause-judgement g c = λ capacity told stands.
    let is : is_repeated c.args.arrival.now capacity told ≡ false =
    repeats c.args.arrival.now (sym c.self.view_is) stands c.time_of-sync.result c.time_of-follow_up.result c.of-newest.result
    c.time_of-sync.ensures c.time_of-follow_up.ensures c.of-newest.ensures c.is_repeat.ensures ∙ c.if-is_repeat.false in
    sym (ap (λ (b : Bool). if b then Repeated else Newer) is)

pub returns-clause-stands : goal.returns-clause-stands
returns-clause-stands g c = λ capacity told stands.
    let a = c.args.arrival.now in
    let held = subst (λ (v : Watch). StandsFor capacity v told) (sym c.self.view_is) stands in
    let is : is_repeated a capacity told ≡ false =
    repeats a (sym c.self.view_is) stands c.time_of-sync.result c.time_of-follow_up.result c.of-newest.result
    c.time_of-sync.ensures c.time_of-follow_up.ensures c.of-newest.ensures c.is_repeat.ensures ∙ c.if-is_repeat.false in
    rw is (stands-follow_up a held c.push.new.self c.push.ensures)
