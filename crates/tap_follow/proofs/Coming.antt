-- One more message of those that are followed, by what is held of these.
use Rattle.std.proofs.Common.{◌≡◌, ◌∙◌, ℕ, List, [], ◌∷◌, ◌++◌, Option, Some, None, sym, ap, subst, ◌⊎◌, inl, inr}
use Rattle.std.specs.Prelude.{option_and_then, option_to_list}
use Rattle.std.specs.Option.{option_map_or, option_or}
use Rattle.ptp_units.specs.Moment.{stamp_of}
use Rattle.event_codec.specs.Packet.{Contents}
use Rattle.datagram_text.specs.Shown.{stamp_text}
use Rattle.tap_choice.specs.declared.met.Met.{Met}
use Rattle.tap_crossing.specs.declared.crossing.Crossing.{Crossing}
use Rattle.tap_crossing.specs.declared.crossing.NoCrossing.{NoCrossing}
use Rattle.tap_crossing.specs.declared.crossing.MessageOutcome.{MessageOutcome}
use Rattle.tap_crossing.specs.declared.crossing.MessageOutcome.TheVariants as outcomes
use Rattle.tap_crossing.specs.declared.sighting.Kind.{Kind}
use Rattle.tap_crossing.specs.declared.sighting.Kind.TheVariants as kinds
use Rattle.tap_crossing.specs.declared.sighting.Placed.{Placed}
use Rattle.tap_crossing.specs.declared.sighting.Tap.{Tap}
use Rattle.tap_crossing.specs.Placed.{placed}
use Rattle.tap_crossing.specs.StandsFor.{StandsFor, StandsAfter}
use Rattle.tap_crossing.specs.Told.{told}
use Rattle.tap_sums.specs.declared.figures.Figures.{Figures}
use Rattle.tap_sums.specs.Figures.{AreFigures}
use Rattle.tap_sums.specs.Untold.{AreUntold}
use Rattle.tap_sums.specs.declared.sums.Sums.{Sums}
use Rattle.tap_sums.specs.Held.{AreSums}
use Rattle.tap_follow.specs.declared.followed.Followed.{Followed}
use Rattle.tap_follow.specs.declared.following.Form.{Form}
use Rattle.tap_follow.specs.Followed.{tap_at, requester, watched_in, contents_of}
use Rattle.tap_follow.specs.Held.{Held, IsFollowing}
use Rattle.tap_follow.specs.Inner.Learned.{learned}
use Rattle.tap_follow.specs.Written.{records_most, placed_at, placed_in, outcome_of, outcomes_in, crossing_in, crossings_in}
use Rattle.tap_follow.specs.Written.{text_as, text_at, told_of}

-- what is held of the earlier ones, once it was learned of the newest who the slave is
pub record IsLearned (form : Form) (f : Followed) (m : Met) (earlier : List Met) (held : Held) : Type 0 where
  pub form_is : held.form ≡ form
  pub watched : held.followed.watched ≡ watched_in f (m ∷ earlier)
  pub from : held.followed.from ≡ f.from
  pub from_name : held.followed.from_name ≡ f.from_name
  pub to_name : held.followed.to_name ≡ f.to_name
  pub stands : StandsFor records_most held.tables (placed_in f earlier)
  pub sums : AreSums (crossings_in f earlier) held.sums
  pub figures : AreFigures (crossings_in f earlier) held.figures
  pub untold_syncs : AreUntold (outcomes_in kinds.Sync f earlier) held.untold_syncs
  pub untold_requests : AreUntold (outcomes_in kinds.DelayReq f earlier) held.untold_requests

pub learned-is : (form : Form) (f : Followed) (m : Met) (earlier : List Met) (old new : Held) → IsFollowing form f earlier old
    → new ≡ record old { followed = learned old.followed m } → IsLearned form f m earlier new
learned-is form f m earlier old new at same = subst (IsLearned form f m earlier) (sym same) (record {
  form_is = at.form_is;
  watched = λ i. record (at.watched i) {
    slave = option_or (at.watched i).slave (requester (at.watched i).domain (at.from i) m);
  };
  from = at.from;
  from_name = at.from_name;
  to_name = at.to_name;
  stands = at.stands;
  sums = at.sums;
  figures = at.figures;
  untold_syncs = at.untold_syncs;
  untold_requests = at.untold_requests;
})

pub placed-is : (form : Form) (f : Followed) (m : Met) (earlier : List Met) (held : Held) (tap : Tap) (contents : Contents)
    (result : Option Placed) → IsLearned form f m earlier held → tap ≡ tap_at held.followed.from m.side
    → contents ≡ contents_of m → result ≡ placed held.followed.watched tap m.line m.time contents → result ≡ placed_at f m earlier
placed-is form f m earlier held tap contents result at tap_is contents_are is =
    let tap_there : tap ≡ tap_at f.from m.side = tap_is ∙ ap (λ s. tap_at s m.side) at.from in
    is ∙ (λ i. placed (at.watched i) (tap_there i) m.line m.time (contents_are i))

module _ (form : Form) (f : Followed) (m : Met) (earlier : List Met) where
  abbrev crossing_by : Option Placed → Option Crossing
  crossing_by p = option_and_then (λ q. crossing_in (told records_most q (placed_in f earlier))) p

  abbrev outcome_by : Kind → Option Placed → Option MessageOutcome
  outcome_by kind p = option_and_then (λ q. outcome_of kind q.kind (told records_most q (placed_in f earlier))) p

  abbrev text_by : Option Crossing → List ℕ
  text_by x = option_map_or (λ y. text_as form (told_of f y)) x []

  -- what is held, where the newest message has this place
  pub record Comes (p : Option Placed) (new : Held) (text : List ℕ) : Type 0 where
    pub form_is : new.form ≡ form
    pub watched : new.followed.watched ≡ watched_in f (m ∷ earlier)
    pub from : new.followed.from ≡ f.from
    pub from_name : new.followed.from_name ≡ f.from_name
    pub to_name : new.followed.to_name ≡ f.to_name
    pub stands : StandsFor records_most new.tables (option_to_list p ++ placed_in f earlier)
    pub sums : AreSums (option_to_list (crossing_by p) ++ crossings_in f earlier) new.sums
    pub figures : AreFigures (option_to_list (crossing_by p) ++ crossings_in f earlier) new.figures
    pub untold_syncs :
        AreUntold (option_to_list (outcome_by kinds.Sync p) ++ outcomes_in kinds.Sync f earlier) new.untold_syncs
    pub untold_requests :
        AreUntold (option_to_list (outcome_by kinds.DelayReq p) ++ outcomes_in kinds.DelayReq f earlier) new.untold_requests
    pub text_is : text ≡ text_by (crossing_by p)

  pub came : (p : Option Placed) (new : Held) (text : List ℕ) → p ≡ placed_at f m earlier → Comes p new text
      → IsFollowing form f (m ∷ earlier) new × (text ≡ text_at form f m earlier)
  came p new text is comes =
      let at : Comes (placed_at f m earlier) new text = subst (λ (q : Option Placed). Comes q new text) is comes in (
        record {
          form_is = at.form_is;
          watched = at.watched;
          from = at.from;
          from_name = at.from_name;
          to_name = at.to_name;
          stands = at.stands;
          sums = at.sums;
          figures = at.figures;
          untold_syncs = at.untold_syncs;
          untold_requests = at.untold_requests;
        },
        at.text_is,
      )

  pub unplaced : (held : Held) (p : Option Placed) → IsLearned form f m earlier held → p ≡ None → Comes p held []
  unplaced held p at none = subst (λ (q : Option Placed). Comes q held []) (sym none) (record {
    form_is = at.form_is;
    watched = at.watched;
    from = at.from;
    from_name = at.from_name;
    to_name = at.to_name;
    stands = at.stands;
    sums = at.sums;
    figures = at.figures;
    untold_syncs = at.untold_syncs;
    untold_requests = at.untold_requests;
    text_is = λ i. [];
  })

  -- what is held once a message that has a place was met, and what it brought was counted
  pub record Counted (p : Placed) (outcome : MessageOutcome) (held new : Held) : Type 0 where
    pub form_is : new.form ≡ held.form
    pub followed : new.followed ≡ held.followed
    pub stands : StandsAfter p held.tables new.tables
    pub untold_syncs : AreUntold (option_to_list (outcome_of kinds.Sync p.kind outcome) ++ outcomes_in kinds.Sync f earlier)
        new.untold_syncs
    pub untold_requests :
        AreUntold (option_to_list (outcome_of kinds.DelayReq p.kind outcome) ++ outcomes_in kinds.DelayReq f earlier)
        new.untold_requests

  pub told-more : (held new : Held) (p : Placed) (outcome : MessageOutcome) (x : Option Crossing) (text : List ℕ)
      → IsLearned form f m earlier held → outcome ≡ told records_most p (placed_in f earlier) → crossing_in outcome ≡ x
      → Counted p outcome held new → AreSums (option_to_list x ++ crossings_in f earlier) new.sums
      → AreFigures (option_to_list x ++ crossings_in f earlier) new.figures → text ≡ text_by x → Comes (Some p) new text
  told-more held new p outcome x text at is crossing counted sums figures text_is =
      let x_is : x ≡ crossing_by (Some p) = sym crossing ∙ ap crossing_in is in
      record {
        form_is = counted.form_is ∙ at.form_is;
        watched = ap (λ (g : Followed). g.watched) counted.followed ∙ at.watched;
        from = ap (λ (g : Followed). g.from) counted.followed ∙ at.from;
        from_name = ap (λ (g : Followed). g.from_name) counted.followed ∙ at.from_name;
        to_name = ap (λ (g : Followed). g.to_name) counted.followed ∙ at.to_name;
        stands = counted.stands records_most (placed_in f earlier) at.stands;
        sums = subst (λ (y : Option Crossing). AreSums (option_to_list y ++ crossings_in f earlier) new.sums) x_is sums;
        figures = subst (λ (y : Option Crossing). AreFigures (option_to_list y ++ crossings_in f earlier) new.figures) x_is figures;
        untold_syncs = subst (λ (o : MessageOutcome). AreUntold (option_to_list (outcome_of kinds.Sync p.kind o)
            ++ outcomes_in kinds.Sync f earlier) new.untold_syncs) is counted.untold_syncs;
        untold_requests = subst (λ (o : MessageOutcome). AreUntold (option_to_list (outcome_of kinds.DelayReq p.kind o)
            ++ outcomes_in kinds.DelayReq f earlier) new.untold_requests) is counted.untold_requests;
        text_is = text_is ∙ ap text_by x_is;
      }

  -- the same with other sums
  pub counted-with : (p : Placed) (outcome : MessageOutcome) (held new : Held) (sums : Sums) (figures : Figures)
      → Counted p outcome held new → Counted p outcome held (record new { sums = sums; figures = figures })
  counted-with p outcome held new sums figures counted = record {
    form_is = counted.form_is;
    followed = counted.followed;
    stands = counted.stands;
    untold_syncs = counted.untold_syncs;
    untold_requests = counted.untold_requests;
  }

  pub text-told : (held new : Held) (p : Placed) (outcome : MessageOutcome) (x : Crossing) → IsLearned form f m earlier held
      → Counted p outcome held new → text_as new.form (told_of new.followed x) ≡ text_by (Some x)
  text-told held new p outcome x at counted =
      let from : new.followed.from_name ≡ f.from_name = ap (λ (g : Followed). g.from_name) counted.followed ∙ at.from_name in
      let to : new.followed.to_name ≡ f.to_name = ap (λ (g : Followed). g.to_name) counted.followed ∙ at.to_name in
      let form_there : new.form ≡ form = counted.form_is ∙ at.form_is in
      λ i. text_as (form_there i) (record {
        crossing = x;
        time = stamp_text (stamp_of x.time);
        from = from i;
        to = to i;
      })

-- an outcome that is no crossing
pub none-crossed : (outcome : MessageOutcome) → (outcome ≡ outcomes.Waits) ⊎ ((outcome ≡ outcomes.Spoils)
    ⊎ ((outcome ≡ outcomes.IsSpoiled) ⊎ ((reason : NoCrossing) × (outcome ≡ outcomes.Closed reason))))
    → crossing_in outcome ≡ None
none-crossed outcome (inl is) = ap crossing_in is
none-crossed outcome (inr (inl is)) = ap crossing_in is
none-crossed outcome (inr (inr (inl is))) = ap crossing_in is
none-crossed outcome (inr (inr (inr (reason, is)))) = ap crossing_in is
