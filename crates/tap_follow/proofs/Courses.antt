-- One more message of a course, and its end, by what is kept of it.
use Rattle.std.proofs.Common.{◌≡◌, ◌∙◌, ℕ, Bool, List, [], ◌∷◌, ◌++◌, length, Option, Some, None, Result, Ok, Err, refl, sym, ap, subst, arith}
use Rattle.std.specs.Prelude.{reverse, nat_le, min, OnOk, ◌==◌}
use Rattle.std.proofs.lemmas.List.{append-nil, append_assoc}
use Rattle.std.proofs.lemmas.Bool.Decides.{nat_tests}
use Rattle.tap_choice.specs.declared.met.Met.{Met}
use Rattle.tap_choice.specs.declared.sides.Sides.{Sides}
use Rattle.tap_choice.specs.declared.wanted.WantedTaps.{WantedTaps}
use Rattle.tap_choice.specs.Known.{Known, noticed}
use Rattle.tap_follow.specs.declared.followed.Followed.{Followed}
use Rattle.tap_follow.specs.declared.following.Form.{Form}
use Rattle.tap_follow.specs.Written.{text_at, written}
use Rattle.tap_follow.specs.Course.{Course, kept_most, syncs_most, followed_by, chosen, begins}
use Rattle.tap_follow.specs.Course.{after, after_as, new_text, new_text_as, text_of}
use Rattle.tap_follow.specs.Held.{Held, Holding, IsFollowing, IsFollower, IsKept, IsStage, KeepsFor}

-- what follows from an answer
pub on_ok_map : {T E A B : Type 0} (r : Result T E) → OnOk r A → (A → B) → OnOk r B
on_ok_map (Ok x) a f = f a
on_ok_map (Err e) a f = tt

-- the text after one more of the messages that are followed
pub text-more : (form : Form) (f : Followed) (x : Met) (earlier later : List Met) (before now text : List ℕ) → later ≡ x ∷ earlier
    → now ≡ before ++ written form f earlier → text ≡ now ++ text_at form f x earlier → text ≡ before ++ written form f later
text-more form f x earlier later before now text same so_far appended =
    appended ∙ ap (λ (t : List ℕ). t ++ text_at form f x earlier) so_far
    ∙ append_assoc before (written form f earlier) (text_at form f x earlier)
    ∙ ap (λ (met : List Met). before ++ written form f met) (sym same)

keeps_some : (form : Form) (f : Followed) (met : List Met) (o : Option Held) → KeepsFor form f met o
    → ((x : Held) → o ≡ Some x → ⊥) → ⊥
keeps_some form f met None keeps never = keeps
keeps_some form f met (Some x) keeps never = never x refl

none_some : (o : Option Held) (x : Held) → o ≡ None → o ≡ Some x → ⊥
none_some None x none some = cc
none_some (Some y) x none some = cc

-- where messages are followed, it is known which
pub known_of : (c : Course) (task : Holding) (following : Held) → IsFollower task c → task.following ≡ Some following
    → (f : Followed) × (c.followed ≡ Some f) × IsFollowing c.form f c.met following
known_of c task following at is = by c.followed at.stage
  where
    by : (known : Option Followed) → IsStage known c task → (f : Followed) × (known ≡ Some f) × IsFollowing c.form f c.met following
    by None stage = absurd (none_some task.following following stage.0 is)
    by (Some f) stage = (f, refl, subst (KeepsFor c.form f c.met) is stage)

-- and where none are, it isn't
pub unknown_of : (c : Course) (task : Holding) → IsFollower task c → ((x : Held) → task.following ≡ Some x → ⊥)
    → (c.followed ≡ None) × (task.following ≡ None) × (task.known ≡ c.known) × IsKept c.before task.kept task.count × (c.met ≡ [])
unknown_of c task at never = by c.followed at.stage
  where
    by : (known : Option Followed) → IsStage known c task
        → (known ≡ None) × (task.following ≡ None) × (task.known ≡ c.known) × IsKept c.before task.kept task.count × (c.met ≡ [])
    by None (nothing, choice, keeps, empty) = (refl, nothing, choice, keeps, empty)
    by (Some f) stage = absurd (keeps_some c.form f c.met task.following stage never)

-- one more message where it was known which are followed
pub take_known : (c : Course) (m : Met) (task : Holding) (f : Followed) (new : Held) (before text : List ℕ)
    → IsFollower task c → c.followed ≡ Some f
    → IsFollowing c.form f (m ∷ c.met) new × (text ≡ before ++ text_at c.form f m c.met)
    → IsFollower (record task { following = Some new }) (after m c) × (text ≡ before ++ new_text m c)
take_known c m task f new before text at known (follows, appended) = (
  subst (IsFollower (record task { following = Some new })) (sym (ap (λ (k : Option Followed). after_as k m c) known))
      (record {
        form = at.form;
        wanted = at.wanted;
        sides = at.sides;
        stage = subst (λ (k : Option Followed). IsStage k (record c { met = m ∷ c.met }) (record task { following = Some new }))
            (sym known) follows;
      }),
  appended ∙ ap (λ (k : Option Followed). before ++ new_text_as k m c) (sym known),
)

-- a course with one more message by which this is known of which are followed
abbrev with_known : Option Followed → Met → Course → Course
with_known known m c = record c {
  known = noticed syncs_most m c.known;
  before = m ∷ c.before;
  followed = known;
  met = begins known (m ∷ c.before);
}

enough : (count n : ℕ) → count ≡ min n 1024 → (count == 1024) ≡ nat_le 1024 n
enough count n is = grind (arith, nat_tests)

-- what is chosen by what is kept
pub chosen_is : (w : WantedTaps) (s : Sides) (k : Known) (before kept : List Met) (count : ℕ) (result : Option Followed)
    → IsKept before kept count → result ≡ followed_by (count == 1024) w s k (reverse kept) → result ≡ chosen w s k before
chosen_is w s k before kept count result keeps is =
    is ∙ ap (λ (b : Bool). followed_by b w s k (reverse kept)) (enough count (length before) keeps.count_is)
    ∙ ap (λ (met : List Met). followed_by (nat_le kept_most (length before)) w s k met) keeps.kept_are

-- what was kept, and noticed, once one more message came
pub record Noticed (m : Met) (c : Course) (task : Holding) : Type 0 where
  pub form : task.form ≡ c.form
  pub wanted : task.wanted ≡ c.wanted
  pub sides : task.sides ≡ c.sides
  pub following : task.following ≡ None
  pub choice : task.known ≡ noticed syncs_most m c.known
  pub kept : IsKept (m ∷ c.before) task.kept task.count

-- this was noticed and kept
pub noticed_is : (c : Course) (m : Met) (old new : Holding) (choice : Known) → IsFollower old c → old.following ≡ None
    → old.known ≡ c.known → choice ≡ noticed syncs_most m old.known
    → new ≡ record old { known = choice; kept = new.kept; count = new.count }
    → IsKept (m ∷ c.before) new.kept new.count → Noticed m c new
noticed_is c m old new choice at nothing known told same keeps = record {
  form = ap (λ (t : Holding). t.form) same ∙ at.form;
  wanted = ap (λ (t : Holding). t.wanted) same ∙ at.wanted;
  sides = ap (λ (t : Holding). t.sides) same ∙ at.sides;
  following = ap (λ (t : Holding). t.following) same ∙ nothing;
  choice = ap (λ (t : Holding). t.known) same ∙ told ∙ ap (noticed syncs_most m) known;
  kept = keeps;
}

-- and by that this is chosen
pub chosen_now : (c : Course) (m : Met) (task : Holding) (result : Option Followed) → Noticed m c task
    → result ≡ followed_by (task.count == 1024) task.wanted task.sides task.known (reverse task.kept)
    → chosen c.wanted c.sides (noticed syncs_most m c.known) (m ∷ c.before) ≡ result
chosen_now c m task result is by =
    sym (chosen_is task.wanted task.sides task.known (m ∷ c.before) task.kept task.count result is.kept by
    ∙ ap (λ (w : WantedTaps). chosen w task.sides task.known (m ∷ c.before)) is.wanted
    ∙ ap (λ (s : Sides). chosen c.wanted s task.known (m ∷ c.before)) is.sides
    ∙ ap (λ (k : Known). chosen c.wanted c.sides k (m ∷ c.before)) is.choice)

-- it isn't known yet which messages are followed
pub take_kept : (c : Course) (m : Met) (task : Holding) (before : List ℕ) → c.followed ≡ None → Noticed m c task
    → chosen c.wanted c.sides (noticed syncs_most m c.known) (m ∷ c.before) ≡ None
    → IsFollower task (after m c) × (before ≡ before ++ new_text m c)
take_kept c m task before unknown is none = (
  subst (IsFollower task)
      (sym (ap (λ (k : Option Followed). after_as k m c) unknown ∙ ap (λ (k : Option Followed). with_known k m c) none))
      (record {
        form = is.form;
        wanted = is.wanted;
        sides = is.sides;
        stage = (is.following, is.choice, is.kept, refl);
      }),
  sym (append-nil before)
      ∙ ap (λ (k : Option Followed). before ++ text_of (with_known k m c)) (sym none)
      ∙ ap (λ (k : Option Followed). before ++ new_text_as k m c) (sym unknown),
)

-- it is known from now on
pub take_begun : (c : Course) (m : Met) (task new : Holding) (f : Followed) (before text : List ℕ) → c.followed ≡ None
    → Noticed m c task → chosen c.wanted c.sides (noticed syncs_most m c.known) (m ∷ c.before) ≡ Some f
    → new ≡ record task { following = new.following }
    → KeepsFor task.form f (reverse task.kept) new.following
    × (text ≡ before ++ written task.form f (reverse task.kept))
    → IsFollower new (after m c) × (text ≡ before ++ new_text m c)
take_begun c m task new f before text unknown is known same (keeps, appended) = (
  subst (IsFollower new)
      (sym (ap (λ (k : Option Followed). after_as k m c) unknown ∙ ap (λ (k : Option Followed). with_known k m c) known))
      (record {
        form = ap (λ (t : Holding). t.form) same ∙ is.form;
        wanted = ap (λ (t : Holding). t.wanted) same ∙ is.wanted;
        sides = ap (λ (t : Holding). t.sides) same ∙ is.sides;
        stage = subst (λ (met : List Met). KeepsFor c.form f met new.following) is.kept.kept_are
            (subst (λ (form : Form). KeepsFor form f (reverse task.kept) new.following) is.form keeps);
      }),
  appended
      ∙ ap (λ (form : Form). before ++ written form f (reverse task.kept)) is.form
      ∙ ap (λ (met : List Met). before ++ written c.form f met) is.kept.kept_are
      ∙ ap (λ (k : Option Followed). before ++ text_of (with_known k m c)) (sym known)
      ∙ ap (λ (k : Option Followed). before ++ new_text_as k m c) (sym unknown),
)
