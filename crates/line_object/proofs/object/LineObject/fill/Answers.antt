use Rattle.std.proofs.Common.{◌≡◌, ◌≤◌, true, option_map, option_and_then, refl, sym, ap, ◌∙◌, subst, arith}
use Rattle.json.specs.Tree.{depth, members_depth}
use Rattle.serde_json.specs.Data.{no_members, object, put}
use Rattle.serde_json.specs.Read.{of_json, of_members}
use Rattle.line_object.specs.declared.object.Member.{Member}
use Rattle.line_object.specs.Key.{key_text}
use Rattle.line_object.specs.PlainValue.{plain_data}
use Rattle.line_object.specs.Inner.Apart.{is_free, are_apart}
use Rattle.line_object.specs.Object.{members_from}
use Rattle.line_object.proofs.Members.{from_more, apart_more}
use Rattle.line_object.proofs.object.LineObject.fill.Goals as goal

pub loop-text-init : goal.loop-text-init
loop-text-init c = (
  subst (λ ms. are_apart ms ≡ true) (sym c.clear.ensures) refl,
  λ j begins. let shape = c.in_ok-left.ensures j begins in
      (shape.0, shape.0, shape.1, shape.2, ap (λ ms. of_members shape.0 (members_from no_members ms)) (sym c.clear.ensures), λ h. h),
)

pub loop-text-preserved : goal.loop-text-preserved
loop-text-preserved c =
    let now = c.loop-text.invariant in
    let ms = c.loop-text.self.members.items in
    let m : Member = record { key = c.in_ok-key.key; value = c.in_ok-value.value } in
    let named : c.in-Some.text.now ≡ key_text m.key = c.in_ok-key.ensures in
    let free : is_free m.key ms ≡ true = sym (c.if-not-is_free.ensures ∙ ap (is_free m.key) c.as_slice.ensures.value) in (
      subst (λ l. are_apart l ≡ true) (sym c.push.ensures.items) (apart_more ms m now.0 free),
      λ j begins.
          let s = now.1 j begins in
          let f = c.in-Some.ensures.value s.1 s.3 in
          let reads = c.in_ok-value.ensures f.0 f.3 in
          let found = members_from no_members ms in
          let one = ap (λ r. of_members r found) f.2 ∙ ap (option_and_then (λ d. of_members f.1 (put c.in-Some.text.now d found))) reads.0 in
          let more = ap (λ t. of_members f.1 (put t (plain_data m.value) found)) named ∙ ap (of_members f.1) (sym (from_more no_members ms m)) in
          let pushed = ap (λ l. of_members f.1 (members_from no_members l)) (sym c.push.ensures.items) in (
            s.0,
            f.1,
            s.2,
            f.4,
            s.4 ∙ one ∙ more ∙ pushed,
            λ h. s.5 (subst (λ r. members_depth r ≤ 1) (sym f.2) (omega (arith, h, reads.1))),
          ),
    )

pub invariant_of-self-in-Some : goal.invariant_of-self-in-Some
invariant_of-self-in-Some c =
    let ms = c.loop-text.self.members.items in
    let m : Member = record { key = c.in_ok-key.key; value = c.in_ok-value.value } in
    let free : is_free m.key ms ≡ true = sym (c.if-not-is_free.ensures ∙ ap (is_free m.key) c.as_slice.ensures.value) in
    record { apart = subst (λ l. are_apart l ≡ true) (sym c.push.ensures.items) (apart_more ms m c.loop-text.invariant.0 free) }

pub returns : goal.returns
returns c j begins =
    let s = c.loop-text.invariant.1 j begins in
    let none = c.in_default.ensures.value s.1 s.3 in
    let all = s.4 ∙ ap (λ r. of_members r (members_from no_members c.loop-text.self.members.items)) none in (
      ap of_json s.2 ∙ ap (option_map object) all,
      subst (λ k. depth k ≤ 2) (sym s.2) (omega (arith, s.5 (subst (λ r. members_depth r ≤ 1) (sym none) (omega arith)))),
    )
