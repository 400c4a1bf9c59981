use Rattle.std.proofs.Common.{rules, ◌≡◌, ◌≢◌, ◌≤◌, ◌∙◌, ◌+◌, ◌-◌, ◌++◌, length, take, ap, sym, subst, ℕ, List}
use Rattle.std.specs.Io.KnownBytes.{Consumes}
use Rattle.std.proofs.KnownBytes.{Consumes-trans}
use Rattle.std.proofs.lemmas.Slice.{take-put_mid, overwrites}
use Rattle.std.proofs.lemmas.List.Elements.{All-append}
use Rattle.text_lines.specs.Inner.Reading.{StopsAt, IsUnended, octets_of_part}
use Rattle.text_lines.specs.Lines.{line_limit}
use Rattle.text_lines.proofs.Reading.{part_stops}
use Rattle.text_lines.proofs.counted.Counted.read_uncounted.Goals as goal
use borrow.Rule.Slice.PartMut.{put_mid}

-- a part that was put behind the octets of a line
put_behind : (count size : ℕ) (room put part : List ℕ) → put ≡ part → length part ≡ size → count ≤ length room
    → take (count + size) (put_mid count (count + size - count) room put) ≡ take count room ++ part
put_behind count size room put part is long within =
    take-put_mid count (count + size - count) room put (count + size) (ap (λ n. count + n) (sym long ∙ ap length (sym is))) within
    ∙ ap (λ xs. take count room ++ xs) is

pub returns-in-Some-clause-stop : goal.returns-in-Some-clause-stop
returns-in-Some-clause-stop g c =
    let o = c.loop-stop in
    let read = c.read_line_part-part.ensures in
    let part = c.read_line_part-part.result in
    subst (StopsAt c.in-Some.stop _ _) (sym (put_behind o.count part.size o.room _ (octets_of_part part) c.copy_from_slice.ensures.after (search rules) (search rules)))
    (part_stops (line_limit - o.count) c.in-Some.stop _ _ _ (take o.count o.room) (octets_of_part part) o.invariant.read (rw c.in-Some.is at read.stop) (search rules))

pub returns-in-Some-clause-unended : goal.returns-in-Some-clause-unended
returns-in-Some-clause-unended g c =
    let o = c.loop-stop in
    let part = c.read_line_part-part.result in
    subst IsUnended (sym (put_behind o.count part.size o.room _ (octets_of_part part) c.copy_from_slice.ensures.after (search rules) (search rules)))
    (All-append (λ x. x ≢ 10) _ _ o.invariant.unended c.read_line_part-part.ensures.unended)

pub loop-stop-preserved : goal.loop-stop-preserved
loop-stop-preserved g c =
    let o = c.loop-stop in
    let read = c.read_line_part-part.ensures in
    let part = c.read_line_part-part.result in
    let put = sym (put_behind o.count part.size o.room _ (octets_of_part part) c.copy_from_slice.ensures.after (search rules) (search rules)) in
    record {
      read = subst (Consumes _ _) put (Consumes-trans _ _ _ (take o.count o.room) (octets_of_part part) o.invariant.read (rw c.in_default.is at read.stop));
      unended = subst IsUnended put (All-append (λ x. x ≢ 10) _ _ o.invariant.unended read.unended);
      begun = search rules;
      within = search rules;
      room = search (rules, overwrites);
      given = search rules;
      failures = search rules;
    }
