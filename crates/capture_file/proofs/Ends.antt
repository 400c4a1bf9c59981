-- What the end of a block comes to.
use Rattle.std.proofs.Common.{◌≡◌, ℕ, ◌+◌, ◌-◌, ◌≤◌, List, ◌++◌, length, take, drop, sym, ap, ◌∙◌, refl, arith, Option, Result, Ok, Err}
use Rattle.std.proofs.Common.{length-append}
use Rattle.std.specs.Prelude.{⊤, slice_range}
use Rattle.std.specs.Io.KnownBytes.{Consumes}
use Rattle.std.proofs.KnownBytes.{Consumes-trans}
use Rattle.std.proofs.lemmas.List.{drop-drop, drop_at}
use Rattle.std.specs.Int.{w32}
use Rattle.capture_file.specs.declared.fault.CaptureFault.TheVariants.{NoCapture, Version, ByteOrderMagic, Length, Interface, CutOff}
use Rattle.capture_file.specs.declared.order.ByteOrder.{ByteOrder}
use Rattle.capture_file.specs.declared.part.PartStop.{PartStop}
use Rattle.capture_file.specs.declared.part.PartStop.TheVariants.{Read, Memory, Fault}
use Rattle.capture_file.specs.Order.{number_of, number32}
use Rattle.capture_file.specs.Inner.Reading.{Closes}

-- the last number of octets that stand behind others
pub last_of : (order : ByteOrder) (front rest : List ℕ) → 4 ≤ length rest → number32 order (front ++ rest) (length (front ++ rest) - 4) ≡ number32 order rest (length rest - 4)
last_of order front rest least =
    ap (λ n. number32 order (front ++ rest) n) (ap (λ n. n - 4) (length-append front rest) ∙ omega (arith, least))
    ∙ ap (number_of order w32) (slice_behind (length rest - 4))
  where
    slice_behind : (j : ℕ) → slice_range (front ++ rest) (length front + j) (length front + j + 4) ≡ slice_range rest j (j + 4)
    slice_behind j =
        ap (λ n. take n (drop (length front + j) (front ++ rest))) (omega arith)
        ∙ ap (take (j + 4 - j)) (sym (drop-drop j (length front) (front ++ rest)) ∙ ap (drop j) (drop_at front rest (length front) refl))

pub closes_behind : (order : ByteOrder) (total seen : ℕ) (r : Result ⊤ PartStop) (a b c : Option (List ℕ)) (passed : List ℕ) → Consumes a b passed
    → seen + length passed + 4 ≡ total → Closes order total (total - 4) r b c → Closes order total seen r a c
closes_behind order total seen (Ok done) a b c passed first whole (rest, read, least, size, same) =
    (passed ++ rest, Consumes-trans a b c passed rest first read, rw (length-append passed rest) (omega (arith, least)), rw (length-append passed rest) (omega (arith, whole, size)), last_of order passed rest least ∙ same)
closes_behind order total seen (Err Read) a b c passed first whole (rest, read) = (passed ++ rest, Consumes-trans a b c passed rest first read)
closes_behind order total seen (Err Memory) a b c passed first whole closes = absurd closes
closes_behind order total seen (Err (Fault CutOff place)) a b c passed first whole (rest, read, short, end, at) =
    (passed ++ rest, Consumes-trans a b c passed rest first read, rw (length-append passed rest) (omega (arith, whole, short)), end, at)
closes_behind order total seen (Err (Fault Length place)) a b c passed first whole (rest, read, least, size, other, at) =
    (passed ++ rest, Consumes-trans a b c passed rest first read, rw (length-append passed rest) (omega (arith, least)), rw (length-append passed rest) (omega (arith, whole, size)), rw (last_of order passed rest least) other, at)
closes_behind order total seen (Err (Fault NoCapture place)) a b c passed first whole closes = absurd closes
closes_behind order total seen (Err (Fault Version place)) a b c passed first whole closes = absurd closes
closes_behind order total seen (Err (Fault ByteOrderMagic place)) a b c passed first whole closes = absurd closes
closes_behind order total seen (Err (Fault Interface place)) a b c passed first whole closes = absurd closes
