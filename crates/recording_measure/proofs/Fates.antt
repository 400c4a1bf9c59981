-- What comes of rows, with one more.
use Rattle.std.proofs.Common.{◌≡◌, ℕ, List, [], ◌∷◌, Option, Some, None, refl, sym, ap}
use Rattle.std.specs.Prelude.{option_to_list}
use Rattle.recording_model.specs.declared.watched.Watched.{Watched}
use Rattle.recording_model.specs.Listening.{after_all}
use Rattle.recording_model.specs.Recorded.{Recorded}
use Rattle.recording_measure.specs.Made.{Measured}
use Rattle.recording_measure.specs.Row.{Row, datagrams}
use Rattle.recording_measure.specs.Measured.{measured_at}
use Rattle.recording_measure.specs.Counts.{fate_in, fate_at}

-- ---- what is measured at a row
abbrev head_or : {T : Type 0} → T → List T → T
head_or d [] = d
head_or d (x ∷ xs) = x

pub one_there : {T : Type 0} (o : Option T) (x : T) → option_to_list o ≡ x ∷ [] → o ≡ Some x
one_there None x is = cc
one_there (Some y) x is = ap (λ l. Some (head_or y l)) is

pub none_there : {T : Type 0} (o : Option T) → option_to_list o ≡ [] → o ≡ None
none_there None is = refl
none_there (Some y) is = cc

pub fate-measured : (watched : Watched) (earlier : List Row) (row : Row) (d : Recorded) (octets : List ℕ) (m : Option Measured)
    → row.datagram ≡ d → row.octets ≡ octets → measured_at watched earlier row ≡ m
    → record (fate_in watched d octets (after_all watched (datagrams earlier))) { measured = m } ≡ fate_at watched earlier row
fate-measured watched earlier row d octets m same alike is = λ i.
    record (fate_in watched (sym same i) (sym alike i) (after_all watched (datagrams earlier))) { measured = sym is i }
