-- A transparent clock's stays as C passes them (IEEE 1588-2019, 10.2).
use Rattle.std.specs.Prelude.{◌≡◌, ℕ, List, Ok, MatchResult}
use Rattle.event_codec.specs.Reading.{Reading, IsReading}
use Rattle.transparent_clock.specs.Forwarding.{forwarded}
use Rattle.transparent_clock.specs.Refusal.{code_of}

-- octets that said this say the message with its residence, or it is refused and they are as before
abbrev pub IsForwarded : Reading → (entered left : ℕ) → (code : ℕ) → (old new : List ℕ) → Type 0
IsForwarded said entered left code old new = MatchResult (forwarded said entered left)
    (λ m. (code ≡ 0) × IsReading new (Ok m))
    (λ refusal. (code ≡ code_of refusal) × (new ≡ old))
