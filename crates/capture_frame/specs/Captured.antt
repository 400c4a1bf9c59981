-- What a packet tells that was cut short, beside what the whole one tells.
use Rattle.std.specs.Prelude.{◌≡◌, ◌≢◌, ℕ, List, ◌++◌}
use Rattle.capture_frame.specs.Found.{Answer, Datagram, Fragment, TooLong, OtherLink, Other}

-- the first answer is as much of the second as was captured: a front of its datagram, or nothing
abbrev pub IsFrontOf : (captured whole : Answer) → Type 0
IsFrontOf (Datagram captured) (Datagram whole) = (rest : List ℕ) × (whole ≡ captured ++ rest)
IsFrontOf (Datagram captured) TooLong = Unit {0}
IsFrontOf (Datagram captured) Fragment = ⊥
IsFrontOf (Datagram captured) OtherLink = ⊥
IsFrontOf (Datagram captured) Other = ⊥
IsFrontOf Fragment whole = whole ≡ Fragment
IsFrontOf TooLong whole = whole ≡ TooLong
IsFrontOf OtherLink whole = whole ≡ OtherLink
IsFrontOf Other whole = whole ≢ OtherLink
