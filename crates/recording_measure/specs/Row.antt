-- The datagrams of a recording, and those of lines that are heard.
use Rattle.std.specs.Prelude.{ℕ, nat_le, Bool, not, List, [], ◌∷◌, length, map, is_some, if◌then◌else◌}
use Rattle.datagram_source.specs.Datagram.{DatagramOf}
use Rattle.recording_model.specs.Recorded.{Recorded}
use Rattle.recording_measure.specs.declared.watch.WantedPorts.{WantedPorts}
use Rattle.recording_measure.specs.Watch.{watched_in}

-- a datagram of a recording: its time as it is written, its octets, what a port takes of it, and whether it is a slave's own reading
pub record Row : Type 0 where
  pub time : List ℕ
  pub octets : List ℕ
  pub datagram : Recorded
  pub own : Bool

abbrev pub row_of : DatagramOf → Row
row_of d = record {
  time = d.written;
  octets = d.octets;
  datagram = record { line = d.number; time = d.time; said = d.said };
  own = d.own;
}

-- what a port takes of rows
abbrev pub datagrams : List Row → List Recorded
datagrams rows = map (λ row. row.datagram) rows

-- it is known whom to watch
abbrev pub is_known : WantedPorts → List Row → Bool
is_known w rows = is_some (watched_in w (datagrams rows))

-- the most datagrams that are kept until it is known whom to watch
abbrev pub kept_most : ℕ
kept_most = 1024

-- The rows that are heard, newest first: none until it is known whom to watch, then all so far where these are few
-- enough, or else those from here on.
abbrev pub heard : WantedPorts → List Row → List Row
heard w [] = []
heard w (row ∷ earlier) =
    if is_known w earlier then row ∷ heard w earlier
    else if not (is_known w (row ∷ earlier)) then []
    else if nat_le (length (row ∷ earlier)) kept_most then row ∷ earlier
    else row ∷ []
