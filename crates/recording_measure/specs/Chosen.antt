-- Whom an input is of, lines or a capture, and at which of the places at which its datagrams were met: the first at which that is known.
use Rattle.std.specs.Prelude.{ℕ, nat_le, Bool, true, false, not, ◌==◌, ◌&&◌, List, [], ◌∷◌, length, if◌then◌else◌, is_some}
use Rattle.std.specs.Prelude.{Option, Some, None, option_and_then}
use Rattle.std.specs.List.{list_any}
use Rattle.std.specs.Option.{option_or, option_map_or}
use Rattle.std.specs.Result.{result_ok}
use Rattle.event_codec.specs.declared.message.Header.{Header}
use Rattle.event_codec.specs.declared.port.PortIdentity.{PortIdentity}
use Rattle.event_codec.specs.Port.{is_same_port}
use Rattle.datagram_source.specs.Datagram.{DatagramOf, PlaceOf, place_to_all}
use Rattle.datagram_source.specs.Stream.{is_exchange}
use Rattle.recording_model.specs.declared.watched.Watched.{Watched}
use Rattle.recording_model.specs.Recorded.{Recorded}
use Rattle.recording_measure.specs.Made.{Measured}
use Rattle.recording_measure.specs.declared.form.Form.{Form}
use Rattle.recording_measure.specs.declared.watch.WantedPorts.{WantedPorts}
use Rattle.recording_measure.specs.Watch.{watched_in}
use Rattle.recording_measure.specs.Row.{Row, datagrams, kept_most}
use Rattle.recording_measure.specs.Measured.{texts_as, measurements}
use Rattle.recording_measure.specs.Places.{PlaceName, PlacedRow, name_in, is_same_place, rows_at, is_among, places_in}

-- a datagram is a message whose header is so
abbrev pub tells : (Header → Bool) → Recorded → Bool
tells is d = option_map_or (λ m. is m.header) (result_ok d.said) false

-- a message of the domain that is asked for, if one is
abbrev pub is_domain_met : Option ℕ → List Recorded → Bool
is_domain_met None ds = true
is_domain_met (Some domain) ds = list_any (tells (λ header. header.domain == domain)) ds

-- a message from the port that is asked for, if one is
abbrev pub is_port_met : Option PortIdentity → List Recorded → Bool
is_port_met None ds = true
is_port_met (Some port) ds = list_any (tells (λ header. is_same_port header.source port)) ds

-- all that is asked for was met
abbrev pub is_met : WantedPorts → List Recorded → Bool
is_met w ds = is_domain_met w.domain ds && (is_port_met w.master ds && is_port_met w.slave ds)

-- All that is asked for was met at a place that has a name, since there may be others. Lines that tell none are all of one place, so
-- nothing has to be met there.
abbrev pub is_enough : WantedPorts → PlaceName → List Recorded → Bool
is_enough w None ds = true
is_enough w (Some name) ds = is_met w ds

-- whom the datagrams at a place are of, where enough was met there
abbrev pub watched_at : WantedPorts → PlaceName → List Recorded → Option Watched
watched_at w place ds = if is_enough w place ds then watched_in w ds else None

-- the place of the newest of these rows, where it is looked at and it is known whom its datagrams are of
abbrev pub chosen_by : WantedPorts → PlacedRow → (earlier : List PlacedRow) → Option PlaceName
chosen_by w r earlier =
    if is_among r.place (places_in (r ∷ earlier))
    && is_some (watched_at w r.place (datagrams (rows_at r.place (r ∷ earlier))))
    then Some r.place else None

-- the place that is measured
abbrev pub chosen : WantedPorts → List PlacedRow → Option PlaceName
chosen w [] = None
chosen w (r ∷ earlier) = option_or (chosen w earlier) (chosen_by w r earlier)

-- ---- where a datagram belongs
-- While no place is measured its own one is looked at, as it is where Syncs go to this slave alone. Once one is measured, that isn't what
-- goes to all.
abbrev pub stays_at : WantedPorts → List PlacedRow → PlaceOf → Bool
stays_at w rows place =
    option_map_or (λ measured. not (is_same_place measured (name_in (place_to_all place)))) (chosen w rows)
    (is_among (name_in place) (places_in rows))

-- Where a datagram belongs. A Delay_Req or Delay_Resp by unicast does to the Syncs that go to its slave alone where these came, and else
-- to those that go to all, as where Delay_Reqs alone are sent by unicast. Once what goes to all is measured, it does to that.
abbrev pub settled : WantedPorts → List PlacedRow → DatagramOf → PlaceOf
settled w rows d = if is_exchange d.octets && not (stays_at w rows d.place) then place_to_all d.place else d.place

-- ---- what is heard
-- The rows that are heard with one more: those at the place that is measured. Once that is known, and not too many
-- rows came before, those before are heard, too.
abbrev pub heard_with : (before now : Option PlaceName) → PlacedRow → (earlier : List PlacedRow)
    → (heard : List Row) → List Row
heard_with (Some place) now r earlier heard =
    if is_same_place place r.place then r.row ∷ heard else heard
heard_with None None r earlier heard = []
heard_with None (Some place) r earlier heard =
    if nat_le (length (r ∷ earlier)) kept_most then rows_at place (r ∷ earlier) else r.row ∷ []

-- the rows that are heard
abbrev pub heard_at : WantedPorts → List PlacedRow → List Row
heard_at w [] = []
heard_at w (r ∷ earlier) = heard_with (chosen w earlier) (chosen w (r ∷ earlier)) r earlier (heard_at w earlier)

-- whom the input is of
abbrev pub input_watched : WantedPorts → List PlacedRow → Option Watched
input_watched w rows =
    option_and_then (λ place. watched_at w place (datagrams (rows_at place rows))) (chosen w rows)

-- all that is measured once these rows were read
abbrev pub input_measured : WantedPorts → List PlacedRow → List Measured
input_measured w rows = option_map_or (λ watched. measurements watched (heard_at w rows)) (input_watched w rows) []

-- all that is written of them
abbrev pub input_written : Form → WantedPorts → List PlacedRow → List ℕ
input_written form w rows = texts_as form (input_measured w rows)
