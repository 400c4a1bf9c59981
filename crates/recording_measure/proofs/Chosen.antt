-- Whom a capture is of stays so, and what one more row adds to all that is measured.
use Rattle.std.proofs.Common.{◌≡◌, ◌∙◌, ℕ, nat_le, Bool, true, false, ◌==◌, ◌&&◌, ◌||◌}
use Rattle.std.proofs.Common.{List, [], ◌∷◌, ◌++◌, length, Option, Some, None, refl, sym, ap, append-nil}
use Rattle.std.specs.Prelude.{if◌then◌else◌, is_some, option_and_then, option_to_list}
use Rattle.std.specs.Option.{option_or, option_map_or}
use Rattle.std.proofs.lemmas.Bool.{and_parts, and_from}
use Rattle.event_codec.specs.declared.port.PortIdentity.{PortIdentity}
use Rattle.recording_model.specs.declared.watched.Watched.{Watched}
use Rattle.recording_model.specs.Recorded.{Recorded}
use Rattle.recording_measure.specs.Made.{Measured}
use Rattle.recording_measure.specs.declared.watch.WantedPorts.{WantedPorts}
use Rattle.recording_measure.specs.Watch.{watched_in}
use Rattle.recording_measure.specs.Row.{Row, datagrams, kept_most}
use Rattle.recording_measure.specs.Measured.{measured_at, measurements}
use Rattle.recording_measure.specs.Places.{PlaceName, PlacedRow, is_same_place, rows_at, is_among, places_in}
use Rattle.recording_measure.specs.Chosen.{tells, is_domain_met, is_port_met, is_met, is_enough, watched_at, chosen_by, chosen}
use Rattle.recording_measure.specs.Chosen.{heard_with, heard_at, input_watched, input_measured}
use Rattle.recording_measure.proofs.Told.{watched-stays}

-- ---- what was met stays so
pub or_stays : (b c : Bool) → c ≡ true → (b || c) ≡ true
or_stays true c is = refl
or_stays false c is = is

domain_stays : (domain : Option ℕ) (d : Recorded) (ds : List Recorded) → is_domain_met domain ds ≡ true
    → is_domain_met domain (d ∷ ds) ≡ true
domain_stays None d ds is = refl
domain_stays (Some domain) d ds is =
    or_stays (tells (λ header. header.domain == domain) d) (is_domain_met (Some domain) ds) is

port_stays : (port : Option PortIdentity) (d : Recorded) (ds : List Recorded) → is_port_met port ds ≡ true
    → is_port_met port (d ∷ ds) ≡ true
port_stays None d ds is = refl
port_stays (Some port) d ds is = or_stays _ (is_port_met (Some port) ds) is

met_stays : (w : WantedPorts) (d : Recorded) (ds : List Recorded) → is_met w ds ≡ true → is_met w (d ∷ ds) ≡ true
met_stays w d ds is =
    let (domain, ports) = and_parts (is_domain_met w.domain ds) (is_port_met w.master ds && is_port_met w.slave ds) is in
    let (master, slave) = and_parts (is_port_met w.master ds) (is_port_met w.slave ds) ports in
    and_from (is_domain_met w.domain (d ∷ ds)) (is_port_met w.master (d ∷ ds) && is_port_met w.slave (d ∷ ds))
    (domain_stays w.domain d ds domain)
    (and_from (is_port_met w.master (d ∷ ds)) (is_port_met w.slave (d ∷ ds)) (port_stays w.master d ds master)
    (port_stays w.slave d ds slave))

enough_stays : (w : WantedPorts) (place : PlaceName) (d : Recorded) (ds : List Recorded) → is_enough w place ds ≡ true
    → is_enough w place (d ∷ ds) ≡ true
enough_stays w None d ds is = refl
enough_stays w (Some name) d ds is = met_stays w d ds is

pub where_met : (w : WantedPorts) (place : PlaceName) (ds : List Recorded) (watched : Watched) (enough : Bool)
    → is_enough w place ds ≡ enough → (if enough then watched_in w ds else None) ≡ Some watched
    → (is_enough w place ds ≡ true) × (watched_in w ds ≡ Some watched)
where_met w place ds watched true is known = (is, known)
where_met w place ds watched false is known = absurd cc

watched_at-stays : (w : WantedPorts) (place : PlaceName) (d : Recorded) (ds : List Recorded) (watched : Watched)
    → watched_at w place ds ≡ Some watched → watched_at w place (d ∷ ds) ≡ Some watched
watched_at-stays w place d ds watched known =
    let (enough, is) = where_met w place ds watched (is_enough w place ds) refl known in
    ap (λ b. if b then watched_in w (d ∷ ds) else None) (enough_stays w place d ds enough) ∙ watched-stays w d ds watched is

-- ---- one more row
rows_more : (place : PlaceName) (r : PlacedRow) (rows : List PlacedRow) (w : WantedPorts) (watched : Watched) (same : Bool)
    → watched_at w place (datagrams (rows_at place rows)) ≡ Some watched
    → watched_at w place (datagrams (if same then r.row ∷ rows_at place rows else rows_at place rows)) ≡ Some watched
rows_more place r rows w watched true known =
    watched_at-stays w place r.row.datagram (datagrams (rows_at place rows)) watched known
rows_more place r rows w watched false known = known

module _ (w : WantedPorts) (rows : List PlacedRow) (r : PlacedRow) where
  pub chosen-stays : (place : PlaceName) → chosen w rows ≡ Some place → chosen w (r ∷ rows) ≡ Some place
  chosen-stays place is = ap (λ o. option_or o (chosen_by w r rows)) is

  pub input-stays : (place : PlaceName) (watched : Watched) → chosen w rows ≡ Some place
      → input_watched w rows ≡ Some watched → input_watched w (r ∷ rows) ≡ Some watched
  input-stays place watched is known =
      ap (option_and_then (λ i. watched_at w i (datagrams (rows_at i (r ∷ rows))))) (chosen-stays place is)
      ∙ rows_more place r rows w watched (is_same_place place r.place)
      (sym (ap (option_and_then (λ i. watched_at w i (datagrams (rows_at i rows)))) is) ∙ known)

  pub heard-known : (place : PlaceName) (same : Bool) → chosen w rows ≡ Some place
      → is_same_place place r.place ≡ same
      → heard_at w (r ∷ rows) ≡ (if same then r.row ∷ heard_at w rows else heard_at w rows)
  heard-known place same is at =
      ap (λ o. heard_with o (chosen w (r ∷ rows)) r rows (heard_at w rows)) is
      ∙ ap (λ b. if b then r.row ∷ heard_at w rows else heard_at w rows) at

  pub heard-first : (place : PlaceName) (few : Bool) → chosen w rows ≡ None → chosen w (r ∷ rows) ≡ Some place
      → nat_le (length (r ∷ rows)) kept_most ≡ few
      → heard_at w (r ∷ rows) ≡ (if few then rows_at place (r ∷ rows) else r.row ∷ [])
  heard-first place few none is count =
      ap (λ o. heard_with o (chosen w (r ∷ rows)) r rows (heard_at w rows)) none
      ∙ ap (λ o. heard_with None o r rows (heard_at w rows)) is
      ∙ ap (λ b. if b then rows_at place (r ∷ rows) else r.row ∷ []) count

  -- ---- the place of the newest row
  pub chosen-after : chosen w rows ≡ None → chosen w (r ∷ rows) ≡ chosen_by w r rows
  chosen-after none = ap (λ o. option_or o (chosen_by w r rows)) none

  pub unlooked : is_among r.place (places_in (r ∷ rows)) ≡ false → chosen_by w r rows ≡ None
  unlooked none = ap (λ b. if b && is_some (watched_at w r.place (datagrams (rows_at r.place (r ∷ rows)))) then Some r.place else None) none

  pub unknown : watched_at w r.place (datagrams (rows_at r.place (r ∷ rows))) ≡ None → chosen_by w r rows ≡ None
  unknown none =
      ap (λ o. if is_among r.place (places_in (r ∷ rows)) && is_some o then Some r.place else None) none
      ∙ never (is_among r.place (places_in (r ∷ rows)))
    where
      never : (b : Bool) → (if b && false then Some r.place else None) ≡ None
      never true = refl
      never false = refl

  pub known_there : (watched : Watched) → is_among r.place (places_in (r ∷ rows)) ≡ true
      → watched_at w r.place (datagrams (rows_at r.place (r ∷ rows))) ≡ Some watched → chosen_by w r rows ≡ Some r.place
  known_there watched there is =
      ap (λ o. if is_among r.place (places_in (r ∷ rows)) && is_some o then Some r.place else None) is
      ∙ ap (λ b. if b && true then Some r.place else None) there

  pub input-first : (watched : Watched) → chosen w (r ∷ rows) ≡ Some r.place
      → watched_at w r.place (datagrams (rows_at r.place (r ∷ rows))) ≡ Some watched → input_watched w (r ∷ rows) ≡ Some watched
  input-first watched is known =
      ap (option_and_then (λ i. watched_at w i (datagrams (rows_at i (r ∷ rows))))) is ∙ known

-- ---- what is measured
pub measured-known : (w : WantedPorts) (rows : List PlacedRow) (watched : Watched) → input_watched w rows ≡ Some watched
    → input_measured w rows ≡ measurements watched (heard_at w rows)
measured-known w rows watched known = ap (λ o. option_map_or (λ watched. measurements watched (heard_at w rows)) o []) known

pub measured-unknown : (w : WantedPorts) (rows : List PlacedRow) → chosen w rows ≡ None → input_measured w rows ≡ []
measured-unknown w rows none =
    ap (λ o. option_map_or (λ watched. measurements watched (heard_at w rows))
    (option_and_then (λ i. watched_at w i (datagrams (rows_at i rows))) o) []) none

module _ (w : WantedPorts) (rows : List PlacedRow) (r : PlacedRow) where
  -- one more that is heard
  pub measured-more : (place : PlaceName) (watched : Watched) → chosen w rows ≡ Some place
      → input_watched w rows ≡ Some watched → is_same_place place r.place ≡ true
      → input_measured w (r ∷ rows) ≡ option_to_list (measured_at watched (heard_at w rows) r.row) ++ input_measured w rows
  measured-more place watched is known same =
      measured-known w (r ∷ rows) watched (input-stays w rows r place watched is known)
      ∙ ap (measurements watched) (heard-known w rows r place true is same)
      ∙ ap (λ (ms : List Measured). option_to_list (measured_at watched (heard_at w rows) r.row) ++ ms)
      (sym (measured-known w rows watched known))

  -- one at another place
  pub measured-other : (place : PlaceName) (watched : Watched) → chosen w rows ≡ Some place
      → input_watched w rows ≡ Some watched → is_same_place place r.place ≡ false
      → input_measured w (r ∷ rows) ≡ input_measured w rows
  measured-other place watched is known other =
      measured-known w (r ∷ rows) watched (input-stays w rows r place watched is known)
      ∙ ap (measurements watched) (heard-known w rows r place false is other) ∙ sym (measured-known w rows watched known)

  -- the one by which it is known whom the capture is of
  pub measured-first : (watched : Watched) (heard : List Row) → chosen w rows ≡ None → input_watched w (r ∷ rows) ≡ Some watched
      → heard_at w (r ∷ rows) ≡ heard → input_measured w (r ∷ rows) ≡ measurements watched heard ++ input_measured w rows
  measured-first watched heard none known is =
      measured-known w (r ∷ rows) watched known ∙ ap (measurements watched) is ∙ sym (append-nil (measurements watched heard))
      ∙ ap (λ (ms : List Measured). measurements watched heard ++ ms) (sym (measured-unknown w rows none))

  -- while it isn't known nothing is measured
  pub measured-still : chosen w rows ≡ None → chosen w (r ∷ rows) ≡ None → input_measured w (r ∷ rows) ≡ input_measured w rows
  measured-still none still = measured-unknown w (r ∷ rows) still ∙ sym (measured-unknown w rows none)
