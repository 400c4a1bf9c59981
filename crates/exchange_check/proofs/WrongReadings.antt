-- Readings that aren't right, by what is noted of them.
use Rattle.std.proofs.Common.{◌≡◌, ◌∙◌, ℕ, Bool, true, false, ◌&&◌, cond, ◌∷◌, Option, Some, None, refl, ap, is_some}
use Rattle.std.specs.Prelude.{◌||◌, not, option_map}
use Rattle.network_model.specs.declared.event.Event.{Event}
use Rattle.network_model.specs.declared.event.Event.TheVariants.{Enter, StepClock}
use Rattle.network_model.specs.Network.{Network, is_named}
use Rattle.network_model.specs.Run.{true_moment, site_of}
use Rattle.network_model.specs.Kinds.{is_step, entered_copy}
use Rattle.trace_model.specs.declared.line.TraceLine.{TraceLine}
use Rattle.trace_model.specs.Line.{Lines, counts}
use Rattle.trace_model.specs.Record.{LinePlace, line_place, line_number, site, last_line, reads_right}
use Rattle.trace_model.proofs.Lines.{last_more}
use Rattle.exchange_check.specs.declared.kept_line.WrongReading.{WrongReading}
use Rattle.exchange_check.specs.Evidence.{wrong_reading}
use Rattle.exchange_check.specs.Inner.Noting.{reading_entry}
use Rattle.exchange_check.proofs.Noted.{site_at}
use Rattle.exchange_check.proofs.Told.{fact_of}

timed_step : (event : Event) → is_some (true_moment event) ≡ true → is_step event ≡ false
timed_step (StepClock node diff) h = cc
timed_step _ h = refl

pub entered_timed : (event : Event) (copy : ℕ) → entered_copy event ≡ Some copy → is_some (true_moment event) ≡ true
entered_timed (Enter node entered at) copy h = refl
entered_timed _ copy h = cc

module _ (network : Network) (line : TraceLine) (earlier : Lines) (counted : counts network line ≡ true) where
  abbrev e : LinePlace
  e = line_place line earlier

  abbrev fed : Lines
  fed = line ∷ earlier

  last_step_same : is_some (true_moment line.event) ≡ true
      → option_map line_number (last_line network is_step (site e) fed)
      ≡ option_map line_number (last_line network is_step (site e) earlier)
  last_step_same timed =
      ap (λ (o : Option LinePlace). option_map line_number o)
      (last_more network is_step (site e) line earlier true counted
      ∙ (λ i. cond (timed_step line.event timed i && is_named (site_of line.event) (site e)) (Some e)
      (last_line network is_step (site e) earlier)))

  abbrev wrong_if : (right timed : Bool) → Option ℕ → Option WrongReading
  wrong_if right timed last = cond (right || not timed) None (Some (record { reading = line.reading; set = last }))

  reading_if : (right timed : Bool) → is_some (true_moment line.event) ≡ timed
      → wrong_if right timed (option_map line_number (last_line network is_step (site e) fed))
      ≡ wrong_if right timed (option_map line_number (last_line network is_step (site e) earlier))
  reading_if true timed h = refl
  reading_if false false h = refl
  reading_if false true h = λ i. wrong_if false true (last_step_same h i)

  pub reading-entry : reading_entry (site_at network fed (site e)) (fact_of network e) line.reading ≡ wrong_reading network e
  reading-entry = reading_if (reads_right network e) (is_some (true_moment line.event)) refl
