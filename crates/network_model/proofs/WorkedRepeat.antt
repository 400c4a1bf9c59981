-- The same Delay_Req on another way: the exchange goes on by a copy of it whose last cable takes 700 ns, where it took 500 ns
-- before. So the clocks are steady, and the cables aren't even.
use Rattle.std.proofs.Common.{◌≡◌, pos, false, refl, [], ◌∷◌, Ok}
use Rattle.slave_port.specs.declared.heard.Heard.TheVariants as answers
use Rattle.network_model.specs.declared.event.Event.TheVariants.{Enter, Leave, Arrive, Hear}
use Rattle.network_model.specs.declared.stepped.Outcome.TheVariants.{Made, Entered, Heard}
use Rattle.network_model.specs.Run.{Run}
use Rattle.network_model.specs.Level.{are_even, crossings_in, IsSteady}
use Rattle.network_model.specs.TrueTime.{IsAsymmetric}
use Rattle.network_model.proofs.Worked.{small_network, m, s, t, at, answers_after}
use Rattle.network_model.proofs.WorkedExchange.{whole, report}

abbrev longer : Run
longer = Hear s 16 ∷ Arrive m 15 (at 2 9700 0) ∷ Leave t 14 (at 2 9000 0) ∷ Enter t 8 (at 2 500 0) ∷ whole

repeat_reports : answers_after small_network whole (Enter t 8 (at 2 500 0) ∷ Leave t 14 (at 2 9000 0) ∷ Arrive m 15 (at 2 9700 0) ∷ Hear s 16 ∷ [])
    ≡ Ok Entered ∷ Ok Made ∷ Ok Made ∷ Ok (Heard (answers.Report (report (pos 117964800) (pos 144179200) 17))) ∷ []
repeat_reports = refl

steady : IsSteady longer
steady = refl

not_even : are_even (crossings_in longer) ≡ false
not_even = refl

-- the first report has no error, since both of its ways take 1,000 ns
first_error : IsAsymmetric longer s m (report (pos 131072000) (pos 131072000) 13)
first_error = record { there = _; back = _; sync = refl; request = refl; offset = refl; path = refl }

-- the error of the second report is half of 200 ns
second_error : IsAsymmetric longer s m (report (pos 117964800) (pos 144179200) 17)
second_error = record { there = _; back = _; sync = refl; request = refl; offset = refl; path = refl }
