-- Worked recordings in which the slave or the master begins anew, and such that miss that by one.
use Rattle.std.proofs.Common.{◌≡◌, ◌∙◌, ℕ, refl, List, [], ◌∷◌, Ok}
use Rattle.ptp_units.specs.Moment.{stamp}
use Rattle.event_codec.specs.declared.message.Body.TheVariants as bodies
use Rattle.event_codec.specs.Packet.{Contents}
use Rattle.network_model.proofs.Worked.{at}
use Rattle.recording_model.specs.Recorded.{Recorded}
use Rattle.recording_model.specs.Listening.{after_all}
use Rattle.recording_model.proofs.Begins.{each_beginning}
use Rattle.recording_model.proofs.WorkedSlave.{m_config, s_config, message, line, watched}

-- a Delay_Req of the slave, a one-step Sync and a Follow_Up of the master, each with this number
abbrev request : (number : ℕ) → Contents
request number = message s_config.identity 0 number 1 127 (bodies.DelayReq (stamp 0 0))

abbrev sync : (number : ℕ) → Contents
sync number = message m_config.identity 0 number 0 0 (bodies.Sync (stamp 1 0))

abbrev follow_up : (number : ℕ) → Contents
follow_up number = message m_config.identity 0 number 2 0 (bodies.FollowUp (stamp 1 0))

-- the slave, after its Delay_Req 9: 265 is 256 ahead of it, 266 is 257 ahead, 9 is it again, and 8 is behind
abbrev requests : (number : ℕ) → List Recorded
requests number = line 2 (at 3 0 0) (Ok (request number)) ∷ line 1 (at 2 0 0) (Ok (request 9)) ∷ []

far_ahead : (after_all watched (requests 266)).begun ≡ 2
far_ahead = each_beginning watched (requests 266) ∙ refl

not_so_far : (after_all watched (requests 265)).begun ≡ 0
not_so_far = each_beginning watched (requests 265) ∙ refl

the_same_again : (after_all watched (requests 9)).begun ≡ 0
the_same_again = each_beginning watched (requests 9) ∙ refl

behind : (after_all watched (requests 8)).begun ≡ 2
behind = each_beginning watched (requests 8) ∙ refl

-- the master: its Sync 5 again, a second later, and a nanosecond less than that
abbrev again : (time : ℕ) → List Recorded
again time = line 2 time (Ok (sync 5)) ∷ line 1 (at 2 0 0) (Ok (sync 5)) ∷ []

a_second_later : (after_all watched (again (at 3 0 0))).begun ≡ 2
a_second_later = each_beginning watched (again (at 3 0 0)) ∙ refl

not_quite : (after_all watched (again (at 2 999999999 0))).begun ≡ 0
not_quite = each_beginning watched (again (at 2 999999999 0)) ∙ refl

-- a Sync whose Follow_Up came a second before it
after_follow_up : (after_all watched (line 2 (at 3 0 0) (Ok (sync 5)) ∷ line 1 (at 2 0 0) (Ok (follow_up 5)) ∷ [])).begun ≡ 2
after_follow_up =
    each_beginning watched (line 2 (at 3 0 0) (Ok (sync 5)) ∷ line 1 (at 2 0 0) (Ok (follow_up 5)) ∷ []) ∙ refl

-- after its Sync 100: 256 ahead in 200 s, and 257 ahead; 17 ahead in 8 s, where its Syncs say that one comes a second,
-- and in 9 s; one that was overtaken, and one that is a second behind; and one that is a second behind, whose Follow_Up came just before it
abbrev then : (time number : ℕ) → List Recorded
then time number = line 2 time (Ok (sync number)) ∷ line 1 (at 2 0 0) (Ok (sync 100)) ∷ []

as_far_as_it_goes : (after_all watched (then (at 202 0 0) 356)).begun ≡ 0
as_far_as_it_goes = each_beginning watched (then (at 202 0 0) 356) ∙ refl

one_farther : (after_all watched (then (at 202 0 0) 357)).begun ≡ 2
one_farther = each_beginning watched (then (at 202 0 0) 357) ∙ refl

too_soon : (after_all watched (then (at 10 0 0) 117)).begun ≡ 2
too_soon = each_beginning watched (then (at 10 0 0) 117) ∙ refl

late_enough : (after_all watched (then (at 11 0 0) 117)).begun ≡ 0
late_enough = each_beginning watched (then (at 11 0 0) 117) ∙ refl

overtaken : (after_all watched (then (at 2 999999999 0) 99)).begun ≡ 0
overtaken = each_beginning watched (then (at 2 999999999 0) 99) ∙ refl

a_second_behind : (after_all watched (then (at 3 0 0) 99)).begun ≡ 2
a_second_behind = each_beginning watched (then (at 3 0 0) 99) ∙ refl

follow_up_first : (after_all watched (line 3 (at 2 500000000 0) (Ok (sync 99)) ∷ line 2 (at 2 400000000 0) (Ok (follow_up 99))
    ∷ line 1 (at 1 0 0) (Ok (sync 100)) ∷ [])).begun ≡ 3
follow_up_first =
    each_beginning watched (line 3 (at 2 500000000 0) (Ok (sync 99)) ∷ line 2 (at 2 400000000 0) (Ok (follow_up 99))
    ∷ line 1 (at 1 0 0) (Ok (sync 100)) ∷ []) ∙ refl
