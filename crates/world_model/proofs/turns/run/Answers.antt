use Rattle.std.proofs.Common.{◌≡◌, ◌∙◌, ℕ, ◌+◌, ◌≤◌, List, [], ◌∷◌, ◌++◌, length, take, get_or, sym, ap, subst, inl, arith}
use Rattle.std.proofs.lemmas.List.{take_more, take_all}
use Rattle.network_model.specs.declared.event.Event.{Event}
use Rattle.network_model.specs.declared.stepped.Stepped.{Stepped}
use Rattle.network_model.specs.Outcome.{IsStepped}
use Rattle.world_model.specs.State.{State, after, after_all, IsRefused}
use Rattle.world_model.specs.Turns.{AnswersInTurn}
use Rattle.world_model.proofs.Happening.{reads_at}
use Rattle.world_model.proofs.InTurn.{after_all-more, AnswersInTurn-more}
use Rattle.world_model.proofs.RunLaws.{answers_exact, answers_exact-one_turn, runs_keep_laws}
use Rattle.world_model.proofs.turns.run.Goals as goal

pub loop-done-preserved : goal.loop-done-preserved
loop-done-preserved c =
    let event : Event = c.index-events-done.result in
    let is : get_or c.args.events.now c.loop-done.done event ≡ event = sym c.index-events-done.is in
    let more : take (c.loop-done.done + 1) c.args.events.now ≡ take c.loop-done.done c.args.events.now ++ event ∷ [] =
    take_more c.args.events.now c.loop-done.done event c.loop-done-test.true ∙ ap (λ (e : Event). take c.loop-done.done c.args.events.now ++ e ∷ []) is in
    let before = c.loop-done.invariant in
    let stepped = subst (λ (w : State). IsStepped w.network w.run event c.in-Ok.stepped) before.happened c.in-Ok.ensures.stepped in
    record {
      room = omega (arith, before.room, c.push_reserved.ensures.capacity);
      count = c.push_reserved.ensures.len ∙ ap (λ n. n + 1) before.count;
      network = c.in-Ok.ensures.network;
      run = c.in-Ok.ensures.run;
      answered = rw (more, c.push_reserved.ensures.items)
          (AnswersInTurn-more (take c.loop-done.done c.args.events.now) event c.loop-done.answers.items c.in-Ok.stepped c.args.world.now before.answered stepped);
      happened = c.in-Ok.ensures.after ∙ ap (after event) before.happened
          ∙ sym (ap (λ (es : List Event). after_all es c.args.world.now) more ∙ after_all-more (take c.loop-done.done c.args.events.now) event c.args.world.now);
    }

pub returns-in-Err-clause-stopped : goal.returns-in-Err-clause-stopped
returns-in-Err-clause-stopped c = record {
  happened = c.in-Err.ensures.unchanged ∙ c.loop-done.invariant.happened;
  why = inl (record {
    event = c.index-events-done.result;
    next = reads_at c.args.events.now c.loop-done.done c.index-events-done.result c.loop-done-test.true c.index-events-done.is;
    refused = subst (λ (w : State). IsRefused w c.index-events-done.result c.in-Err.why) (sym c.in-Err.ensures.unchanged) c.in-Err.ensures.refused;
  });
}

-- the loop ended, so all events have their answers
answered_all : (events : List Event) (done : ℕ) (answers : List Stepped) (world : State) → length events ≤ done
    → AnswersInTurn world (take done events) answers → AnswersInTurn world events answers
answered_all events done answers world ended answered = subst (λ (es : List Event). AnswersInTurn world es answers) (take_all done events ended) answered

pub returns-clause-exact : goal.returns-clause-exact
returns-clause-exact c = answers_exact c.args.world.now c.args.events.now c.loop-done.answers.items (record { apart = c.is_sound.ensures.network; accepted = c.is_sound.ensures.run })
    (answered_all c.args.events.now c.loop-done.done c.loop-done.answers.items c.args.world.now (omega (arith, c.loop-done-test.false)) c.loop-done.invariant.answered)

pub returns-clause-exact_within_one_turn : goal.returns-clause-exact_within_one_turn
returns-clause-exact_within_one_turn c = answers_exact-one_turn c.args.world.now c.args.events.now c.loop-done.answers.items (record { apart = c.is_sound.ensures.network; accepted = c.is_sound.ensures.run })
    (answered_all c.args.events.now c.loop-done.done c.loop-done.answers.items c.args.world.now (omega (arith, c.loop-done-test.false)) c.loop-done.invariant.answered)

pub returns-clause-laws : goal.returns-clause-laws
returns-clause-laws c = runs_keep_laws

pub returns-in_default-clause-laws : goal.returns-in_default-clause-laws
returns-in_default-clause-laws c = runs_keep_laws
