-- What is looked for among the events of a run.
use Rattle.std.specs.Prelude.{Bool}
use Rattle.network_model.specs.declared.event.Event.{Event}
use Rattle.network_model.specs.Kinds.{is_at, is_sync, is_request, is_stamped, is_step, is_leave_of}
use Rattle.network_model.specs.Run.{Place, tag_of}
use Rattle.world_model.specs.Obstacle.{is_sync_or_follow}
use Rattle.world_model.specs.declared.obstacle.NumberedEvent.{NumberedEvent}
use Rattle.world_model.specs.declared.obstacle.Sought as declared
use Rattle.world_model.specs.declared.obstacle.Sought.TheVariants as kinds

-- an event of a run with its number
abbrev pub numbered : Place → NumberedEvent
numbered p = record { number = tag_of p; event = p.event }

-- whether an event is what is looked for
abbrev pub sought : declared.Sought → Event → Bool
sought (kinds.TwoStepSync node) = is_at is_sync node
sought (kinds.SyncOrFollowUp node) = is_at is_sync_or_follow node
sought (kinds.DelayReq node) = is_at is_request node
sought (kinds.Departure node) = is_at is_stamped node
sought (kinds.Step node) = is_at is_step node
sought (kinds.Leave entered) = is_leave_of entered
