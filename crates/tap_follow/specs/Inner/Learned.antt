-- What a message tells of the slave.
use Rattle.std.specs.Option.{option_or}
use Rattle.tap_choice.specs.declared.met.Met.{Met}
use Rattle.tap_follow.specs.declared.followed.Followed.{Followed}
use Rattle.tap_follow.specs.Followed.{requester}

-- the slave is known once a message tells it
abbrev pub learned : Followed → Met → Followed
learned f m = record f {
  watched = record f.watched {
    slave = option_or f.watched.slave (requester f.watched.domain f.from m);
  };
}
