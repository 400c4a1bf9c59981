-- What a slave port takes from each message that it uses, and from its own requests (IEEE 1588-2019, 13.6 to 13.8).
use Rattle.std.specs.Prelude.{ℕ, ℤ, Option}
use Rattle.ptp_units.specs.Moment.{Stamp}

-- a two-step Sync: when it arrived, its correction, and the tag of its call
pub record SyncValue : Type 0 where
  pub t2 : ℕ
  pub correction : ℤ
  pub tag : ℕ

-- a one-step Sync: when it arrived, its originTimestamp, its correction, and the tag of its call
pub record OneStepValue : Type 0 where
  pub t2 : ℕ
  pub origin : Stamp
  pub correction : ℤ
  pub tag : ℕ

-- a Follow_Up: its preciseOriginTimestamp, its correction, and the tag of its call
pub record FollowValue : Type 0 where
  pub precise : Stamp
  pub correction : ℤ
  pub tag : ℕ

-- a Delay_Resp: its receiveTimestamp, its correction, and the tag of its call
pub record ResponseValue : Type 0 where
  pub receive : Stamp
  pub correction : ℤ
  pub tag : ℕ

-- a request: when it left, as far as is known, and the tag of its call
pub record RequestValue : Type 0 where
  pub t3 : Option ℕ
  pub tag : ℕ
