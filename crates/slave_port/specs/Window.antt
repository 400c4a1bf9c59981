-- The window: what no change of master cuts off, nor the tick before the last one.
use Rattle.std.specs.Prelude.{List, [], ◌++◌, slice_get, option_to_list, Option}
use Rattle.slave_port.specs.History.{Call, SetMaster, Tick, NextRequest, RequestLeft, Event, General}

-- what came in the window, newest first: since the last tick, and before it but not before the tick before it
pub record Window (E : Type 0) : Type 0 where
  pub since : List E
  pub before : List E

module _ {E : Type 0} where
  -- nothing came
  abbrev pub nothing : Window E
  nothing = record { since = []; before = [] }

  -- all that came, newest first
  abbrev pub all : Window E → List E
  all window = window.since ++ window.before

  -- the last that came
  abbrev pub last : Window E → Option E
  last window = slice_get (all window) 0

  -- with what a message brings, if it brings anything
  abbrev pub with_brought : Option E → Window E → Window E
  with_brought brings window = record { since = option_to_list brings ++ window.since; before = window.before }

  -- after a call, with what it brings
  abbrev pub after : Call → (brings : Option E) → Window E → Window E
  after (SetMaster master) brings window = nothing
  after Tick brings window = record { since = []; before = window.since }
  after (NextRequest tag) brings window = window
  after (RequestLeft number t3) brings window = window
  after (Event heard t2 tag) brings window = with_brought brings window
  after (General heard tag) brings window = with_brought brings window
