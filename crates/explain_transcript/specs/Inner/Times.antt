-- When a report was.
use Rattle.std.specs.Prelude.{ℕ, nat_lt, if◌then◌else◌, Option, Some, option_map}
use Rattle.network_model.specs.Network.{Network}
use Rattle.trace_model.specs.Line.{Lines}
use Rattle.exchange_check.specs.KeptLine.{kept_line_at}
use Rattle.exchange_check.specs.declared.exchange.ExchangeLine.{ExchangeLine}

-- the reading of the later of an arrival and of the line of this number
abbrev pub later_reading : Network → Lines → (request : ℕ) → (arrived : ExchangeLine) → Option ℕ
later_reading network lines request arrived = if nat_lt request arrived.number then Some arrived.reading
    else option_map (λ line. line.reading) (kept_line_at network lines request)
