-- What a checker tells of a line, and of what lines say of nodes, copies and stays.
use Rattle.std.specs.Prelude.{ℕ, Option, option_map}
use Rattle.network_model.specs.Network.{Network, NodeName}
use Rattle.network_model.specs.Kinds.{is_sync, is_set_master}
use Rattle.trace_model.specs.Line.{Lines, is_made, completes}
use Rattle.trace_model.specs.Record.{LinePlace, line_number, event_of, site, line_at, last_line, reading, reads_right}
use Rattle.trace_model.specs.Journey.{line_journey_of}
use Rattle.trace_model.specs.Octets.{writes_right}
use Rattle.exchange_check.specs.declared.kept_line.KeptLine.{KeptLine}
use Rattle.exchange_check.specs.Exchange.{number_drawn}

-- a line that counts
abbrev pub kept_line : Network → LinePlace → KeptLine
kept_line network e = record {
  number = line_number e;
  event = event_of e;
  reading = reading e;
  sequence = record { 0 = number_drawn network e };
  made = is_made e.line.out;
  completes = completes e.line.out;
  reads_right = reads_right network e;
  writes_right = writes_right network e;
  last_sync = option_map line_number (last_line network is_sync (site e) e.earlier);
}

-- the line of this number, where it counts
abbrev pub kept_line_at : Network → Lines → ℕ → Option KeptLine
kept_line_at network lines number = option_map (kept_line network) (line_at network lines number)

-- the line that sent the message of which the line of this number made a copy
abbrev pub origin_at : Network → Lines → ℕ → Option ℕ
origin_at network lines number =
    option_map (λ journey. line_number journey.origin) (line_journey_of network lines number)

-- the last line that told a slave its master
abbrev pub master_told : Network → Lines → NodeName → Option ℕ
master_told network lines slave = option_map line_number (last_line network is_set_master slave lines)
