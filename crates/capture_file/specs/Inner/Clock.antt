-- A resolution as it is kept.
use Rattle.capture_file.specs.declared.resolution.Resolution.{Resolution}
use Rattle.capture_file.specs.Clock.{ResolutionOf}

abbrev pub resolution_in : Resolution → ResolutionOf
resolution_in r = record { base = r.base; exponent = r.exponent }
