-- What was found in options, without where it lies in memory.
use Rattle.std.specs.Prelude.{option_map}
use Rattle.capture_file.specs.declared.options.Options.{Options}
use Rattle.capture_file.specs.Options.{FoundOf}

abbrev pub found_of : Options → FoundOf
found_of options = record {
  name = option_map (λ name. name.now) options.name;
  resolution = options.resolution;
  offset = options.offset;
}
