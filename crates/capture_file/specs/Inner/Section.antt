-- A section as it is kept.
use Rattle.capture_file.specs.declared.section.Section.{Section}
use Rattle.capture_file.specs.Section.{SectionOf}
use Rattle.capture_file.specs.Inner.Described.{descriptions_in}

abbrev pub section_in : Section → SectionOf
section_in section = record { order = section.order; interfaces = descriptions_in section.interfaces.items }
