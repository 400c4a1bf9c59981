-- The keys of nodes and events.
use Rattle.std.specs.Prelude.{ℕ, List, codes}
use Rattle.line_object.specs.declared.key.Key.{Key}
use Rattle.line_object.specs.declared.key.Key.TheVariants.{At, Code, CopyTag, Diff, Domain, Ev, First}
use Rattle.line_object.specs.declared.key.Key.TheVariants.{Hex, Id, Kind, Log, Master, Number, Node}
use Rattle.line_object.specs.declared.key.Key.TheVariants.{Offset2, Out, Path2, Port, Reading, Tags, TransitTag}

-- the text of a key
abbrev pub key_text : Key → List ℕ
key_text At = codes "at"
key_text Code = codes "code"
key_text CopyTag = codes "copy"
key_text Diff = codes "diff"
key_text Domain = codes "domain"
key_text Ev = codes "ev"
key_text First = codes "first"
key_text Hex = codes "hex"
key_text Id = codes "id"
key_text Kind = codes "kind"
key_text Log = codes "log"
key_text Master = codes "master"
key_text Number = codes "n"
key_text Node = codes "node"
key_text Offset2 = codes "offset2"
key_text Out = codes "out"
key_text Path2 = codes "path2"
key_text Port = codes "port"
key_text Reading = codes "reading"
key_text Tags = codes "tags"
key_text TransitTag = codes "transit"
