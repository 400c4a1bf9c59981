-- What functions read of options is what clap's rows say.
use Rattle.std.proofs.Common.{◌≡◌, ◌∙◌, Bool, Option, None, Result, Ok, Err, ap, refl}
use Rattle.std.specs.Prelude.{IsErr}
use Rattle.std.specs.Result.{result_ok}
use Rattle.clap.specs.Matches.{first_value}
use Rattle.clap.specs.Walk.{Text, rows_of}
use Rattle.clap.specs.declared.parser.matches.Found.{Found}
use Rattle.clap.proofs.WalkLemmas.{first_value-rows}
use Rattle.command_line.specs.Options.{is_text_used, is_used, said, said_by}

pub is_read : (found : Found) (name : Text) (used : Bool) → used ≡ is_text_used (first_value found name)
    → used ≡ is_used name (rows_of found)
is_read found name used is = is ∙ ap is_text_used (first_value-rows found name)

pub value_read : {X : Type 0} (read : Text → Option X) (found : Found) (name : Text) (value : Option (Option X))
    → value ≡ said_by read (first_value found name) → value ≡ said read name (rows_of found)
value_read read found name value is = is ∙ ap (said_by read) (first_value-rows found name)

pub no_answer : {T E : Type 0} (result : Result T E) → IsErr result → result_ok result ≡ None
no_answer (Ok x) err = cc
no_answer (Err e) err = refl
