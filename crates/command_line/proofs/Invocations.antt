-- What a parse of the words answers is what they ask for.
use Rattle.std.proofs.Common.{◌≡◌, ◌≢◌, ◌∙◌, ◌⊎◌, inl, inr, true, refl, sym, ap, subst, List, [], ◌∷◌, Some, None}
use Rattle.std.specs.Prelude.{IfOk, Result}
use Rattle.std.proofs.lemmas.Result.{IfOk-weaker}
use Rattle.clap.specs.Walk.{Text}
use Rattle.clap.specs.Simple.{App, HasMatchesOf, is_simple, subcommand_of, subcommand_rows_of}
use Rattle.clap.specs.Kinds.{HasKind, IsAmong, Kinds}
use Rattle.clap.specs.Faults.{fault_of, is_simple_and_free}
use Rattle.clap.specs.Values.{kind_of}
use Rattle.clap.specs.declared.error.Error.{Error}
use Rattle.clap.specs.declared.error.kind.ErrorKind.{ErrorKind}
use Rattle.clap.specs.declared.error.kind.ErrorKind.TheVariants as kind
use Rattle.clap.specs.declared.parser.matches.ArgMatches.{ArgMatches}
use Rattle.clap.proofs.OnLiterals.{clap_on_literals}
use Rattle.command_line.specs.Arguments.{Asks, HasHelpFlag, MayAskHelp, Names, faults_in, named_in}
use Rattle.command_line.specs.Inner.Shown.{Chooses, ShowsKind}
use Rattle.command_line.specs.Commands.{chosen_of, program}
use Rattle.command_line.specs.declared.arguments.Invocation.{Invocation}
use Rattle.command_line.specs.declared.arguments.Invocation.TheVariants.{Run, Help, Mistake}
use Rattle.command_line.specs.declared.commands.Subcommand.{Subcommand}

pub is_simple_program : is_simple program ≡ true
unfolding clap_on_literals
is_simple_program = refl

pub is_free_program : is_simple_and_free program ≡ true
unfolding clap_on_literals
is_free_program = refl

some_kind : (k : ErrorKind) (ks : Kinds) → (k ∷ ks) ≢ []
some_kind k ks e = cc

-- ---- a parse that succeeds

asked : (words : List Text) (m : ArgMatches) → fault_of program words ≡ []
    → subcommand_rows_of m ≡ subcommand_of program words
    → (r : Invocation) → Chooses (chosen_of (subcommand_rows_of m)) r → Asks words r
unfolding faults_in named_in
asked words m none met (Run s) chooses = (none, ap chosen_of (sym met) ∙ chooses)
asked words m none met (Help text) chooses = absurd chooses
asked words m none met (Mistake text) chooses = (
  λ s named. let both : None ≡ Some s = sym chooses ∙ ap chosen_of met ∙ named.1 in cc,
  λ help. some_kind _ _ (sym help ∙ none),
)

-- the same, of the command that was built
pub asked_from : {E : Type 0} (a : App) → a ≡ program → (words : List Text) (m : ArgMatches)
    → (is_simple_and_free a ≡ true → fault_of a words ≡ []) → HasMatchesOf a words m
    → (r : Result Invocation E) → IfOk r (Chooses (chosen_of (subcommand_rows_of m))) → IfOk r (Asks words)
asked_from a is words m none has r chooses =
    let free = subst (λ x. is_simple_and_free x ≡ true → fault_of x words ≡ []) is none is_free_program in
    let met = (subst (λ x. HasMatchesOf x words m) is has is_simple_program).1 in
    IfOk-weaker r _ _ (asked words m free met) chooses

-- ---- a parse that fails, but for want of memory

told : (words : List Text) (k : ErrorKind) → (k ≡ kind.OutOfMemory) ⊎ IsAmong k (fault_of program words)
    → (r : Invocation) → ShowsKind k r → Asks words r
unfolding faults_in named_in
told words k among (Run s) shows = absurd shows
told words k (inl memory) (Help text) shows =
    let both : kind.DisplayHelp ≡ kind.OutOfMemory = sym shows ∙ memory in cc
told words k (inr among) (Help text) shows = subst (λ x. IsAmong x (fault_of program words)) shows among
told words k (inl memory) (Mistake text) shows = absurd (shows.1 memory)
told words k (inr among) (Mistake text) shows = (
  λ s named. subst (IsAmong k) named.0 among,
  λ flag. elim (subst (IsAmong k) flag among) [ inl e ↦ absurd (shows.0 e) | inr e ↦ absurd e ],
)

-- the same, of the command that was built
pub told_from : {E : Type 0} (a : App) → a ≡ program → (words : List Text) (e : Error)
    → (is_simple_and_free a ≡ true → HasKind (fault_of a words) e)
    → (r : Result Invocation E) → IfOk r (ShowsKind (kind_of e)) → IfOk r (Asks words)
told_from a is words e has r shows =
    let among = subst (λ x. is_simple_and_free x ≡ true → HasKind (fault_of x words) e) is has is_free_program in
    IfOk-weaker r _ _ (told words (kind_of e) among) shows

-- ---- words that name a subcommand name no other one, and ask for no help

pub named_asks_no_help : (words : List Text) (s : Subcommand) → Names words s → MayAskHelp words → ⊥
named_asks_no_help words s named asks = subst (IsAmong kind.DisplayHelp) named.0 asks

pub flag_asks_help : (words : List Text) → HasHelpFlag words → MayAskHelp words
flag_asks_help words flag = subst (IsAmong kind.DisplayHelp) (sym flag) (inl refl)

same_in : {X : Type 0} (x y : X) → Some x ≡ Some y → x ≡ y
same_in x y is = cc

pub names_one : (words : List Text) (s t : Subcommand) → Names words s → Names words t → s ≡ t
names_one words s t one other = same_in s t (sym one.1 ∙ other.1)
