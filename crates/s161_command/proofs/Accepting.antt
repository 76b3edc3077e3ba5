use Rattle.std.proofs.Common.{◌≡◌, ◌≢◌, ◌∙◌, List, [], true, sym, ap, subst, ⊎_elim}
use Rattle.clap.specs.Words.{App, HasKind, HasMatchesOf, IsAmong, Text, fault_of, is_simple, is_simple_and_free, kind_of, subcommand_of, subcommand_rows_of}
use Rattle.clap.specs.declared.parser.matches.ArgMatches.{ArgMatches}
use Rattle.clap.specs.declared.error.Error.{Error}
use Rattle.clap.specs.declared.error.kind.ErrorKind.TheVariants.{OutOfMemory}
use Rattle.clap.proofs.OnLiterals.{clap_on_literals}
use Rattle.s161_command.specs.Commands.{IsAccepted, command_line}

-- What clap says of a parse, said of the command line.

-- clap says exactly when a command line of this kind is rejected
is_exact : (app : App) → app ≡ command_line → is_simple_and_free app ≡ true
unfolding clap_on_literals
is_exact app same = ap is_simple_and_free same

pub accepted : (app : App) (words : List Text) → app ≡ command_line → (is_simple_and_free app ≡ true → fault_of app words ≡ []) → IsAccepted words
unfolding IsAccepted
accepted app words same none = ap (λ a. fault_of a words) (sym same) ∙ none (is_exact app same)

pub of_kind : (app : App) (words : List Text) (e : Error) → app ≡ command_line → (is_simple_and_free app ≡ true → HasKind (fault_of app words) e)
    → HasKind (fault_of command_line words) e
of_kind app words e same some = subst (λ a. HasKind (fault_of a words) e) same (some (is_exact app same))

pub rejected : (app : App) (words : List Text) (e : Error) → app ≡ command_line → (is_simple_and_free app ≡ true → HasKind (fault_of app words) e)
    → kind_of e ≢ OutOfMemory → ¬ IsAccepted words
unfolding IsAccepted
rejected app words e same some other is_accepted =
    let no_kind : fault_of app words ≡ [] = ap (λ a. fault_of a words) same ∙ is_accepted in
    ⊎_elim other (λ among. subst (IsAmong (kind_of e)) no_kind among) (some (is_exact app same))

-- clap says what the command's matches are
is_plain : (app : App) → app ≡ command_line → is_simple app ≡ true
unfolding clap_on_literals
is_plain app same = ap is_simple same

pub given_so : (app : App) (words : List Text) (m : ArgMatches) → app ≡ command_line → HasMatchesOf app words m →
    subcommand_rows_of m ≡ subcommand_of command_line words
given_so app words m same has = (has (is_plain app same)).1 ∙ ap (λ a. subcommand_of a words) same
