use Rattle.std.proofs.Common.{◌≡◌, ℕ, List, Option, take, inl, inr, refl}
use Rattle.clap.specs.Words.{Text, kind_of}
use Rattle.clap.specs.declared.error.kind.ErrorKind.{ErrorKind}
use Rattle.clap.specs.declared.error.kind.ErrorKind.TheVariants.{OutOfMemory}
use Rattle.s161_base.specs.Streams.{AppendsSome}
use Rattle.s161_command.specs.declared.task.Rejection.{Rejection}
use Rattle.s161_command.specs.declared.task.Rejection.TheVariants.{Words, Options}
use Rattle.s161_command.specs.Commands.{IsHelp, IsRejected}
use Rattle.s161_work.specs.Failures.{EndsBadly, unhelped, unread, unsaid}
use Rattle.s161_work.specs.Works.{GivesHelp, HasMore, IsRefused, SaysWhy, file_use, standard}
use Rattle.s161_work.specs.helpers.Refusals.{IsHelped, IsSaid, IsUnsaid, Says}

-- Command lines that aren't followed.

pub refused : (words : List Text) (rejection : Rejection) → IsRejected words rejection → IsSaid rejection → IsRefused words
refused words (Words error) h said = inl (h.1 said)
refused words (Options clash) h said = inr (clash, h.0, h.1)

not_memory : (k : ErrorKind) → IsHelp k → k ≡ OutOfMemory → ⊥
not_memory k (inl help) memory = (cc)
not_memory k (inr version) memory = (cc)

-- words that ask for help
pub asks_help : (words : List Text) (rejection : Rejection) (a b : Option (List ℕ)) → IsRejected words rejection → IsHelped rejection a b → GivesHelp words
asks_help words (Words error) a b h help = elim h.0 [
  | inl memory ↦ absurd (not_memory (kind_of error) help.0 memory)
  | inr among ↦ (kind_of error, help.0, among)
]
asks_help words (Options clash) a b h help = absurd help

has_more : (rejection : Rejection) (a b : Option (List ℕ)) → IsHelped rejection a b → HasMore a b
has_more (Words error) a b help = help.1
has_more (Options clash) a b help = absurd help

-- what was written as an output failed
pub some_more : (a b : Option (List ℕ)) (text : List ℕ) → AppendsSome a b text → HasMore a b
some_more a b text h = (take h.0 text, h.1)

-- what was said of a command line that isn't followed
pub says_why : (words : List Text) (rejection : Rejection) (a b : Option (List ℕ)) → IsRejected words rejection → IsSaid rejection → Says rejection a b
    → SaysWhy words a b
says_why words (Words error) a b h said text = inl (h.1 said, (text.0, text.2))
says_why words (Options clash) a b h said text = inr ((clash, h.0, h.1), text)

-- a command line whose task isn't known ends badly
pub unsaid_ends : (words : List Text) (known : Text → Option (List ℕ)) (asked : Option (List Text)) (rejection : Rejection) (input a b x y : Option (List ℕ)) →
    IsRejected words rejection → IsUnsaid rejection a b x y → EndsBadly words (file_use known asked asked) (standard input a x) (standard input b y)
unsaid_ends words known asked rejection input a b x y h (inl memory) = unread refl refl memory.0 memory.1
unsaid_ends words known asked rejection input a b x y h (inr (inl help)) =
    unhelped (asks_help words rejection a b h help.0) refl refl (has_more rejection a b help.0) help.1
unsaid_ends words known asked rejection input a b x y h (inr (inr said)) = unsaid (refused words rejection h said.0) refl refl said.1 (said.2.0, said.2.2)
