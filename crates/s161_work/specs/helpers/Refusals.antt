use Rattle.std.specs.Prelude.{◌≡◌, ◌≢◌, ◌⊎◌, ℕ, List, Option}
use Rattle.clap.specs.Words.{kind_of}
use Rattle.clap.specs.declared.error.kind.ErrorKind.TheVariants.{OutOfMemory}
use Rattle.s161_base.specs.declared.fault.Fault.TheVariants.{Memory, Output}
use Rattle.s161_command.specs.declared.task.Rejection.{Rejection}
use Rattle.s161_command.specs.declared.task.Rejection.TheVariants.{Words, Options}
use Rattle.s161_command.specs.Commands.{IsHelp}
use Rattle.std.specs.Io.KnownBytes.{Appends}
use Rattle.s161_work.specs.Failures.{FailsToSay, IsReported}
use Rattle.s161_work.specs.Works.{HasMore, IsClashText}

-- What is said of a command line without a task.

-- a command line is refused, and not for want of memory
abbrev pub IsSaid : Rejection → Type 0
IsSaid (Words error) = kind_of error ≢ OutOfMemory
IsSaid (Options clash) = Unit {0}

-- help was asked for, and the output got a text
abbrev pub IsHelped : Rejection → Option (List ℕ) → Option (List ℕ) → Type 0
IsHelped (Words error) before after = IsHelp (kind_of error) × HasMore before after
IsHelped (Options clash) before after = ⊥

-- a text that says why: that of clap, of which nothing is known; or that of the options
abbrev pub IsReason : Rejection → List ℕ → Type 0
IsReason (Words error) text = Unit {0}
IsReason (Options clash) text = IsClashText text

-- an output got it
abbrev pub Says : Rejection → Option (List ℕ) → Option (List ℕ) → Type 0
Says rejection before after = (text : List ℕ) × IsReason rejection text × Appends before after text

-- an output failed while it was written
abbrev pub FailsToSayWhy : Rejection → Option (List ℕ) → Option (List ℕ) → Type 0
FailsToSayWhy rejection before after =
    (text : List ℕ) × IsReason rejection text × FailsToSay text before after

-- so of the options' text
abbrev pub FailsToSayClash : Option (List ℕ) → Option (List ℕ) → Type 0
FailsToSayClash before after = (text : List ℕ) × IsClashText text × FailsToSay text before after

-- what was to be said wasn't, or not whole: memory was refused; or help was asked for, and the output
-- failed; or the command line is refused, and standard error failed
abbrev pub IsUnsaid :
    Rejection → Option (List ℕ) → Option (List ℕ) → Option (List ℕ) → Option (List ℕ) → Type 0
IsUnsaid rejection before after errors_before errors_after =
    ((after ≡ before) × IsReported Memory errors_before errors_after)
    ⊎ (IsHelped rejection before after × IsReported Output errors_before errors_after)
    ⊎ (IsSaid rejection × (after ≡ before) × FailsToSayWhy rejection errors_before errors_after)
