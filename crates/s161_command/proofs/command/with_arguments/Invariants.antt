use Rattle.std.proofs.Common.{◌≡◌, drop}
use Rattle.clap.specs.Words.{app_of}
use Rattle.s161_command.specs.helpers.Commands.{IsLocal}
use Rattle.s161_command.specs.helpers.Lines.{with_arguments}
use Rattle.s161_command.proofs.command.with_arguments.Given as goal

-- the arguments that are left make of the command what all of them make of the first one
abbrev pub invariant-loop-argument : goal.invariant-loop-argument
invariant-loop-argument l =
    IsLocal l.command
    × (with_arguments (app_of l.command) (drop l.argument-index l.arguments) ≡ with_arguments (app_of l.fn.command) l.fn.arguments)
