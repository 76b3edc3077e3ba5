use Rattle.std.proofs.Common.{◌≡◌, drop}
use Rattle.std.specs.List.{fold}
use Rattle.clap.specs.Words.{app_of}
use Rattle.s161_command.specs.helpers.Lines.{with_named}
use Rattle.s161_command.proofs.command.with_commands.Given as goal

-- the names that are left make of the program what all of them make of the first one
abbrev pub invariant-loop-name : goal.invariant-loop-name
invariant-loop-name l =
    fold with_named (app_of l.program) (drop l.name-index l.names) ≡ fold with_named (app_of l.fn.program) l.fn.names
