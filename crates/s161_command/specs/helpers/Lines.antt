use Rattle.std.specs.Prelude.{List, [], ◌∷◌, Option, None, Some, codes, map, true, option_map}
use Rattle.std.specs.List.{fold}
use Rattle.clap.specs.Words.{App, Rule, Text, new_app, new_rule, with_rule, with_subcommand}
use Rattle.clap.specs.declared.builder.action.ArgAction.TheVariants.{Append, SetTrue}
use Rattle.s161_command.specs.declared.argument.Argument.{Argument}
use Rattle.s161_command.specs.declared.argument.Kind.{Kind}
use Rattle.s161_command.specs.declared.argument.Kind.TheVariants as kinds
use Rattle.s161_command.specs.declared.lines.CommandName.{CommandName}
use Rattle.s161_command.specs.declared.lines.CommandName.TheVariants as names
use Rattle.s161_command.specs.declared.lines.Line.{Line}
use Rattle.s161_command.specs.Commands.{as_line, audit_line, console_line, debug_line, dis_line, explore_line, gdb_line, replay_line, run_line, schedule_line, search_line, trace_line}
use Rattle.clap.specs.Simple.{on_top}

-- What a line of the table of commands says, in clap's own words.

-- what an argument's kind says
abbrev pub kind_rule : Text → Kind → Rule
kind_rule name kinds.File = record (new_rule name) { value_names = 1 }
kind_rule name kinds.Flag = record (new_rule name) { long = Some name; action = Some SetTrue }
kind_rule name kinds.Text = record (new_rule name) { long = Some name; value_names = 1 }
kind_rule name kinds.Texts =
    record (new_rule name) { long = Some name; value_names = 1; action = Some Append }
kind_rule name (kinds.Number parser) =
    record (new_rule name) { long = Some name; value_names = 1; parser = Some parser }

-- the same with a default, if there is one
abbrev pub with_default : Rule → Option Text → Rule
with_default rule None = rule
with_default rule (Some text) = record rule { defaults = text ∷ [] }

-- what is said of an argument
abbrev pub argument_rule : Argument → Rule
argument_rule argument =
    with_default
    (record (kind_rule argument.name.now argument.kind) { required = argument.required })
    (option_map (λ text. text.now) argument.default)

-- a command, with these arguments added in turn
abbrev pub with_arguments : App → List Argument → App
with_arguments command arguments = fold with_rule command (map argument_rule arguments)

-- the command of a line
abbrev pub line_app : Line → App
line_app line = with_arguments (new_app line.name.now) line.arguments.now

-- the demo has no arguments
abbrev pub demo_line : App
demo_line = new_app (codes "demo")

-- the command of a name
abbrev pub app_named : CommandName → App
app_named names.Demo = demo_line
app_named names.Run = run_line
app_named names.Console = console_line
app_named names.Schedule = schedule_line
app_named names.Search = search_line
app_named names.Explore = explore_line
app_named names.Trace = trace_line
app_named names.Replay = replay_line
app_named names.Debug = debug_line
app_named names.Gdb = gdb_line
app_named names.Audit = audit_line
app_named names.Assemble = as_line
app_named names.Disassemble = dis_line

-- a program, with the command of a name added
abbrev pub with_named : App → CommandName → App
with_named program name = with_subcommand program (app_named name).top

-- the program without its commands: it needs one, and tells its version
abbrev pub bare_program : App
bare_program =
    on_top (λ s. record s { subcommand_required = true; has_version = true }) (new_app (codes "s161"))
