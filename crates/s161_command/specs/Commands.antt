use Rattle.std.specs.Prelude.{◌≡◌, ◌≢◌, ◌⊎◌, ℕ, ◌*◌, ◌<◌, ◌≤◌, nat_lt, Bool, true, false, not, ◌&&◌, if◌then◌else◌, List, [], ◌∷◌, Option, None, Some, IfSome, IsSomeAnd, bytes_eq, codes, length, option_map, pos, unwrap_or}
use Rattle.clap.specs.Words.{App, HasKind, Row, Rule, Text, fault_of, first_of, kind_of, new_app, new_rule, one_of, subcommand_of, with_rule, with_subcommand}
use Rattle.clap.specs.Simple.{new_shape, on_top}
use Rattle.clap.specs.declared.builder.action.ArgAction.TheVariants.{SetTrue}
use Rattle.clap.specs.declared.builder.value_parser.ValueParser.TheVariants.{Signed}
use Rattle.clap.specs.declared.error.kind.ErrorKind.{ErrorKind}
use Rattle.clap.specs.declared.error.kind.ErrorKind.TheVariants.{DisplayHelp, DisplayVersion, OutOfMemory}
use Rattle.m161_order.specs.Order.{order_fault}
use Rattle.s161_command.specs.declared.drive.Clash.{Clash}
use Rattle.s161_command.specs.declared.drive.Clash.TheVariants.{ManyNever}
use Rattle.s161_command.specs.declared.drive.OrderUse.{OrderUse}
use Rattle.s161_command.specs.declared.drive.OrderUse.TheVariants.{Optional, Needed, Assumed, Seeded, OrFile}
use Rattle.s161_command.specs.declared.task.AskedSize.{AskedSize}
use Rattle.s161_command.specs.declared.task.AssemblyTask.{AssemblyTask}
use Rattle.s161_command.specs.declared.task.ConsoleTask.{ConsoleTask}
use Rattle.s161_command.specs.declared.task.DebugTask.{DebugTask}
use Rattle.s161_command.specs.declared.task.DrivenTask.{DrivenTask}
use Rattle.s161_command.specs.declared.task.ExploreTask.{ExploreTask}
use Rattle.s161_command.specs.declared.task.FilesTask.{FilesTask}
use Rattle.s161_command.specs.declared.task.GdbTask.{GdbTask}
use Rattle.s161_command.specs.declared.task.ListingTask.{ListingTask}
use Rattle.s161_command.specs.declared.task.Registers.{Registers}
use Rattle.s161_command.specs.declared.task.Registers.TheVariants.{Numbered, Named}
use Rattle.s161_command.specs.declared.task.Rejection.{Rejection}
use Rattle.s161_command.specs.declared.task.Rejection.TheVariants.{Words, Options}
use Rattle.s161_command.specs.declared.task.ReplayTask.{ReplayTask}
use Rattle.s161_command.specs.declared.task.RunTask.{RunTask}
use Rattle.s161_command.specs.declared.task.ScheduleTask.{ScheduleTask}
use Rattle.s161_command.specs.declared.task.SearchTask.{SearchTask}
use Rattle.s161_command.specs.declared.task.Shown.{Shown}
use Rattle.s161_command.specs.declared.task.Shown.TheVariants.{Summary, SummaryAndLog, Log, Output}
use Rattle.s161_command.specs.declared.task.Size.{Size}
use Rattle.s161_command.specs.declared.task.Source.{Source}
use Rattle.s161_command.specs.declared.task.Source.TheVariants.{File, Driven}
use Rattle.s161_command.specs.declared.task.ThreadsTask.{ThreadsTask}
use Rattle.s161_command.specs.declared.task.TraceTask.{TraceTask}
use Rattle.s161_command.specs.declared.task.Task.{Task}
use Rattle.s161_command.specs.declared.task.Task.TheVariants.{Assemble, Audit, Console, Debug, Demo, Disassemble, Explore, Gdb, Replay, Run, RunDriven, RunInThreads, Schedule, Search, Trace}
use Rattle.s161_command.specs.Classes.{HasClassLimits, IsClassIf, IsSeeds}
use Rattle.s161_command.specs.Drives.{AsksDrive, AsksDriveIf, Clashes, IsLongNumberOf, go_together, has_order, long_rule, optional_rule, text_rule, texts_rule, with_console_pace_rules, with_order_rules, with_pace_rules, with_priority_rules}
use Rattle.s161_command.specs.Links.{IsLink, IsLinkIf, RefusesLink}
use Rattle.s161_command.specs.Repeated.{AreTooMany, texts_of}
use Rattle.s161_command.specs.Numbers.{IsNumberIf, IsNumberOf, is_set}

-- The command line, in clap's own words.

-- an option `--name N`, a number of 32 bits
abbrev pub number_rule : Text → Text → Rule
number_rule name default = record (new_rule name) {
  long = Some name;
  value_names = 1;
  parser = Some (Signed (pos 0) (pos 4294967295));
  defaults = default ∷ [];
}

-- the name of a file, which is required
abbrev pub file_rule : Text → Rule
file_rule name = record (new_rule name) { value_names = 1; required = true }

-- an option without a value
abbrev pub flag_rule : Text → Rule
flag_rule name = record (new_rule name) { long = Some name; action = Some SetTrue }

-- a number of Steps for each thread, at most 1,000,000
abbrev pub threads_rule : Rule
threads_rule = optional_rule (codes "threads") 0 1_000_000

-- how many Steps a thread makes at most in one go, 1 to 1,024
abbrev pub burst_rule : Rule
burst_rule = optional_rule (codes "burst") 1 1_024

-- whether a command says how far it is, where standard error is no terminal
abbrev pub progress_rule : Rule
progress_rule = flag_rule (codes "progress")

-- what `ll` links a processor to
abbrev pub link_rule : Rule
link_rule = record (text_rule (codes "link")) { defaults = codes "word" ∷ [] }

-- whether the machine is strict
abbrev pub strict_rule : Rule
strict_rule = flag_rule (codes "strict")

-- a command, with the options of a machine's size added; the text is the log's default
abbrev pub with_size_rules : Text → App → App
with_size_rules log command =
    with_rule (with_rule (with_rule (with_rule (with_rule command
    (number_rule (codes "ram") (codes "1048576")))
    (number_rule (codes "cpus") (codes "1")))
    (number_rule (codes "log") log))
    link_rule)
    strict_rule

-- the same without defaults but the log's: what isn't given is what a list of events says
abbrev pub with_asked_size_rules : Text → App → App
with_asked_size_rules log command =
    with_rule (with_rule (with_rule command
    (optional_rule (codes "ram") 0 4_294_967_295))
    (optional_rule (codes "cpus") 0 4_294_967_295))
    (number_rule (codes "log") log)

-- and the same with the mode of the machine
abbrev pub with_named_size_rules : Text → App → App
with_named_size_rules log command =
    with_rule (with_rule (with_asked_size_rules log command) (text_rule (codes "link"))) strict_rule

-- a command that takes an image
abbrev pub on_image : Text → App
on_image name = with_rule (new_app name) (file_rule (codes "image"))

-- the arguments of `run`, without those of an order: an image and options
abbrev pub plain_run_line : App
plain_run_line =
    with_rule (with_rule (with_rule (with_rule (with_rule (with_rule (with_rule
    (with_named_size_rules (codes "65536") (on_image (codes "run")))
    (flag_rule (codes "show-log")))
    (flag_rule (codes "only-log")))
    (flag_rule (codes "only-output")))
    (flag_rule (codes "traps")))
    threads_rule)
    burst_rule)
    progress_rule

-- the arguments of `run`; a driven run has at most as many events as any run
abbrev pub run_line : App
run_line = with_pace_rules 9_223_372_036_854_775_807 (with_order_rules plain_run_line)

-- the arguments of `console`: an image and options
abbrev pub console_line : App
console_line =
    with_console_pace_rules 9_223_372_036_854_775_807 (with_order_rules
    (with_size_rules (codes "65536") (on_image (codes "console"))))

-- the arguments of `search`, without those of a driven run: an image and options
abbrev pub plain_search_line : App
plain_search_line =
    with_rule (with_rule (with_rule (with_rule (with_rule (with_rule (with_rule (with_rule (with_rule (with_rule (with_rule
    (with_named_size_rules (codes "65536") (on_image (codes "search")))
    (optional_rule (codes "seeds") 1 4_294_967_295))
    (optional_rule (codes "delays") 0 64))
    (optional_rule (codes "turns") 1 4_294_967_295))
    (long_rule (codes "from") 0 18_446_744_073_709_551_615))
    (optional_rule (codes "jobs") 1 64))
    (text_rule (codes "watches")))
    (texts_rule (codes "never")))
    (text_rule (codes "output")))
    (optional_rule (codes "hung") 0 4_294_967_295))
    (flag_rule (codes "whole")))
    progress_rule

-- the arguments of `search`; a schedule has at most 16,777,216 events
abbrev pub search_line : App
search_line = with_pace_rules 16_777_216 (with_priority_rules plain_search_line)

-- the arguments of `explore`: an image and options
abbrev pub explore_line : App
explore_line =
    with_rule (with_rule (with_rule (with_rule (with_rule (with_rule (with_rule (with_rule (with_rule (with_rule
    (on_image (codes "explore"))
    (number_rule (codes "ram") (codes "1048576")))
    (number_rule (codes "cpus") (codes "1")))
    link_rule)
    strict_rule)
    (text_rule (codes "watches")))
    (texts_rule (codes "never")))
    (text_rule (codes "output")))
    (text_rule (codes "keys")))
    (optional_rule (codes "states") 1 4_294_967_295))
    progress_rule

-- the arguments of `schedule`: an image and options; a schedule has at most 16,777,216 events
abbrev pub schedule_line : App
schedule_line =
    with_pace_rules 16_777_216 (with_order_rules
    (with_named_size_rules (codes "65536") (on_image (codes "schedule"))))

-- the arguments of `trace`, without those of a driven run: an image and options
abbrev pub plain_trace_line : App
plain_trace_line =
    with_rule (with_rule (with_rule (with_rule (with_rule (with_rule (with_rule (with_rule (with_rule
    (with_named_size_rules (codes "65536") (on_image (codes "trace")))
    (long_rule (codes "from") 0 18_446_744_073_709_551_615))
    (long_rule (codes "count") 0 18_446_744_073_709_551_615))
    (flag_rule (codes "names")))
    (flag_rule (codes "symbols")))
    (optional_rule (codes "only") 0 4_294_967_295))
    (text_rule (codes "touches")))
    (flag_rule (codes "outcomes")))
    (flag_rule (codes "shared")))
    (flag_rule (codes "loads"))

-- the arguments of `trace`; a driven run has at most as many events as any run
abbrev pub trace_line : App
trace_line = with_pace_rules 9_223_372_036_854_775_807 (with_order_rules plain_trace_line)

-- a command over an image and a text, with the options of a machine's size
abbrev pub files_line : Text → Text → Text → App
files_line name text log = with_named_size_rules log (with_rule (on_image name) (file_rule text))

-- the arguments of `replay`: an image, a log and options
abbrev pub replay_line : App
replay_line =
    with_rule (with_asked_size_rules (codes "65536")
    (with_rule (on_image (codes "replay")) (file_rule (codes "entries"))))
    progress_rule

-- the name of a file that may be left out
abbrev pub optional_file_rule : Text → Rule
optional_file_rule name = record (new_rule name) { value_names = 1 }

-- a command over an image and a list of events, without the options of a driven run: a file that may
-- be left out, and those of a size that a log may say
abbrev pub listed_line : Text → App
listed_line name =
    with_named_size_rules (codes "1048576")
    (with_rule (on_image name) (optional_file_rule (codes "file")))

-- the arguments of `debug`, without those of a driven run
abbrev pub plain_debug_line : App
plain_debug_line =
    with_rule (with_rule (listed_line (codes "debug")) (flag_rule (codes "names")))
    (flag_rule (codes "symbols"))

-- the arguments of `debug`; its list of events has at most 16,777,216
abbrev pub debug_line : App
debug_line = with_pace_rules 16_777_216 (with_order_rules plain_debug_line)

-- the arguments of `gdb`, whose list of events is as long as that of `debug`
abbrev pub gdb_line : App
gdb_line = with_pace_rules 16_777_216 (with_order_rules (listed_line (codes "gdb")))

-- the arguments of `audit`: an image, watches and options
abbrev pub audit_line : App
audit_line =
    with_rule (files_line (codes "audit") (codes "watches") (codes "65536")) progress_rule

-- the argument of `as`: an option
abbrev pub as_line : App
as_line = with_rule (new_app (codes "as")) (flag_rule (codes "symbols"))

-- the arguments of `dis`: an image and options
abbrev pub dis_line : App
dis_line =
    with_rule (with_rule (on_image (codes "dis")) (flag_rule (codes "names")))
    (flag_rule (codes "symbols"))

-- the program needs a command, and tells its version; `demo` has no arguments
abbrev pub program_line : App
program_line =
    with_subcommand
    (on_top (λ s. record s { subcommand_required = true; has_version = true }) (new_app (codes "s161")))
    (new_shape (codes "demo"))

-- the program with all commands
abbrev pub command_line : App
command_line =
    with_subcommand (with_subcommand (with_subcommand (with_subcommand (with_subcommand
    (with_subcommand (with_subcommand (with_subcommand (with_subcommand (with_subcommand
    (with_subcommand (with_subcommand program_line
    run_line.top)
    console_line.top)
    schedule_line.top)
    search_line.top)
    explore_line.top)
    trace_line.top)
    replay_line.top)
    debug_line.top)
    gdb_line.top)
    audit_line.top)
    as_line.top)
    dis_line.top

-- clap finds no fault in these words of a command line; the first is the program's name
unfoldable pub IsAccepted : List Text → Type 0
IsAccepted words = fault_of command_line words ≡ []

-- a call for help or for the version, which clap answers by an error of its own kind
abbrev pub IsHelp : ErrorKind → Type 0
IsHelp kind = (kind ≡ DisplayHelp) ⊎ (kind ≡ DisplayVersion)

-- the first text that is given for an argument
abbrev pub given_of : Text → List Row → Text
given_of name rows = unwrap_or (first_of name rows) []

-- a machine of this size is asked for, by what clap gives for each argument; how many entries its
-- log keeps has this default
pub record IsSize (kept : ℕ) (rows : List Row) (size : Size) : Type 0 where
  pub ram : IsNumberOf 1_048_576 (one_of (codes "ram") rows) size.ram
  pub cpus : IsNumberOf 1 (one_of (codes "cpus") rows) size.processors
  pub log : IsNumberOf kept (one_of (codes "log") rows) size.log
  pub link : IsLink (first_of (codes "link") rows) size.link
  pub strict : size.strict ≡ is_set (codes "strict") rows

-- a machine of this size is asked for; a list of events may say what isn't given, and how many entries
-- its own log keeps has this default
pub record IsAskedSize (kept : ℕ) (rows : List Row) (size : AskedSize) : Type 0 where
  pub ram : IsNumberIf (one_of (codes "ram") rows) size.ram
  pub cpus : IsNumberIf (one_of (codes "cpus") rows) size.processors
  pub log : IsNumberOf kept (one_of (codes "log") rows) size.log

-- and of this mode
pub record IsNamedSize (kept : ℕ) (rows : List Row) (size : AskedSize) : Type 0 where
  pub asked : IsAskedSize kept rows size
  pub link : IsLinkIf (first_of (codes "link") rows) size.link
  pub strict : size.strict ≡ is_set (codes "strict") rows

-- what `run` is asked to print
abbrev pub shown_of : List Row → Shown
shown_of rows =
    if is_set (codes "only-output") rows then Output
    else if is_set (codes "only-log") rows then Log
    else if is_set (codes "show-log") rows then SummaryAndLog else Summary

-- `run` asks for this
pub record AsksRun (rows : List Row) (task : RunTask) : Type 0 where
  pub image : task.image.now ≡ given_of (codes "image") rows
  pub size : IsNamedSize 65_536 rows task.size
  pub shown : task.shown ≡ shown_of rows
  pub traps : task.traps ≡ is_set (codes "traps") rows

-- `run` asks for this in threads: each of them makes some Steps
pub record AsksThreads (rows : List Row) (task : ThreadsTask) : Type 0 where
  pub run : AsksRun rows task.run
  pub quota : IsNumberOf 0 (one_of (codes "threads") rows) task.quota
  pub some : 0 < task.quota
  pub burst : IsNumberOf 1 (one_of (codes "burst") rows) task.burst

-- `run` asks for this driven run
pub record AsksDriven (rows : List Row) (task : DrivenTask) : Type 0 where
  pub run : AsksRun rows task.run
  pub drive : AsksDrive Optional rows task.drive

-- `run` asks for this: a driven run if an order is given, else a run under a schedule, or one in
-- threads if their number of Steps isn't 0
abbrev pub IsRunTask : List Row → Task → Type 0
IsRunTask rows (Run task) =
    (has_order rows ≡ false) × AsksRun rows task
    × IsNumberOf 0 (one_of (codes "threads") rows) 0
IsRunTask rows (RunInThreads task) = (has_order rows ≡ false) × AsksThreads rows task
IsRunTask rows (RunDriven task) = (has_order rows ≡ true) × AsksDriven rows task
IsRunTask rows _ = ⊥

-- `schedule` asks for the events of this driven run
pub record AsksSchedule (rows : List Row) (task : ScheduleTask) : Type 0 where
  pub order : has_order rows ≡ true
  pub image : task.image.now ≡ given_of (codes "image") rows
  pub size : IsNamedSize 65_536 rows task.size
  pub drive : AsksDrive Needed rows task.drive

-- `console` asks for this driven run
pub record AsksConsole (rows : List Row) (task : ConsoleTask) : Type 0 where
  pub image : task.image.now ≡ given_of (codes "image") rows
  pub size : IsSize 65_536 rows task.size
  pub drive : AsksDrive Assumed rows task.drive

-- `search` asks for these driven runs
pub record AsksSearch (rows : List Row) (task : SearchTask) : Type 0 where
  pub image : task.image.now ≡ given_of (codes "image") rows
  pub size : IsNamedSize 65_536 rows task.size
  pub drive : AsksDrive Seeded rows task.drive
  pub delays : IsClassIf rows task.delays
  pub seeds : IsSeeds task.delays rows task.seeds
  pub jobs : IsNumberOf 1 (one_of (codes "jobs") rows) task.jobs
  pub watches : option_map (λ name. name.now) task.watches ≡ first_of (codes "watches") rows
  pub few : length (texts_of (codes "never") rows) ≤ 64
  pub output : option_map (λ name. name.now) task.output ≡ first_of (codes "output") rows
  pub hung : IsNumberOf 10_000 (one_of (codes "hung") rows) task.hung
  pub whole : task.whole ≡ is_set (codes "whole") rows

-- `explore` asks for all states of this machine
pub record AsksExplore (rows : List Row) (task : ExploreTask) : Type 0 where
  pub image : task.image.now ≡ given_of (codes "image") rows
  pub size : IsSize 65_536 rows task.size
  pub keys : option_map (λ name. name.now) task.keys ≡ first_of (codes "keys") rows
  pub watches : option_map (λ name. name.now) task.watches ≡ first_of (codes "watches") rows
  pub few : length (texts_of (codes "never") rows) ≤ 64
  pub output : option_map (λ name. name.now) task.output ≡ first_of (codes "output") rows
  pub states : IsNumberOf 1_000_000 (one_of (codes "states") rows) task.states

-- `replay` asks for this
pub record AsksReplay (rows : List Row) (task : ReplayTask) : Type 0 where
  pub image : task.image.now ≡ given_of (codes "image") rows
  pub text : task.text.now ≡ given_of (codes "entries") rows
  pub size : IsAskedSize 65_536 rows task.size
  pub link : task.size.link ≡ None
  pub strict : task.size.strict ≡ false

-- how registers are shown
abbrev pub registers_of : List Row → Registers
registers_of rows = if is_set (codes "names") rows then Named else Numbered

-- `trace` asks for lines of these events: those of a driven run if an order is given, else of a
-- schedule
pub record AsksTrace (rows : List Row) (task : TraceTask) : Type 0 where
  pub image : task.image.now ≡ given_of (codes "image") rows
  pub size : IsNamedSize 65_536 rows task.size
  pub from : IsLongNumberOf 0 (one_of (codes "from") rows) task.from
  pub count :
      IsLongNumberOf 18_446_744_073_709_551_615 (one_of (codes "count") rows) task.count
  pub registers : task.registers ≡ registers_of rows
  pub symbols : task.symbols ≡ is_set (codes "symbols") rows
  pub only : IsNumberIf (one_of (codes "only") rows) task.only
  pub touches : option_map (λ text. text.now) task.touches ≡ first_of (codes "touches") rows
  pub outcomes : task.outcomes ≡ is_set (codes "outcomes") rows
  pub shared : task.shared ≡ is_set (codes "shared") rows
  pub loads : task.loads ≡ is_set (codes "loads") rows
  pub drive : AsksDriveIf Optional rows task.drive

-- the events of `debug` and of `gdb` come from a file, or from a driven run if an order is given
abbrev pub IsSource : List Row → Source → Type 0
IsSource rows (File name) =
    (has_order rows ≡ false) × (name.now ≡ given_of (codes "file") rows)
IsSource rows (Driven drive) = (has_order rows ≡ true) × AsksDrive OrFile rows drive

-- `debug` asks for this
pub record AsksDebug (rows : List Row) (task : DebugTask) : Type 0 where
  pub image : task.image.now ≡ given_of (codes "image") rows
  pub source : IsSource rows task.source
  pub size : IsNamedSize 1_048_576 rows task.size
  pub registers : task.registers ≡ registers_of rows
  pub symbols : task.symbols ≡ is_set (codes "symbols") rows

-- `gdb` asks for this
pub record AsksGdb (rows : List Row) (task : GdbTask) : Type 0 where
  pub image : task.image.now ≡ given_of (codes "image") rows
  pub source : IsSource rows task.source
  pub size : IsNamedSize 1_048_576 rows task.size

-- `dis` asks for this
pub record AsksListing (rows : List Row) (task : ListingTask) : Type 0 where
  pub image : task.image.now ≡ given_of (codes "image") rows
  pub registers : task.registers ≡ registers_of rows
  pub symbols : task.symbols ≡ is_set (codes "symbols") rows

-- `as` asks for this
pub record AsksAssembly (rows : List Row) (task : AssemblyTask) : Type 0 where
  pub symbols : task.symbols ≡ is_set (codes "symbols") rows

-- a command over an image and a text of this name asks for this; how many entries the log keeps has
-- this default
pub record AsksFiles (name : Text) (log : ℕ) (rows : List Row) (task : FilesTask) : Type 0 where
  pub image : task.image.now ≡ given_of (codes "image") rows
  pub text : task.text.now ≡ given_of name rows
  pub size : IsNamedSize log rows task.size

-- the words that ask for another task than the demo
abbrev pub IsOther : Text → Type 0
IsOther word =
    (word ≡ codes "run") ⊎ (word ≡ codes "console") ⊎ (word ≡ codes "schedule")
    ⊎ (word ≡ codes "search") ⊎ (word ≡ codes "explore") ⊎ (word ≡ codes "trace") ⊎ (word ≡ codes "replay")
    ⊎ (word ≡ codes "debug") ⊎ (word ≡ codes "gdb")
    ⊎ (word ≡ codes "audit") ⊎ (word ≡ codes "as") ⊎ (word ≡ codes "dis")

-- a command, with its arguments, asks for this
abbrev pub IsTask : Option (Text × List Row) → Task → Type 0
IsTask command Demo = IfSome command (λ given. ¬ IsOther given.0)
IsTask command (Run task) =
    IsSomeAnd command (λ given. (given.0 ≡ codes "run") × IsRunTask given.1 (Run task))
IsTask command (RunInThreads task) =
    IsSomeAnd command (λ given. (given.0 ≡ codes "run") × IsRunTask given.1 (RunInThreads task))
IsTask command (RunDriven task) =
    IsSomeAnd command (λ given. (given.0 ≡ codes "run") × IsRunTask given.1 (RunDriven task))
IsTask command (Schedule task) =
    IsSomeAnd command (λ given. (given.0 ≡ codes "schedule") × AsksSchedule given.1 task)
IsTask command (Console task) =
    IsSomeAnd command (λ given. (given.0 ≡ codes "console") × AsksConsole given.1 task)
IsTask command (Search task) =
    IsSomeAnd command (λ given. (given.0 ≡ codes "search") × AsksSearch given.1 task)
IsTask command (Explore task) =
    IsSomeAnd command (λ given. (given.0 ≡ codes "explore") × AsksExplore given.1 task)
IsTask command (Trace task) =
    IsSomeAnd command (λ given. (given.0 ≡ codes "trace") × AsksTrace given.1 task)
IsTask command (Replay task) =
    IsSomeAnd command (λ given. (given.0 ≡ codes "replay") × AsksReplay given.1 task)
IsTask command (Debug task) =
    IsSomeAnd command (λ given. (given.0 ≡ codes "debug") × AsksDebug given.1 task)
IsTask command (Gdb task) =
    IsSomeAnd command (λ given. (given.0 ≡ codes "gdb") × AsksGdb given.1 task)
IsTask command (Audit task) =
    IsSomeAnd command
    (λ given. (given.0 ≡ codes "audit") × AsksFiles (codes "watches") 65_536 given.1 task)
IsTask command (Assemble task) =
    IsSomeAnd command (λ given. (given.0 ≡ codes "as") × AsksAssembly given.1 task)
IsTask command (Disassemble task) =
    IsSomeAnd command (λ given. (given.0 ≡ codes "dis") × AsksListing given.1 task)

-- how a command takes an order, if it is one that may be driven
abbrev pub order_use : Text → Option OrderUse
order_use word =
    if bytes_eq word (codes "run") then Some Optional
    else if bytes_eq word (codes "schedule") then Some Needed
    else if bytes_eq word (codes "console") then Some Assumed
    else if bytes_eq word (codes "search") then Some Seeded
    else if bytes_eq word (codes "trace") then Some Optional
    else if bytes_eq word (codes "debug") then Some OrFile
    else if bytes_eq word (codes "gdb") then Some OrFile else None

-- the options of a command go together
abbrev pub GoTogether : Option (Text × List Row) → Type 0
GoTogether command =
    IfSome command (λ given.
    IfSome (order_use given.0) (λ orders. go_together orders given.1 ≡ true))

-- the options of a command that takes no order can't be followed: why
abbrev pub ClashesPlainly : List Row → Clash → Type 0
ClashesPlainly rows ManyNever = AreTooMany (texts_of (codes "never") rows)
ClashesPlainly rows clash = RefusesLink rows clash

-- the options of a command that takes an order in this way, or none, can't be followed: why
abbrev pub ClashesAs : Option OrderUse → List Row → Clash → Type 0
ClashesAs None rows clash = ClashesPlainly rows clash
ClashesAs (Some orders) rows clash = Clashes orders rows clash

-- the options of a command can't be followed: why
abbrev pub ClashesIn : Option (Text × List Row) → Clash → Type 0
ClashesIn command clash =
    IsSomeAnd command (λ given. ClashesAs (order_use given.0) given.1 clash)

-- the numbers of the order that gives the events of `debug` or `gdb` are within their limits
abbrev pub HasSourceLimits : Source → Type 0
HasSourceLimits (File name) = Unit {0}
HasSourceLimits (Driven drive) = order_fault drive.order ≡ None

-- the numbers of a task's order and of its delays are within their limits
abbrev pub HasLimits : Task → Type 0
HasLimits (RunDriven task) = order_fault task.drive.order ≡ None
HasLimits (Schedule task) = order_fault task.drive.order ≡ None
HasLimits (Console task) = order_fault task.drive.order ≡ None
HasLimits (Search task) =
    (order_fault task.drive.order ≡ None) × HasClassLimits task.drive.order task.delays
HasLimits (Trace task) = IfSome task.drive (λ drive. order_fault drive.order ≡ None)
HasLimits (Debug task) = HasSourceLimits task.source
HasLimits (Gdb task) = HasSourceLimits task.source
HasLimits _ = Unit {0}

-- the log of a run in threads whose traps are counted has room for the entry of each of its Steps
abbrev pub keeps_all : ThreadsTask → Bool
keeps_all task =
    not (task.run.traps
    && nat_lt task.run.size.log (task.quota * unwrap_or task.run.size.processors 1))

abbrev pub HasEntries : Task → Type 0
HasEntries (RunInThreads task) = keeps_all task ≡ true
HasEntries _ = Unit {0}

-- the words that stand for the addresses of `--never`, in their order
abbrev pub never_in : Option (Text × List Row) → List Text
never_in None = []
never_in (Some given) = texts_of (codes "never") given.1

abbrev pub never_of : List Text → List Text
never_of words = never_in (subcommand_of command_line words)

-- a command line isn't followed: clap finds a fault of this kind; or it finds none, and the options
-- can't be followed
abbrev pub IsRejected : List Text → Rejection → Type 0
IsRejected words (Words error) =
    HasKind (fault_of command_line words) error
    × (kind_of error ≢ OutOfMemory → ¬ IsAccepted words)
IsRejected words (Options clash) =
    IsAccepted words × ClashesIn (subcommand_of command_line words) clash
