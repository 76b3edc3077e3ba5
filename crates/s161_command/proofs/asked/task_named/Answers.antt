use Rattle.std.proofs.Common.{refl}
use Rattle.clap.specs.Words.{found_of, rows_of}
use Rattle.s161_command.specs.declared.task.Task.TheVariants.{Assemble, Audit, Disassemble, Explore, Replay}
use Rattle.s161_command.proofs.Naming.{settings_as, task_as}
use Rattle.s161_command.proofs.asked.task_named.Goals as goal

pub task_of_run-requires : goal.task_of_run-requires
task_of_run-requires c = settings_as (rows_of (found_of c.args.given.now)) c.args.settings c.in-run.is c.requires

pub task_of_console-requires : goal.task_of_console-requires
task_of_console-requires c = settings_as (rows_of (found_of c.args.given.now)) c.args.settings c.in-console.is c.requires

pub task_of_schedule-requires : goal.task_of_schedule-requires
task_of_schedule-requires c = settings_as (rows_of (found_of c.args.given.now)) c.args.settings c.in-schedule.is c.requires

pub task_of_search-requires : goal.task_of_search-requires
task_of_search-requires c = settings_as (rows_of (found_of c.args.given.now)) c.args.settings c.in-search.is c.requires

pub task_of_trace-requires : goal.task_of_trace-requires
task_of_trace-requires c = settings_as (rows_of (found_of c.args.given.now)) c.args.settings c.in-trace.is c.requires

pub task_of_debug-requires : goal.task_of_debug-requires
task_of_debug-requires c = settings_as (rows_of (found_of c.args.given.now)) c.args.settings c.in-debug.is c.requires

pub task_of_gdb-requires : goal.task_of_gdb-requires
task_of_gdb-requires c = settings_as (rows_of (found_of c.args.given.now)) c.args.settings c.in-gdb.is c.requires

pub files_task_of-requires : goal.files_task_of-requires
files_task_of-requires c = (settings_as (rows_of (found_of c.args.given.now)) c.args.settings c.in-audit.is c.requires).link

pub explore_task_of-requires : goal.explore_task_of-requires
explore_task_of-requires c = settings_as (rows_of (found_of c.args.given.now)) c.args.settings c.in-explore.is c.requires

pub returns-in-run-clause-task : goal.returns-in-run-clause-task
returns-in-run-clause-task c = task_as (rows_of (found_of c.args.given.now)) c.task_of_run.result c.in-run.is c.task_of_run.ensures.task

pub returns-in-run-clause-limits : goal.returns-in-run-clause-limits
returns-in-run-clause-limits c = c.task_of_run.ensures.limits

pub returns-in-console-clause-task : goal.returns-in-console-clause-task
returns-in-console-clause-task c = task_as (rows_of (found_of c.args.given.now)) c.task_of_console.result c.in-console.is c.task_of_console.ensures.task

pub returns-in-console-clause-limits : goal.returns-in-console-clause-limits
returns-in-console-clause-limits c = c.task_of_console.ensures.limits

pub returns-in-schedule-clause-task : goal.returns-in-schedule-clause-task
returns-in-schedule-clause-task c = task_as (rows_of (found_of c.args.given.now)) c.task_of_schedule.result c.in-schedule.is c.task_of_schedule.ensures.task

pub returns-in-schedule-clause-limits : goal.returns-in-schedule-clause-limits
returns-in-schedule-clause-limits c = c.task_of_schedule.ensures.limits

pub returns-in-search-clause-task : goal.returns-in-search-clause-task
returns-in-search-clause-task c = task_as (rows_of (found_of c.args.given.now)) c.task_of_search.result c.in-search.is c.task_of_search.ensures.task

pub returns-in-search-clause-limits : goal.returns-in-search-clause-limits
returns-in-search-clause-limits c = c.task_of_search.ensures.limits

pub returns-in-trace-clause-task : goal.returns-in-trace-clause-task
returns-in-trace-clause-task c = task_as (rows_of (found_of c.args.given.now)) c.task_of_trace.result c.in-trace.is c.task_of_trace.ensures.task

pub returns-in-trace-clause-limits : goal.returns-in-trace-clause-limits
returns-in-trace-clause-limits c = c.task_of_trace.ensures.limits

pub returns-in-debug-clause-task : goal.returns-in-debug-clause-task
returns-in-debug-clause-task c = task_as (rows_of (found_of c.args.given.now)) c.task_of_debug.result c.in-debug.is c.task_of_debug.ensures.task

pub returns-in-debug-clause-limits : goal.returns-in-debug-clause-limits
returns-in-debug-clause-limits c = c.task_of_debug.ensures.limits

pub returns-in-gdb-clause-task : goal.returns-in-gdb-clause-task
returns-in-gdb-clause-task c = task_as (rows_of (found_of c.args.given.now)) c.task_of_gdb.result c.in-gdb.is c.task_of_gdb.ensures.task

pub returns-in-gdb-clause-limits : goal.returns-in-gdb-clause-limits
returns-in-gdb-clause-limits c = c.task_of_gdb.ensures.limits

pub returns-in-explore-clause-task : goal.returns-in-explore-clause-task
returns-in-explore-clause-task c = task_as (rows_of (found_of c.args.given.now)) (Explore c.explore_task_of.result) c.in-explore.is (refl, c.explore_task_of.ensures)

pub returns-in-replay-clause-task : goal.returns-in-replay-clause-task
returns-in-replay-clause-task c = task_as (rows_of (found_of c.args.given.now)) (Replay c.replay_task_of.result) c.in-replay.is (refl, c.replay_task_of.ensures)

pub returns-in-audit-clause-task : goal.returns-in-audit-clause-task
returns-in-audit-clause-task c = task_as (rows_of (found_of c.args.given.now)) (Audit c.files_task_of.result) c.in-audit.is (refl, c.files_task_of.ensures)

pub returns-in-as-clause-task : goal.returns-in-as-clause-task
returns-in-as-clause-task c = task_as (rows_of (found_of c.args.given.now)) (Assemble c.assembly_task_of.result) c.in-as.is (refl, c.assembly_task_of.ensures)

pub returns-in-dis-clause-task : goal.returns-in-dis-clause-task
returns-in-dis-clause-task c = task_as (rows_of (found_of c.args.given.now)) (Disassemble c.listing_task_of.result) c.in-dis.is (refl, c.listing_task_of.ensures)
