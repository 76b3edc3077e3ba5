use Rattle.std.proofs.Common.{◌≡◌, ◌∙◌, ℕ, ◌*◌, Bool, true, false, not, ◌&&◌, nat_lt, List, Option, None, Some, ap, arith, codes, refl, subst, sym, unwrap_or}
use Rattle.std.proofs.lemmas.Bool.Decides.{nat_tests}
use Rattle.clap.specs.Words.{Row, Text, one_of}
use Rattle.s161_command.specs.declared.drive.Clash.TheVariants.{FewEntries}
use Rattle.s161_command.specs.declared.task.Task.{Task}
use Rattle.s161_command.specs.declared.task.Task.TheVariants.{Assemble, Audit, Console, Debug, Demo, Disassemble, Explore, Gdb, Replay, Run, RunDriven, RunInThreads, Schedule, Search, Trace}
use Rattle.s161_command.specs.declared.task.ThreadsTask.{ThreadsTask}
use Rattle.s161_command.specs.Commands.{AsksThreads, ClashesAs, ClashesIn, IsTask, order_use}
use Rattle.s161_command.specs.Drives.{LacksEntries}
use Rattle.s161_command.specs.Numbers.{IsNumberIf, IsNumberOf}
use Rattle.s161_command.specs.helpers.Entries.{LosesEntries}

-- A run in threads whose log is too short for its traps.

both_fail : (a b : Bool) → not (a && b) ≡ false → (a ≡ true) × (b ≡ true)
both_fail true true h = (refl, refl)
both_fail true false h = absurd cc
both_fail false b h = absurd cc

-- a number that is left out is 1
number_or_one : (text : Option Text) (n : Option ℕ) → IsNumberIf text n → IsNumberOf 1 text (unwrap_or n 1)
number_or_one None n e = ap (λ (m : Option ℕ). unwrap_or m 1) e
number_or_one (Some text) None none = record { number = λ is. absurd (none is); other = λ no. refl }
number_or_one (Some text) (Some n) is = record { number = λ it. is.1; other = λ no. absurd (no is.0) }

lacking : (rows : List Row) (task : ThreadsTask) → AsksThreads rows task → LosesEntries (RunInThreads task) → LacksEntries rows
lacking rows task asks lost =
    let parts = both_fail task.run.traps (nat_lt task.run.size.log (task.quota * unwrap_or task.run.size.processors 1)) lost in
    record {
      traps = sym asks.run.traps ∙ parts.0;
      quota = task.quota;
      is_quota = asks.quota;
      processors = unwrap_or task.run.size.processors 1;
      are_processors = number_or_one (one_of (codes "cpus") rows) task.run.size.processors asks.run.size.asked.cpus;
      log = task.run.size.log;
      is_log = asks.run.size.asked.log;
      few = let less = parts.1 in grind (arith, nat_tests, less);
    }

pub few_entries : (name : List ℕ) (rows : List Row) (task : Task) → IsTask (Some (name, rows)) task → LosesEntries task → ClashesIn (Some (name, rows)) FewEntries
few_entries name rows (RunInThreads task) asks lost =
    subst (λ word. ClashesAs (order_use word) rows FewEntries) (sym asks.0) (lacking rows task asks.1.1 lost)
few_entries name rows (Assemble task) asks lost = absurd lost
few_entries name rows (Audit task) asks lost = absurd lost
few_entries name rows (Console task) asks lost = absurd lost
few_entries name rows (Debug task) asks lost = absurd lost
few_entries name rows Demo asks lost = absurd lost
few_entries name rows (Disassemble task) asks lost = absurd lost
few_entries name rows (Explore task) asks lost = absurd lost
few_entries name rows (Gdb task) asks lost = absurd lost
few_entries name rows (Replay task) asks lost = absurd lost
few_entries name rows (Run task) asks lost = absurd lost
few_entries name rows (RunDriven task) asks lost = absurd lost
few_entries name rows (Schedule task) asks lost = absurd lost
few_entries name rows (Search task) asks lost = absurd lost
few_entries name rows (Trace task) asks lost = absurd lost
