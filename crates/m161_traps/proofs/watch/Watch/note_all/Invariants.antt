use Rattle.std.proofs.Common.{◌++◌, List, take}
use Rattle.m161_machine.specs.declared.event.Entry.{Entry}
use Rattle.m161_traps.specs.helpers.Watching.{IsKept}
use Rattle.m161_traps.proofs.watch.Watch.note_all.Given as goal

-- the entries so far were noted
abbrev pub invariant-loop-packed : goal.invariant-loop-packed
invariant-loop-packed l =
    (so_far : List Entry) → IsKept l.fn.self.tails l.fn.self.vectors so_far → IsKept l.self.tails l.self.vectors (so_far ++ take l.packed-index l.entries)
