use Rattle.std.proofs.Common.{◌≡◌, ◌++◌, take, vec_capacity}
use Rattle.m161_machine.proofs.window.push_entries.Given as goal

-- the entries so far are the first ones of those to be appended
abbrev pub invariant-loop-kept : goal.invariant-loop-kept
invariant-loop-kept l = (l.entries.items ≡ l.fn.entries.items ++ take l.kept-index l.more)
    × (vec_capacity l.entries ≡ vec_capacity l.fn.entries)
