use Rattle.std.proofs.Common.{◌≡◌, ◌++◌, length, map, take, drop}
use Rattle.m161_audit.specs.helpers.Progress.{after_word}
use Rattle.m161_audit.proofs.shootdown.note_store.Given as goal

-- the store is noted in the shootdowns so far
abbrev pub invariant-loop-i : goal.invariant-loop-i
invariant-loop-i l =
    (length l.items.items ≡ length l.fn.items.items)
    × (l.items.items ≡ map (after_word l.word) (take l.i l.fn.items.items) ++ drop l.i l.fn.items.items)
