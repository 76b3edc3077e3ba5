use Rattle.std.proofs.Common.{◌≡◌, ◌≤◌, length, vec_capacity}
use Rattle.m161_machine.proofs.packed.blanks.Given as goal

abbrev pub invariant-loop-blank : goal.invariant-loop-blank
invariant-loop-blank l = (length l.blanks.items ≡ l._blank) × (l.number ≤ vec_capacity l.blanks)
