use Rattle.std.proofs.Common.{◌≡◌, ℕ, ◌<◌, false}
use Rattle.m161_elf.specs.Header.{header}
use Rattle.m161_elf.specs.Outside.{is_at_fault}
use Rattle.m161_elf.proofs.outside.first_among.Given as goal

-- none of the headers so far is at fault
abbrev pub invariant-loop-i : goal.invariant-loop-i
invariant-loop-i l = (k : ℕ) → k < l.i → is_at_fault l.ram (header l.file k) ≡ false
