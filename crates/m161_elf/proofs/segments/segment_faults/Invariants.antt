use Rattle.std.proofs.Common.{◌≡◌}
use Rattle.m161_elf.specs.helpers.Sound.{faults_among}
use Rattle.m161_elf.proofs.segments.segment_faults.Given as goal

abbrev pub invariant-loop-i : goal.invariant-loop-i
invariant-loop-i l = l.faults ≡ faults_among l.file l.ram l.i
