use Rattle.std.proofs.Common.{◌≡◌, ◌++◌, take}
use Rattle.m161_elf_writer.specs.Written.{halves_bytes}
use Rattle.m161_elf_writer.proofs.writer.push_halves.Given as goal

abbrev pub invariant-loop-half : goal.invariant-loop-half
invariant-loop-half l = l.file.items ≡ l.fn.file.items ++ halves_bytes (take l.half-index l.halves)
