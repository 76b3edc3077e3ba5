use Rattle.std.proofs.Common.{◌≡◌, ◌++◌, take, string_bytes}
use Rattle.m161_steplog.specs.Machine.{digest_text}
use Rattle.m161_steplog.proofs.machine.machine_line.Given as goal

abbrev pub invariant-loop-byte : goal.invariant-loop-byte
invariant-loop-byte l = string_bytes l.line ≡ string_bytes l.initial.line ++ digest_text (take l.byte-index l.digest)
