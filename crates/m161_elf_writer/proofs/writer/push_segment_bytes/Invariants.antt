use Rattle.std.proofs.Common.{◌≡◌, ◌++◌, take}
use Rattle.m161_asm.specs.Segments.{segments_seen}
use Rattle.m161_elf_writer.specs.Written.{segment_bytes}
use Rattle.m161_elf_writer.proofs.writer.push_segment_bytes.Given as goal

abbrev pub invariant-loop-segment : goal.invariant-loop-segment
invariant-loop-segment l =
    l.file.items
    ≡ l.fn.file.items ++ segment_bytes (segments_seen (take l.segment-index l.segments))
