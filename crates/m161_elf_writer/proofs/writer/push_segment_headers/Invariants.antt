use Rattle.std.proofs.Common.{◌≡◌, ◌+◌, ◌*◌, ◌++◌, length, drop}
use Rattle.m161_asm.specs.Segments.{segments_seen, word_count}
use Rattle.m161_elf_writer.specs.Written.{segment_headers}
use Rattle.m161_elf_writer.proofs.writer.push_segment_headers.Given as goal

-- the headers that are left, and the words that are left
abbrev pub invariant-loop-segment : goal.invariant-loop-segment
invariant-loop-segment l =
    let left = segments_seen (drop l.segment-index l.segments) in
    let all = segments_seen l.segments in
    (l.file.items ++ segment_headers l.offset left
    ≡ l.fn.file.items ++ segment_headers (52 + 32 * length l.segments) all)
    × (l.offset + 4 * word_count left ≡ 52 + 32 * length l.segments + 4 * word_count all)
