use Rattle.std.proofs.Common.{arith, ◌<◌, length}
use Rattle.m161_elf.specs.Header.{e_phnum}
use Rattle.m161_elf.proofs.loader.put_segments.Goals as goal
use Rattle.m161_elf.proofs.loader.put_segments.Goals.{in-Some, in_default}
use Rattle.m161_elf.proofs.OneMore.{byte_put, segments_without}
use Rattle.m161_elf.proofs.Sound.{sound_at}

pub loop-i-preserved : goal.loop-i-preserved
loop-i-preserved c =
    let file = c.args.file.now in
    let i = c.loop-i.i in
    elim c.match-segment.branch [
      | in-Some w ↦ λ at here.
          let before : at < length c.loop-i.memory = omega arith in
          rw w.memory-is
          (byte_put file i w.in-Some.segment _ _ at w.in-Some.ensures (c.loop-i.invariant at before)
          (w.put_segment.ensures at before))
      | in_default w ↦ λ at here.
          let before : at < length c.loop-i.memory = omega arith in
          rw (w.memory-is, segments_without file i w.in_default.ensures)
          (c.loop-i.invariant at before)
    ]

pub put_segment-requires : goal.put_segment-requires
put_segment-requires c =
    let here : c.loop-i.i < e_phnum c.args.file.now = omega arith in
    rw c.loop-i.auto.memory
    (sound_at c.args.file.now _ c.loop-i.i c.in-Some.segment c.requires.sound here
    c.in-Some.ensures)
