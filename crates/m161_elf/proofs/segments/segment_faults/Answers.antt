use Rattle.std.proofs.Common.{refl}
use Rattle.m161_elf.proofs.segments.segment_faults.Goals as goal
use Rattle.m161_elf.proofs.segments.segment_faults.Goals.{in-Some, in_default}
use Rattle.m161_elf.proofs.OneMore.{faults_with, faults_without}

pub loop-i-preserved : goal.loop-i-preserved
loop-i-preserved c =
    let file = c.args.file.now in
    let ram = c.args.ram in
    let i = c.loop-i.i in
    elim c.match-segment.branch [
      | in-Some w ↦
          let more = faults_with file ram i w.in-Some.segment w.in-Some.ensures in
          rw (
            w.faults-is,
            more,
            c.loop-i.invariant,
            w.is_outside_file.ensures,
            w.is_outside_ram.ensures,
            w.is_larger_in_file.ensures,
          ) refl
      | in_default w ↦
          rw (w.faults-is, faults_without file ram i w.in_default.ensures) c.loop-i.invariant
    ]
