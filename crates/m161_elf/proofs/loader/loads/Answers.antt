use Rattle.std.proofs.Common.{rules}
use Rattle.m161_elf.proofs.loader.loads.Goals as goal
use Rattle.m161_elf.proofs.loader.loads.Goals.{in-Some-span+in_ok-map_err, in_default-span}
use Rattle.m161_elf.proofs.OneMore.{spans_with, spans_without}

pub loop-i-preserved : goal.loop-i-preserved
loop-i-preserved c =
    let file = c.args.file.now in
    let i = c.loop-i.i in
    elim c.match-span.branch [
      | in-Some-span+in_ok-map_err w ↦
          rw (
            w.spans-is,
            spans_with file i w.in-Some-span.span w.in-Some-span.ensures,
            ←
                c.loop-i.invariant,
          ) (search rules)
      | in_default-span w ↦
          rw (w.spans-is, spans_without file i w.in_default-span.ensures) c.loop-i.invariant
    ]
