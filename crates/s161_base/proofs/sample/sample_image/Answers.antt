use Rattle.std.proofs.Common.{◌∙◌}
use Rattle.m161_asm.specs.Segments.{segments_seen}
use Rattle.s161_base.proofs.Sampled.{file_is}
use Rattle.s161_base.proofs.sample.sample_image.Goals as goal

pub returns-clause-ok : goal.returns-clause-ok
returns-clause-ok c =
    let program = c.in-Ok.program in
    c.in_ok-write.ensures ∙ file_is program.entry (segments_seen program.segments.items) c.in-Ok.ensures.0 c.in-Ok.ensures.1
