use Rattle.std.specs.Prelude.{unwrap_or}
use Rattle.std.proofs.Common.{ap, ◌∙◌}
use Rattle.m161_asm.specs.Text.{first_address}
use Rattle.m161_asm.specs.Seen.{symbols_seen}
use Rattle.m161_asm.specs.Segments.{segments_seen}
use Rattle.m161_asm.proofs.Assembled.{finished}
use Rattle.m161_asm.proofs.assembly.program_with.Goals as goal

pub returns-clause-value : goal.returns-clause-value
returns-clause-value c = λ all s f.
    finished c.args.second all (segments_seen c.in_ok-segments.segments.items)
    (symbols_seen c.args.symbols) c.unwrap_or-entry.result s f c.in_ok-segments.ensures.value
    (c.unwrap_or-entry.ensures
    ∙ ap (unwrap_or c.args.second.entry)
    (c.first_address-first.ensures
    ∙ ap (λ x. first_address (segments_seen x)) c.deref.ensures.value))
