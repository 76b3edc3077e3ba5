use Rattle.std.proofs.Common.{◌∙◌, ap, ◌++◌}
use Rattle.circular_buffer.specs.Buffer.{keep_last}
use Rattle.m161_drive.proofs.Keeping.{keep_last_more}
use Rattle.m161_drive.proofs.notes.HeapCircularBufferPackedEntryNotes.add.Goals as goal

pub returns-then-capacity-gt0 : goal.returns-then-capacity-gt0
returns-then-capacity-gt0 c = λ room so_far h.
    let same = c.extend_from_slice.ensures in (
      ap (λ b. b.capacity) same ∙ h.0,
      ap (λ b. b.items) same ∙ (λ i. keep_last (h.0 i) (h.1 i ++ c.args.entries.now)) ∙ keep_last_more room so_far c.args.entries.now,
    )
