use Rattle.std.proofs.Common.{◌≡◌, ◌∙◌, ap, sym, ◌%◌, length}
use Rattle.m161_alike.proofs.RestoringMemory.{all_same, bytes_fit}
use Rattle.m161_alike.proofs.restored_memory.is_boot.Goals as goal

pub returns : goal.returns
returns c =
    let memory = c.args.memory.now in
    let boot = c.args.boot.now in
    let size : length memory ≡ length boot = sym c.requires.size in
    all_same memory boot (bytes_fit memory c.type_inv.memory, ap (λ n. n % 4) size ∙ c.requires.whole) (bytes_fit boot c.type_inv.boot, c.requires.whole) c.requires.size
    c.requires.same
