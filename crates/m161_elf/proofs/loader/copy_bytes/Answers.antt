use Rattle.std.proofs.Common.{arith, ◌+◌, ◌≤◌, length}
use Rattle.std.proofs.lemmas.Bool.Decides.{nat_tests}
use Rattle.m161_elf.specs.Image.{place_in_ram}
use Rattle.m161_elf.proofs.loader.copy_bytes.Goals as goal
use Rattle.m161_elf.proofs.Copied.{put_mid-copied}

pub returns : goal.returns
returns c =
    let s = c.args.segment.now in
    let fits : place_in_ram s.p_vaddr
    + s.p_filesz ≤ length c.args.memory.now = grind (arith, nat_tests) in
    let within : s.p_offset + s.p_filesz ≤ length c.args.file.now = grind (arith, nat_tests) in
    λ at here. rw (c.copy_from_slice.ensures.after, c.place_in_ram-start.ensures)
    (put_mid-copied c.args.file.now s c.args.memory.now _ _ at (omega arith)
    (omega arith) fits within here)
