use Rattle.std.proofs.Common.{arith, rules, ◌≡◌, ◌+◌, ◌≤◌, length, replicate}
use Rattle.std.proofs.lemmas.List.{places}
use Rattle.std.proofs.lemmas.Bool.Decides.{nat_tests}
use Rattle.m161_elf.specs.Image.{place_in_ram}
use Rattle.m161_elf.proofs.loader.clear_rest.Goals as goal
use Rattle.m161_elf.proofs.Copied.{zeros_cleared}

pub returns : goal.returns
returns c =
    let s = c.args.segment.now in
    let memory = c.args.memory.now in
    let fits : place_in_ram s.p_vaddr + s.p_memsz ≤ length memory = grind (arith, nat_tests) in
    let ordered : s.p_filesz ≤ s.p_memsz = grind (arith, nat_tests) in
    let filled : c.fill.new.self ≡ replicate _ 0 = c.fill.ensures.after (λ y e. search rules) in
    λ at here. rw (filled, c.place_in_ram-start.ensures)
    (zeros_cleared s memory _ _ at (omega arith) (grind (arith, places)) ordered fits here)
