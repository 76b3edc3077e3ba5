use Rattle.std.proofs.Common.{arith, rules, sym, ◌≡◌, ◌∙◌, length}
use Rattle.std.proofs.lemmas.List.{length-replicate, take_at}
use Rattle.m161_elf.proofs.loader.load.Goals as goal
use Rattle.m161_elf.proofs.Sound.{is_sound, loads, no_fault}

pub put_all-requires-clause-sound : goal.put_all-requires-clause-sound
put_all-requires-clause-sound c =
    let none = no_fault c.fault.result _ c.in_default.not-Some c.fault.ensures.first in
    let long : length c.deref_mut.result.now ≡ c.args.ram = grind (arith, length-replicate) in
    rw long (is_sound c.args.file.now c.args.ram none)

pub returns-clause-answer : goal.returns-clause-answer
returns-clause-answer c =
    let none = no_fault c.fault.result _ c.in_default.not-Some c.fault.ensures.first in
    let long = c.put_all.auto.memory ∙ c.deref_mut.ensures.len in
    let size : length c.put_all.new.memory ≡ c.args.ram = long ∙ search rules in
    let before : length c.deref_mut.result.now ≡ c.args.ram = sym c.put_all.auto.memory
    ∙ size in
    loads c.args.file.now c.args.ram _ _ none
    (rw (take_at _ _ _ long) record {
      entry_is = c.file_word.ensures;
      size_is = size;
      bytes_are = λ at here. c.in-Ok.ensures at (omega (arith, before));
    })
