use Rattle.std.specs.Prelude.{if◌then◌else◌}
use Rattle.std.proofs.Common.{◌≡◌, ◌∙◌, ◌+◌, ◌<◌, ◌≤◌, true, ap, length, slice_index, arith}
use Rattle.std.proofs.lemmas.Bool.Decides.{nat_tests}
use Rattle.std.proofs.lemmas.List.{length-set}
use Rattle.m161_elf.specs.Image.{covers, place_in_ram, segment_byte}
use Rattle.m161_elf.specs.helpers.Cover.{is_taken}
use Rattle.m161_elf.proofs.FreePlaces.{all_past, byte_next, cover_set, taken_next}
use Rattle.m161_elf.proofs.cover.put_where_free.Goals as goal

pub free_from-at-requires-in-loop-at-clause-cover :
    goal.free_from-at-requires-in-loop-at-clause-cover
free_from-at-requires-in-loop-at-clause-cover c =
    let s = c.args.segment.now in
    let fits : place_in_ram s.p_vaddr + s.p_memsz ≤ length c.args.memory.now =
    grind (arith, nat_tests) in
    cover_set c.loop-at.next c.loop-at.at (c.loop-at.at + 1) c.loop-at.invariant.cover
    c.loop-at.invariant.within (omega arith) (omega (arith, fits))
    (λ i low high. absurd (omega (arith, low, high)))

pub loop-at-preserved : goal.loop-at-preserved
loop-at-preserved c =
    let s = c.args.segment.now in
    let file = c.args.file.now in
    let memory = c.loop-at.memory in
    let next = c.loop-at.next in
    let at = c.loop-at.at in
    let inv = c.loop-at.invariant in
    let f = c.free_from-at-in-loop-at in
    let fits : place_in_ram s.p_vaddr + s.p_memsz ≤ length c.args.memory.now =
    grind (arith, nat_tests) in
    let inside : at < length memory = omega (arith, fits) in
    let here : covers at s ≡ true = grind (arith, nat_tests) in
    let on : at < f.result = omega (arith, f.ensures.from) in
    let long = length-set memory at c.segment_byte.result in
    let more = length-set next at (at + 1) in
    record {
      cover = f.ensures.cover;
      from = omega (arith, on, inv.from);
      within = omega (arith, f.ensures.bound, f.auto.next);
      free = f.ensures.free;
      taken = λ i h.
          let h' : i < length memory = omega (arith, h, long) in
          taken_next c.args.next.now next f.new.next s at f.result i inv.within here on
          (inv.taken i h') (f.ensures.same i (omega (arith, h', more)))
          (f.ensures.skipped i);
      bytes = λ i h.
          let h' : i < length memory = omega (arith, h, long) in
          byte_next file memory c.args.memory.now c.args.next.now next s at f.result i
          c.segment_byte.result inv.within inside here on inv.free c.segment_byte.ensures inv.taken
          (inv.bytes i h') h' (f.ensures.skipped i);
    }

pub returns-clause-bytes : goal.returns-clause-bytes
returns-clause-bytes c = λ i h.
    let s = c.args.segment.now in
    let file = c.args.file.now in
    c.loop-at.invariant.bytes i (omega arith)
    ∙ ap (λ t.
    if is_taken c.args.next.now i then slice_index c.args.memory.now i
    else (if t then segment_byte file i s else slice_index c.args.memory.now i))
    (all_past s c.loop-at.at i (omega arith))
