use Rattle.std.specs.Prelude.{◌||◌}
use Rattle.std.proofs.Common.{◌∙◌, ◌-◌, ◌<◌, ap, sym, length, arith}
use Rattle.std.specs.Option.{is_some}
use Rattle.m161_elf.specs.Header.{e_phnum}
use Rattle.m161_elf.specs.Image.{byte_left, covers}
use Rattle.m161_elf.specs.helpers.Cover.{is_taken, last_at, segments_from}
use Rattle.m161_elf.proofs.FreePlaces.{byte_more, from_next, from_skip, taken_with}
use Rattle.m161_elf.proofs.cover.put_last_first.Goals as goal

pub loop-i-preserved-in-Some : goal.loop-i-preserved-in-Some
loop-i-preserved-in-Some c =
    let file = c.args.file.now in
    let i = c.loop-i.i in
    let inv = c.loop-i.invariant in
    let s = c.in-Some.segment in
    let rest = segments_from file i in
    let here : i - 1 < e_phnum file = omega (arith, inv.within) in
    let step = from_next file (i - 1) i s (omega arith) here c.in-Some.ensures in
    record {
      within = omega (arith, inv.within);
      cover = c.put_where_free.ensures.cover;
      taken = λ at h.
          let h' : at < length c.loop-i.memory = omega arith in
          c.put_where_free.ensures.taken at h'
          ∙ ap (λ t. t || covers at s) (inv.taken at h')
          ∙ sym (taken_with s rest at) ∙ sym (ap (λ l. is_some (last_at l at)) step);
      bytes = λ at h.
          let h' : at < length c.loop-i.memory = omega arith in
          byte_more file s rest at _ _ (is_taken c.loop-i.next at) (inv.taken at h')
          (inv.bytes at h') (c.put_where_free.ensures.bytes at h')
          ∙ sym (ap (λ l. byte_left file l at) step);
    }

pub loop-i-preserved : goal.loop-i-preserved
loop-i-preserved c =
    let file = c.args.file.now in
    let i = c.loop-i.i in
    let inv = c.loop-i.invariant in
    let here : i - 1 < e_phnum file = omega (arith, inv.within) in
    let step = from_skip file (i - 1) i (omega arith) here c.in_default.ensures in
    record {
      within = omega (arith, inv.within);
      cover = inv.cover;
      taken = λ at h. inv.taken at h ∙ sym (ap (λ l. is_some (last_at l at)) step);
      bytes = λ at h. inv.bytes at h ∙ sym (ap (λ l. byte_left file l at) step);
    }
