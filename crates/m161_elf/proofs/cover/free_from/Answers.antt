use Rattle.std.proofs.Common.{◌≢◌, ◌∙◌, ◌<◌, ℕ, length, slice_index, sym, arith, inl, inr}
use Rattle.std.proofs.lemmas.Bool.{cases_lt}
use Rattle.std.proofs.lemmas.List.{length-set}
use Rattle.m161_elf.proofs.FreePlaces.{cover_set, on_two, over_two, same_set}
use Rattle.m161_elf.proofs.cover.free_from.Goals as goal

pub loop-next-preserved : goal.loop-next-preserved
loop-next-preserved c =
    let next = c.loop-next.next in
    let at = c.loop-next.at in
    let further : ℕ = slice_index next (slice_index next at) in
    let cover = c.loop-next.invariant.cover in
    let within = c.loop-next.invariant.within in
    let taken : slice_index next at ≢ at = λ e. c.loop-next-test.true e in
    let on : at < further = on_two next at cover within taken in
    let one : at < slice_index next at =
    (let some = cover.on at within in omega (arith, some, taken)) in
    let fits : further < length next = cover.within (slice_index next at) (cover.within at within) in
    let long = length-set next at further in
    record {
      cover =
          cover_set next at further cover within on fits
          (λ i low high. over_two next at i cover within (omega (arith, low)) high);
      same = λ i h.
          same_set next at further i within one on ∙ c.loop-next.invariant.same i (omega (arith, h, long));
      skipped = λ i low high. elim (cases_lt i at) [
        | inl before ↦ c.loop-next.invariant.skipped i low before
        | inr behind ↦
            sym (c.loop-next.invariant.same i (omega (arith, high, fits)))
            ∙ over_two next at i cover within behind high
      ];
      from = omega (arith, on, c.loop-next.invariant.from);
      within = omega (arith, fits, long);
    }
