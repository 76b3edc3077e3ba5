use Rattle.std.proofs.Common.{◌≡◌, ◌∙◌, ◌∷◌, ◌++◌, [], ap, append_assoc, arith, get_or, subst, sym, take}
use Rattle.std.proofs.lemmas.List.{take_all, take_more}
use Rattle.m161_traps.specs.helpers.Watching.{IsKept}
use Rattle.m161_traps.proofs.Lasting.{kept_one}
use Rattle.m161_traps.proofs.watch.Watch.note_all.Goals as goal

pub loop-packed-preserved : goal.loop-packed-preserved
loop-packed-preserved c =
    let es = c.args.entries.now in
    let k = c.loop-packed.packed-index in
    let e = c.entry-entry.result in
    let tails = c.note_step.new.tails in
    let vectors = c.note_vector-self.result in
    let is : e ≡ get_or es k c.packed-item.result = c.entry-entry.ensures ∙ c.packed-item.is in
    λ so_far h.
    subst (IsKept tails vectors)
    (append_assoc so_far (take k es) (e ∷ [])
    ∙ ap (λ l. so_far ++ l) (ap (λ x. take k es ++ x ∷ []) is ∙ sym (take_more es k c.packed-item.result c.loop-packed-test.true)))
    (kept_one c.loop-packed.self.tails tails c.loop-packed.self.vectors vectors (so_far ++ take k es) e c.in_ok-note_step.ensures
    c.note_vector-self.ensures.seen c.note_vector-self.ensures.kept (c.loop-packed.invariant so_far h))

pub returns : goal.returns
returns c =
    λ so_far h. subst (λ es. IsKept c.loop-packed.self.tails c.loop-packed.self.vectors (so_far ++ es))
    (take_all c.loop-packed.packed-index c.args.entries.now (let end = c.loop-packed-test.false in omega (arith, end)))
    (c.loop-packed.invariant so_far h)
