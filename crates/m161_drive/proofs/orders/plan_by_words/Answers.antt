use Rattle.std.specs.Prelude.{Option, None, Some}
use Rattle.std.proofs.Common.{◌≡◌, ◌∙◌, ap, sym, subst, ℕ, ◌+◌, take, slice_set, arith}
use Rattle.std.proofs.lemmas.List.{length-set}
use Rattle.rand_pcg.specs.Lcg.{Lcg}
use Rattle.m161_machine.specs.declared.event.Entry.{Entry}
use Rattle.m161_drive.specs.declared.orders.OrderState.{OrderState}
use Rattle.m161_drive.specs.declared.orders.OrderState.TheVariants.{AtRandom}
use Rattle.m161_drive.specs.Orders.{one_of}
use Rattle.m161_drive.specs.Ready.{ready}
use Rattle.m161_drive.specs.helpers.Drive.{Plans, next_order}
use Rattle.m161_drive.proofs.Planned.{chosen_there, gone_more, plans_written, words_next}
use Rattle.m161_drive.proofs.orders.plan_by_words.Goals as goal

pub planned-requires : goal.planned-requires
planned-requires g c =
    chosen_there (AtRandom c.loop-place.words) None c.args.core.now.state c.one_of.result
    (ap (λ (x : Option ℕ × Lcg). x.0)
    (ap (λ ps. one_of ps c.loop-place.words) (sym c.list_ready-count.ensures.places) ∙ sym c.one_of.ensures)) c.law.ensures.few

pub loop-place-preserved : goal.loop-place-preserved
loop-place-preserved g c =
    let i = c.loop-place.invariant in
    let s = c.args.core.now.state in
    let inside = c.loop-place-test.true in
    let most = c.min-most.ensures in
    let size = i.2 in
    let word : one_of (ready s) c.loop-place.words ≡ (Some c.one_of.result, c.one_of.new.generator) =
    ap (λ ps. one_of ps c.loop-place.words) (sym c.list_ready-count.ensures.places) ∙ sym c.one_of.ensures in
    let next = words_next c.loop-place.words i.0.0 c.one_of.result s (ap (λ (x : Option ℕ × Lcg). x.0) word) in (
      (
        c.one_of.result,
        subst (λ (e : Entry). Plans (AtRandom c.args.generator.now) c.args.p s (take (c.loop-place.place + 1) (slice_set c.loop-place.places c.loop-place.place e)) c.one_of.result)
            (sym c.planned.ensures)
            (plans_written (AtRandom c.args.generator.now) (AtRandom c.loop-place.words) c.args.p s c.loop-place.places c.loop-place.place i.0.0 c.one_of.result
            i.0.1 (omega (arith, inside, most, size)) i.1 next),
      ),
      ap AtRandom (ap (λ (x : Option ℕ × Lcg). x.1) (sym word)) ∙ ap (λ (x : Option ℕ × OrderState). x.1) next ∙ ap next_order i.1 ∙ sym (gone_more c.loop-place.place (AtRandom c.args.generator.now)),
      length-set c.loop-place.places c.loop-place.place c.planned.result ∙ i.2,
    )
