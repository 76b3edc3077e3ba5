use Rattle.std.specs.Prelude.{Option, Some}
use Rattle.std.proofs.Common.{◌∙◌, ap, sym, subst, ℕ, ◌+◌, take, slice_set, arith}
use Rattle.std.proofs.lemmas.List.{length-set}
use Rattle.m161_machine.specs.declared.event.Entry.{Entry}
use Rattle.m161_drive.specs.declared.orders.OrderState.{OrderState}
use Rattle.m161_drive.specs.declared.orders.OrderState.TheVariants.{InTurns}
use Rattle.m161_drive.specs.declared.turns.Turns.{Turns}
use Rattle.m161_drive.specs.helpers.Drive.{Plans, next_order}
use Rattle.m161_drive.proofs.Fitting.{order_ready}
use Rattle.m161_drive.proofs.Planned.{chosen_there, gone_more, plans_written, turns_next}
use Rattle.m161_drive.proofs.turns.Turns.plan_others.Goals as goal

pub planned-requires : goal.planned-requires
planned-requires g c =
    chosen_there (InTurns c.loop-planned.turns) (Some c.loop-planned.last) c.args.core.now.state c.in-Some.next (ap (λ (x : Option ℕ × Turns). x.0) (sym c.in-Some.ensures)) c.law.ensures.few

pub loop-planned-preserved : goal.loop-planned-preserved
loop-planned-preserved g c =
    let i = c.loop-planned.invariant in
    let s = c.args.core.now.state in
    let inside = c.loop-planned-test.true in
    let most = c.min-most.ensures in
    let size = i.3 in
    let chosen = turns_next c.loop-planned.turns c.loop-planned.last c.in-Some.next s i.2 (ap (λ (x : Option ℕ × Turns). x.0) (sym c.in-Some.ensures)) in
    let behind = ap (λ (x : Option ℕ × OrderState). x.1) chosen in (
      subst (λ (e : Entry). Plans (InTurns c.args.self.now) c.args.p s (take (c.loop-planned.planned + 1) (slice_set c.loop-planned.places c.loop-planned.planned e)) c.in-Some.next)
          (sym c.planned.ensures)
          (plans_written (InTurns c.args.self.now) (InTurns c.loop-planned.turns) c.args.p s c.loop-planned.places c.loop-planned.planned c.loop-planned.last c.in-Some.next
          i.0 (omega (arith, inside, most, size)) i.1 chosen),
      ap (λ (x : Option ℕ × Turns). InTurns x.1) c.in-Some.ensures ∙ behind ∙ ap next_order i.1 ∙ sym (gone_more c.loop-planned.planned (InTurns c.args.self.now)),
      order_ready (InTurns c.loop-planned.turns) (Some c.loop-planned.last) s c.in-Some.next (ap (λ (x : Option ℕ × Turns). x.0) (sym c.in-Some.ensures)),
      length-set c.loop-planned.places c.loop-planned.planned c.planned.result ∙ i.3,
      omega (arith, inside),
    )
