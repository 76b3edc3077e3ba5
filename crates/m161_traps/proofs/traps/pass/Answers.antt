use Rattle.std.proofs.Common.{◌∙◌, ◌∷◌, [], sym, subst, arith}
use Rattle.m161_machine.specs.declared.event.Event.TheVariants.{Step}
use Rattle.m161_traps.specs.helpers.Counting.{AreTold, Passes}
use Rattle.m161_traps.proofs.Counting.{few_counted, passes_trap, told_trap}
use Rattle.m161_traps.proofs.traps.pass.Goals as goal

pub note-requires : goal.note-requires
note-requires g c =
    few_counted c.args.lines.now.items c.args.core.now.state.made c.requires (let few = c.in-Some.ensures.few in omega (arith, few))

pub returns-in_ok-note-in-Step-clause-passes : goal.returns-in_ok-note-in-Step-clause-passes
returns-in_ok-note-in-Step-clause-passes g c =
    let s = c.args.core.now.state in
    let t = c.make_step.new.core.state in
    let lines = c.args.lines.now.items in
    let counted = passes_trap s t (Step c.in-Step.p) c.in-Some.trap lines c.make_step.ensures.state (sym c.in-Some.is ∙ c.make_step.ensures.trap) in
    subst (λ e. Passes s (e ∷ []) lines t c.note.new.lines.items) (sym c.in-Step.is)
    (subst (λ ls. Passes s (Step c.in-Step.p ∷ []) lines t ls) (sym c.in_ok-note-in-Step.ensures) counted)

pub returns-in_ok-note-in-Step-clause-told : goal.returns-in_ok-note-in-Step-clause-told
returns-in_ok-note-in-Step-clause-told g c =
    subst (AreTold c.make_step.new.core.state.made) (sym c.in_ok-note-in-Step.ensures)
    (told_trap c.args.core.now.state.made c.make_step.new.core.state.made c.in-Some.trap c.args.lines.now.items c.requires c.in-Some.ensures.counted)
