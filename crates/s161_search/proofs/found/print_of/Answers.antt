use Rattle.std.proofs.Common.{◌∙◌, refl, subst, sym}
use Rattle.std.specs.Prelude.{IfOk}
use Rattle.m161_reach.specs.declared.told.SearchVerdict.TheVariants.{Hung}
use Rattle.s161_search.specs.helpers.Inputs.{given_of}
use Rattle.s161_search.specs.helpers.Tried.{ArePrintedWith}
use Rattle.s161_search.proofs.Telling.{hung_needs, run_needs, whole_printed}
use Rattle.s161_search.proofs.found.print_of.Goals as goal

pub returns-then-is_whole : goal.returns-then-is_whole
returns-then-is_whole c =
    whole_printed c.args.cut c.args.task (given_of c.args.inputs.now) c.args.events.items c.args.told
    (record { verdict = c.args.told.verdict; events = c.args.events }) (sym c.is_whole.ensures ∙ c.if-is_whole.true) refl refl c.requires.told

pub shorten_judged-requires-clause-judged : goal.shorten_judged-requires-clause-judged
shorten_judged-requires-clause-judged c =
    run_needs c.args.cut c.args.task (given_of c.args.inputs.now) c.args.events.items c.args.told c.in-Run.verdict c.in-Run.is c.requires.told

pub shorten_hung-requires-clause-told : goal.shorten_hung-requires-clause-told
shorten_hung-requires-clause-told c =
    (hung_needs c.args.cut c.args.task (given_of c.args.inputs.now) c.args.events.items c.args.told c.in-Hung.is c.requires.told).1

pub returns-in-Run : goal.returns-in-Run
returns-in-Run c =
    subst
    (λ v. IfOk c.shorten_judged.result
    (ArePrintedWith c.args.cut c.args.task (given_of c.args.inputs.now) c.args.events.items (record { verdict = v; events = c.args.told.events })))
    (sym c.in-Run.is) (c.shorten_judged.ensures c.args.cut)

pub returns-in-Hung : goal.returns-in-Hung
returns-in-Hung c =
    let task = c.args.task in
    let given = given_of c.args.inputs.now in
    let cut = (hung_needs c.args.cut task given c.args.events.items c.args.told c.in-Hung.is c.requires.told).0 in
    subst
    (λ v. IfOk c.shorten_hung.result
    (ArePrintedWith c.args.cut task given c.args.events.items (record { verdict = v; events = c.args.told.events })))
    (sym c.in-Hung.is)
    (subst
    (λ b. IfOk c.shorten_hung.result (ArePrintedWith b task given c.args.events.items (record { verdict = Hung; events = c.args.told.events })))
    (sym cut) c.shorten_hung.ensures)
