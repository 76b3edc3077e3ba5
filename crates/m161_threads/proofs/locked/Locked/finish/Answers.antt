use Rattle.std.proofs.Common.{◌≡◌, ◌∙◌, ap, sym, subst, None}
use Rattle.std.specs.Prelude.{sum}
use Rattle.m161_machine.specs.State.{counts}
use Rattle.m161_machine.specs.History.{History}
use Rattle.m161_threads.specs.Shares.{NotedOnlyOff, BookState}
use Rattle.m161_threads.specs.helpers.Shares.{Miscounts}
use Rattle.m161_threads.proofs.locked.Locked.finish.Goals as goal

pub returns-in-None-clause-ok : goal.returns-in-None-clause-ok
returns-in-None-clause-ok g c =
    let before = c.into_inner-book.result.machine in
    let same : c.book.inside.machine ≡ before = ap (λ (t : BookState). t.machine) c.book.view_is ∙ c.gather.ensures.machine in
    subst (λ (h : History). Miscounts h.state c.args.seats.items None) (sym same)
    (subst (Miscounts before.state c.args.seats.items) c.in-None.is c.least_wrong-wrong.ensures)

pub returns-in-None-clause-sums : goal.returns-in-None-clause-sums
returns-in-None-clause-sums g c all =
    let same = ap (λ (t : BookState). t.machine) c.book.view_is ∙ c.gather.ensures.machine in
    ap (λ (h : History). sum (counts h.state)) same ∙ c.gather.ensures.sums all

pub returns-in-None-clause-noted : goal.returns-in-None-clause-noted
returns-in-None-clause-noted g c =
    let same = ap (λ (t : BookState). t.machine) c.book.view_is ∙ c.gather.ensures.machine in
    subst (λ (h : History). NotedOnlyOff h.state c.args.seats.items) (sym same) c.gather.ensures.noted

pub returns-clause-sums : goal.returns-clause-sums
returns-clause-sums g c all =
    let same = ap (λ (t : BookState). t.machine) c.book.view_is ∙ c.gather.ensures.machine in
    ap (λ (h : History). sum (counts h.state)) same ∙ c.gather.ensures.sums all

pub returns-clause-noted : goal.returns-clause-noted
returns-clause-noted g c =
    let same = ap (λ (t : BookState). t.machine) c.book.view_is ∙ c.gather.ensures.machine in
    subst (λ (h : History). NotedOnlyOff h.state c.args.seats.items) (sym same) c.gather.ensures.noted
