use Rattle.std.proofs.Common.{◌≡◌, ◌∙◌, ◌++◌, ap, sym, subst, take, drop, arith}
use Rattle.std.proofs.lemmas.List.{append-nil, drop_all, take-append-drop}
use Rattle.m161_machine.specs.History.{Leads}
use Rattle.m161_machine.proofs.Leading.{leads_split}
use Rattle.m161_machine.proofs.window.make_oldest.Goals as goal

pub repeat-requires-clause-accepted : goal.repeat-requires-clause-accepted
repeat-requires-clause-accepted g c =
    let items = c.args.entries.now.items in
    let count = c.read_into-all.result in
    let s = c.args.base.now.state in
    let number = c.read_into-all.ensures.count in
    let long = c.split_at_mut-first.ensures.front_len in
    let within = c.requires.number.0 in
    let none : drop count c.split_at_mut-first.result.0.now ≡ _ =
    drop_all count c.split_at_mut-first.result.0.now (omega (arith, number, long, within)) in
    let dst_is : c.read_into-all.new.dst ≡ take count items =
    c.read_into-all.ensures.read ∙ ap (λ es. take count items ++ es) none ∙ append-nil (take count items) in
    let split = leads_split (take count items) (drop count items) s c.requires.accepted.0
    (subst (λ es. Leads s es c.requires.accepted.0) (sym (take-append-drop count items)) c.requires.accepted.1) in
    (split.0, subst (λ es. Leads s es split.0) (sym dst_is) split.1)
