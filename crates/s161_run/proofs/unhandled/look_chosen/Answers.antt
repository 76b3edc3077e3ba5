use Rattle.std.proofs.Common.{◌≡◌, ◌∙◌, None, Some, ap, subst, sym}
use Rattle.m161_drive.specs.Choice.{taken}
use Rattle.m161_drive.specs.Policy.{Rules}
use Rattle.s161_run.specs.Driven.{rules_of}
use Rattle.s161_run.proofs.Looking.{IsFirstChosen, along_begin, along_end, along_found, along_more, along_stuck}
use Rattle.s161_run.proofs.unhandled.look_chosen.Goals as goal

pub returns-in_default-choose : goal.returns-in_default-choose
returns-in_default-choose c =
    let s = c.args.core.now.state in
    let spans = c.args.spans.now in
    let rules : c.in-Ok.policy ≡ rules_of c.args.options c.args.keys.now = c.in-Ok.ensures.1 in
    subst (λ (r : Rules). IsFirstChosen r spans s c.args.n None) rules
    (along_stuck c.in-Ok.policy spans s c.args.n c.loop-k._k c.loop-k.cursor c.loop-k.core.state c.loop-k-test.true c.loop-k.invariant
    (sym c.choose.ensures.event ∙ c.in_default-choose.is))

pub returns-in-Some-2 : goal.returns-in-Some-2
returns-in-Some-2 c =
    let s = c.args.core.now.state in
    let spans = c.args.spans.now in
    let trap = c.in-Some-2.trap in
    let rules : c.in-Ok.policy ≡ rules_of c.args.options c.args.keys.now = c.in-Ok.ensures.1 in
    subst (λ (r : Rules). IsFirstChosen r spans s c.args.n (Some trap)) rules
    (along_found c.in-Ok.policy spans s c.args.n c.loop-k._k c.loop-k.cursor c.loop-k.core.state c.in-Some.event c.loop-k-test.true c.loop-k.invariant
    (sym c.choose.ensures.event ∙ c.in-Some.is) trap (sym c.in_ok-trap.ensures.trap ∙ c.in-Some-2.is))

pub loop-k-init : goal.loop-k-init
loop-k-init c =
    along_begin c.in-Ok.policy c.args.spans.now c.args.core.now.state c.args.n c.new-cursor.result c.new-cursor.ensures

pub loop-k-preserved : goal.loop-k-preserved
loop-k-preserved c =
    along_more c.in-Ok.policy c.args.spans.now c.args.core.now.state c.args.n c.loop-k._k c.loop-k.cursor c.loop-k.core.state c.in-Some.event c.loop-k-test.true
    c.loop-k.invariant (sym c.choose.ensures.event ∙ c.in-Some.is) c.took.new.self c.look.new.core.state
    (sym c.in_ok-trap.ensures.trap ∙ c.in_default-2.is) c.in_ok-trap.ensures.state
    (c.took.ensures ∙ ap (taken c.in-Some.event c.look.new.core.state) c.choose.ensures.after)

pub returns : goal.returns
returns c =
    let s = c.args.core.now.state in
    let spans = c.args.spans.now in
    let rules : c.in-Ok.policy ≡ rules_of c.args.options c.args.keys.now = c.in-Ok.ensures.1 in
    subst (λ (r : Rules). IsFirstChosen r spans s c.args.n None) rules
    (along_end c.in-Ok.policy spans s c.args.n c.loop-k._k c.loop-k.cursor c.loop-k.core.state c.loop-k-test.false c.loop-k.invariant)
