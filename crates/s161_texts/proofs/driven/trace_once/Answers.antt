use Rattle.std.proofs.Common.{◌∙◌, [], ◌∷◌, arith, sym}
use Rattle.std.proofs.lemmas.Result.{err_from_is_err_and}
use Rattle.m161_machine.proofs.Made.{counted}
use Rattle.m161_machine.specs.History.{entry}
use Rattle.s161_texts.proofs.Driving.{goes_so}
use Rattle.s161_texts.proofs.Printing.{one_leads}
use Rattle.s161_texts.proofs.driven.trace_once.Goals as goal

pub returns-in_err-add-in-Ok-clause-err : goal.returns-in_err-add-in-Ok-clause-err
returns-in_err-add-in-Ok-clause-err g c =
    let made = err_from_is_err_and c.from_residual.result c.from_residual.ensures.1 in
    rw (made.1, made.2) (
      entry c.in-Some.event c.in-Ok.outcome,
      goes_so c.args.policy.now c.args.cursor.now c.choose.new.self c.took.new.self c.args.machine.now.state c.event.new.self.state c.core.result.now.state c.core-in-Ok.result.now.state c.in-Some.event
          c.in-Ok.outcome c.core.ensures c.core-in-Ok.ensures (sym c.is_off.ensures ∙ c.if-is_off.false) c.in-Some.ensures.event c.in-Some.ensures.after c.in-Ok.ensures.0 c.took.ensures,
      c.in_err-add-in-Ok.ensures.err,
    )

pub returns-in_ok-add-in-Ok-clause-ok : goal.returns-in_ok-add-in-Ok-clause-ok
returns-in_ok-add-in-Ok-clause-ok g c = (
  entry c.in-Some.event c.in-Ok.outcome,
  goes_so c.args.policy.now c.args.cursor.now c.choose.new.self c.took.new.self c.args.machine.now.state c.event.new.self.state c.core.result.now.state c.core-in-Ok.result.now.state c.in-Some.event
      c.in-Ok.outcome c.core.ensures c.core-in-Ok.ensures (sym c.is_off.ensures ∙ c.if-is_off.false) c.in-Some.ensures.event c.in-Some.ensures.after c.in-Ok.ensures.0 c.took.ensures,
  c.in_ok-add-in-Ok.ensures.ok,
)

pub add-requires-clause-few : goal.add-requires-clause-few
add-requires-clause-few g c =
    let s = c.args.machine.now.state in
    let t = c.event.new.self.state in
    let one = entry c.in-Some.event c.in-Ok.outcome ∷ [] in
    let count = counted one s t (one_leads s c.in-Some.event c.in-Ok.outcome t c.in-Ok.ensures.0) in
    let few = c.requires.few in
    let all = c.made-all.ensures in
    let fits = c.made-all.type_inv in
    omega (arith, count, few, all, fits)
