use Rattle.std.proofs.Common.{◌<◌, length, sym, subst, take, arith}
use Rattle.std.proofs.lemmas.List.{length-set}
use Rattle.s161_run.specs.helpers.Events.{MakesOf}
use Rattle.s161_run.proofs.Making.{of_one_more, set_more}
use Rattle.s161_run.proofs.events.make_inputs.Goals as goal

pub loop-k-preserved : goal.loop-k-preserved
loop-k-preserved c =
    let e = c.args.event in
    let so_far = c.loop-k.invariant in
    let made = c.in-Ok.ensures.makes in
    let t = c.packed_event.new.self.state in
    let less : c.loop-k.k < length c.loop-k.entries = (let here = c.loop-k-test.true in let long = so_far.1 in omega (arith, here, long)) in (
      subst (λ es. MakesOf e c.args.core.now.state es t) (sym (set_more c.loop-k.k c.loop-k.entries c.in-Ok.entry less))
          (of_one_more e (take c.loop-k.k c.loop-k.entries) c.in-Ok.entry c.args.core.now.state c.loop-k.core.state t so_far.0 made.0 made.1),
      (let long = so_far.1 in let set = length-set c.loop-k.entries c.loop-k.k c.in-Ok.entry in omega (arith, long, set)),
    )
