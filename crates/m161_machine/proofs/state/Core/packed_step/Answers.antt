use Rattle.std.proofs.Common.{◌≡◌, refl, sym, Ok, arith, slice_index_or}
use Rattle.m161_machine.specs.declared.event.Event.TheVariants.{Step}
use Rattle.m161_machine.specs.History.{MakesEntry}
use Rattle.m161_machine.proofs.Accepting.{refused}
use Rattle.m161_machine.proofs.Advancing.{one_entry, one_made}
use Rattle.m161_machine.proofs.Given.{gives}
use Rattle.m161_machine.proofs.state.Core.packed_step.Given.{Over}
use Rattle.m161_machine.proofs.state.Core.packed_step.Goals as goal

pub returns-in-Some-clause-makes : goal.returns-in-Some-clause-makes
returns-in-Some-clause-makes g c = (refused c.args.self.now.state (Step c.args.p) c.in-Some.refusal (sym c.in-Some.ensures.value), refl)

-- one Step was made, and its entry is the one that is read
is_made : (g : Over) (c : goal.After-index-kept-0 g) →
    MakesEntry c.args.self.now.state (Step c.args.p) (Ok (slice_index_or c.advance-made.new.kept 0 c.index-kept-0.result)) c.advance-made.new.self.state
is_made g c =
    let made = c.advance-made.ensures in
    let x = slice_index_or c.advance-made.new.kept 0 c.index-kept-0.result in
    let one : c.advance-made.result ≡ 1 = omega (arith, made.within, made.some (omega arith)) in (
      one_entry c.args.p c.args.self.now.state c.advance-made.new.self.state c.advance-made.new.kept c.advance-made.result x c.index-kept-0.result
          one made.length made.advances refl,
      one_made c.args.p c.args.self.now.state c.advance-made.new.self.state c.advance-made.new.kept c.advance-made.result x c.index-kept-0.result
          one made.length made.advances refl,
    )

pub returns-clause-makes : goal.returns-clause-makes
returns-clause-makes g c = is_made g c

pub returns-clause-proper : goal.returns-clause-proper
returns-clause-proper g c =
    let x = slice_index_or c.advance-made.new.kept 0 c.index-kept-0.result in
    (c.in_default.ensures.within.1, gives (Step c.args.p) c.args.self.now.state c.advance-made.new.self.state x.outcome (is_made g c).1)
