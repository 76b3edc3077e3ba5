use Rattle.std.proofs.Common.{◌≡◌, subst, sym, IfSome, Ok}
use Rattle.m161_cpu.specs.declared.fault.Access.{Access}
use Rattle.m161_cpu.specs.declared.fault.Access.TheVariants.{Fetch, Load, Store}
use Rattle.m161_cpu.specs.Processor.{Processor}
use Rattle.m161_cpu.specs.Translation.{physical_at}
use Rattle.m161_cpu.proofs.KeptRows.{found_hit}
use Rattle.m161_cpu.proofs.processor.Cpu.find_kept.Goals as goal

pub returns-in-Fetch : goal.returns-in-Fetch
returns-in-Fetch g c =
    let At : Access → Processor → Type 0 = λ a p. IfSome c.find.result (λ at. physical_at a c.args.width c.args.address p ≡ Ok at) in
    subst (λ a. At a c.args.self.now) (sym c.in-Fetch.is)
    (subst (At Fetch) c.self.view_is
    (found_hit Fetch c.args.width c.args.address c.identifier-id.result _ _ c.find.result c.requires.width c.self.invariant.3
    c.identifier-id.ensures.value c.identifier-id.ensures.small c.find.ensures))

pub returns-in-Load : goal.returns-in-Load
returns-in-Load g c =
    let At : Access → Processor → Type 0 = λ a p. IfSome c.find-in-Load.result (λ at. physical_at a c.args.width c.args.address p ≡ Ok at) in
    subst (λ a. At a c.args.self.now) (sym c.in-Load.is)
    (subst (At Load) c.self.view_is
    (found_hit Load c.args.width c.args.address c.identifier-id.result _ _ c.find-in-Load.result c.requires.width c.self.invariant.4
    c.identifier-id.ensures.value c.identifier-id.ensures.small c.find-in-Load.ensures))

pub returns-in-Store : goal.returns-in-Store
returns-in-Store g c =
    let At : Access → Processor → Type 0 = λ a p. IfSome c.find-in-Store.result (λ at. physical_at a c.args.width c.args.address p ≡ Ok at) in
    subst (λ a. At a c.args.self.now) (sym c.in-Store.is)
    (subst (At Store) c.self.view_is
    (found_hit Store c.args.width c.args.address c.identifier-id.result _ _ c.find-in-Store.result c.requires.width c.self.invariant.5
    c.identifier-id.ensures.value c.identifier-id.ensures.small c.find-in-Store.ensures))
