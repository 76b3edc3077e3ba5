use Rattle.std.proofs.Common.{◌≡◌, ◌∙◌, ◌&&◌, nat_le, rules, sym, true}
use Rattle.m161_debug.proofs.Obeying.{no_fault_if, steps_done}
use Rattle.m161_debug.proofs.session.Session.make_steps.Goals as goal

pub returns : goal.returns
returns g c = λ rest.
    let few : c.is_number_of_steps.result ≡ true = search rules in
    steps_done c.args.self.now _ c.args.p c.args.n rest c.go_steps-stop.result _ _ _
    (no_fault_if (nat_le 1 c.args.n && nat_le c.args.n 1000000) (sym c.is_number_of_steps.ensures ∙ few)) c.go_steps-stop.ensures.stop c.go_steps-stop.ensures.breakpoints c.go_steps-stop.ensures.style (search rules)
