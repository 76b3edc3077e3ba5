use Rattle.std.proofs.Common.{◌≡◌, ◌∙◌, ap, drop, rules, subst, sym, take, None}
use Rattle.m161_machine.specs.History.{Continues, History, events_of, history_at_boot}
use Rattle.m161_debug.specs.Breakpoints.{SessionState}
use Rattle.m161_debug.specs.Jumps.{jump_fault}
use Rattle.m161_debug.proofs.Jumping.{jumped}
use Rattle.m161_debug.proofs.session.Session.jump.Goals as goal

pub returns : goal.returns
returns g c =
    let same : c.self.inside.machine ≡ c.args.self.now.machine =
    ap (λ (s : SessionState). s.machine) c.self.view_is in
    let found : c.jump_fault.result ≡ None = search rules in
    let none : jump_fault c.args.k c.args.self.now.machine ≡ None =
    sym (c.jump_fault.ensures ∙ ap (λ (m : History). jump_fault c.args.k m) same) ∙ found in
    jumped (jump_fault c.args.k c.args.self.now.machine) c.args.k c.args.self.now _
    c.in_ok-undone.undone none
    (record {
      again =
          subst
          (λ (m : History).
          Continues (history_at_boot m.start) (take c.args.k (events_of m.log))
          c.in_ok-self-inside.field-0) same c.in_ok-self-inside.ensures;
      undone_are =
          c.in_ok-undone.ensures ∙ ap (λ (m : History). drop c.args.k (events_of m.log)) same;
      breakpoints = ap (λ (s : SessionState). s.breakpoints) c.self.view_is;
      style = ap (λ (s : SessionState). s.style) c.self.view_is;
    })
