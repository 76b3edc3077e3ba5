use Rattle.std.proofs.Common.{Some, subst, sym}
use Rattle.m161_debug.specs.Commands.{IsAskedOf}
use Rattle.m161_debug.proofs.command.command_with.Goals as goal

pub returns-in_default : goal.returns-in_default
returns-in_default c =
    let no = c.in_default in
    (no.not-b, (no.not-d, (no.not-s, (no.not-k, (no.not-o, (no.not-g, (no.not-r, (no.not-c, (no.not-t, (no.not-m, (no.not-x, (no.not-l, (no.not-u, (no.not-w, (no.not-a, tt)))))))))))))))

pub returns-in-s : goal.returns-in-s
returns-in-s c =
    subst (λ w. IsAskedOf c.args.symbols.now w (Some c.args.arguments.now) c.steps_of.result)
    (sym c.in-s.is) (c.steps_of.ensures c.args.symbols.now)

pub returns-in-k : goal.returns-in-k
returns-in-k c =
    subst (λ w. IsAskedOf c.args.symbols.now w (Some c.args.arguments.now) c.key_command.result)
    (sym c.in-k.is) (c.key_command.ensures c.args.symbols.now)

pub returns-in-g : goal.returns-in-g
returns-in-g c =
    subst (λ w. IsAskedOf c.args.symbols.now w (Some c.args.arguments.now) c.go_of.result)
    (sym c.in-g.is) (c.go_of.ensures c.args.symbols.now)

pub returns-in-r : goal.returns-in-r
returns-in-r c =
    subst (λ w. IsAskedOf c.args.symbols.now w (Some c.args.arguments.now) c.register_or_all.result)
    (sym c.in-r.is) (c.register_or_all.ensures c.args.symbols.now)

pub returns-in-c : goal.returns-in-c
returns-in-c c =
    subst (λ w. IsAskedOf c.args.symbols.now w (Some c.args.arguments.now) c.cop0_of.result)
    (sym c.in-c.is) (c.cop0_of.ensures c.args.symbols.now)

pub returns-in-t : goal.returns-in-t
returns-in-t c =
    subst (λ w. IsAskedOf c.args.symbols.now w (Some c.args.arguments.now) c.tlb_of.result)
    (sym c.in-t.is) (c.tlb_of.ensures c.args.symbols.now)

pub returns-in-l : goal.returns-in-l
returns-in-l c =
    subst (λ w. IsAskedOf c.args.symbols.now w (Some c.args.arguments.now) c.log_command.result)
    (sym c.in-l.is) (c.log_command.ensures c.args.symbols.now)
