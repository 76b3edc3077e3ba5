use Rattle.m161_debug.proofs.command.command_alone.Goals as goal

pub returns-in_default : goal.returns-in_default
returns-in_default c = λ symbols.
    let no = c.in_default in
    (no.not-b, (no.not-d, (no.not-s, (no.not-k, (no.not-o, (no.not-g, (no.not-r, (no.not-c, (no.not-t, (no.not-m, (no.not-x, (no.not-l, (no.not-u, (no.not-w, (no.not-a, tt)))))))))))))))
