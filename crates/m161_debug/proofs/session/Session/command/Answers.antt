use Rattle.std.proofs.Common.{◌≡◌, ap, refl, rules, subst, ℕ, List, Err}
use Rattle.m161_debug.specs.Breakpoints.{SessionState}
use Rattle.m161_debug.specs.Commands.{IsAsked}
use Rattle.m161_debug.proofs.session.Session.command.Goals as goal

pub returns-in_err-command : goal.returns-in_err-command
returns-in_err-command g c =
    let e = c.in_err-command.field-0.0 in
    let same : c.self.inside.style.symbols ≡ c.args.self.now.style.symbols =
    ap (λ (s : SessionState). s.style.symbols) c.self.view_is in
    let asked : IsAsked c.args.self.now.style.symbols c.args.line.now (Err e) =
    subst (λ (names : List (List ℕ × ℕ)). IsAsked names c.args.line.now (Err e)) same
    c.in_err-command.ensures in
    let answer : c.from_residual.result ≡ Err e = search rules in
    (Err e, asked, (answer, refl, refl))
