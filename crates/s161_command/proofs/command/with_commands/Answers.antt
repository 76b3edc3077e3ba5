use Rattle.std.proofs.Common.{arith, ◌∙◌, ◌<◌, ◌+◌, ap, drop, length, sym}
use Rattle.std.specs.List.{fold}
use Rattle.std.proofs.lemmas.List.{at_drop_more}
use Rattle.clap.specs.Words.{app_of, with_subcommand}
use Rattle.s161_command.specs.helpers.Lines.{with_named}
use Rattle.s161_command.proofs.command.with_commands.Goals as goal

pub loop-name-preserved : goal.loop-name-preserved
loop-name-preserved c =
    let names = c.args.names.now in
    let at = c.loop-name.name-index in
    let within : at < length names = omega arith in
    let added = c.in_ok-program.ensures.shape c.in_ok-command.ensures.local
    ∙ ap (λ app. with_subcommand (app_of c.loop-name.program) app.top) (c.in_ok-command.ensures.shape ∙ c.line_of.ensures) in
    ap (λ app. fold with_named app (drop (at + 1) names)) added
    ∙ sym (at_drop_more (fold with_named (app_of c.loop-name.program)) names at _ within)
    ∙ c.loop-name.invariant
