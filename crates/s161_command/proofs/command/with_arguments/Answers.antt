use Rattle.std.proofs.Common.{arith, ◌∙◌, ◌<◌, ◌+◌, ◌||◌, ap, ap₂, drop, length, sym}
use Rattle.std.proofs.lemmas.List.{at_drop_more}
use Rattle.clap.specs.Words.{app_of, with_rule}
use Rattle.s161_command.specs.helpers.Lines.{with_arguments}
use Rattle.s161_command.proofs.command.with_arguments.Goals as goal

pub loop-argument-preserved : goal.loop-argument-preserved
loop-argument-preserved c =
    let arguments = c.args.arguments.now in
    let at = c.loop-argument.argument-index in
    let within : at < length arguments = omega arith in
    let added = c.in_ok-command.ensures.shape c.arg_of.ensures.local
    ∙ ap (with_rule (app_of c.loop-argument.command)) c.arg_of.ensures.rule in (
      c.in_ok-command.ensures.globals ∙ ap₂ (λ a b. a || b) c.loop-argument.invariant.0 c.arg_of.ensures.local,
      ap (λ app. with_arguments app (drop (at + 1) arguments)) added
          ∙ sym (at_drop_more (with_arguments (app_of c.loop-argument.command)) arguments at _ within)
          ∙ c.loop-argument.invariant.1,
    )
