use Rattle.std.proofs.Common.{◌∙◌, ap, sym}
use Rattle.m161_drive.specs.declared.orders.OrderState.TheVariants.{AtRandom}
use Rattle.m161_drive.specs.helpers.Drive.{gone_on}
use Rattle.m161_drive.proofs.Planned.{priority_gone, words_gone}
use Rattle.m161_drive.proofs.orders.OrderState.go_on.Goals as goal

pub returns-in-AtRandom : goal.returns-in-AtRandom
returns-in-AtRandom c =
    ap AtRandom c.pass_words.ensures ∙ words_gone c.args.more c.in-AtRandom.generator ∙ ap (gone_on c.args.more) (sym c.in-AtRandom.is)

pub returns-in-ByPriority : goal.returns-in-ByPriority
returns-in-ByPriority c =
    c.in-ByPriority.is ∙ priority_gone c.args.more c.in-ByPriority.field-0 ∙ ap (gone_on c.args.more) (sym c.in-ByPriority.is)
