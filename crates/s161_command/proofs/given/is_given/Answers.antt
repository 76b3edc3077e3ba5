use Rattle.std.proofs.Common.{◌∙◌, ap}
use Rattle.std.specs.Prelude.{is_some}
use Rattle.clap.specs.Words.{found_of}
use Rattle.clap.proofs.WalkLemmas.{first_value-rows}
use Rattle.s161_command.proofs.Reading.{given_as}
use Rattle.s161_command.proofs.given.is_given.Goals as goal

pub returns : goal.returns
returns c =
    c.is_some.ensures ∙ given_as (λ s. s.now) c.get_str.result
    ∙ ap is_some (c.get_str.ensures ∙ first_value-rows (found_of c.args.given.now) c.args.name.now)
