use Rattle.std.proofs.Common.{subst}
use Rattle.std.specs.Prelude.{MatchOption}
use Rattle.s161_command.specs.Classes.{IsBadChoice, IsChoice}
use Rattle.s161_command.proofs.class.first_choice.Goals as goal

pub returns : goal.returns
returns c =
    subst (λ text. MatchOption c.choice_of.result (IsBadChoice text) (IsChoice text)) c.text_given.ensures c.choice_of.ensures
