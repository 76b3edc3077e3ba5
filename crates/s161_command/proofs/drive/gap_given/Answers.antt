use Rattle.std.proofs.Common.{subst}
use Rattle.std.specs.Prelude.{MatchOption, option_map}
use Rattle.s161_command.specs.Drives.{IsBadGap, IsGap, gap_by_default}
use Rattle.s161_command.proofs.drive.gap_given.Goals as goal

pub returns : goal.returns
returns c =
    subst (λ text. MatchOption c.gap_of.result (IsBadGap text) (IsGap (gap_by_default c.args.orders) text)) c.text_given.ensures
    (subst (λ default. MatchOption c.gap_of.result (IsBadGap (option_map (λ s. s.now) c.text_given.result)) (IsGap default (option_map (λ s. s.now) c.text_given.result)))
    c.gap_by_default.ensures c.gap_of.ensures)
