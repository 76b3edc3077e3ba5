use Rattle.std.proofs.Common.{◌∙◌, ap, List, drop, get_or}
use Rattle.std.specs.Prelude.{flat_map, slice_index}
use Rattle.m161_states.specs.Views.{counted, flag_words}
use Rattle.m161_reach.specs.helpers.Restore.{agreed_in}
use Rattle.m161_reach.proofs.Placing.{agreed_there, kept_there}
use Rattle.m161_reach.proofs.Splitting.{rest_all}
use Rattle.m161_reach.proofs.restore.read_beside.Goals as goal

pub returns : goal.returns
returns c = λ x is.
    let flags = flat_map flag_words x.flags in (
      ap (λ (l : List _). get_or l 0 0) is,
      c.optional.ensures ∙ ap (λ l. agreed_in (slice_index l 1) (slice_index l 2)) is ∙ agreed_there x.typed x.agreed (counted flags),
      c.in_ok-kept.ensures x.flags (rest_all 4 c.args.words.now ∙ ap (drop 4) is ∙ kept_there x.typed x.agreed flags),
    )
