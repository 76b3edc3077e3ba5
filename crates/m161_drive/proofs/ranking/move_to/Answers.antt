use Rattle.std.proofs.Common.{◌∙◌, ap, slice_index}
use Rattle.std.specs.List.{insert}
use Rattle.m161_drive.proofs.Moved.{moved_behind}
use Rattle.m161_drive.proofs.ranking.move_to.Goals as goal

pub returns-clause-others : goal.returns-clause-others
returns-clause-others c =
    λ k a b.
    let old = c.args.numbers.now in
    let from = c.args.from in
    let to = c.args.to in
    ap (λ xs. slice_index xs k) (c.put_in.ensures.value ∙ ap (λ xs. insert xs to (slice_index old from)) c.take_out.ensures.value)
    ∙ moved_behind from to k old c.told-numbers c.requires.from c.requires.to a b
