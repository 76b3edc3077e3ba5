use Rattle.std.proofs.Common.{◌∙◌, ◌-◌, sym, ap, length}
use Rattle.std.specs.Prelude.{find, is_some}
use Rattle.std.specs.List.{range_with_len}
use Rattle.m161_drive.specs.Ready.{is_ready}
use Rattle.m161_drive.proofs.Finding.{any_found, range_whole}
use Rattle.m161_drive.proofs.ready.some_ready.Goals as goal

pub returns : goal.returns
returns g c =
    let test = is_ready c.args.core.now.state in
    let n = length c.args.core.now.state.processors in
    c.is_some.ensures
    ∙ ap is_some (c.ready_between.ensures ∙ ap (λ k. find test (range_with_len 0 (k - 0))) c.processors.ensures ∙ ap (find test) (range_whole n))
    ∙ sym (any_found test (range_with_len 0 n))
