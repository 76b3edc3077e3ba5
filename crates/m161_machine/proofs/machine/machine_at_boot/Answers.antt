use Rattle.std.proofs.Common.{rules}
use Rattle.m161_machine.specs.History.{Start}
use Rattle.m161_machine.specs.helpers.History.{start_of}
use Rattle.m161_machine.proofs.Booted.{lawful_at_boot}
use Rattle.m161_machine.proofs.machine.machine_at_boot.Goals as goal

pub invariant_of-result : goal.invariant_of-result
invariant_of-result g c =
    let start : Start = start_of c.args.image.bytes.items c.args.image.entry c.args.conf in (
      lawful_at_boot start c.in_ok-base.base.value.state c.in_ok-present.present.value.state
          c.in_ok-window.window.items
          c.requires.loaded c.requires.limits
          (search rules) (search rules) (search rules),
      search rules,
      search rules,
      search rules,
    )
