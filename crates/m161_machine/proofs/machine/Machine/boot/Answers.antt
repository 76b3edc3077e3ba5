use Rattle.m161_machine.proofs.Booted.{loaded}
use Rattle.m161_machine.proofs.machine.Machine.boot.Goals as goal

pub machine_at_boot-requires-clause-loaded : goal.machine_at_boot-requires-clause-loaded
machine_at_boot-requires-clause-loaded g c =
    loaded c.args.file.now c.args.conf c.in_ok-image.image c.in_ok-image.ensures.answer
