use Rattle.std.proofs.Common.{refl}
use Rattle.m161_drive.proofs.Driving.{first_set}
use Rattle.m161_drive.proofs.run.make_input.Goals as goal

pub returns-in-Ok-clause-made : goal.returns-in-Ok-clause-made
returns-in-Ok-clause-made g c =
    let made = c.in-Ok.ensures.makes in
    (refl, (c.in-Ok.made, first_set c.args.entries.now c.in-Ok.made c.requires, made.0, made.1, c.took.ensures))
