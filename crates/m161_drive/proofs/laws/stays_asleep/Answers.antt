use Rattle.m161_drive.proofs.Sleeping.{stays_asleep}
use Rattle.m161_drive.proofs.laws.stays_asleep.Goals as goal

pub returns : goal.returns
returns c = λ s. stays_asleep s
