use Rattle.m161_drive.proofs.Fitting.{choice_fits, fit_refused}
use Rattle.m161_drive.proofs.laws.chooses_accepted.Goals as goal

pub returns : goal.returns
returns c = λ rules key cursor s e refusal on choice refused.
    fit_refused e s refusal (choice_fits rules key cursor s e choice) on refused
