use Rattle.m161_isa.proofs.OneRow.{one_row, finds_the_row}
use Rattle.m161_decode.proofs.laws.at_most_one_row.Goals as goal

pub returns-clause-one : goal.returns-clause-one
returns-clause-one c = one_row

pub returns-clause-found : goal.returns-clause-found
returns-clause-found c = finds_the_row
