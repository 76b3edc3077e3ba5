use Rattle.m161_server.proofs.serving.do_duty.Goals as goal

pub returns-in-Answer-clause-turn : goal.returns-in-Answer-clause-turn
returns-in-Answer-clause-turn g c = rw c.in-Answer.is c.answer_body.ensures.turn
