use Rattle.std.proofs.Common.{arith, ◌∙◌}
use Rattle.m161_steplog.proofs.Logs.{file_found, file_only, fault_fits, file_err}
use Rattle.m161_steplog.proofs.log.read_log.Goals as goal

pub returns-in-Ok-clause-found : goal.returns-in-Ok-clause-found
returns-in-Ok-clause-found c = file_found c.args.text.now _ _ _ c.pass_comments-comments.ensures.behind c.in-Ok.ensures.found

pub returns-in-Ok-clause-only : goal.returns-in-Ok-clause-only
returns-in-Ok-clause-only c = λ mode es log. file_only c.args.text.now _ _ mode _ es c.pass_comments-comments.ensures.behind c.in-Ok.ensures.found log

pub fault_behind-requires : goal.fault_behind-requires
fault_behind-requires c = fault_fits c.pass_comments-comments.result.0.now c.pass_comments-comments.result.1 _ c.in-Err.fault c.in-Err.ensures.line c.pass_comments-comments.ensures.room (omega arith)

pub returns-in-Err-clause-only : goal.returns-in-Err-clause-only
returns-in-Err-clause-only c = λ mode es log. c.fault_behind.ensures ∙ file_err c.args.text.now _ c.pass_comments-comments.result.1 c.in-Err.fault c.pass_comments-comments.ensures.behind c.in-Err.ensures.line mode es log
