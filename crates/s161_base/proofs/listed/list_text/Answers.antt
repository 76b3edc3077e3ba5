use Rattle.std.proofs.Common.{◌≡◌, Bool, true, false, rules, subst, sym}
use Rattle.s161_base.specs.Listed.{ListsAs, is_log}
use Rattle.s161_base.proofs.Listing.{if_err, if_ok, log_unlisted, schedule_unlisted}
use Rattle.s161_base.proofs.listed.list_text.Goals as goal

pub returns-then-is_log-clause-ok : goal.returns-then-is_log-clause-ok
returns-then-is_log-clause-ok c =
    let is : is_log c.args.text.now ≡ true = search rules in
    if_ok c.list_log.result (λ listed lists. subst (λ (b : Bool). ListsAs b c.args.text.now listed.events listed.named) (sym is) lists) c.list_log.ensures.ok

pub returns-then-is_log-clause-fault : goal.returns-then-is_log-clause-fault
returns-then-is_log-clause-fault c =
    let is : is_log c.args.text.now ≡ true = search rules in
    if_err c.list_log.result (λ fault h. log_unlisted c.args.text.now fault is h) c.list_log.ensures.fault

pub returns-else-is_log-clause-ok : goal.returns-else-is_log-clause-ok
returns-else-is_log-clause-ok c =
    let is : is_log c.args.text.now ≡ false = search rules in
    if_ok c.list_schedule.result (λ listed lists. subst (λ (b : Bool). ListsAs b c.args.text.now listed.events listed.named) (sym is) lists) c.list_schedule.ensures.ok

pub returns-else-is_log-clause-fault : goal.returns-else-is_log-clause-fault
returns-else-is_log-clause-fault c =
    let is : is_log c.args.text.now ≡ false = search rules in
    if_err c.list_schedule.result (λ fault h. schedule_unlisted c.args.text.now fault is h) c.list_schedule.ensures.fault
