use Rattle.m161_c.proofs.Booting.{all_told, judged_at}
use Rattle.m161_c.proofs.hung.tell_events.Goals as goal

pub returns : goal.returns
returns c =
    let file = c.requires.booted.0 in
    let conf = c.requires.booted.1 in
    let begins = c.requires.booted.2 in
    let s = c.args.booted.now in
    let es = c.args.events.now in
    all_told c.args.few c.args.goal.now s c.args.ends.now es c.in-Ok.judged c.tell.result c.requires.asks
    (judged_at file conf s es c.args.goal.now c.in-Ok.judged begins (c.in-Ok.ensures file conf begins)) c.tell.ensures
