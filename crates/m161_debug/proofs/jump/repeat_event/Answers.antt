use Rattle.m161_debug.proofs.Repeating.{event_made, event_repeats, run_of_one}
use Rattle.m161_debug.proofs.jump.repeat_event.Goals as goal

pub returns-in-Ok : goal.returns-in-Ok
returns-in-Ok g c =
    let log = c.args.past.now.log in
    event_repeats log c.args.past.now.state c.args.first c.args.event c.args.again.now c.event.new.self c.requires.before c.requires.inside
    (run_of_one log c.args.first c.args.event c.requires.inside c.requires.event) (event_made c.args.again.now c.event.new.self c.args.event _ c.in-Ok.ensures)
