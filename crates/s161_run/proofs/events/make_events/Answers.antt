use Rattle.std.proofs.Common.{◌≡◌, ◌∙◌, ◌+◌, ap, arith, length, refl, rules, subst, sym, List}
use Rattle.std.proofs.lemmas.List.{length-drop}
use Rattle.m161_drive.specs.Drive.{IsNoted}
use Rattle.m161_machine.specs.declared.event.Entry.{Entry}
use Rattle.s161_run.specs.Runs.{MakesEvents, stop_off}
use Rattle.s161_run.specs.declared.events.RunStop.{RunStop}
use Rattle.s161_run.specs.declared.events.RunStop.TheVariants.{End, Refused}
use Rattle.s161_run.specs.helpers.Events.{EndsAfter}
use Rattle.s161_run.proofs.Making.{makes_so, making_more, making_none, run_passed, run_refused, run_within, stopped_off, switched}
use Rattle.s161_run.proofs.events.make_events.Goals as goal

pub returns-then-is_off-was_off : goal.returns-then-is_off-was_off
returns-then-is_off-was_off g c =
    let before = c.loop-event.invariant in
    let alike = c.in_ok-more.ensures.alike in
    let s = c.args.core.now.state in
    let t = c.make_alike.new.core.state in
    let events = c.args.events.now in
    let made = c.loop-event.made + c.in_ok-more.more in
    let so_far =
    making_more g.N.Notes.has s c.loop-event.core.state t c.args.notes.now c.loop-event.notes c.make_alike.new.notes events c.loop-event.left c.next.new.self
    c.loop-event.made c.in-Some.times c.in-Some.event (c.in_ok-more.more, c.in_ok-more.refusal) before.3 c.in-Some.ensures.steps.0 before.0 alike in
    let off = switched s.board.off c.loop-event.core.state t alike.entries before.1 (search rules) alike.makes.0 in
    subst (λ (stop : RunStop). (entries : List Entry) × MakesEvents s events stop entries t × IsNoted g.N.Notes.has c.args.notes.now entries c.make_alike.new.notes)
    (sym (c.stop_off.ensures ∙ ap stop_off c.conflict.ensures))
    (makes_so g.N.Notes.has s t c.args.notes.now c.make_alike.new.notes events made (stop_off t.conflict) so_far (stopped_off s t events made t.conflict refl off))

pub returns-in-Some-refusal : goal.returns-in-Some-refusal
returns-in-Some-refusal g c =
    let before = c.loop-event.invariant in
    let alike = c.in_ok-more.ensures.alike in
    let s = c.args.core.now.state in
    let t = c.make_alike.new.core.state in
    let events = c.args.events.now in
    let made = c.loop-event.made + c.in_ok-more.more in
    let so_far =
    making_more g.N.Notes.has s c.loop-event.core.state t c.args.notes.now c.loop-event.notes c.make_alike.new.notes events c.loop-event.left c.next.new.self
    c.loop-event.made c.in-Some.times c.in-Some.event (c.in_ok-more.more, c.in_ok-more.refusal) before.3 c.in-Some.ensures.steps.0 before.0 alike in
    let ends = subst (EndsAfter c.in-Some.event c.in-Some.times t c.in_ok-more.more) c.in-Some-refusal.is alike.ends in
    let refused = run_refused events c.loop-event.left c.next.new.self c.loop-event.made c.in_ok-more.more c.in-Some.times c.in-Some.event t c.in-Some-refusal.refusal
    before.3 c.in-Some.ensures.steps.0 ends.0 ends.1 in
    makes_so g.N.Notes.has s t c.args.notes.now c.make_alike.new.notes events made (Refused made c.in-Some-refusal.refusal) so_far (search rules, refl, refused)

pub loop-event-init : goal.loop-event-init
loop-event-init g c =
    (making_none g.N.Notes.has c.args.core.now.state c.args.notes.now c.args.events.now, refl, omega arith, c.runs-left.ensures.all, refl)

pub loop-event-preserved : goal.loop-event-preserved
loop-event-preserved g c =
    let before = c.loop-event.invariant in
    let alike = c.in_ok-more.ensures.alike in
    let s = c.args.core.now.state in
    let t = c.make_alike.new.core.state in
    let events = c.args.events.now in
    let so_far =
    making_more g.N.Notes.has s c.loop-event.core.state t c.args.notes.now c.loop-event.notes c.make_alike.new.notes events c.loop-event.left c.next.new.self
    c.loop-event.made c.in-Some.times c.in-Some.event (c.in_ok-more.more, c.in_ok-more.refusal) before.3 c.in-Some.ensures.steps.0 before.0 alike in
    let all : c.in_ok-more.more ≡ c.in-Some.times = subst (EndsAfter c.in-Some.event c.in-Some.times t c.in_ok-more.more) c.in_default-refusal.is alike.ends in (
      so_far,
      search rules,
      rw all (run_within events c.loop-event.left c.next.new.self c.loop-event.made c.in-Some.times c.in-Some.event before.2 before.3 c.in-Some.ensures.steps.0),
      rw all (run_passed events c.loop-event.left c.next.new.self c.loop-event.made c.in-Some.times c.in-Some.event before.3 c.in-Some.ensures.steps.0),
      c.make_alike.ensures.length ∙ before.4,
    )

pub returns : goal.returns
returns g c =
    let before = c.loop-event.invariant in
    let none = ap length c.in_default.ensures.steps.0 in
    let all : c.loop-event.made ≡ length c.args.events.now =
    (let rest = ap length before.3 in let size = length-drop c.loop-event.made c.args.events.now in omega (arith, before.2, none, rest, size)) in
    makes_so g.N.Notes.has c.args.core.now.state c.loop-event.core.state c.args.notes.now c.loop-event.notes c.args.events.now c.loop-event.made End before.0 (before.1, all)
