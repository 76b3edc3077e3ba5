use Rattle.std.proofs.Common.{◌≡◌, ◌∙◌, [], ap, arith, false, length, subst, sym}
use Rattle.std.proofs.lemmas.List.{length-map}
use Rattle.m161_machine.specs.declared.event.Entry.{Entry}
use Rattle.s161_run.specs.Behind.{GoesBehind, TakesBehind}
use Rattle.s161_run.specs.Driven.{rules_of}
use Rattle.s161_run.specs.helpers.Behind.{is_refused_behind}
use Rattle.s161_run.proofs.Following.{session_long, session_short}
use Rattle.s161_run.proofs.behind.session_behind.Goals as goal

pub returns-then-len-clause-ok : goal.returns-then-len-clause-ok
returns-then-len-clause-ok c =
    let made = c.in_ok-stop.ensures in
    let rules = rules_of c.args.options c.args.keys.now in
    let s = c.args.core.now.state in
    let first = c.args.first.now in
    let goes = subst (λ n. GoesBehind rules n s first c.in_ok-stop.stop made.0 c.make_behind.new.core.state) c.events_left-n.ensures made.1 in
    let noted = made.2 0 [] c.new-events.ensures.items in
    let many : length c.make_behind.new.notes.items ≡ length made.0 = ap length noted ∙ length-map made.0 (λ (e : Entry). e.event) in
    let less = c.if-len.true in
    let a = c.len-2.ensures in
    let b = c.len-3.ensures in
    subst (TakesBehind rules c.args.options.events s first) (sym c.in_ok-to_vec.ensures) (session_short goes (omega (arith, many, less, a, b)))

pub returns-clause-ok : goal.returns-clause-ok
returns-clause-ok c =
    let made = c.in_ok-stop.ensures in
    let rules = rules_of c.args.options c.args.keys.now in
    let s = c.args.core.now.state in
    let first = c.args.first.now in
    let stop = c.in_ok-stop.stop in
    let goes = subst (λ n. GoesBehind rules n s first stop made.0 c.make_behind.new.core.state) c.events_left-n.ensures made.1 in
    let noted = made.2 0 [] c.new-events.ensures.items in
    let many : length c.make_behind.new.notes.items ≡ length made.0 = ap length noted ∙ length-map made.0 (λ (e : Entry). e.event) in
    let none : is_refused_behind stop (length first) ≡ false =
    subst (λ k. is_refused_behind stop k ≡ false) c.len.ensures (sym c.is_refused_behind.ensures ∙ c.if-is_refused_behind.false) in
    let more = c.if-len.false in
    let a = c.len-2.ensures in
    let b = c.len-3.ensures in
    subst (TakesBehind rules c.args.options.events s first) (sym noted) (session_long goes none (omega (arith, many, more, a, b)))
