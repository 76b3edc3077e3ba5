use Rattle.std.proofs.Common.{◌≡◌, ◌∙◌, ◌+◌, ◌-◌, ◌≤◌, ap, drop, length, subst, take, arith}
use Rattle.std.specs.Io.KnownBytes.{Appends}
use Rattle.s161_base.specs.Streams.{AppendsSome}
use Rattle.s161_run.specs.helpers.Consoles.{sent_since}
use Rattle.std.proofs.lemmas.List.{length-append, length-drop, take_all}
use Rattle.std.proofs.lemmas.Result.{err_from_is_err_and}
use Rattle.s161_run.proofs.Sending.{event_sends}
use Rattle.s161_run.proofs.Turning.{one_turn}
use Rattle.s161_run.proofs.serving.make_event.Goals as goal

pub slice_bounds-send-count : goal.slice_bounds-send-count
slice_bounds-send-count g c =
    let before = c.args.core.now.state in
    let made = one_turn c.args.policy.now c.args.key c.args.cursor.now c.turn.new.cursor before c.turn.new.core.state c.turn.new.entries c.in-Ok.field-0
    c.turn.ensures.length c.in-Ok.ensures.turn in
    let sends = event_sends before c.turn.new.core.state made.0.event made.0.outcome made.1.accepted in
    let first : length c.output-sent.result.now ≡ length before.board.console.output = ap length c.output-sent.ensures in
    let all : length c.output.result.now ≡ length before.board.console.output + length sends.bytes =
    ap length (c.output.ensures ∙ sends.grown) ∙ length-append before.board.console.output sends.bytes in
    omega (arith, first, all)

pub slice_bounds-send-start : goal.slice_bounds-send-start
slice_bounds-send-start g c =
    let before = c.args.core.now.state in
    let made = one_turn c.args.policy.now c.args.key c.args.cursor.now c.turn.new.cursor before c.turn.new.core.state c.turn.new.entries c.in-Ok.field-0
    c.turn.ensures.length c.in-Ok.ensures.turn in
    let sends = event_sends before c.turn.new.core.state made.0.event made.0.outcome made.1.accepted in
    let first : length c.output-sent.result.now ≡ length before.board.console.output = ap length c.output-sent.ensures in
    let all : length c.output.result.now ≡ length before.board.console.output + length sends.bytes =
    ap length (c.output.ensures ∙ sends.grown) ∙ length-append before.board.console.output sends.bytes in
    let within : length c.output-sent.result.now ≤ length c.output.result.now = omega (arith, first, all) in
    within

pub returns-in_err-send-in-Ok-clause-err : goal.returns-in_err-send-in-Ok-clause-err
returns-in_err-send-in-Ok-clause-err g c =
    let failed = err_from_is_err_and c.from_residual.result c.from_residual.ensures.1 in
    let made = one_turn c.args.policy.now c.args.key c.args.cursor.now c.turn.new.cursor c.args.core.now.state c.turn.new.core.state c.turn.new.entries c.in-Ok.field-0
    c.turn.ensures.length c.in-Ok.ensures.turn in
    let rest = drop (length c.output-sent.result.now) c.output.result.now in
    let size = length-drop (length c.output-sent.result.now) c.output.result.now in
    let since : take (length c.output.result.now - length c.output-sent.result.now) rest ≡ sent_since c.args.core.now.state c.turn.new.core.state =
    take_all (length c.output.result.now - length c.output-sent.result.now) rest (omega (arith, size))
    ∙ (λ i. drop (length (c.output-sent.ensures i)) (c.output.ensures i)) in
    rw (failed.1, failed.2)
    (c.in_err-send-in-Ok.ensures.err.0, made, subst (AppendsSome (g.O.Write.contents c.args.output.now) (g.O.Write.contents c.send.new.output)) since c.in_err-send-in-Ok.ensures.err.1)

pub returns-in_ok-send-in-Ok-clause-ok : goal.returns-in_ok-send-in-Ok-clause-ok
returns-in_ok-send-in-Ok-clause-ok g c =
    let made = one_turn c.args.policy.now c.args.key c.args.cursor.now c.turn.new.cursor c.args.core.now.state c.turn.new.core.state c.turn.new.entries c.in-Ok.field-0
    c.turn.ensures.length c.in-Ok.ensures.turn in
    let rest = drop (length c.output-sent.result.now) c.output.result.now in
    let size = length-drop (length c.output-sent.result.now) c.output.result.now in
    let since : take (length c.output.result.now - length c.output-sent.result.now) rest ≡ sent_since c.args.core.now.state c.turn.new.core.state =
    take_all (length c.output.result.now - length c.output-sent.result.now) rest (omega (arith, size))
    ∙ (λ i. drop (length (c.output-sent.ensures i)) (c.output.ensures i)) in
    (made, subst (Appends (g.O.Write.contents c.args.output.now) (g.O.Write.contents c.send.new.output)) since c.in_ok-send-in-Ok.ensures.ok)
