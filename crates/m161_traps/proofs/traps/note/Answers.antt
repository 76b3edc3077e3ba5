use Rattle.std.proofs.Common.{◌≡◌, ◌∙◌, ◌<◌, ap, length, slice_index_or, slice_set, arith}
use Rattle.m161_traps.specs.helpers.Counting.{place_of, with_one_more}
use Rattle.m161_traps.proofs.Counting.{noted_at, noted_behind}
use Rattle.m161_traps.proofs.traps.note.Goals as goal

pub returns-then-place-len : goal.returns-then-place-len
returns-then-place-len c =
    let lines = c.args.lines.now.items in
    let trap = c.args.trap in
    let place : c.place_of-place.result ≡ place_of lines trap = c.place_of-place.ensures ∙ ap (λ ls. place_of ls trap) c.deref.ensures.value in
    let below = c.if-place-len.true in
    let size = c.len.ensures in
    let long = c.deref.ensures.len in
    let within : place_of lines trap < length lines = omega (arith, place, below, size, long) in
    ap (λ line. slice_set lines c.place_of-place.result (with_one_more line)) c.index_mut.ensures.value
    ∙ (λ i. slice_set lines (place i) (with_one_more (slice_index_or lines (place i) c.index_mut.result.now)))
    ∙ noted_at lines trap c.index_mut.result.now within

pub returns : goal.returns
returns c =
    let lines = c.args.lines.now.items in
    let trap = c.args.trap in
    let place : c.place_of-place.result ≡ place_of lines trap = c.place_of-place.ensures ∙ ap (λ ls. place_of ls trap) c.deref.ensures.value in
    let above = c.if-place-len.false in
    let size = c.len.ensures in
    let long = c.deref.ensures.len in
    c.in_ok-push.ensures.items ∙ noted_behind lines trap (omega (arith, place, above, size, long))
