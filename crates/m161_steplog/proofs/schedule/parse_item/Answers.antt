use Rattle.std.proofs.Common.{◌≡◌, eqb, get_or, arith}
use Rattle.std.proofs.lemmas.Bool.Decides.{nat_tests}
use Rattle.m161_steplog.proofs.ScheduleLines.{comment, no_item, no_steps_cut, of_parts, once, steps}
use Rattle.m161_steplog.proofs.schedule.parse_item.Goals as goal

pub returns-then-starts_with : goal.returns-then-starts_with
returns-then-starts_with c =
    let e : c.starts_with.result ≡ eqb (get_or c.args.line.now 0 0) 35 = c.starts_with.ensures.byte (omega arith) (omega arith) (λ _ _ h. h) in
    comment c.args.line.now (grind (arith, nat_tests)) (grind (arith, nat_tests))

pub returns-in_default : goal.returns-in_default
returns-in_default c =
    let e : c.starts_with.result ≡ eqb (get_or c.args.line.now 0 0) 35 = c.starts_with.ensures.byte (omega arith) (omega arith) (λ _ _ h. h) in
    once c.args.line.now _ (grind (arith, nat_tests)) (grind (arith, nat_tests)) c.in_ok-parse_done.ensures

pub returns-in_err-parse_done : goal.returns-in_err-parse_done
returns-in_err-parse_done c =
    let e : c.starts_with.result ≡ eqb (get_or c.args.line.now 0 0) 35 = c.starts_with.ensures.byte (omega arith) (omega arith) (λ _ _ h. h) in
    rw c.from_residual.ensures (no_item c.args.line.now (grind (arith, nat_tests)) (grind (arith, nat_tests)) c.in_err-parse_done.ensures (no_steps_cut c.args.line.now c.in_default.ensures))

pub returns-in-Some-parse_event : goal.returns-in-Some-parse_event
returns-in-Some-parse_event c =
    let e : c.starts_with.result ≡ eqb (get_or c.args.line.now 0 0) 35 = c.starts_with.ensures.byte (omega arith) (omega arith) (λ _ _ h. h) in
    once c.args.line.now _ (grind (arith, nat_tests)) (grind (arith, nat_tests)) (of_parts _ _ _ _ _ _ c.in-Some.ensures.1 c.in-Some-parse_event.ensures)

pub returns-in-Some-parse_steps : goal.returns-in-Some-parse_steps
returns-in-Some-parse_steps c =
    let e : c.starts_with.result ≡ eqb (get_or c.args.line.now 0 0) 35 = c.starts_with.ensures.byte (omega arith) (omega arith) (λ _ _ h. h) in
    steps c.args.line.now _ _ (grind (arith, nat_tests)) (grind (arith, nat_tests)) (of_parts _ _ _ _ _ _ c.in-Some.ensures.1 c.in-None.ensures) (of_parts _ _ _ _ _ _ c.in-Some.ensures.1 c.in-Some-parse_steps.ensures)

pub returns-in-None-parse_steps : goal.returns-in-None-parse_steps
returns-in-None-parse_steps c =
    let e : c.starts_with.result ≡ eqb (get_or c.args.line.now 0 0) 35 = c.starts_with.ensures.byte (omega arith) (omega arith) (λ _ _ h. h) in
    no_item c.args.line.now (grind (arith, nat_tests)) (grind (arith, nat_tests)) (of_parts _ _ _ _ _ _ c.in-Some.ensures.1 c.in-None.ensures) (of_parts _ _ _ _ _ _ c.in-Some.ensures.1 c.in-None-parse_steps.ensures)
