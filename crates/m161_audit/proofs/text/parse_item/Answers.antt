use Rattle.std.proofs.Common.{◌≡◌, eqb, get_or, arith}
use Rattle.std.proofs.lemmas.Bool.Decides.{nat_tests}
use Rattle.m161_audit.proofs.WatchLines.{comment, no_space, none, of_parts, one}
use Rattle.m161_audit.proofs.text.parse_item.Goals as goal

pub returns-then-starts_with : goal.returns-then-starts_with
returns-then-starts_with c =
    let e : c.starts_with.result ≡ eqb (get_or c.args.line.now 0 0) 35 = c.starts_with.ensures.byte (omega arith) (omega arith) (λ _ _ h. h) in
    comment c.args.line.now (grind (arith, nat_tests)) (grind (arith, nat_tests))

pub returns-in_err-kind : goal.returns-in_err-kind
returns-in_err-kind c =
    let e : c.starts_with.result ≡ eqb (get_or c.args.line.now 0 0) 35 = c.starts_with.ensures.byte (omega arith) (omega arith) (λ _ _ h. h) in
    rw c.from_residual.ensures (none c.args.line.now (grind (arith, nat_tests)) (grind (arith, nat_tests)) (no_space c.args.line.now c.in_err-kind.ensures))

pub returns-in_err-watch : goal.returns-in_err-watch
returns-in_err-watch c =
    let e : c.starts_with.result ≡ eqb (get_or c.args.line.now 0 0) 35 = c.starts_with.ensures.byte (omega arith) (omega arith) (λ _ _ h. h) in
    rw c.from_residual-in_err-watch.ensures (none c.args.line.now (grind (arith, nat_tests)) (grind (arith, nat_tests)) (of_parts _ _ _ _ c.in_ok-kind.ensures.1 c.in_err-watch.ensures))

pub returns : goal.returns
returns c =
    let e : c.starts_with.result ≡ eqb (get_or c.args.line.now 0 0) 35 = c.starts_with.ensures.byte (omega arith) (omega arith) (λ _ _ h. h) in
    one c.args.line.now _ (grind (arith, nat_tests)) (grind (arith, nat_tests)) (of_parts _ _ _ _ c.in_ok-kind.ensures.1 c.in_ok-watch.ensures)
