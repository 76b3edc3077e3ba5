use Rattle.std.proofs.Common.{arith, ◌≡◌, ◌≢◌, ◌≤◌, eqb, get_or, length}
use Rattle.std.proofs.lemmas.Bool.Decides.{nat_tests}
use Rattle.s161_debug.proofs.Numbers.{not_plus, not_zero_first, plain}
use Rattle.s161_debug.proofs.asked.parse_long.Goals as goal
use Rattle.s161_debug.proofs.asked.parse_long.Goals.{else-text-gt1-via-then-text-gt1+else-starts_with-2, else-text-gt1-via-else-text-gt1}

pub returns-then-starts_with : goal.returns-then-starts_with
returns-then-starts_with c =
    let e : c.starts_with.result ≡ eqb (get_or c.args.text.now 0 0) 43 = c.starts_with.ensures.byte (omega arith) (omega arith) (λ _ _ h. h) in
    not_plus c.args.text.now (grind (arith, nat_tests))

pub returns-then-starts_with-2 : goal.returns-then-starts_with-2
returns-then-starts_with-2 c =
    let e : c.starts_with-then-text-gt1.result ≡ eqb (get_or c.args.text.now 0 0) 48 = c.starts_with-then-text-gt1.ensures.byte (omega arith) (omega arith) (λ _ _ h. h) in
    not_zero_first c.args.text.now (omega arith) (grind (arith, nat_tests))

pub returns : goal.returns
returns c =
    let e : c.starts_with.result ≡ eqb (get_or c.args.text.now 0 0) 43 = c.starts_with.ensures.byte (omega arith) (omega arith) (λ _ _ h. h) in
    let no_plus : get_or c.args.text.now 0 0 ≢ 43 = grind (arith, nat_tests) in
    let alone : get_or c.args.text.now 0 0 ≡ 48 → length c.args.text.now ≤ 1 = λ zero. elim c.else-text-gt1.branch [
      | else-text-gt1-via-then-text-gt1+else-starts_with-2 w ↦
          let f : w.starts_with-then-text-gt1.result ≡ eqb (get_or c.args.text.now 0 0) 48 = w.starts_with-then-text-gt1.ensures.byte (omega arith) (omega arith) (λ _ _ h. h) in
          absurd (grind (arith, nat_tests))
      | else-text-gt1-via-else-text-gt1 w ↦ omega arith
    ] in
    rw c.ok.ensures.value (plain c.args.text.now c.parse.result c.parse.ensures.value.0 no_plus alone)
