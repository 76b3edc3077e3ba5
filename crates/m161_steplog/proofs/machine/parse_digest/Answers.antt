use Rattle.std.proofs.Common.{◌≡◌, ◌≢◌, length, arith}
use Rattle.std.proofs.lemmas.Bool.Decides.{nat_tests}
use Rattle.m161_steplog.proofs.Machines.{no_pair, no_byte, read_all, too_long}
use Rattle.m161_steplog.proofs.machine.parse_digest.Goals as goal

pub returns-in_err-digits : goal.returns-in_err-digits
returns-in_err-digits c = rw c.from_residual.ensures (no_pair c.args.text.now c.loop-k.rest.now c.loop-k.digest c.loop-k.k c.loop-k.invariant.read (omega arith) (λ boundary. let some = c.in_err-digits.ensures.variant.1 boundary in (cc)))

pub returns-in_err-digest : goal.returns-in_err-digest
returns-in_err-digest c = rw c.from_residual-in_err-digest.ensures (no_byte c.args.text.now c.loop-k.rest.now c.in_ok-digits.digits.now c.loop-k.digest c.loop-k.k c.loop-k.invariant.read (omega arith) c.in_ok-digits.ensures.front c.in_err-digest.ensures)

pub returns-then-is_empty : goal.returns-then-is_empty
returns-then-is_empty c =
    let none : length c.loop-k.rest.now ≡ 0 = grind (arith, nat_tests) in
    read_all c.args.text.now c.loop-k.rest.now c.loop-k.digest c.loop-k.k c.loop-k.invariant.read (omega arith) none

pub returns-else-is_empty : goal.returns-else-is_empty
returns-else-is_empty c =
    let some : length c.loop-k.rest.now ≢ 0 = grind (arith, nat_tests) in
    too_long c.args.text.now c.loop-k.rest.now c.loop-k.digest c.loop-k.k c.loop-k.invariant.read (omega arith) some
