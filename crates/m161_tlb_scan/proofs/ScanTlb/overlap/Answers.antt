use Rattle.std.proofs.Common.{sym, ◌≡◌, ◌<◌, length, arith, rules}
use Rattle.m161_tlb.proofs.Found.{overlap_at, no_overlap_at}
use Rattle.m161_tlb_scan.proofs.ScanTlb.overlap.Goals as goal

pub returns-then-is_overlap-clause-lowest : goal.returns-then-is_overlap-clause-lowest
returns-then-is_overlap-clause-lowest c =
    let rows = c.args.self.now in
    let here : c.loop-j.j < 64 = grind arith in
    sym (overlap_at rows c.args.i c.args.row c.loop-j.j here c.loop-j.invariant (search rules))

pub returns-clause-lowest : goal.returns-clause-lowest
returns-clause-lowest c =
    let rows = c.args.self.now in
    let long : length rows ≡ 64 = search rules in
    sym (no_overlap_at rows c.args.i c.args.row (λ k here. c.loop-j.invariant k (omega (arith, long))))
