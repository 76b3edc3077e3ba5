use Rattle.std.proofs.Common.{sym, ◌≡◌, ◌<◌, length, arith, rules}
use Rattle.m161_tlb.proofs.Found.{found_at, none_at}
use Rattle.m161_tlb_scan.proofs.ScanTlb.find.Goals as goal

pub returns-then-row_matches-clause-lowest : goal.returns-then-row_matches-clause-lowest
returns-then-row_matches-clause-lowest c =
    let rows = c.args.self.now in
    let here : c.loop-i.i < length rows = grind arith in
    sym (found_at rows c.args.page c.args.id c.loop-i.i here c.loop-i.invariant (search rules))

pub returns-clause-lowest : goal.returns-clause-lowest
returns-clause-lowest c =
    let rows = c.args.self.now in
    let long : length rows ≡ 64 = search rules in
    sym (none_at rows c.args.page c.args.id (λ k here. c.loop-block.invariant k (omega (arith, long))))
