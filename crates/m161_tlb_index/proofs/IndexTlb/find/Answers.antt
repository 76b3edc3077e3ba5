use Rattle.std.proofs.Common.{sym, rules}
use Rattle.m161_tlb_index.proofs.Matches.{lower_match, first_is_found, none_is_found}
use Rattle.m161_tlb_index.proofs.IndexTlb.find.Goals as goal

pub returns-then-first-lt-NONE-clause-lowest : goal.returns-then-first-lt-NONE-clause-lowest
returns-then-first-lt-NONE-clause-lowest c =
    let rows = c.args.self.now in
    let first = lower_match rows c.args.page c.args.id _ _ _ (rw (← c.private_bucket.ensures.value) c.first_match-private.ensures) (rw (← c.shared_bucket.ensures.value) c.first_match-shared.ensures) c.min-first.ensures in
    sym (first_is_found rows c.args.page c.args.id _ (search rules) first c.if-first-lt-NONE.true)

pub returns-else-first-lt-NONE-clause-lowest : goal.returns-else-first-lt-NONE-clause-lowest
returns-else-first-lt-NONE-clause-lowest c =
    let rows = c.args.self.now in
    let first = lower_match rows c.args.page c.args.id _ _ _ (rw (← c.private_bucket.ensures.value) c.first_match-private.ensures) (rw (← c.shared_bucket.ensures.value) c.first_match-shared.ensures) c.min-first.ensures in
    sym (none_is_found rows c.args.page c.args.id _ (search rules) first c.if-first-lt-NONE.false)
