use Rattle.std.proofs.Common.{◌≡◌, rules}
use Rattle.m161_tlb_index.specs.Chains.{private_bucket, shared_bucket}
use Rattle.m161_tlb_index.proofs.Matches.{lower_overlap}
use Rattle.m161_tlb_index.proofs.Index.overlap_in_chains.Goals as goal

pub returns : goal.returns
returns c =
    let row = c.args.row.now in
    let private_is : c.private_bucket.result ≡ private_bucket row.page row.id = search rules in
    let shared_is : c.shared_bucket.result ≡ shared_bucket row.page = search rules in
    lower_overlap c.args.self.now c.args.i row _ _ _ c.requires (rw (← private_is) c.first_overlap-private.ensures) (rw (← shared_is) c.first_overlap-shared.ensures) c.min.ensures
