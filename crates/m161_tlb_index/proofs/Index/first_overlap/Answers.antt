use Rattle.std.proofs.Common.{◌∙◌, sym, ℕ, get_or}
use Rattle.m161_tlb.specs.Rows.{is_overlap}
use Rattle.m161_tlb_index.specs.Chains.{home}
use Rattle.m161_tlb_index.proofs.Matches.{reaches_next}
use Rattle.m161_tlb_index.proofs.Index.first_overlap.Goals as goal

pub loop-at-preserved : goal.loop-at-preserved
loop-at-preserved c =
    let rows = c.self.inside.rows in
    let miss = sym c.is_overlap.ensures ∙ c.if-not-is_overlap.true in
    rw (← c.self.view_is)
    (reaches_next (home rows) (λ (at : ℕ). get_or c.self.inside.links at 0) c.args.bucket (is_overlap rows c.args.i c.args.row.now) c.loop-at.at c.loop-at-test.true c.self.invariant.2
    (rw c.self.view_is c.loop-at.invariant) (rw c.self.view_is miss))
