use Rattle.std.proofs.Common.{◌≡◌, ◌∙◌, ap, sym, false, ℕ, get_or}
use Rattle.std.proofs.lemmas.List.{get_or_default}
use Rattle.m161_tlb.specs.Row.{matches}
use Rattle.m161_tlb.specs.Rows.{blank_row}
use Rattle.m161_tlb_index.specs.Chains.{home}
use Rattle.m161_tlb_index.specs.helpers.Search.{is_match}
use Rattle.m161_tlb_index.proofs.Matches.{reaches_first, reaches_next}
use Rattle.m161_tlb_index.proofs.Index.first_match.Goals as goal

pub loop-at-init : goal.loop-at-init
loop-at-init c =
    let rows = c.self.inside.rows in
    rw (← c.self.view_is)
    (reaches_first (home rows) (λ (at : ℕ). get_or c.self.inside.links at 0) c.args.bucket (is_match rows c.args.page c.args.id) c.requires c.self.invariant.2)

pub loop-at-preserved : goal.loop-at-preserved
loop-at-preserved c =
    let rows = c.self.inside.rows in
    let same = get_or_default rows c.loop-at.at c.index-self-at.result blank_row (rw c.self.invariant.0 c.loop-at-test.true) in
    let miss : matches c.args.page c.args.id (get_or rows c.loop-at.at blank_row) ≡ false =
    ap (matches c.args.page c.args.id) (sym same) ∙ sym c.matches.ensures ∙ c.if-not-matches.true in
    rw (← c.self.view_is)
    (reaches_next (home rows) (λ (at : ℕ). get_or c.self.inside.links at 0) c.args.bucket (is_match rows c.args.page c.args.id) c.loop-at.at c.loop-at-test.true c.self.invariant.2
    (rw c.self.view_is c.loop-at.invariant) miss)
