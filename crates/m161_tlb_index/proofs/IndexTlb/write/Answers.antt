use Rattle.std.proofs.Common.{◌≡◌, ◌∙◌, ap, rules, get_or}
use Rattle.std.proofs.lemmas.List.{get_or_default}
use Rattle.m161_tlb.specs.Rows.{blank_row}
use Rattle.m161_tlb_index.specs.Chains.{bucket_of}
use Rattle.m161_tlb_index.proofs.Rewriting.{precedes_of, rewritten}
use Rattle.m161_tlb_index.proofs.IndexTlb.write.Goals as goal

pub invariant_of-self : goal.invariant_of-self
invariant_of-self c =
    let rows = c.self.inside.rows in
    let i = c.args.i in
    let same = get_or_default rows i c.index-self-i.result blank_row (rw c.self.invariant.0 c.requires) in
    let old_is : c.bucket_of-old.result ≡ bucket_of (get_or rows i blank_row) =
    c.bucket_of-old.ensures.value ∙ ap bucket_of same in (
      search rules,
      search rules,
      rewritten rows c.self.inside.links c.args.row i c.place_before-from.result c.place_before-to.result
          c.self.invariant.0 c.self.invariant.1 c.requires c.self.invariant.2
          (precedes_of rows c.args.self.now _ _ i _ c.self.view_is old_is c.place_before-from.ensures)
          (precedes_of rows c.args.self.now _ _ i _ c.self.view_is c.bucket_of-new.ensures.value c.place_before-to.ensures),
    )
