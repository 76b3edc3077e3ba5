use Rattle.std.proofs.Common.{ℕ, List, arith, inl, inr}
use Rattle.std.proofs.lemmas.Bool.{cases_lt}
use Rattle.std.proofs.lemmas.Bool.Decides.{nat_tests}
use Rattle.m161_tlb.specs.declared.row.Row.{Row}
use Rattle.m161_tlb.proofs.Found.{NoneBelow}
use Rattle.m161_tlb_scan.specs.helpers.Blocks.{LacksPage}

-- past rows that are for other pages, there is still none below that matches
pub none_past : (rows : List Row) (page id from to : ℕ) → NoneBelow rows page id from → LacksPage rows page from to → NoneBelow rows page id to
none_past rows page id from to below lacks k here =
    elim (cases_lt k from) [
      | inl before ↦ below k before
      | inr after ↦
          let other = lacks k after here in
          grind (arith, nat_tests)
    ]
