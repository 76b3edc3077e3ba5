use Rattle.std.proofs.Common.{subst, ◌≡◌, ℕ, ◌+◌, ◌-◌, ◌<◌, ◌≤◌, List, get_or, arith, ap, sym, ◌∙◌, inl, inr}
use Rattle.std.proofs.lemmas.Bool.{cases_lt}
use Rattle.std.proofs.lemmas.Bool.Decides.{nat_tests}
use Rattle.m161_tlb.specs.declared.row.Row.{Row}
use Rattle.m161_tlb.specs.Rows.{blank_row, start_row}
use Rattle.m161_tlb_index.specs.Chains.{bucket_of, home, owner, start, IsNext, IsLinked}

-- row i is in bucket i at the start
home_at_start : (rows : List Row) (i : ℕ) → i < 64 → get_or rows i blank_row ≡ start_row i → home rows i ≡ i
unfolding home
home_at_start rows i small is = ap bucket_of is ∙ omega arith

-- the link of a row, alone in its bucket
alone : (bucket : ℕ → ℕ) (i : ℕ) → i < 64 → ((j : ℕ) → j < 64 → bucket j ≡ j) → IsNext bucket (owner bucket i) (start i) 64
alone bucket i small own =
    let owned : owner bucket i ≡ i = grind (arith, nat_tests, own i) in
    let from : start i ≡ i + 1 = grind (arith, nat_tests) in
    record {
      above = omega (arith, from);
      small = omega arith;
      here = λ h. absurd (omega arith);
      first = λ j above below e. absurd (omega (arith, from, owned, e, own j below));
    }

-- the link of bucket i, which has row i alone
only : (bucket : ℕ → ℕ) (i : ℕ) → i < 64 → ((j : ℕ) → j < 64 → bucket j ≡ j) → IsNext bucket (owner bucket (64 + i)) (start (64 + i)) i
only bucket i small own =
    let owned : owner bucket (64 + i) ≡ i = grind (arith, nat_tests) in
    let from : start (64 + i) ≡ 0 = grind (arith, nat_tests) in
    record {
      above = omega (arith, from);
      small = omega arith;
      here = λ h. own i small ∙ sym owned;
      first = λ j above below e. absurd (omega (arith, owned, e, own j (omega arith)));
    }

-- the link of a bucket that has no row
no_row : (bucket : ℕ → ℕ) (at : ℕ) → 128 ≤ at → at < 192 → ((j : ℕ) → j < 64 → bucket j ≡ j) → IsNext bucket (owner bucket at) (start at) 64
no_row bucket at high place own =
    let owned : owner bucket at ≡ at - 64 = grind (arith, nat_tests) in
    let from : start at ≡ 0 = grind (arith, nat_tests) in
    record {
      above = omega (arith, from);
      small = omega arith;
      here = λ h. absurd (omega arith);
      first = λ j above below e. absurd (omega (arith, owned, e, own j below));
    }

-- the same, by the place
linked_bucket : (bucket link : ℕ → ℕ) (at : ℕ) → 64 ≤ at → at < 128 → ((j : ℕ) → j < 64 → bucket j ≡ j) → link (64 + (at - 64)) ≡ at - 64 → IsNext bucket (owner bucket at) (start at) (link at)
linked_bucket bucket link at low high own is =
    let place : 64 + (at - 64) ≡ at = omega arith in
    let next = only bucket (at - 64) (omega arith) own in
    let P : ℕ → Type 0 = λ k. IsNext bucket (owner bucket k) (start k) (link k) in
    subst P place (rw is next)

-- the links at the start
pub linked_at_start : (rows : List Row) (link : ℕ → ℕ) → ((i : ℕ) → i < 64 → get_or rows i blank_row ≡ start_row i) → ((i : ℕ) → i < 64 → link (64 + i) ≡ i) → ((at : ℕ) → at < 64 → link at ≡ 64) → ((at : ℕ) → 128 ≤ at → at < 192 → link at ≡ 64) → IsLinked (home rows) link
linked_at_start rows link made heads nexts empty =
    let own = λ (j : ℕ) (h : j < 64). home_at_start rows j h (made j h) in
    record {
      next = λ at place. elim (cases_lt at 64) [
        | inl row ↦ rw (nexts at row) (alone (home rows) at row own)
        | inr bucket ↦ elim (cases_lt at 128) [
          | inl private ↦ linked_bucket (home rows) link at bucket private own (heads (at - 64) (omega arith))
          | inr shared ↦ rw (empty at shared place) (no_row (home rows) at shared place own)
        ]
      ];
    }
