use Rattle.std.proofs.Common.{◌≡◌, ◌≢◌, ℕ, ◌+◌, ◌<◌, ◌≤◌, arith, inl, inr, ap, sym, ◌∙◌}
use Rattle.std.proofs.lemmas.Bool.{cases_eq, cases_lt}
use Rattle.std.proofs.lemmas.Bool.Decides.{nat_tests}
use Rattle.m161_tlb_index.specs.Chains.{owner, start, IsNext, IsLinked}
use Rattle.m161_tlb_index.specs.helpers.Search.{Precedes}

-- The chains over functions: `bucket` from a row's number to its bucket, `link` from a place to the
-- number there. Bucket 128 is no bucket.

-- a bucket has one place that precedes row i
one_place : (bucket : ℕ → ℕ) (b i s t : ℕ) → Precedes bucket b i s → Precedes bucket b i t → s ≡ t
one_place bucket b i s t p q =
    let not_less : s < t → ⊥ = λ h. grind (arith, nat_tests, p.none t, q.none s) in
    let not_more : t < s → ⊥ = λ h. grind (arith, nat_tests, p.none t, q.none s) in
    omega arith

-- a place that doesn't belong to a row that changes has the bucket that it had
pub same_owner : (bucket bucket' : ℕ → ℕ) (i at : ℕ) → at ≢ i → ((j : ℕ) → j ≢ i → bucket' j ≡ bucket j) → owner bucket' at ≡ owner bucket at
same_owner bucket bucket' i at other same = elim (cases_lt at 64) [
  | inl h ↦ grind (arith, nat_tests, same at)
  | inr h ↦ grind (arith, nat_tests)
]

-- the bucket of a place but row i's is below 128
owner_small : (bucket : ℕ → ℕ) (i at : ℕ) → at < 192 → at ≢ i → ((j : ℕ) → j ≢ i → bucket j < 128) → owner bucket at < 128
owner_small bucket i at place away small = elim (cases_lt at 64) [
  | inl h ↦ grind (arith, nat_tests, small at away)
  | inr h ↦ grind (arith, nat_tests)
]

-- row i's place doesn't precede row i
pub not_before : (i : ℕ) → start i ≤ i → i < 64 → ⊥
not_before i below small = grind (arith, nat_tests)

-- links that lead to all rows but row i, which is in no bucket
pub record IsLinkedBut (i : ℕ) (bucket link : ℕ → ℕ) : Type 0 where
  pub next : (at : ℕ) → at < 192 → at ≢ i → IsNext bucket (owner bucket at) (start at) (link at)

-- the place that precedes a row of the bucket leads to it
leads_to : (bucket link : ℕ → ℕ) (i at : ℕ) → i < 64 → IsLinked bucket link → Precedes bucket (bucket i) i at → link at ≡ i
leads_to bucket link i at small linked before =
    let next = linked.next at before.is_place in
    grind (arith, next.first i, before.none (link at), before.owned, next.here)

-- row i is taken out of its chain: the place before it leads where it led
pub taken : (bucket link bucket' link' : ℕ → ℕ) (i before : ℕ) → i < 64 → ((j : ℕ) → bucket j < 128) → IsLinked bucket link → Precedes bucket (bucket i) i before → bucket' i ≡ 128 → ((j : ℕ) → j ≢ i → bucket' j ≡ bucket j) → link' before ≡ link i → ((at : ℕ) → at ≢ before → link' at ≡ link at) → IsLinkedBut i bucket' link'
taken bucket link bucket' link' i before small buckets linked precedes gone same bridged other = record {
  next = λ at place away.
      let owner_is : owner bucket' at ≡ owner bucket at = same_owner bucket bucket' i at away same in
      let next = linked.next at place in
      let own : owner bucket at < 128 = owner_small bucket i at place away (λ j _. buckets j) in
      elim (cases_eq at before) [
        | inl e ↦
            let of : owner bucket at ≡ bucket i = rw e precedes.owned in
            let behind = linked.next i (omega arith) in
            let behind_of : owner bucket i ≡ bucket i = grind (arith, nat_tests) in
            let behind_from : start i ≡ i + 1 = grind (arith, nat_tests) in
            let low : start at ≤ i = rw e precedes.below in
            let leads : link' at ≡ link i = rw e bridged in
            record {
              above = rw leads (omega (arith, behind.above, behind_from));
              small = rw leads behind.small;
              here = λ h.
                  let there : link i < 64 = rw (← leads) h in
                  rw leads (same (link i) (λ f. omega (arith, behind.above, behind_from)) ∙ behind.here there ∙ behind_of ∙ sym of ∙ sym owner_is);
              first = λ j from below e'. elim (cases_eq j i) [
                | inl f ↦ absurd (omega (arith, gone, (ap bucket' f), owner_is))
                | inr other-j ↦
                    let in_bucket : bucket j ≡ bucket i = sym (same j other-j) ∙ e' ∙ owner_is ∙ of in
                    elim (cases_lt j i) [
                      | inl h ↦ precedes.none j (rw (← e) from) h in_bucket
                      | inr h ↦ behind.first j (omega (arith, behind_from)) (rw (← leads) below) (in_bucket ∙ sym behind_of)
                    ]
              ];
            }
        | inr ne ↦
            let leads : link' at ≡ link at = other at ne in
            let not_i : link at ≢ i = λ f.
            let of : owner bucket at ≡ bucket i = sym (next.here (omega arith)) ∙ ap bucket f in
            let also : Precedes bucket (bucket i) i at = record {
              is_place = place;
              owned = of;
              below = rw (← f) next.above;
              none = λ j from below e. next.first j from (rw f below) (e ∙ sym of);
            } in
            ne (one_place bucket (bucket i) i at before also precedes) in
            record {
              above = rw leads next.above;
              small = rw leads next.small;
              here = λ h. rw leads (same (link at) not_i ∙ next.here (rw (← leads) h) ∙ sym owner_is);
              first = λ j from below e. elim (cases_eq j i) [
                | inl f ↦ absurd (omega (arith, gone, (ap bucket' f), owner_is))
                | inr other-j ↦ next.first j from (rw (← leads) below) (sym (same j other-j) ∙ e ∙ owner_is)
              ];
            }
      ];
}

-- row i is put into a chain: its link leads where that of the place before it led
put_here : (bucket link bucket' link' : ℕ → ℕ) (i b before : ℕ) → i < 64 → b < 128 → IsLinkedBut i bucket link → Precedes bucket b i before → bucket i ≡ 128 → bucket' i ≡ b → ((j : ℕ) → j ≢ i → bucket' j ≡ bucket j) → link' i ≡ link before → IsNext bucket' (owner bucket' i) (start i) (link' i)
put_here bucket link bucket' link' i b before small b_small linked precedes gone in_b same from_i =
    let apart : before ≢ i = λ f. not_before i (rw f at precedes.below) small in
    let next = linked.next before precedes.is_place apart in
    let owned : owner bucket' i ≡ b = grind (arith, nat_tests, in_b) in
    let from : start i ≡ i + 1 = grind (arith, nat_tests) in
    let not_below : link before < i → ⊥ = λ h. precedes.none (link before) next.above h (next.here (omega arith) ∙ precedes.owned) in
    let not_i : link before ≢ i = λ f. omega (arith, ap bucket f, next.here (omega arith), precedes.owned) in
    record {
      above = rw from_i (omega (arith, from));
      small = rw from_i next.small;
      here = λ h. rw from_i (same (link before) not_i ∙ next.here (rw (← from_i) h) ∙ precedes.owned ∙ sym owned);
      first = λ j above below e.
          let other : j ≢ i = λ f. omega (arith, from) in
          next.first j (omega (arith, from, precedes.below)) (rw (← from_i) below) (sym (same j other) ∙ e ∙ owned ∙ sym precedes.owned);
    }

-- the place before it leads to it
put_before : (bucket bucket' link' : ℕ → ℕ) (i b before : ℕ) → i < 64 → Precedes bucket b i before → bucket' i ≡ b → ((j : ℕ) → j ≢ i → bucket' j ≡ bucket j) → link' before ≡ i → IsNext bucket' (owner bucket' before) (start before) (link' before)
put_before bucket bucket' link' i b before small precedes in_b same to_i =
    let apart : before ≢ i = λ f. not_before i (rw f at precedes.below) small in
    let owned : owner bucket' before ≡ b = same_owner bucket bucket' i before apart same ∙ precedes.owned in
    record {
      above = rw to_i precedes.below;
      small = rw to_i (omega arith);
      here = λ h. rw to_i (in_b ∙ sym owned);
      first = λ j above below e.
          let low : j < i = rw (← to_i) below in
          precedes.none j above low (sym (same j (λ f. omega arith)) ∙ e ∙ owned);
    }

-- any other place leads where it led
put_elsewhere : (bucket link bucket' link' : ℕ → ℕ) (i b before at : ℕ) → at < 192 → at ≢ i → at ≢ before → i < 64 → ((j : ℕ) → j ≢ i → bucket j < 128) → IsLinkedBut i bucket link → Precedes bucket b i before → bucket i ≡ 128 → bucket' i ≡ b → ((j : ℕ) → j ≢ i → bucket' j ≡ bucket j) → link' at ≡ link at → IsNext bucket' (owner bucket' at) (start at) (link' at)
put_elsewhere bucket link bucket' link' i b before at place away ne small buckets linked precedes gone in_b same leads =
    let owner_is : owner bucket' at ≡ owner bucket at = same_owner bucket bucket' i at away same in
    let next = linked.next at place away in
    let own : owner bucket at < 128 = owner_small bucket i at place away buckets in
    let not_i : link at ≢ i = λ f. omega (arith, ap bucket f, next.here (omega arith)) in
    record {
      above = rw leads next.above;
      small = rw leads next.small;
      here = λ h. rw leads (same (link at) not_i ∙ next.here (rw (← leads) h) ∙ sym owner_is);
      first = λ j above below e.
          let low : j < link at = rw (← leads) below in
          elim (cases_eq j i) [
            | inl f ↦
                let of : owner bucket at ≡ b = sym owner_is ∙ sym e ∙ ap bucket' f ∙ in_b in
                let also : Precedes bucket b i at = record {
                  is_place = place;
                  owned = of;
                  below = rw (← f) above;
                  none = λ k from under e'. next.first k from (omega arith) (e' ∙ sym of);
                } in
                ne (one_place bucket b i at before also precedes)
            | inr other ↦ next.first j above low (sym (same j other) ∙ e ∙ owner_is)
          ];
    }

-- row i is put into a chain: the place before it leads to it, and it leads where that led
pub put : (bucket link bucket' link' : ℕ → ℕ) (i b before : ℕ) → i < 64 → b < 128 → ((j : ℕ) → j ≢ i → bucket j < 128) → IsLinkedBut i bucket link → Precedes bucket b i before → bucket i ≡ 128 → bucket' i ≡ b → ((j : ℕ) → j ≢ i → bucket' j ≡ bucket j) → link' before ≡ i → link' i ≡ link before → ((at : ℕ) → at ≢ before → at ≢ i → link' at ≡ link at) → IsLinked bucket' link'
put bucket link bucket' link' i b before small b_small buckets linked precedes gone in_b same to_i from_i other = record {
  next = λ at place. elim (cases_eq at i) [
    | inl e ↦ rw e (put_here bucket link bucket' link' i b before small b_small linked precedes gone in_b same from_i)
    | inr away ↦ elim (cases_eq at before) [
      | inl e ↦ rw e (put_before bucket bucket' link' i b before small precedes in_b same to_i)
      | inr ne ↦ put_elsewhere bucket link bucket' link' i b before at place away ne small buckets linked precedes gone in_b same (other at ne away)
    ]
  ];
}
