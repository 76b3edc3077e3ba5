use Rattle.std.proofs.Common.{◌≡◌, ℕ, ◌+◌, ◌<◌, ◌≤◌, suc, zero, List, [], ◌∷◌, ◌++◌, length, refl, ap, sym, ◌∙◌, subst, arith, inl, inr, get_or-set_same, get_or-set_other, length-set}
use Rattle.std.specs.Prelude.{slice_index_or, slice_set}
use Rattle.std.proofs.lemmas.Bool.{cases_eq}
use Rattle.std.proofs.lemmas.List.{get_or_append_left, get_or_push, length_push}
use Rattle.m161_explore.specs.helpers.Keys.{AreChained, AreCuts, AreLinked, IsLast, bucket, bucket_at, parts}
use Rattle.m161_explore.proofs.Steps.{split_place}

-- The chains in which lists are found by a hash.

-- the list with number k is the last of its bucket
last_here : (bucket_of : ℕ → ℕ) (b k : ℕ) → bucket_of k ≡ b → IsLast bucket_of b (k + 1) (k + 1)
last_here bucket_of b k h = record {
  within = omega arith;
  here = λ j e. let same : j ≡ k = omega (arith, e) in ap bucket_of same ∙ h;
  none = λ j l m e. absurd (omega arith);
}

-- the list with number k is in another bucket
last_there : (bucket_of : ℕ → ℕ) (b k x : ℕ) → (bucket_of k ≡ b → ⊥) → IsLast bucket_of b k x → IsLast bucket_of b (k + 1) x
last_there bucket_of b k x h last = record {
  within = omega (arith, last.within);
  here = last.here;
  none = λ j l m e. elim (split_place k j (k + 1) refl m) [
    | inl n ↦ last.none j l n e
    | inr n ↦ h (sym (ap bucket_of n) ∙ e)
  ];
}

-- it depends on the buckets of the lists below n alone
last_alike : (bucket_of other : ℕ → ℕ) (b n x : ℕ) → ((j : ℕ) → j < n → other j ≡ bucket_of j) → IsLast bucket_of b n x → IsLast other b n x
last_alike bucket_of other b n x same last = record {
  within = last.within;
  here = λ j e. same j (omega (arith, last.within, e)) ∙ last.here j e;
  none = λ j l m e. last.none j l m (sym (same j m) ∙ e);
}

last_at : (bucket_of : ℕ → ℕ) (b c n x y : ℕ) → b ≡ c → x ≡ y → IsLast bucket_of b n x → IsLast bucket_of c n y
last_at bucket_of b c n x y e f h =
    let P : ℕ → Type 0 = λ z. IsLast bucket_of z n y in
    let Q : ℕ → Type 0 = λ z. IsLast bucket_of b n z in
    subst P e (subst Q f h)

-- no list is chained yet
pub linked_none : (heads before : List ℕ) (lists : List (List ℕ)) → ((b : ℕ) → b < length heads → slice_index_or heads b 0 ≡ 0) → AreLinked heads before lists 0
linked_none heads before lists zeros = record {
  last = λ b h. record {
    within = omega (arith, zeros b h);
    here = λ j e. absurd (omega (arith, zeros b h, e));
    none = λ j l m e. absurd (omega arith);
  };
  earlier = λ j h. absurd (omega arith);
}

-- there are no lists
pub chained_none : (heads before cuts words : List ℕ) → 0 < length heads → ((b : ℕ) → b < length heads → slice_index_or heads b 0 ≡ 0) →
    before ≡ [] → cuts ≡ 0 ∷ [] → AreChained heads before (parts cuts words)
chained_none heads before cuts words some zeros is_before is_cuts =
    let P : List ℕ → Type 0 = λ x. AreChained heads before (parts x words) in
    subst P (sym is_cuts) (record { some = some; sizes = ap length is_before; linked = linked_none heads before [] zeros })

pub cuts_none : (cuts words : List ℕ) → cuts ≡ 0 ∷ [] → words ≡ [] → AreCuts cuts (length words)
cuts_none cuts words is_cuts is_words =
    let P : List ℕ → Type 0 = λ x. AreCuts x (length words) in
    subst P (sym is_cuts) (sym (ap length is_words))

-- one more list is chained, where its place is there
pub linked_next : (heads before heads2 before2 : List ℕ) (lists : List (List ℕ)) (k b : ℕ) → AreLinked heads before lists k → k < length before →
    b < length heads → b ≡ bucket_at (length heads) lists k →
    before2 ≡ slice_set before k (slice_index_or heads b 0) → heads2 ≡ slice_set heads b (k + 1) → AreLinked heads2 before2 lists (k + 1)
linked_next heads before heads2 before2 lists k b linked within hb is_b is_before is_heads =
    let P : List ℕ → Type 0 = λ x. AreLinked x before2 lists (k + 1) in
    let Q : List ℕ → Type 0 = λ x. AreLinked (slice_set heads b (k + 1)) x lists (k + 1) in
    let size : length (slice_set heads b (k + 1)) ≡ length heads = length-set heads b (k + 1) in
    let of : ℕ → ℕ = bucket_at (length heads) lists in
    let of2 : ℕ → ℕ = bucket_at (length (slice_set heads b (k + 1))) lists in
    let same : (j : ℕ) → of2 j ≡ of j = λ j. ap (λ n. bucket_at n lists j) size in
    subst P (sym is_heads) (subst Q (sym is_before) (record {
      last = λ c h. elim (cases_eq c b) [
        | inl m ↦
            last_at of2 b c (k + 1) (k + 1) (slice_index_or (slice_set heads b (k + 1)) c 0) (sym m)
            (sym (ap (λ x. slice_index_or (slice_set heads b (k + 1)) x 0) m ∙ get_or-set_same heads b (k + 1) 0 hb))
            (last_here of2 b k (same k ∙ sym is_b))
        | inr m ↦
            last_at of2 c c (k + 1) (slice_index_or heads c 0) (slice_index_or (slice_set heads b (k + 1)) c 0) refl
            (sym (get_or-set_other heads b c (k + 1) 0 m))
            (last_there of2 c k (slice_index_or heads c 0) (λ e. m (sym e ∙ same k ∙ sym is_b))
            (last_alike of of2 c k (slice_index_or heads c 0) (λ j l. same j) (linked.last c (omega (arith, h, size)))))
      ];
      earlier = λ j h. elim (cases_eq j k) [
        | inl m ↦
            last_at of2 b (of2 j) j (slice_index_or heads b 0) (slice_index_or (slice_set before k (slice_index_or heads b 0)) j 0)
            (is_b ∙ sym (same k) ∙ sym (ap of2 m))
            (sym (ap (λ x. slice_index_or (slice_set before k (slice_index_or heads b 0)) x 0) m ∙ get_or-set_same before k (slice_index_or heads b 0) 0 within))
            (last_alike of of2 b j (slice_index_or heads b 0) (λ i l. same i)
            (let W : ℕ → Type 0 = λ x. IsLast of b x (slice_index_or heads b 0) in subst W (sym m) (linked.last b hb)))
        | inr m ↦
            last_at of2 (of j) (of2 j) j (slice_index_or before j 0) (slice_index_or (slice_set before k (slice_index_or heads b 0)) j 0)
            (sym (same j))
            (sym (get_or-set_other before k j (slice_index_or heads b 0) 0 m))
            (last_alike of of2 (of j) j (slice_index_or before j 0) (λ i l. same i) (linked.earlier j (let n = split_place k j (k + 1) refl h in elim n [ inl l ↦ l | inr l ↦ absurd (m l) ])))
      ];
    }))

-- a list more, which is not chained yet
linked_more : (heads before : List ℕ) (lists : List (List ℕ)) (words : List ℕ) (x : ℕ) → length before ≡ length lists → AreLinked heads before lists (length lists) →
    AreLinked heads (before ++ x ∷ []) (lists ++ words ∷ []) (length lists)
linked_more heads before lists words x sizes linked =
    let of : ℕ → ℕ = bucket_at (length heads) lists in
    let of2 : ℕ → ℕ = bucket_at (length heads) (lists ++ words ∷ []) in
    let same : (j : ℕ) → j < length lists → of2 j ≡ of j = λ j h. ap (λ y. bucket (length heads) y) (get_or_append_left lists (words ∷ []) [] j h) in
    record {
      last = λ b h. last_alike of of2 b (length lists) (slice_index_or heads b 0) same (linked.last b h);
      earlier = λ j h.
          last_at of2 (of j) (of2 j) j (slice_index_or before j 0) (slice_index_or (before ++ x ∷ []) j 0)
          (sym (same j h)) (sym (get_or_append_left before (x ∷ []) 0 j (omega (arith, sizes, h))))
          (last_alike of of2 (of j) j (slice_index_or before j 0) (λ i l. same i (omega (arith, l, h))) (linked.earlier j h));
    }

-- what stands in a list depends on no default
pub any_default : (xs : List ℕ) (i d e : ℕ) → i < length xs → slice_index_or xs i d ≡ slice_index_or xs i e
any_default [] i d e h = absurd (omega arith)
any_default (x ∷ xs) zero d e h = refl
any_default (x ∷ xs) (suc i) d e h = any_default xs i d e (omega arith)

set_same : (xs : List ℕ) (i x : ℕ) → i < length xs → slice_index_or xs i 0 ≡ x → xs ≡ slice_set xs i x
set_same [] i x h e = absurd (omega arith)
set_same (y ∷ xs) zero x h e = ap (λ z. z ∷ xs) e
set_same (y ∷ xs) (suc i) x h e = ap (λ z. y ∷ z) (set_same xs i x (omega arith) e)

-- a list more, which is chained
pub chained_push : (heads before heads2 before2 : List ℕ) (lists lists2 : List (List ℕ)) (words : List ℕ) (b : ℕ) → AreChained heads before lists →
    b < length heads → b ≡ bucket (length heads) words → lists2 ≡ lists ++ words ∷ [] →
    before2 ≡ before ++ slice_index_or heads b 0 ∷ [] → heads2 ≡ slice_set heads b (length lists + 1) → AreChained heads2 before2 lists2
chained_push heads before heads2 before2 lists lists2 words b chained hb is_b is_lists is_before is_heads =
    let n : ℕ = length lists in
    let x : ℕ = slice_index_or heads b 0 in
    let more : List ℕ = before ++ x ∷ [] in
    let P : List (List ℕ) → Type 0 = λ y. AreChained heads2 before2 y in
    let Q : List ℕ → Type 0 = λ y. AreLinked heads2 y (lists ++ words ∷ []) (n + 1) in
    let W : ℕ → Type 0 = λ y. AreLinked heads2 before2 (lists ++ words ∷ []) y in
    let new : slice_index_or (lists ++ words ∷ []) n [] ≡ words = get_or_push lists words [] n refl in
    let at : slice_index_or more n 0 ≡ x = get_or_push before x 0 n chained.sizes in
    let linked : AreLinked heads2 more (lists ++ words ∷ []) (n + 1) =
    linked_next heads more heads2 more (lists ++ words ∷ []) n b (linked_more heads before lists words x chained.sizes chained.linked)
    (omega (arith, length_push before x, chained.sizes)) hb (is_b ∙ sym (ap (λ y. bucket (length heads) y) new))
    (set_same more n x (omega (arith, length_push before x, chained.sizes)) at) is_heads in
    subst P (sym is_lists) (record {
      some = omega (arith, ap length is_heads, length-set heads b (n + 1), chained.some);
      sizes = omega (arith, ap length is_before, length_push before x, length_push lists words, chained.sizes);
      linked = subst W (sym (length_push lists words)) (subst Q (sym is_before) linked);
    })

-- a walk along a chain, for a list in bucket b: no list from number x on is the wanted one
pub record IsWalked (size : ℕ) (lists : List (List ℕ)) (wanted : List ℕ) (x : ℕ) : Type 0 where
  pub within : x ≤ length lists
  pub here : (j : ℕ) → x ≡ j + 1 → bucket_at size lists j ≡ bucket size wanted
  pub none : (j : ℕ) → x ≤ j → j < length lists → slice_index_or lists j [] ≡ wanted → ⊥
