use Rattle.std.proofs.Common.{◌≡◌, ◌∙◌, refl, ap, subst, ℕ, ◌<◌, ◌≤◌, Bool, true, false, List, [], ◌∷◌, length, arith, get_or-set_same}
use Rattle.std.proofs.Math.ListN.{get_or-eq_default}
use Rattle.std.proofs.lemmas.Bool.Decides.{Decides-eqb, nat_tests}
use Rattle.std.proofs.lemmas.List.{get_or-replicate, get_or-set_other, length-replicate, length-set}
use Rattle.std.specs.Prelude.{◌==◌, ◌&&◌, ◌||◌, nat_lt, not, if◌then◌else◌, slice_set}
use Rattle.std.specs.List.{list_any}
use Rattle.s161_texts.specs.declared.shared.Mark.{Mark}
use Rattle.s161_texts.specs.declared.shared.Mark.TheVariants.{Untouched, One, Several}
use Rattle.s161_texts.specs.declared.shared.SharedWords.{SharedWords}
use Rattle.s161_texts.specs.Shared.{Touch, are_two, is_shared, is_stored, users_of}
use Rattle.s161_texts.specs.helpers.Marks.{is_mark_shared, is_marked, mark_after, mark_at, marked, marks_after, no_marks}

-- The marks say which words are shared.

-- the mark of one word, after touches of any
abbrev pub after_all : ℕ → Mark → List Touch → Mark
after_all word m [] = m
after_all word m (t ∷ ts) = after_all word (if t.word == word then mark_after m t.processor t.stores else m) ts

-- it is shared as the touches are

abbrev others : ℕ → List ℕ → Bool
others p ps = list_any (λ q. not (q == p)) ps

same_several : (st x : Bool) (r : Bool) → ((st || x) || r) ≡ (st || (x || r))
same_several true x r = refl
same_several false x r = refl

several : (word : ℕ) (ts : List Touch) (st : Bool) → is_mark_shared (after_all word (Several st) ts) ≡ (st || is_stored word ts)
several word [] true = refl
several word [] false = refl
several word (t ∷ ts) st = by (t.word == word) refl (several word ts)
  where
    by : (here : Bool) → (t.word == word) ≡ here → ((x : Bool) → is_mark_shared (after_all word (Several x) ts) ≡ (x || is_stored word ts)) →
        is_mark_shared (after_all word (Several st) (t ∷ ts)) ≡ (st || is_stored word (t ∷ ts))
    by true is more = rw is (more (st || t.stores) ∙ same_several st t.stores (is_stored word ts))
    by false is more = rw is (more st)

one : (word p : ℕ) (ts : List Touch) (st : Bool) → is_mark_shared (after_all word (One p st) ts) ≡ (others p (users_of word ts) && (st || is_stored word ts))
one word p [] st = refl
one word p (t ∷ ts) st = by (t.word == word) (t.processor == p) refl refl (one word p ts)
  where
    by : (here same : Bool) → (t.word == word) ≡ here → (t.processor == p) ≡ same →
        ((x : Bool) → is_mark_shared (after_all word (One p x) ts) ≡ (others p (users_of word ts) && (x || is_stored word ts))) →
        is_mark_shared (after_all word (One p st) (t ∷ ts)) ≡ (others p (users_of word (t ∷ ts)) && (st || is_stored word (t ∷ ts)))
    by true true is e more =
        rw (is, e) (more (st || t.stores) ∙ ap (λ x. others p (users_of word ts) && x) (same_several st t.stores (is_stored word ts)))
    by true false is e more = rw (is, e) (several word ts (st || t.stores) ∙ same_several st t.stores (is_stored word ts))
    by false same is e more = rw is (more st)

none : (word : ℕ) (ts : List Touch) → is_mark_shared (after_all word Untouched ts) ≡ (are_two (users_of word ts) && is_stored word ts)
none word [] = refl
none word (t ∷ ts) = by (t.word == word) refl (none word ts)
  where
    by : (here : Bool) → (t.word == word) ≡ here →
        is_mark_shared (after_all word Untouched ts) ≡ (are_two (users_of word ts) && is_stored word ts) →
        is_mark_shared (after_all word Untouched (t ∷ ts)) ≡ (are_two (users_of word (t ∷ ts)) && is_stored word (t ∷ ts))
    by true is more = rw is (one word t.processor ts t.stores)
    by false is more = rw is more

-- the mark of a word among all

at_marked : (marks : List Mark) (t : Touch) (word : ℕ) (less here : Bool) → nat_lt t.word (length marks) ≡ less → (t.word == word) ≡ here → word < length marks →
    mark_at (if less then slice_set marks t.word (mark_after (mark_at marks t.word) t.processor t.stores) else marks) word
    ≡ (if here then mark_after (mark_at marks word) t.processor t.stores else mark_at marks word)
at_marked marks t word true true lt e within =
    let is : t.word ≡ word = (Decides-eqb t.word word).0 e in
    let m = mark_after (mark_at marks t.word) t.processor t.stores in
    subst (λ v. mark_at (slice_set marks t.word m) v ≡ mark_after (mark_at marks v) t.processor t.stores) is
    (get_or-set_same marks t.word m Untouched (omega (arith, is, within)))
at_marked marks t word true false lt e within =
    get_or-set_other marks t.word word (mark_after (mark_at marks t.word) t.processor t.stores) Untouched (λ is. grind (arith, nat_tests, is, e))
at_marked marks t word false true lt e within =
    absurd (let is : t.word ≡ word = (Decides-eqb t.word word).0 e in let bad : ⊥ = grind (arith, nat_tests, is, lt, within) in bad)
at_marked marks t word false false lt e within = refl

as_many : (marks : List Mark) (t : Touch) (less : Bool) →
    length (if less then slice_set marks t.word (mark_after (mark_at marks t.word) t.processor t.stores) else marks) ≡ length marks
as_many marks t true = length-set marks t.word (mark_after (mark_at marks t.word) t.processor t.stores)
as_many marks t false = refl

after_marks : (word : ℕ) (ts : List Touch) (marks : List Mark) → word < length marks → mark_at (marks_after marks ts) word ≡ after_all word (mark_at marks word) ts
after_marks word [] marks within = refl
after_marks word (t ∷ ts) marks within =
    let less = nat_lt t.word (length marks) in
    after_marks word ts (marked marks t) (omega (arith, as_many marks t less, within))
    ∙ ap (λ m. after_all word m ts) (at_marked marks t word less (t.word == word) refl refl within)

as_many_after : (ts : List Touch) (marks : List Mark) → length (marks_after marks ts) ≡ length marks
as_many_after [] marks = refl
as_many_after (t ∷ ts) marks = as_many_after ts (marked marks t) ∙ as_many marks t (nat_lt t.word (length marks))

pub shared_if : (words : ℕ) (ts : List Touch) (word : ℕ) (less : Bool) → nat_lt word words ≡ less →
    is_mark_shared (mark_at (marks_after (no_marks words) ts) word) ≡ (less && (are_two (users_of word ts) && is_stored word ts))
shared_if words ts word true lt =
    let here : word < words = grind (arith, nat_tests, lt) in
    let within : word < length (no_marks words) = omega (arith, length-replicate words Untouched, here) in
    ap is_mark_shared (after_marks word ts (no_marks words) within ∙ ap (λ m. after_all word m ts) (get_or-replicate words word Untouched Untouched here))
    ∙ none word ts
shared_if words ts word false lt =
    let past : words ≤ word = grind (arith, nat_tests, lt) in
    ap is_mark_shared (get_or-eq_default (marks_after (no_marks words) ts) Untouched
    (omega (arith, as_many_after ts (no_marks words), length-replicate words Untouched, past)))

-- the words that are shared are those of the marks
pub marks_tell : (shared : SharedWords) (words : ℕ) (ts : List Touch) → shared.marks.items ≡ marks_after (no_marks words) ts → is_marked shared ≡ is_shared words ts
marks_tell shared words ts are = λ i word. (ap (λ marks. is_mark_shared (mark_at marks word)) are ∙ shared_if words ts word (nat_lt word words) refl) i
