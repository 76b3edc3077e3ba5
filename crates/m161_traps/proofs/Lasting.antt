use Rattle.std.proofs.Common.{◌≡◌, ◌∙◌, refl, ap, sym, subst, arith, ℕ, suc, zero, ◌+◌, ◌-◌, ◌*◌, ◌<◌, below_more, inl, inr, Bool, true, false, List, [], ◌∷◌, ◌++◌, append-nil, append_assoc, length, take}
use Rattle.std.specs.Prelude.{◌&&◌, cond, filter, flat_map, map, Option, None, Some, option_map, replicate, slice_get, slice_index_or}
use Rattle.std.specs.List.{All, AllByRecursion, list_all, range_with_len}
use Rattle.std.proofs.lemmas.List.{flat_map_more, get_or-take, get_or_default, length-append, length-take, take_more}
use Rattle.std.proofs.lemmas.Bool.{cases_lt}
use Rattle.std.proofs.lemmas.List.Concat.{flat_map-append}
use Rattle.std.proofs.lemmas.List.Elements.{All-append, recursion_from_All}
use Rattle.std.proofs.lemmas.List.Folds.{list_all-append}
use Rattle.std.proofs.lemmas.List.FromFn.{map-range_with_len_more}
use Rattle.m161_cop0.specs.declared.exception.Exception.{Exception}
use Rattle.m161_cpu.specs.declared.processor.Outcome.{Outcome}
use Rattle.m161_cpu.specs.declared.processor.Outcome.TheVariants.{Ran, Trapped, Idle, PoweredOff, Conflict, Taken}
use Rattle.m161_machine.specs.declared.event.Entry.{Entry}
use Rattle.m161_machine.specs.History.{is_step_of}
use Rattle.m161_traps.specs.declared.trapping.Trapping.{Trapping}
use Rattle.m161_traps.specs.declared.watch.Vectors.{Vectors}
use Rattle.m161_traps.specs.Trapping.{codes_of, counted, is_trap, last_trapping, last_traps, outcomes_of}
use Rattle.m161_traps.specs.Watching.{IsSeen, has_vector}
use Rattle.m161_traps.specs.helpers.Watching.{IsKept, after, after_entry, count_of}

-- A processor's last Steps, with one entry more.

abbrev outcomes : List Entry → List Outcome
outcomes es = map (λ (e : Entry). e.outcome) es

outcomes_more : (p : ℕ) (e : Entry) (xs : List Entry) → outcomes_of p (xs ++ e ∷ []) ≡ outcomes_of p xs ++ outcomes_of p (e ∷ [])
outcomes_more p e [] = refl
outcomes_more p e (x ∷ xs) = by (is_step_of p x.event) (outcomes_more p e xs)
  where
    by : (b : Bool) → outcomes_of p (xs ++ e ∷ []) ≡ outcomes_of p xs ++ outcomes_of p (e ∷ []) →
        outcomes (cond b (x ∷ filter (λ (e : Entry). is_step_of p e.event) (xs ++ e ∷ [])) (filter (λ (e : Entry). is_step_of p e.event) (xs ++ e ∷ [])))
        ≡ outcomes (cond b (x ∷ filter (λ (e : Entry). is_step_of p e.event) xs) (filter (λ (e : Entry). is_step_of p e.event) xs)) ++ outcomes_of p (e ∷ [])
    by true rest = ap (λ os. x.outcome ∷ os) rest
    by false rest = rest

and_true : (b : Bool) → (b && true) ≡ b
and_true true = refl
and_true false = refl

and_false : (b : Bool) → (b && false) ≡ false
and_false true = refl
and_false false = refl

all_more : (os : List Outcome) (o : Outcome) → list_all is_trap (os ++ o ∷ []) ≡ (list_all is_trap os && is_trap o)
all_more os o = list_all-append is_trap os (o ∷ []) ∙ ap (λ b. list_all is_trap os && b) (and_true (is_trap o))

last_more : (os : List Outcome) (o : Outcome) → is_trap o ≡ true → last_traps (os ++ o ∷ []) ≡ last_traps os ++ o ∷ []
last_more [] o h = rw h refl
last_more (x ∷ os) o h =
    let same : list_all is_trap (os ++ o ∷ []) ≡ list_all is_trap os =
    all_more os o ∙ ap (λ b. list_all is_trap os && b) h ∙ and_true (list_all is_trap os) in
    ap (λ b. cond (is_trap x && b) (x ∷ (os ++ o ∷ [])) (last_traps (os ++ o ∷ []))) same
    ∙ by (is_trap x && list_all is_trap os) (last_more os o h)
  where
    by : (b : Bool) → last_traps (os ++ o ∷ []) ≡ last_traps os ++ o ∷ [] →
        cond b (x ∷ (os ++ o ∷ [])) (last_traps (os ++ o ∷ [])) ≡ cond b (x ∷ os) (last_traps os) ++ o ∷ []
    by true rest = refl
    by false rest = rest

last_none : (os : List Outcome) (o : Outcome) → is_trap o ≡ false → last_traps (os ++ o ∷ []) ≡ []
last_none [] o h = rw h refl
last_none (x ∷ os) o h =
    let none : list_all is_trap (os ++ o ∷ []) ≡ false =
    all_more os o ∙ ap (λ b. list_all is_trap os && b) h ∙ and_false (list_all is_trap os) in
    ap (λ b. cond (is_trap x && b) (x ∷ (os ++ o ∷ [])) (last_traps (os ++ o ∷ []))) none
    ∙ ap (λ b. cond b (x ∷ (os ++ o ∷ [])) (last_traps (os ++ o ∷ []))) (and_false (is_trap x))
    ∙ last_none os o h

slice_at : (xs : List Exception) (k : ℕ) → k < length xs → (x : Exception) × (slice_get xs k ≡ Some x)
slice_at [] k h = absurd (let bad : ⊥ = omega (arith, h) in bad)
slice_at (x ∷ xs) zero h = (x, refl)
slice_at (x ∷ xs) (suc k) h = slice_at xs k (omega (arith, h))

slice_last : (xs : List Exception) (x : Exception) → slice_get (xs ++ x ∷ []) (length xs) ≡ Some x
slice_last [] x = refl
slice_last (y ∷ xs) x = slice_last xs x

count_counted : (codes : List Exception) → count_of (counted codes) ≡ length codes
count_counted [] = refl
count_counted (x ∷ xs) =
    let at = slice_at (x ∷ xs) (length (x ∷ xs) - 1) (omega arith) in
    ap (λ (o : Option Exception). count_of (option_map (λ (code : Exception). record { code = code; count = length (x ∷ xs) }) o)) at.1

counted_more : (codes : List Exception) (code : Exception) → counted (codes ++ code ∷ []) ≡ Some (record { code = code; count = count_of (counted codes) + 1 })
counted_more codes code =
    let long : length (codes ++ code ∷ []) ≡ length codes + 1 = length-append codes (code ∷ []) in
    let last : length (codes ++ code ∷ []) - 1 ≡ length codes = omega (arith, long) in
    let count : length (codes ++ code ∷ []) ≡ count_of (counted codes) + 1 =
    long ∙ ap (λ n. n + 1) (sym (count_counted codes)) in
    let found : slice_get (codes ++ code ∷ []) (length (codes ++ code ∷ []) - 1) ≡ Some code =
    ap (slice_get (codes ++ code ∷ [])) last ∙ slice_last codes code in
    (λ i. option_map (λ (c : Exception). record { code = c; count = count i }) (found i))

abbrev ended : List Outcome → Option Trapping
ended os = counted (flat_map codes_of (last_traps os))

ended_plain : (os : List Outcome) (o : Outcome) → is_trap o ≡ false → ended (os ++ o ∷ []) ≡ None
ended_plain os o h = ap (λ l. counted (flat_map codes_of l)) (last_none os o h)

ended_more : (os : List Outcome) (o : Outcome) → ended (os ++ o ∷ []) ≡ after (ended os) o
ended_more os Ran = ended_plain os Ran refl
ended_more os (Trapped code vector) =
    ap (λ l. counted (flat_map codes_of l)) (last_more os (Trapped code vector) refl)
    ∙ ap counted (flat_map-append codes_of (last_traps os) (Trapped code vector ∷ []))
    ∙ counted_more (flat_map codes_of (last_traps os)) code
ended_more os Idle = ended_plain os Idle refl
ended_more os PoweredOff = ended_plain os PoweredOff refl
ended_more os (Conflict row other) = ended_plain os (Conflict row other) refl
ended_more os Taken = ended_plain os Taken refl

pub last_one_more : (p : ℕ) (so_far : List Entry) (e : Entry) → last_trapping p (so_far ++ e ∷ []) ≡ after_entry p e (last_trapping p so_far)
last_one_more p so_far e = ap ended (outcomes_more p e so_far) ∙ by (is_step_of p e.event)
  where
    by : (b : Bool) → ended (outcomes_of p so_far ++ outcomes (cond b (e ∷ []) [])) ≡ cond b (after (last_trapping p so_far) e.outcome) (last_trapping p so_far)
    by true = ended_more (outcomes_of p so_far) e.outcome
    by false = ap ended (append-nil (outcomes_of p so_far))

-- entries of Steps that ran leave it where nothing trapped

quiet_by : (p : ℕ) (so_far es : List Entry) → AllByRecursion (λ (e : Entry). e.outcome ≡ Ran) es → last_trapping p so_far ≡ None → last_trapping p (so_far ++ es) ≡ None
quiet_by p so_far [] ran none = ap (last_trapping p) (append-nil so_far) ∙ none
quiet_by p so_far (e ∷ es) ran none =
    ap (last_trapping p) (sym (append_assoc so_far (e ∷ []) es))
    ∙ quiet_by p (so_far ++ e ∷ []) es ran.1
    (last_one_more p so_far e ∙ ap (after_entry p e) none ∙ ap (λ o. cond (is_step_of p e.event) (after None o) None) ran.0 ∙ by (is_step_of p e.event))
  where
    by : (b : Bool) → ◌≡◌ {A = Option Trapping} (cond b (after None Ran) None) None
    by true = refl
    by false = refl

pub quiet_more : (p : ℕ) (so_far es : List Entry) → All (λ (e : Entry). e.outcome ≡ Ran) es → last_trapping p so_far ≡ None → last_trapping p (so_far ++ es) ≡ None
quiet_more p so_far es ran none = quiet_by p so_far es (recursion_from_All (λ (e : Entry). e.outcome ≡ Ran) es ran) none

-- vectors that were seen

pub seen_still : (v w : Vectors) (o : Outcome) → ((to : ℕ) → has_vector v to ≡ true → has_vector w to ≡ true) → IsSeen v o → IsSeen w o
seen_still v w Ran more h = tt
seen_still v w (Trapped code to) more h = more to h
seen_still v w Idle more h = tt
seen_still v w PoweredOff more h = tt
seen_still v w (Conflict row other) more h = tt
seen_still v w Taken more h = tt

pub seen_ran : (v : Vectors) (es : List Entry) → All (λ (e : Entry). e.outcome ≡ Ran) es → All (λ (e : Entry). IsSeen v e.outcome) es
seen_ran v es ran = λ k d within. subst (IsSeen v) (sym (ran k d within)) tt

pub kept_one : (tails new : List (Option Trapping)) (v w : Vectors) (so_far : List Entry) (e : Entry) →
    ((p : ℕ) → p < 32 → slice_index_or new p None ≡ after_entry p e (slice_index_or tails p None)) → IsSeen w e.outcome →
    ((to : ℕ) → has_vector v to ≡ true → has_vector w to ≡ true) → IsKept tails v so_far → IsKept new w (so_far ++ e ∷ [])
kept_one tails new v w so_far e steps seen more h = record {
  last = λ p low. steps p low ∙ ap (after_entry p e) (h.last p low) ∙ sym (last_one_more p so_far e);
  seen =
      All-append (λ (x : Entry). IsSeen w x.outcome) so_far (e ∷ [])
      (λ k d within. seen_still v w (slice_index_or so_far k d).outcome more (h.seen k d within))
      (one e seen);
}
  where
    one : (e : Entry) → IsSeen w e.outcome → All (λ (x : Entry). IsSeen w x.outcome) (e ∷ [])
    one e h zero d within = h
    one e h (suc k) d within = absurd (let bad : ⊥ = omega (arith, within) in bad)

-- numbers in a row

same_map : (xs : List ℕ) → map (λ x. x) xs ≡ xs
same_map [] = refl
same_map (x ∷ xs) = ap (λ l. x ∷ l) (same_map xs)

range_more : (n : ℕ) → range_with_len 0 (n + 1) ≡ range_with_len 0 n ++ n ∷ []
range_more n =
    sym (same_map (range_with_len 0 (n + 1))) ∙ map-range_with_len_more (λ x. x) 0 n n (omega arith) ∙ ap (λ l. l ++ n ∷ []) (same_map (range_with_len 0 n))

pub texts_more : (f : ℕ → List ℕ) (n : ℕ) → flat_map f (range_with_len 0 (n + 1)) ≡ flat_map f (range_with_len 0 n) ++ f n
texts_more f n = ap (flat_map f) (range_more n) ∙ sym (flat_map_more f [] (range_with_len 0 n) n)

pub same_texts : (f g : ℕ → List ℕ) (a n : ℕ) → ((p : ℕ) → p < a + n → f p ≡ g p) → flat_map f (range_with_len a n) ≡ flat_map g (range_with_len a n)
same_texts f g a zero h = refl
same_texts f g a (suc n) h =
    let first : f a ≡ g a = h a (omega arith) in
    let rest = same_texts f g (a + 1) n (λ p low. h p (omega (arith, low))) in
    (λ i. first i ++ rest i)

-- at the start

abbrev nothing : Option Trapping
nothing = None

pub none_at : (n p : ℕ) → slice_index_or (replicate n nothing) p None ≡ None
none_at zero p = refl
none_at (suc n) zero = refl
none_at (suc n) (suc p) = none_at n p

-- Steps that ran

pub ran_more : (es : List Entry) (k : ℕ) (e : Entry) (a b : Bool) → k < length es → e ≡ slice_index_or es k e → (a && b) ≡ true →
    (a ≡ true → All (λ (e : Entry). e.outcome ≡ Ran) (take k es)) → (b ≡ true → e.outcome ≡ Ran) → All (λ (e : Entry). e.outcome ≡ Ran) (take (k + 1) es)
ran_more es k e true true less at both before here =
    subst (All (λ (e : Entry). e.outcome ≡ Ran)) (ap (λ x. take k es ++ x ∷ []) at ∙ sym (take_more es k e less))
    (All-append (λ (e : Entry). e.outcome ≡ Ran) (take k es) (e ∷ []) (before refl) (one (here refl)))
  where
    one : e.outcome ≡ Ran → All (λ (e : Entry). e.outcome ≡ Ran) (e ∷ [])
    one h zero d within = h
    one h (suc k) d within = absurd (let bad : ⊥ = omega (arith, within) in bad)
ran_more es k e true false less at both before here = absurd cc
ran_more es k e false b less at both before here = absurd cc

-- the same by quarters

pub both_true : (a b : Bool) → (a && b) ≡ true → (a ≡ true) × (b ≡ true)
both_true true true h = (refl, refl)
both_true true false h = absurd cc
both_true false b h = absurd cc

-- the Step at this place ran
abbrev pub RanAt : List Entry → ℕ → Type 0
RanAt es k = (d : Entry) → k < length es → (slice_index_or es k d).outcome ≡ Ran

-- the first n of each quarter ran
abbrev pub QuartersRan : List Entry → ℕ → ℕ → Type 0
QuartersRan es q n = (k : ℕ) → k < n → RanAt es k × RanAt es (q + k) × RanAt es (2 * q + k) × RanAt es (3 * q + k)

pub ran_at : (es : List Entry) (k : ℕ) (e : Entry) → e ≡ slice_index_or es k e → e.outcome ≡ Ran → RanAt es k
ran_at es k e at ran = λ d within.
    ap (λ (x : Entry). x.outcome) (get_or_default es k d e within ∙ sym at) ∙ ran

pub quarters_more : (es : List Entry) (q n : ℕ) → QuartersRan es q n → RanAt es n → RanAt es (q + n) → RanAt es (2 * q + n) → RanAt es (3 * q + n) → QuartersRan es q (n + 1)
quarters_more es q n before a b c d =
    below_more (λ k. RanAt es k × RanAt es (q + k) × RanAt es (2 * q + k) × RanAt es (3 * q + k)) n before (a, b, c, d)

pub quarters_all : (es : List Entry) (q : ℕ) → QuartersRan es q q → All (λ (e : Entry). e.outcome ≡ Ran) (take (4 * q) es)
quarters_all es q ran = λ k d within.
    let size = length-take (4 * q) es in
    let below : k < 4 * q = omega (arith, size, within) in
    let inside : k < length es = omega (arith, size, within) in
    ap (λ (x : Entry). x.outcome) (get_or-take (4 * q) es k d below) ∙ by k below d inside
  where
    at : (i k : ℕ) → i ≡ k → RanAt es i → RanAt es k
    at i k same h = subst (RanAt es) same h

    by : (k : ℕ) → k < 4 * q → RanAt es k
    by k below =
        elim (cases_lt k q) [
          | inl a ↦ (ran k a).0
          | inr a ↦ elim (cases_lt k (2 * q)) [
            | inl b ↦ at (q + (k - q)) k (omega (arith, a)) (ran (k - q) (omega (arith, a, b))).1
            | inr b ↦ elim (cases_lt k (3 * q)) [
              | inl c ↦ at (2 * q + (k - 2 * q)) k (omega (arith, b)) (ran (k - 2 * q) (omega (arith, b, c))).2
              | inr c ↦ at (3 * q + (k - 3 * q)) k (omega (arith, c)) (ran (k - 3 * q) (omega (arith, c, below))).3
            ]
          ]
        ]
