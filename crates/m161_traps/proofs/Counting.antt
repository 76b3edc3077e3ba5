use Rattle.std.proofs.Common.{◌≡◌, ◌∙◌, refl, ap, sym, subst, arith, ℕ, suc, ◌+◌, ◌<◌, ◌≤◌, ◌^◌, Bool, true, false, List, [], ◌∷◌, ◌++◌, append-nil, append_assoc, length, slice_index_or, slice_set}
use Rattle.std.specs.Prelude.{◌==◌, ◌&&◌, not, cond, count_by, filter, option_to_list, None, Some, Ok}
use Rattle.std.specs.List.{All, AllByRecursion}
use Rattle.std.proofs.lemmas.List.{length-append}
use Rattle.std.proofs.lemmas.List.Elements.{All-from_recursion}
use Rattle.std.proofs.lemmas.List.Sums.{count_by-le-length, sum_by-append}
use Rattle.std.proofs.lemmas.Bool.Decides.{nat_tests}
use Rattle.m161_cop0.specs.Registers.{number_of_exception}
use Rattle.m161_cpu.specs.declared.processor.Outcome.{Outcome}
use Rattle.m161_machine.specs.declared.event.Event.{Event}
use Rattle.m161_machine.specs.State.{State, next}
use Rattle.m161_machine.specs.History.{entry}
use Rattle.m161_machine.proofs.Made.{counted}
use Rattle.m161_traps.specs.declared.traps.Trap.{Trap}
use Rattle.m161_traps.specs.declared.traps.TrapLine.{TrapLine}
use Rattle.m161_traps.specs.Traps.{is_like, lines_of, state_after, state_behind, trap_of, traps_of}
use Rattle.m161_traps.specs.helpers.Counting.{AreTold, Passes, noted, place_of, with_one_more}

-- Counting traps, one behind the other.

-- numbers

both : (a b : Bool) → (a && b) ≡ true → (a ≡ true) × (b ≡ true)
both true true h = (refl, refl)
both true false h = absurd cc
both false b h = absurd cc

same_number : (a b : ℕ) → (a == b) ≡ true → a ≡ b
same_number a b h = grind (arith, nat_tests, h)

-- what is like one of two that are alike is like the other
like_same : (x l y : Trap) → is_like l y ≡ true → is_like x l ≡ is_like x y
like_same x l y h =
    let parts = both (l.processor == y.processor) (number_of_exception l.code == number_of_exception y.code) h in
    let p = same_number l.processor y.processor parts.0 in
    let n = same_number (number_of_exception l.code) (number_of_exception y.code) parts.1 in
    λ i. (x.processor == p i) && (number_of_exception x.code == n i)

-- the lines of those that aren't like a trap

abbrev unlike : Trap → TrapLine → Bool
unlike x line = not (is_like x line.first)

abbrev first_line : Trap → TrapLine
first_line y = record { first = y; count = 1 }

-- one that is like it changes none of them
without_like : (x y : Trap) (ls : List TrapLine) → is_like x y ≡ true → filter (unlike x) (noted ls y) ≡ filter (unlike x) ls
without_like x y [] h = rw h refl
without_like x y (l ∷ ls) h = by (is_like l.first y) refl (without_like x y ls h)
  where
    by : (b : Bool) → is_like l.first y ≡ b → filter (unlike x) (noted ls y) ≡ filter (unlike x) ls →
        filter (unlike x) (cond b (with_one_more l ∷ ls) (l ∷ noted ls y)) ≡ filter (unlike x) (l ∷ ls)
    by true like rest = let is : is_like x l.first ≡ true = like_same x l.first y like ∙ h in rw is refl
    by false apart rest = ap (λ some. cond (unlike x l) (l ∷ some) some) rest

-- one that isn't is counted among them
with_unlike : (x y : Trap) (ls : List TrapLine) → is_like x y ≡ false → filter (unlike x) (noted ls y) ≡ noted (filter (unlike x) ls) y
with_unlike x y [] h = rw h refl
with_unlike x y (l ∷ ls) h = by (is_like l.first y) refl (with_unlike x y ls h)
  where
    kept : (b : Bool) → is_like l.first y ≡ false → filter (unlike x) (noted ls y) ≡ noted (filter (unlike x) ls) y →
        cond b (l ∷ filter (unlike x) (noted ls y)) (filter (unlike x) (noted ls y)) ≡ noted (cond b (l ∷ filter (unlike x) ls) (filter (unlike x) ls)) y
    kept true apart rest = rw apart (ap (λ some. l ∷ some) rest)
    kept false apart rest = rest

    by : (b : Bool) → is_like l.first y ≡ b → filter (unlike x) (noted ls y) ≡ noted (filter (unlike x) ls) y →
        filter (unlike x) (cond b (with_one_more l ∷ ls) (l ∷ noted ls y)) ≡ noted (filter (unlike x) (l ∷ ls)) y
    by true like rest = let is : is_like x l.first ≡ false = like_same x l.first y like ∙ h in rw (is, like) refl
    by false apart rest = kept (unlike x l) apart rest

count_append : (p : Trap → Bool) (xs : List Trap) (y : Trap) → count_by p (xs ++ y ∷ []) ≡ count_by p xs + cond (p y) 1 0
count_append p xs y = let sum = sum_by-append (λ x. cond (p x) 1 0) xs (y ∷ []) in omega (arith, sum)

-- the lines of some traps and one more
pub noted_one : (xs : List Trap) (y : Trap) → noted (lines_of xs) y ≡ lines_of (xs ++ y ∷ [])
noted_one [] y = refl
noted_one (x ∷ xs) y = by (is_like x y) refl (ap (filter (unlike x)) (noted_one xs y))
  where
    count : ℕ
    count = count_by (is_like x) xs + 1

    rest : List TrapLine
    rest = filter (unlike x) (lines_of xs)

    line : ℕ → TrapLine
    line n = record { first = x; count = n }

    more : (b : Bool) → is_like x y ≡ b → count_by (is_like x) (xs ++ y ∷ []) ≡ count_by (is_like x) xs + cond b 1 0
    more b is = count_append (is_like x) xs y ∙ ap (λ c. count_by (is_like x) xs + cond c 1 0) is

    by : (b : Bool) → is_like x y ≡ b → filter (unlike x) (noted (lines_of xs) y) ≡ filter (unlike x) (lines_of (xs ++ y ∷ [])) →
        cond b (line (count + 1) ∷ rest) (line count ∷ noted rest y)
        ≡ line (count_by (is_like x) (xs ++ y ∷ []) + 1) ∷ filter (unlike x) (lines_of (xs ++ y ∷ []))
    by true like others =
        let n : count + 1 ≡ count_by (is_like x) (xs ++ y ∷ []) + 1 = let m = more true like in omega (arith, m) in
        let same = sym (without_like x y (lines_of xs) like) ∙ others in λ i. line (n i) ∷ same i
    by false apart others =
        let n : count ≡ count_by (is_like x) (xs ++ y ∷ []) + 1 = let m = more false apart in omega (arith, m) in
        let same = sym (with_unlike x y (lines_of xs) apart) ∙ others in λ i. line (n i) ∷ same i

-- a line has no more traps than there are

abbrev AreFew : ℕ → List TrapLine → Type 0
AreFew n ls = AllByRecursion (λ (line : TrapLine). line.count ≤ n) ls

few_filtered : (x : Trap) (n : ℕ) (ls : List TrapLine) → AreFew n ls → AreFew n (filter (unlike x) ls)
few_filtered x n [] h = tt
few_filtered x n (l ∷ ls) h = by (unlike x l) (few_filtered x n ls h.1)
  where
    by : (b : Bool) → AreFew n (filter (unlike x) ls) → AreFew n (cond b (l ∷ filter (unlike x) ls) (filter (unlike x) ls))
    by true rest = (h.0, rest)
    by false rest = rest

few_lines : (xs : List Trap) (n : ℕ) → length xs ≤ n → AreFew n (lines_of xs)
few_lines [] n h = tt
few_lines (x ∷ xs) n h =
    let count = count_by-le-length (is_like x) xs in
    (omega (arith, h, count), few_filtered x n (lines_of xs) (few_lines xs n (omega (arith, h))))

pub few_counted : (ls : List TrapLine) (n : ℕ) → AreTold n ls → n + 1 < 2 ^ 64 → All (λ (line : TrapLine). line.count + 1 < 2 ^ 64) ls
few_counted ls n told fits =
    let few : All (λ (line : TrapLine). line.count ≤ n) ls =
    subst (All (λ (line : TrapLine). line.count ≤ n)) (sym told.1) (All-from_recursion (λ (line : TrapLine). line.count ≤ n) (lines_of told.0) (few_lines told.0 n told.2)) in
    λ k d within. let one = few k d within in omega (arith, one, fits)

-- where a trap is counted

pub noted_at : (ls : List TrapLine) (y : Trap) (d : TrapLine) → place_of ls y < length ls →
    slice_set ls (place_of ls y) (with_one_more (slice_index_or ls (place_of ls y) d)) ≡ noted ls y
noted_at [] y d h = absurd (let bad : ⊥ = omega (arith, h) in bad)
noted_at (l ∷ ls) y d h = by (is_like l.first y) h (noted_at ls y d)
  where
    by : (b : Bool) → cond b 0 (suc (place_of ls y)) < length (l ∷ ls) →
        (place_of ls y < length ls → slice_set ls (place_of ls y) (with_one_more (slice_index_or ls (place_of ls y) d)) ≡ noted ls y) →
        slice_set (l ∷ ls) (cond b 0 (suc (place_of ls y))) (with_one_more (slice_index_or (l ∷ ls) (cond b 0 (suc (place_of ls y))) d))
        ≡ cond b (with_one_more l ∷ ls) (l ∷ noted ls y)
    by true h rest = refl
    by false h rest = ap (λ some. l ∷ some) (rest (omega (arith, h)))

pub noted_behind : (ls : List TrapLine) (y : Trap) → length ls ≤ place_of ls y → ls ++ first_line y ∷ [] ≡ noted ls y
noted_behind [] y h = refl
noted_behind (l ∷ ls) y h = by (is_like l.first y) h (noted_behind ls y)
  where
    by : (b : Bool) → length (l ∷ ls) ≤ cond b 0 (suc (place_of ls y)) → (length ls ≤ place_of ls y → ls ++ first_line y ∷ [] ≡ noted ls y) →
        l ∷ (ls ++ first_line y ∷ []) ≡ cond b (with_one_more l ∷ ls) (l ∷ noted ls y)
    by true h rest = absurd (let bad : ⊥ = omega (arith, h) in bad)
    by false h rest = ap (λ some. l ∷ some) (rest (omega (arith, h)))

-- an event more

pub one_more : (s t : State) (e : Event) (o : Outcome) → next s e ≡ Ok (o, t) → t.made ≡ s.made + 1
one_more s t e o h = let all = counted (entry e o ∷ []) s t (t, h, refl) in omega (arith, all)

-- going along a list of events

pub state_append : (s : State) (xs ys : List Event) → state_after s (xs ++ ys) ≡ state_after (state_after s xs) ys
state_append s [] ys = refl
state_append s (x ∷ xs) ys = state_append (state_behind s (next s x)) xs ys

pub traps_append : (s : State) (xs ys : List Event) → traps_of s (xs ++ ys) ≡ traps_of s xs ++ traps_of (state_after s xs) ys
traps_append s [] ys = refl
traps_append s (x ∷ xs) ys =
    let t = state_behind s (next s x) in
    let first = option_to_list (trap_of s x (next s x)) in
    ap (λ rest. first ++ rest) (traps_append t xs ys) ∙ sym (append_assoc first (traps_of t xs) (traps_of (state_after t xs) ys))

-- one that is no trap
pub passes_plain : (s t : State) (e : Event) (lines : List TrapLine) → t ≡ state_behind s (next s e) → None ≡ trap_of s e (next s e) → Passes s (e ∷ []) lines t lines
passes_plain s t e lines state none = (
  state,
  λ traps told. told ∙ ap lines_of (sym (append-nil traps)) ∙ ap (λ o. lines_of (traps ++ (option_to_list o ++ []))) none,
)

-- one that is a trap
pub passes_trap : (s t : State) (e : Event) (trap : Trap) (lines : List TrapLine) → t ≡ state_behind s (next s e) → Some trap ≡ trap_of s e (next s e) →
    Passes s (e ∷ []) lines t (noted lines trap)
passes_trap s t e trap lines state some = (
  state,
  λ traps told. ap (λ ls. noted ls trap) told ∙ noted_one traps trap ∙ ap (λ o. lines_of (traps ++ (option_to_list o ++ []))) some,
)

pub told_trap : (n m : ℕ) (trap : Trap) (lines : List TrapLine) → AreTold n lines → m ≡ n + 1 → AreTold m (noted lines trap)
told_trap n m trap lines told one = (
  told.0 ++ trap ∷ [],
  ap (λ ls. noted ls trap) told.1 ∙ noted_one told.0 trap,
  let few = told.2 in
      let long = length-append told.0 (trap ∷ []) in omega (arith, few, long, one),
)

pub told_plain : (n m : ℕ) (lines : List TrapLine) → AreTold n lines → n ≤ m → AreTold m lines
told_plain n m lines told more = (told.0, told.1, let few = told.2 in omega (arith, few, more))

-- some, and others behind them
pub passes_more : (s t u : State) (xs ys : List Event) (a b c : List TrapLine) → Passes s xs a t b → Passes t ys b u c → Passes s (xs ++ ys) a u c
passes_more s t u xs ys a b c h k = (
  k.0 ∙ ap (λ v. state_after v ys) h.0 ∙ sym (state_append s xs ys),
  λ traps told.
      k.1 (traps ++ traps_of s xs) (h.1 traps told)
      ∙ ap lines_of (append_assoc traps (traps_of s xs) (traps_of t ys))
      ∙ ap (λ v. lines_of (traps ++ (traps_of s xs ++ traps_of v ys))) h.0
      ∙ ap (λ l. lines_of (traps ++ l)) (sym (traps_append s xs ys)),
)
