use Rattle.std.proofs.Common.{◌≡◌, ◌∙◌, refl, sym, ap, subst, ℕ, zero, suc, ◌+◌, ◌-◌, ◌%◌, ◌<◌, ◌≤◌, ◌⊎◌, inl, inr, Bool, true, false, List, [], ◌∷◌, ◌++◌, length, min, not, replicate, set, take, arith}
use Rattle.std.proofs.Math.Nat.{add-mod-mod, add-mod_left, mod-eq_of_lt}
use Rattle.std.proofs.Math.Seq.{take-append-add}
use Rattle.std.proofs.lemmas.Bool.Decides.{nat_tests}
use Rattle.std.proofs.lemmas.List.{length-replicate, length-take-le, take_all, take_more_set}
use Rattle.std.specs.Prelude.{Option, None, Some, ◌==◌, ◌&&◌, if◌then◌else◌, count_by, nat_lt}
use Rattle.rand_pcg.specs.Lcg.{Lcg}
use Rattle.m161_machine.specs.declared.event.Entry.{Entry}
use Rattle.m161_machine.specs.Resting.{rests}
use Rattle.m161_machine.specs.State.{State}
use Rattle.m161_machine.specs.Stretch.{planned}
use Rattle.m161_order.specs.Delays.{behind}
use Rattle.m161_drive.specs.declared.orders.OrderState.{OrderState}
use Rattle.m161_drive.specs.declared.orders.OrderState.TheVariants.{InTurns, ByDelays, AtRandom, ByPriority}
use Rattle.m161_drive.specs.declared.turns.Turns.{Turns}
use Rattle.m161_drive.specs.Delayed.{DelayState, passed}
use Rattle.m161_drive.specs.Orders.{begun, by_order, by_turns, by_words, delayed, goes_on, one_of}
use Rattle.m161_drive.specs.Priorities.{PriorityState}
use Rattle.m161_drive.specs.Ready.{is_ready, next_behind, ready}
use Rattle.m161_drive.specs.Words.{after_word, after_words}
use Rattle.m161_drive.specs.helpers.Drive.{Plans, gone_on, next_in_turn, next_order}
use Rattle.m161_drive.proofs.Fitting.{and_first, order_ready}
use Rattle.m161_drive.proofs.Passing.{behind_all, behind_more, count_behind, passed_none, turned_same}
use Rattle.m161_drive.proofs.Sleeping.{less_in, less_is}

-- Plans.

gone_suc : (n : ℕ) (o : OrderState) → gone_on (suc n) o ≡ next_order (gone_on n o)
gone_suc zero o = refl
gone_suc (suc n) o = gone_suc n (next_order o)

pub gone_more : (n : ℕ) (o : OrderState) → gone_on (n + 1) o ≡ next_order (gone_on n o)
gone_more n o = let one : n + 1 ≡ suc n = omega arith in ap (λ k. gone_on k o) one ∙ gone_suc n o

-- one choice more
plans_more : (o : OrderState) (last : ℕ) (s : State) (es : List Entry) (q r : ℕ) → Plans o last s es q →
    by_order (gone_on (length es) o) (Some q) s ≡ (Some r, next_order (gone_on (length es) o)) → Plans o last s (es ++ planned r ∷ []) r
plans_more o last s [] q r h chosen =
    (r, refl, subst (λ k. by_order o (Some k) s ≡ (Some r, next_order o)) h chosen, refl)
plans_more o last s (e ∷ es) q r h chosen = (h.0, h.1, h.2, plans_more (next_order o) h.0 s es q r h.3 chosen)

-- written into its place
pub plans_written : (o now : OrderState) (last : ℕ) (s : State) (places : List Entry) (k q r : ℕ) → Plans o last s (take k places) q → k < length places →
    now ≡ gone_on k o → by_order now (Some q) s ≡ (Some r, next_order now) → Plans o last s (take (k + 1) (set places k (planned r))) r
plans_written o now last s places k q r h inside is chosen =
    let long : length (take k places) ≡ k = length-take-le k places (omega (arith, inside)) in
    let same : now ≡ gone_on (length (take k places)) o = is ∙ ap (λ n. gone_on n o) (sym long) in
    subst (λ es. Plans o last s es r) (sym (take_more_set places k (planned r) inside))
    (plans_more o last s (take k places) q r h (subst (λ x. by_order x (Some q) s ≡ (Some r, next_order x)) same chosen))

-- more of them
pub plans_append : (o : OrderState) (last : ℕ) (s : State) (es fs : List Entry) (q r : ℕ) → Plans o last s es q → Plans (gone_on (length es) o) q s fs r →
    Plans o last s (es ++ fs) r
plans_append o last s [] fs q r h k = subst (λ x. Plans o x s fs r) h k
plans_append o last s (e ∷ es) fs q r h k = (h.0, h.1, h.2, plans_append (next_order o) h.0 s es fs q r h.3 k)

-- what an order chooses is there
pub ready_there : (s : State) (p : ℕ) → is_ready s p ≡ true → p < length s.processors
ready_there s p h = less_in p (length s.processors) (and_first (nat_lt p (length s.processors)) (not (rests p s)) h)

pub chosen_there : (o : OrderState) (last : Option ℕ) (s : State) (q : ℕ) → (by_order o last s).0 ≡ Some q → length s.processors ≤ 32 → q < 32
chosen_there o last s q h few = let there = ready_there s q (order_ready o last s q h) in omega (arith, there, few)

-- By turns.

begun_next : (o : Option ℕ) (t : Turns) (q : ℕ) → (begun o t).0 ≡ Some q → begun o t ≡ (Some q, record t { made = 1 })
begun_next None t q h = let bad : ◌≡◌ {A = Option ℕ} None (Some q) = h in absurd cc
begun_next (Some p) t q h = λ i. (h i, record t { made = 1 })

turns_by : (a b : Bool) (t : Turns) (last q : ℕ) (s : State) → nat_lt 0 t.made ≡ a → nat_lt t.made t.steps ≡ b →
    (if a && b && true then (Some last, record t { made = t.made + 1 }) else begun (next_behind (is_ready s) (Some last) s) t).0 ≡ Some q →
    (if a && b && true then (Some last, record t { made = t.made + 1 }) else begun (next_behind (is_ready s) (Some last) s) t)
    ≡ (Some q, record t { made = if b then t.made + 1 else 1 })
turns_by true true t last q s some fewer h = λ i. (h i, record t { made = t.made + 1 })
turns_by true false t last q s some fewer h = begun_next (next_behind (is_ready s) (Some last) s) t q h
turns_by false true t last q s some fewer h =
    let none : t.made ≡ 0 = grind (arith, nat_tests) in
    begun_next (next_behind (is_ready s) (Some last) s) t q h
    ∙ ap (λ m. (Some q, record t { made = m })) (omega (arith, none))
turns_by false false t last q s some fewer h = begun_next (next_behind (is_ready s) (Some last) s) t q h

pub turns_next : (t : Turns) (last q : ℕ) (s : State) → is_ready s last ≡ true → (by_turns t (Some last) s).0 ≡ Some q →
    by_order (InTurns t) (Some last) s ≡ (Some q, next_order (InTurns t))
turns_next t last q s ready h =
    let open_ : by_turns t (Some last) s
    ≡ (if nat_lt 0 t.made && nat_lt t.made t.steps && true then (Some last, record t { made = t.made + 1 })
    else begun (next_behind (is_ready s) (Some last) s) t) =
    ap (λ b. if nat_lt 0 t.made && nat_lt t.made t.steps && b then (Some last, record t { made = t.made + 1 })
    else begun (next_behind (is_ready s) (Some last) s) t) ready in
    ap (λ (x : Option ℕ × Turns). (x.0, InTurns x.1))
    (open_ ∙ turns_by (nat_lt 0 t.made) (nat_lt t.made t.steps) t last q s refl refl (ap (λ (x : Option ℕ × Turns). x.0) (sym open_) ∙ h))

-- the rest of a turn
in_turn : (t : Turns) → t.made < t.steps → next_in_turn t ≡ record t { made = t.made + 1 }
in_turn t h = ap (λ b. record t { made = if b then t.made + 1 else 1 }) (less_is t.made t.steps h)

goes_on_by : (t : Turns) (p : ℕ) (s : State) → is_ready s p ≡ true → 1 ≤ t.made → t.made < t.steps → by_turns t (Some p) s ≡ (Some p, record t { made = t.made + 1 })
goes_on_by t p s ready some less =
    let first : nat_lt 0 t.made ≡ true = less_is 0 t.made (omega (arith, some)) in
    let second : nat_lt t.made t.steps ≡ true = less_is t.made t.steps less in
    let on : goes_on t (Some p) s ≡ true = λ i. first i && second i && ready i in
    ap (λ b. if b then (Some p, record t { made = t.made + 1 }) else begun (next_behind (is_ready s) (Some p) s) t) on

rest_of_turn : (n : ℕ) (t : Turns) (p : ℕ) (s : State) → is_ready s p ≡ true → 1 ≤ t.made → t.made + n ≤ t.steps →
    Plans (InTurns t) p s (replicate n (planned p)) p
rest_of_turn zero t p s ready some fits = refl
rest_of_turn (suc n) t p s ready some fits =
    let less : t.made < t.steps = omega (arith, fits) in
    let one = in_turn t less in (
      p,
      refl,
      ap (λ (x : Option ℕ × Turns). (x.0, InTurns x.1)) (goes_on_by t p s ready some less) ∙ ap (λ u. (Some p, InTurns u)) (sym one),
      subst (λ u. Plans (InTurns u) p s (replicate n (planned p)) p) (sym one)
          (rest_of_turn n (record t { made = t.made + 1 }) p s ready (omega arith) (omega (arith, fits))),
    )

gone_in_turn : (n : ℕ) (t : Turns) → 1 ≤ t.made → t.made + n ≤ t.steps → gone_on n (InTurns t) ≡ InTurns (record t { made = t.made + n })
gone_in_turn zero t some fits = let same : t.made ≡ t.made + 0 = omega arith in ap (λ m. InTurns (record t { made = m })) same
gone_in_turn (suc n) t some fits =
    let sum : t.made + 1 + n ≡ t.made + suc n = omega arith in
    ap (λ u. gone_on n (InTurns u)) (in_turn t (omega (arith, fits)))
    ∙ gone_in_turn n (record t { made = t.made + 1 }) (omega arith) (omega (arith, fits))
    ∙ ap (λ m. InTurns (record t { made = m })) sum

-- and the turns behind it
pub plan_turns : (t : Turns) (p n : ℕ) (s : State) (turn others : List Entry) → is_ready s p ≡ true → 1 ≤ t.made → t.made ≤ t.steps →
    turn ≡ replicate n (planned p) → t.made + n ≤ t.steps → (t.made + n ≡ t.steps) ⊎ (others ≡ []) →
    ((q : ℕ) × Plans (InTurns (record t { made = t.steps })) p s others q) → (q : ℕ) × Plans (InTurns t) p s (turn ++ others) q
plan_turns t p n s turn others ready some most is fits rest more =
    let first : Plans (InTurns t) p s turn p = subst (λ es. Plans (InTurns t) p s es p) (sym is) (rest_of_turn n t p s ready some fits) in
    let long : length turn ≡ n = ap length is ∙ length-replicate n (planned p) in
    let gone : gone_on (length turn) (InTurns t) ≡ InTurns (record t { made = t.made + n }) =
    ap (λ k. gone_on k (InTurns t)) long ∙ gone_in_turn n t some fits in
    elim rest as (λ _. (q : ℕ) × Plans (InTurns t) p s (turn ++ others) q) [
      | inl whole ↦ (
        more.0,
        plans_append (InTurns t) p s turn others p more.0 first
            (subst (λ o. Plans o p s others more.0) (sym (gone ∙ ap (λ m. InTurns (record t { made = m })) whole)) more.1),
      )
      | inr none ↦ (
        p,
        plans_append (InTurns t) p s turn others p p first
            (subst (λ es. Plans (gone_on (length turn) (InTurns t)) p s es p) (sym none) refl),
      )
    ]

-- as they stand in the places
min_is : (t : Bool) (a b : ℕ) → nat_lt a b ≡ t → (min a b ≡ a) ⊎ (min a b ≡ b)
min_is true a b h = let less = less_in a b h in inl (omega (arith, less))
min_is false a b h = let fewer : b ≤ a = grind (arith, nat_tests) in inr (omega (arith, fewer))

none_of : {A : Type 0} (m : ℕ) (xs : List A) → length xs ≡ 0 → take m xs ≡ []
none_of m [] h = take_all m [] (omega arith)
none_of m (x ∷ xs) h = absurd (let bad : ⊥ = omega (arith, h) in bad)

pub turns_planned : (t : Turns) (p n m long : ℕ) (s : State) (turn others : List Entry) → is_ready s p ≡ true → 1 ≤ t.made → t.made ≤ t.steps →
    n ≡ min (t.steps - t.made) long → turn ≡ replicate n (planned p) → length others ≡ long - n →
    ((q : ℕ) × Plans (InTurns (record t { made = t.steps })) p s (take m others) q) →
    (q : ℕ) × Plans (InTurns t) p s (take (n + m) (turn ++ others)) q
turns_planned t p n m long s turn others ready some most n_is is size more =
    let turn_long : length turn ≡ n = ap length is ∙ length-replicate n (planned p) in
    let rest : (t.made + n ≡ t.steps) ⊎ (take m others ≡ []) = elim (min_is (nat_lt (t.steps - t.made) long) (t.steps - t.made) long refl)
    as (λ _. (t.made + n ≡ t.steps) ⊎ (take m others ≡ [])) [
      | inl a ↦ inl (omega (arith, n_is, a, most))
      | inr b ↦ inr (none_of m others (omega (arith, n_is, b, size)))
    ] in
    let parts : take (n + m) (turn ++ others) ≡ turn ++ take m others =
    ap (λ k. take (k + m) (turn ++ others)) (sym turn_long) ∙ take-append-add turn others m in
    subst (λ es. (q : ℕ) × Plans (InTurns t) p s es q) (sym parts)
    (plan_turns t p n s turn (take m others) ready some most is (omega (arith, n_is, most)) rest more)

-- a turn, so many Steps further
gone_by : (b : Bool) (n : ℕ) (t : Turns) → nat_lt t.made t.steps ≡ b → 1 ≤ t.made → t.made ≤ t.steps →
    ((u : Turns) → u.steps ≡ t.steps → 1 ≤ u.made → u.made ≤ u.steps → gone_on n (InTurns u) ≡ InTurns (record u { made = (u.made - 1 + n) % u.steps + 1 })) →
    gone_on n (InTurns (record t { made = if b then t.made + 1 else 1 })) ≡ InTurns (record t { made = (t.made - 1 + suc n) % t.steps + 1 })
gone_by true n t is some most more =
    let less = less_in t.made t.steps is in
    let sum : t.made + 1 - 1 + n ≡ t.made - 1 + suc n = omega (arith, some) in
    more (record t { made = t.made + 1 }) refl (omega arith) (omega (arith, less)) ∙ ap (λ k. InTurns (record t { made = k % t.steps + 1 })) sum
gone_by false n t is some most more =
    let end : t.made ≡ t.steps = grind (arith, nat_tests) in
    let sum : t.made - 1 + suc n ≡ t.steps + n = omega (arith, some, end) in
    let start : 1 - 1 + n ≡ n = omega arith in
    more (record t { made = 1 }) refl (omega arith) (omega (arith, some, most))
    ∙ ap (λ k. InTurns (record t { made = k % t.steps + 1 })) start
    ∙ ap (λ k. InTurns (record t { made = k + 1 })) (sym (add-mod_left t.steps n) ∙ ap (λ k. k % t.steps) (sym sum))

pub turns_gone : (n : ℕ) (t : Turns) → 1 ≤ t.made → t.made ≤ t.steps → gone_on n (InTurns t) ≡ InTurns (record t { made = (t.made - 1 + n) % t.steps + 1 })
turns_gone zero t some most =
    let less : t.made - 1 + 0 < t.steps = omega (arith, some, most) in
    let same : (t.made - 1 + 0) % t.steps ≡ t.made - 1 + 0 = mod-eq_of_lt less in
    ap (λ m. InTurns (record t { made = m })) (omega (arith, some, same))
turns_gone (suc n) t some most =
    gone_by (nat_lt t.made t.steps) n t refl some most (λ u same some most. turns_gone n u some most)

pub turns_further : (n : ℕ) (t : Turns) → 1 ≤ t.made → t.made ≤ t.steps →
    InTurns (record t { made = (t.made - 1 + n % t.steps) % t.steps + 1 }) ≡ gone_on n (InTurns t)
turns_further n t some most =
    ap (λ k. InTurns (record t { made = k + 1 })) (add-mod-mod (t.made - 1) n t.steps) ∙ sym (turns_gone n t some most)

-- At random.

pub words_gone : (n : ℕ) (g : Lcg) → AtRandom (after_words n g) ≡ gone_on n (AtRandom g)
words_gone zero g = refl
words_gone (suc n) g = words_gone n (after_word g)

pub priority_gone : (n : ℕ) (r : PriorityState) → ByPriority r ≡ gone_on n (ByPriority r)
priority_gone zero r = refl
priority_gone (suc n) r = priority_gone n r

one_next : (xs : List ℕ) (g : Lcg) (q : ℕ) → (one_of xs g).0 ≡ Some q → one_of xs g ≡ (Some q, after_word g)
one_next [] g q h = let bad : ◌≡◌ {A = Option ℕ} None (Some q) = h in absurd cc
one_next (x ∷ xs) g q h = λ i. (h i, after_word g)

pub words_next : (g : Lcg) (last q : ℕ) (s : State) → (by_words g s).0 ≡ Some q →
    by_order (AtRandom g) (Some last) s ≡ (Some q, next_order (AtRandom g))
words_next g last q s h = ap (λ (x : Option ℕ × Lcg). (x.0, AtRandom x.1)) (one_next (ready s) g q h)

-- By turns with delays: up to the next delay as by turns.

delays_next : (t : Turns) (left : List ℕ) (last r : ℕ) (s : State) →
    by_order (InTurns t) (Some last) s ≡ (Some r, next_order (InTurns t)) → count_by (λ n. n == 0) left ≡ 0 →
    by_order (ByDelays (record { turns = t; left = left })) (Some last) s
    ≡ (Some r, next_order (ByDelays (record { turns = t; left = left })))
delays_next t left last r s h none =
    let d : DelayState = record { turns = t; left = left } in
    let one : (by_turns t (Some last) s).0 ≡ Some r = ap (λ (x : Option ℕ × OrderState). x.0) h in
    let state : ◌≡◌ {A = OrderState} (InTurns (by_turns t (Some last) s).1) (InTurns (next_in_turn t)) =
    ap (λ (x : Option ℕ × OrderState). x.1) h in
    let turn : (by_turns t (Some last) s).1 ≡ next_in_turn t = cc in
    let ready : is_ready s r ≡ true = order_ready (InTurns t) (Some last) s r one in
    let first : passed (count_by (λ n. n == 0) left) r s ≡ r =
    ap (λ n. passed n r s) none ∙ passed_none r s ready (ready_there s r ready) in
    let same = turned_same r (passed (count_by (λ n. n == 0) left) r s) (next_in_turn t) (sym first) in
    ap (λ (x : Option ℕ × DelayState). (x.0, ByDelays x.1)) (λ i. delayed (one i) (turn i) d s)
    ∙ (λ i. (Some (first i), ByDelays (record { turns = same i; left = behind 1 left })))

pub delays_planned : (t : Turns) (left : List ℕ) (last : ℕ) (s : State) (es : List Entry) (q : ℕ) →
    ((k : ℕ) → k < length es → count_by (λ n. n == k) left ≡ 0) → Plans (InTurns t) last s es q →
    Plans (ByDelays (record { turns = t; left = left })) last s es q
delays_planned t left last s [] q none h = h
delays_planned t left last s (e ∷ es) q none h = (
  h.0,
  h.1,
  delays_next t left last h.0 s h.2 (none 0 (omega arith)),
  delays_planned (next_in_turn t) (behind 1 left) h.0 s es q
      (λ k less. count_behind k left ∙ none (k + 1) (omega (arith, less))) h.3,
)

-- so many Steps further
pub delays_gone : (n : ℕ) (t u : Turns) (left : List ℕ) → InTurns u ≡ gone_on n (InTurns t) →
    ByDelays (record { turns = u; left = behind n left }) ≡ gone_on n (ByDelays (record { turns = t; left = left }))
delays_gone zero t u left h =
    let state : ◌≡◌ {A = OrderState} (InTurns u) (InTurns t) = h in
    let same : u ≡ t = cc in
    λ i. ByDelays (record { turns = same i; left = behind_all left i })
delays_gone (suc n) t u left h =
    ap (λ ns. ByDelays (record { turns = u; left = ns })) (sym (behind_more n left))
    ∙ delays_gone n (next_in_turn t) u (behind 1 left) h
