use Rattle.std.proofs.Common.{◌≡◌, ◌≢◌, ◌∙◌, ◌⊎◌, inl, inr, refl, ap, sym, arith, ℕ, ◌+◌, ◌-◌, ◌≤◌, true, false, List, [], ◌∷◌, ◌++◌, append-nil, append_assoc, length, take, replicate, Option, None, Some, Result, Ok, Err}
use Rattle.std.proofs.lemmas.List.{length-append, length-replicate, replicate-append-replicate, take_all}
use Rattle.std.proofs.Math.Seq.{take-append_seam}
use Rattle.m161_cpu.specs.declared.processor.Outcome.{Outcome}
use Rattle.m161_machine.specs.declared.event.Event.{Event}
use Rattle.m161_machine.specs.declared.event.Refusal.{Refusal}
use Rattle.m161_machine.specs.declared.event.Refusal.TheVariants.{NoMemory}
use Rattle.m161_machine.specs.History.{Refuses}
use Rattle.m161_machine.specs.State.{State, next}
use Rattle.m161_refusals.specs.declared.refusals.Refusals.{Refusals}
use Rattle.m161_refusals.specs.Refusals.{refusals_from, refusals_in, state_behind, told_of, why_refused, with_refusal}
use Rattle.m161_refusals.specs.helpers.Passing.{Passes, passed}

-- Going along a list of events.

passed_append : (s : State) (xs ys : List Event) → passed s (xs ++ ys) ≡ passed (passed s xs) ys
passed_append s [] ys = refl
passed_append s (x ∷ xs) ys = passed_append (state_behind s (next s x)) xs ys

with_rest : (place : ℕ) (o : Option Refusal) (xs ys : List (ℕ × Refusal)) → with_refusal place o (xs ++ ys) ≡ with_refusal place o xs ++ ys
with_rest place None xs ys = refl
with_rest place (Some why) xs ys = refl

refusals_append : (n : ℕ) (s : State) (xs ys : List Event) →
    refusals_from n s (xs ++ ys) ≡ refusals_from n s xs ++ refusals_from (n + length xs) (passed s xs) ys
refusals_append n s [] ys = ap (λ k. refusals_from k s ys) (let none : n ≡ n + 0 = omega arith in none)
refusals_append n s (x ∷ xs) ys =
    let t = state_behind s (next s x) in
    let o = why_refused s (next s x) in
    let more : n + 1 + length xs ≡ n + length (x ∷ xs) = omega arith in
    ap (with_refusal n o) (refusals_append (n + 1) t xs ys)
    ∙ with_rest n o (refusals_from (n + 1) t xs) (refusals_from (n + 1 + length xs) (passed t xs) ys)
    ∙ ap (λ k. with_refusal n o (refusals_from (n + 1) t xs) ++ refusals_from k (passed t xs) ys) more

-- no event
pub passes_none : (s : State) (place : ℕ) (found : Option Refusals) → Passes s [] place found s found
passes_none s place found = (refl, λ rs told. told ∙ ap told_of (sym (append-nil rs)))

-- some, and others behind them
pub passes_more : (s t u : State) (xs ys : List Event) (n m : ℕ) (a b c : Option Refusals) → m ≡ n + length xs → Passes s xs n a t b → Passes t ys m b u c →
    Passes s (xs ++ ys) n a u c
passes_more s t u xs ys n m a b c place h k = (
  k.0 ∙ ap (λ v. passed v ys) h.0 ∙ sym (passed_append s xs ys),
  λ rs told.
      let first = refusals_from n s xs in
      k.1 (rs ++ first) (h.1 rs told)
      ∙ (λ i. told_of ((rs ++ first) ++ refusals_from (place i) (h.0 i) ys))
      ∙ ap told_of (append_assoc rs first (refusals_from (n + length xs) (passed s xs) ys))
      ∙ ap (λ l. told_of (rs ++ l)) (sym (refusals_append n s xs ys)),
)

-- an event that is accepted
pub passes_accepted : (s t : State) (e : Event) (o : Outcome) (place : ℕ) (found : Option Refusals) → next s e ≡ Ok (o, t) → Passes s (e ∷ []) place found t found
passes_accepted s t e o place found h = (
  sym (ap (state_behind s) h),
  λ rs told. told ∙ ap told_of (sym (append-nil rs)) ∙ ap (λ r. told_of (rs ++ with_refusal place (why_refused s r) [])) (sym h),
)

-- one that is refused

refused_by : (r : Result (Outcome × State) Refusal) (e : Event) (why : Refusal) → why ≢ NoMemory → Refuses r e why → r ≡ Err why
refused_by (Err first) e why not h = ap (λ x. Err x) (sym h)
refused_by (Ok given) e why not h = absurd (not h.0)

why_off : (s : State) (why : Refusal) → s.board.off ≡ true → why_refused s (Err why) ≡ None
why_off s why off = rw off refl

why_on : (s : State) (why : Refusal) → s.board.off ≡ false → why_refused s (Err why) ≡ Some why
why_on s why on = rw on refl

pub passes_off : (s t : State) (e : Event) (why : Refusal) (place : ℕ) (found : Option Refusals) → why ≢ NoMemory → Refuses (next s e) e why → t ≡ s → s.board.off ≡ true →
    Passes s (e ∷ []) place found t found
passes_off s t e why place found not h same off =
    let is = refused_by (next s e) e why not h in
    let none : why_refused s (next s e) ≡ None = ap (why_refused s) is ∙ why_off s why off in (
      same ∙ sym (ap (state_behind s) is),
      λ rs told. told ∙ ap told_of (sym (append-nil rs)) ∙ ap (λ o. told_of (rs ++ with_refusal place o [])) (sym none),
    )

pub passes_refused : (s t : State) (e : Event) (why : Refusal) (place : ℕ) (found : Option Refusals) (new : Refusals) → why ≢ NoMemory → Refuses (next s e) e why → t ≡ s →
    s.board.off ≡ false → ((rs : List (ℕ × Refusal)) → found ≡ told_of rs → Some new ≡ told_of (rs ++ (place, why) ∷ [])) →
    Passes s (e ∷ []) place found t (Some new)
passes_refused s t e why place found new not h same on more =
    let is = refused_by (next s e) e why not h in
    let some : why_refused s (next s e) ≡ Some why = ap (why_refused s) is ∙ why_on s why on in (
      same ∙ sym (ap (state_behind s) is),
      λ rs told. more rs told ∙ ap (λ o. told_of (rs ++ with_refusal place o [])) (sym some),
    )

-- one more is told

pub told_first : (rs : List (ℕ × Refusal)) (place : ℕ) (why : Refusal) → None ≡ told_of rs →
    Some (record { count = 1; place = place; refusal = why }) ≡ told_of (rs ++ (place, why) ∷ [])
told_first [] place why h = refl
told_first (r ∷ rs) place why h =
    absurd (let bad : ◌≡◌ {A = Option Refusals} None (Some (record { count = length rs + 1; place = r.0; refusal = r.1 })) = h in cc)

pub told_more : (rs : List (ℕ × Refusal)) (place : ℕ) (why : Refusal) (told : Refusals) → Some told ≡ told_of rs →
    Some (record { count = told.count + 1; place = told.place; refusal = told.refusal }) ≡ told_of (rs ++ (place, why) ∷ [])
told_more [] place why told h = absurd (let bad : ◌≡◌ {A = Option Refusals} (Some told) None = h in cc)
told_more (r ∷ rs) place why told h =
    let is : told ≡ record { count = length rs + 1; place = r.0; refusal = r.1 } = cc in
    let long : length rs + 1 + 1 ≡ length (rs ++ (place, why) ∷ []) + 1 = ap (λ n. n + 1) (sym (length-append rs ((place, why) ∷ []))) in
    ap (λ (x : Refusals). Some (record { count = x.count + 1; place = x.place; refusal = x.refusal })) is
    ∙ ap (λ n. Some (record { count = n; place = r.0; refusal = r.1 })) long

-- the first events of a list

-- the events that were made, and the rest of the list: what is left of it, or as many were made as are asked for
pub record IsMade (s t : State) (events left : List Event) (n done : ℕ) (found : Option Refusals) : Type 0 where
  pub before : List Event
  pub rest : List Event
  pub parts : events ≡ before ++ rest
  pub few : length before ≤ n
  pub left_is : (rest ≡ left) ⊎ (length before ≡ n)
  pub done_is : done ≡ length before
  pub passes : Passes s before 0 None t found

pub made_none : (s : State) (events : List Event) (n : ℕ) → IsMade s s events events n 0 None
made_none s events n = record {
  before = [];
  rest = events;
  parts = refl;
  few = omega arith;
  left_is = inl refl;
  done_is = refl;
  passes = passes_none s 0 None;
}

-- a run of one event, of which so many are made: all, or as many as are asked for
module _ (s t u : State) (events left after : List Event) (n done times made : ℕ) (e : Event) (a b : Option Refusals) (m : IsMade s t events left n done a) where
  passes_on : Passes t (replicate made e) done a u b → Passes s (m.before ++ replicate made e) 0 None u b
  passes_on h =
      let d = m.done_is in
      let place : done ≡ 0 + length m.before = omega (arith, d) in
      passes_more s t u m.before (replicate made e) 0 done None a b place m.passes h

  long : length (m.before ++ replicate made e) ≡ done + made
  long = let one = length-append m.before (replicate made e) in
      let two = length-replicate made e in
      let three = m.done_is in omega (arith, one, two, three)

  whole : made ≡ times → left ≡ replicate times e ++ after → done + made ≤ n → m.rest ≡ left → Passes t (replicate made e) done a u b →
      IsMade s u events after n (done + made) b
  whole all is room rest h = record {
    before = m.before ++ replicate made e;
    rest = after;
    parts = m.parts ∙ ap (λ l. m.before ++ l) (rest ∙ is ∙ ap (λ k. replicate k e ++ after) (sym all)) ∙ sym (append_assoc m.before (replicate made e) after);
    few = let l = long in omega (arith, l, room);
    left_is = inl refl;
    done_is = sym long;
    passes = passes_on h;
  }

  part : made ≤ times → left ≡ replicate times e ++ after → done + made ≡ n → m.rest ≡ left → Passes t (replicate made e) done a u b →
      IsMade s u events after n (done + made) b
  part some is room rest h =
      let more = times - made in
      let split : replicate times e ≡ replicate made e ++ replicate more e =
      ap (λ k. replicate k e) (let sum : times ≡ made + more = omega (arith, some) in sum) ∙ sym (replicate-append-replicate made more e) in
      record {
        before = m.before ++ replicate made e;
        rest = replicate more e ++ after;
        parts = m.parts
            ∙ ap (λ l. m.before ++ l) (rest ∙ is ∙ ap (λ l. l ++ after) split ∙ append_assoc (replicate made e) (replicate more e) after)
            ∙ sym (append_assoc m.before (replicate made e) (replicate more e ++ after));
        few = let l = long in omega (arith, l, room);
        left_is = inr (let l = long in omega (arith, l, room));
        done_is = sym long;
        passes = passes_on h;
      }

  none : made ≡ 0 → length m.before ≡ n → Passes t (replicate made e) done a u b → IsMade s u events after n (done + made) b
  none zero_is full h =
      let same : m.before ++ replicate made e ≡ m.before = ap (λ k. m.before ++ replicate k e) zero_is ∙ append-nil m.before in
      record {
        before = m.before ++ replicate made e;
        rest = m.rest;
        parts = m.parts ∙ ap (λ l. l ++ m.rest) (sym same);
        few = let l = ap length same in omega (arith, l, full);
        left_is = inr (ap length same ∙ full);
        done_is = sym long;
        passes = passes_on h;
      }

  pub made_more : (made ≡ times) ⊎ (done + made ≡ n) → made ≤ times → done + made ≤ n → left ≡ replicate times e ++ after → Passes t (replicate made e) done a u b →
      IsMade s u events after n (done + made) b
  made_more some least room is h = elim m.left_is [
    | inr full ↦ none (let d = m.done_is in omega (arith, room, full, d)) full h
    | inl rest ↦ elim some [
      | inl all ↦ whole all is room rest h
      | inr clipped ↦ part least is clipped rest h
    ]
  ]

-- all of them were made
pub made_all : (s t : State) (events left : List Event) (n done : ℕ) (found : Option Refusals) → left ≡ [] → IsMade s t events left n done found →
    found ≡ refusals_in s events n
made_all s t events left n done found empty m =
    let told = m.passes.1 [] refl in
    told ∙ ap (λ es. told_of (refusals_from 0 s es)) (first m.left_is)
  where
    first : (m.rest ≡ left) ⊎ (length m.before ≡ n) → m.before ≡ take n events
    first (inl rest) =
        let all : events ≡ m.before = m.parts ∙ ap (λ l. m.before ++ l) (rest ∙ empty) ∙ append-nil m.before in
        sym all ∙ sym (take_all n events (let l = ap length all in let f = m.few in omega (arith, l, f)))
    first (inr full) = sym (take-append_seam m.before m.rest) ∙ (λ i. take (full i) (sym m.parts i))
