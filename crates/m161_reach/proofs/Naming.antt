use Rattle.std.proofs.Common.{◌≡◌, ◌∙◌, refl, ap, sym, subst, ℕ, ◌+◌, arith, false, List, [], ◌∷◌, length, Option, None, Some, Result, Ok, Err}
use Rattle.std.proofs.lemmas.Bool.Decides.{nat_tests}
use Rattle.m161_cpu.specs.declared.processor.Outcome.{Outcome}
use Rattle.m161_machine.specs.declared.event.Event.{Event}
use Rattle.m161_machine.specs.declared.event.Refusal.{Refusal}
use Rattle.m161_machine.specs.History.{boot_state}
use Rattle.m161_machine.specs.State.{State, is_worn, next as result_of}
use Rattle.m161_machine.proofs.Made.{counted}
use Rattle.m161_judge.specs.Verdict.{Criteria, after, going_on}
use Rattle.m161_states.specs.Question.{Question, booted, processors_of}
use Rattle.m161_states.specs.Run.{FreshIsSame, freshened}
use Rattle.m161_states.specs.System.{Explored, accepted, behind, event_named, fresh, next_by, start, typed_after}
use Rattle.m161_explore.specs.Lists.{Leads}
use Rattle.m161_reach.specs.Named.{NamedAreMade, events_named, with_event}
use Rattle.m161_reach.specs.Reach.{rules_of}

-- The events of a list of their numbers.

-- an event that the exploration accepts is accepted by the machine, and leads to the same state
record IsMade (x u : Explored) (s : State) (e : Event) : Type 0 where
  given : Outcome × State
  accepts : result_of s e ≡ Ok given
  same : fresh given.1 ≡ fresh u.state
  typed : u.typed ≡ typed_after e x.typed

same_state : (a b : Outcome × State) → ◌≡◌ {A = Result (Outcome × State) Refusal} (Ok (a.0, fresh a.1)) (Ok (b.0, fresh b.1)) → fresh a.1 ≡ fresh b.1
same_state a b h = let pair : ◌≡◌ {A = Outcome × State} (a.0, fresh a.1) (b.0, fresh b.1) = cc in ap (λ (x : Outcome × State). x.1) pair

made_so : (goal : Criteria) (x u : Explored) (s : State) (e : Event) (r o : Result (Outcome × State) Refusal) → result_of s e ≡ o → freshened r ≡ freshened o →
    accepted goal x e r ≡ Some u → IsMade x u s e
made_so goal x u s e (Ok a) (Ok given) is same h =
    let u_is : behind goal x e a.1 ≡ u = cc in
    record {
      given = given;
      accepts = is;
      same = sym (same_state a given same) ∙ ap (λ (y : Explored). fresh y.state) u_is;
      typed = sym (ap (λ (y : Explored). y.typed) u_is);
    }
made_so goal x u s e (Ok a) (Err refused) is same h =
    absurd (let bad : ◌≡◌ {A = Result (Outcome × State) Refusal} (Ok (a.0, fresh a.1)) (Err refused) = same in cc)
made_so goal x u s e (Err refused) o is same h = absurd (let bad : ◌≡◌ {A = Option Explored} None (Some u) = h in cc)

made : FreshIsSame → (goal : Criteria) (x u : Explored) (s : State) (e : Event) → is_worn s.made ≡ false → fresh s ≡ fresh x.state →
    next_by goal x (Some e) ≡ Some u → IsMade x u s e
made law goal x u s e worn same h =
    made_so goal x u s e (result_of (fresh x.state) e) (result_of s e) refl
    (ap (λ y. freshened (result_of y e)) (sym same) ∙ law s e worn) h

-- the rest of a list, from any state on

not_worn : (made more : ℕ) → is_worn (made + (more + 1)) ≡ false → is_worn made ≡ false
not_worn made more h = grind (arith, nat_tests, h)

one_more : (s : State) (e : Event) (given : Outcome × State) → result_of s e ≡ Ok given → given.1.made ≡ s.made + 1
one_more s e given h = counted (record { event = e; outcome = given.0 } ∷ []) s given.1 (given.1, h, refl)

abbrev Reaches : Question → List ℕ → State → Explored → Explored → Type 0
Reaches q ns s x y =
    (t : State) × (after s (events_named (processors_of q) q.goal.keys x.typed ns) ≡ Some t) × (fresh t ≡ fresh y.state)

first_made : (q : Question) (ns : List ℕ) (s : State) (x u y : Explored) (e : Event) (m : IsMade x u s e) → Reaches q ns m.given.1 u y →
    (t : State) × (after s (e ∷ events_named (processors_of q) q.goal.keys (typed_after e x.typed) ns) ≡ Some t) × (fresh t ≡ fresh y.state)
first_made q ns s x u y e m rest =
    let named : ℕ → List Event = λ typed. events_named (processors_of q) q.goal.keys typed ns in (
      rest.0,
      ap (λ r. going_on r (λ t. after t (named (typed_after e x.typed)))) m.accepts
          ∙ ap (λ typed. after m.given.1 (named typed)) (sym m.typed) ∙ rest.1,
      rest.2,
    )

by_event : FreshIsSame → (q : Question) (ns : List ℕ) (s : State) (x u y : Explored) → is_worn (s.made + (length ns + 1)) ≡ false → fresh s ≡ fresh x.state →
    ((t : State) → is_worn (t.made + length ns) ≡ false → fresh t ≡ fresh u.state → Reaches q ns t u y) → (found : Option Event) → next_by q.goal x found ≡ Some u →
    (t : State) × (after s (with_event found (λ e. events_named (processors_of q) q.goal.keys (typed_after e x.typed) ns)) ≡ Some t) × (fresh t ≡ fresh y.state)
by_event law q ns s x u y few same rest None next = absurd (let bad : ◌≡◌ {A = Option Explored} None (Some u) = next in cc)
by_event law q ns s x u y few same rest (Some e) next =
    let m = made law q.goal x u s e (not_worn s.made (length ns) few) same next in
    let count = one_more s e m.given m.accepts in
    let few_on : is_worn (m.given.1.made + length ns) ≡ false =
    subst (λ k. is_worn k ≡ false) (let is : s.made + (length ns + 1) ≡ m.given.1.made + length ns = omega (arith, count) in is) few in
    first_made q ns s x u y e m (rest m.given.1 few_on m.same)

from_on : FreshIsSame → (q : Question) (ns : List ℕ) (s : State) (x y : Explored) → is_worn (s.made + length ns) ≡ false → fresh s ≡ fresh x.state →
    Leads (rules_of q) x ns y → Reaches q ns s x y
unfolding rules_of
from_on law q [] s x y few same h = (s, refl, same ∙ ap (λ (z : Explored). fresh z.state) (sym h))
from_on law q (n ∷ ns) s x y few same h =
    let few_now : is_worn (s.made + (length ns + 1)) ≡ false =
    subst (λ k. is_worn k ≡ false) (let is : s.made + length (n ∷ ns) ≡ s.made + (length ns + 1) = omega arith in is) few in
    by_event law q ns s x h.0 y few_now same (λ t few_t same_t. from_on law q ns t h.0 y few_t same_t h.3)
    (event_named (processors_of q) q.goal.keys x.typed n) h.2

pub named_are_made : FreshIsSame → NamedAreMade
named_are_made law q numbers x few leads =
    let boot = boot_state (booted q) in
    from_on law q numbers boot (start q) x (subst (λ k. is_worn k ≡ false) (let is : length numbers ≡ boot.made + length numbers = omega arith in is) few) refl leads
