use Rattle.std.proofs.Common.{◌≡◌, ◌∙◌, ap, ℕ, ◌^◌, ◌<◌, List, Option, Some, inr, refl, subst, sym}
use Rattle.m161_audit.specs.declared.watch.Watch.{Watch}
use Rattle.m161_judge.specs.Verdict.{Criteria}
use Rattle.m161_machine.specs.State.{State}
use Rattle.m161_reach.specs.Exploring.{Exploring, GoesOnExploring}
use Rattle.m161_reach.specs.Reach.{IsAtBoot}
use Rattle.m161_c.specs.Begun.{Begun, IsBegun, IsFresh}
use Rattle.m161_c.specs.Explored.{IsExplored, IsRefused, IsUnexplored, Tells}
use Rattle.m161_c.specs.helpers.Begun.{IsBegunOf}
use Rattle.m161_c.specs.declared.answer.Exploration.{Exploration}
use Rattle.m161_explore.specs.declared.whole.Answer.{Answer}
use Rattle.m161_states.specs.declared.verdict.Unknown.{Unknown}
use Rattle.m161_states.specs.declared.verdict.EventVerdict.{EventVerdict}

-- An exploration that was begun, kept with copies of what is asked.

abbrev criteria : List Watch → List ℕ → Option (List ℕ) → List ℕ → Criteria
criteria watches never output keys = record { watches = watches; never = never; output = output; keys = keys }

pub same_criteria : (goal : Criteria) (watches : List Watch) (never : List ℕ) (output : Option (List ℕ)) (keys : List ℕ) →
    watches ≡ goal.watches → never ≡ goal.never → output ≡ goal.output → keys ≡ goal.keys →
    ◌≡◌ {A = Criteria} (record { watches = watches; never = never; output = output; keys = keys }) goal
same_criteria goal watches never output keys w n o k =
    ap (λ (x : List Watch). criteria x never output keys) w ∙ ap (λ (x : List ℕ). criteria goal.watches x output keys) n
    ∙ ap (λ (x : Option (List ℕ)). criteria goal.watches goal.never x keys) o ∙ ap (λ (x : List ℕ). criteria goal.watches goal.never goal.output x) k

pub is_begun : (boot : State) (limit : ℕ) (goal asked : Criteria) (e : Exploring) → IsAtBoot boot → 0 < limit → limit < 2 ^ 32 → IsBegunOf boot goal e → asked ≡ goal →
    IsBegun (record { boot = boot; goal = asked; limit = limit; exploring = e })
is_begun boot limit goal asked e at some fits begun same =
    subst (λ (g : Criteria). IsBegun (record { boot = boot; goal = g; limit = limit; exploring = e })) (sym same)
    (record { boot = at; some = some; fits = fits; good = begun.good; asked = begun.asked; exploring = begun.begun limit some })

pub is_fresh : (boot : State) (limit : ℕ) (goal asked : Criteria) (e : Exploring) → IsAtBoot boot → 0 < limit → limit < 2 ^ 32 → IsBegunOf boot goal e → asked ≡ goal →
    IsFresh boot limit goal (record { boot = boot; goal = asked; limit = limit; exploring = e })
is_fresh boot limit goal asked e at some fits begun same =
    (record { same_boot = refl; same_limit = refl; same_goal = same; begun = is_begun boot limit goal asked e at some fits begun same }, begun.start)

-- what a slice says, once it has the answer
pub is_explored : (b : Begun) (goal : Criteria) (number : ℕ) (after : Exploring) (o : Option (Answer EventVerdict Unknown)) (a : Answer EventVerdict Unknown) (found : Exploration) (events : List ℕ) →
    IsBegun b → goal ≡ b.goal → GoesOnExploring b.boot goal b.limit number b.exploring after o → o ≡ Some a → Tells a found events →
    IsExplored b.boot b.limit b.goal found events
is_explored b goal number after o a found events begun same goes is tells =
    let h = subst (GoesOnExploring b.boot b.goal b.limit number b.exploring after) is
    (subst (λ (g : Criteria). GoesOnExploring b.boot g b.limit number b.exploring after o) same goes) in
    record { some = begun.some; good = begun.good; asked = begun.asked; known = after.known; learnt = h.2; answer = a; answers = h.0; tells = tells }

-- why it isn't begun
pub not_begun : (boot other : State) (limit : ℕ) (goal asked : Criteria) (answer : ℕ) → 0 < limit → other ≡ boot → asked ≡ goal → IsRefused other asked answer →
    IsUnexplored boot limit goal answer
not_begun boot other limit goal asked answer some same_boot same_goal h =
    inr (some, subst (λ (s : State). IsRefused s goal answer) same_boot (subst (λ (g : Criteria). IsRefused other g answer) same_goal h))
