use Rattle.std.proofs.Common.{◌≡◌, ◌∙◌, inl, inr, refl, ap, sym, subst, ℕ, ◌<◌, arith, Bool, true, false, Option, None, Some}
use Rattle.std.specs.Prelude.{◌==◌, if◌then◌else◌, nat_lt, option_map, slice_get}
use Rattle.std.proofs.lemmas.Bool.Decides.{nat_tests}
use Rattle.m161_machine.specs.declared.event.Event.{Event}
use Rattle.m161_machine.specs.declared.event.Event.TheVariants.{Done, Key, Step}
use Rattle.m161_explore.specs.declared.system.Advanced.{Advanced}
use Rattle.m161_explore.specs.declared.system.Advanced.TheVariants.{Judged, Passed, Refused, Stopped}
use Rattle.m161_explore.specs.Rules.{Advances}
use Rattle.m161_states.specs.declared.verdict.Unknown.{Unknown}
use Rattle.m161_states.specs.declared.verdict.EventVerdict.{EventVerdict}
use Rattle.m161_states.specs.Question.{Question, processors_of}
use Rattle.m161_states.specs.System.{Explored, event_of, next_by}
use Rattle.m161_states.specs.Verdicts.{stop_by}
use Rattle.m161_reach.specs.Reach.{IsMet, rules_of}
use Rattle.m161_reach.specs.helpers.Advance.{AdvancesBy, IsBehind, asked}
use Rattle.m161_reach.specs.Met.{met_next}
use Rattle.m161_reach.specs.helpers.MetFrom.{unmade_met}

-- The states that are met.

-- what is asked decides it, whatever is booted

same_stop : (q : Question) (x : Explored) (e : Option Event) → stop_by (asked q.goal q.known) x e ≡ stop_by q x e
same_stop q x None = refl
same_stop q x (Some (Step p)) = refl
same_stop q x (Some (Key byte)) = refl
same_stop q x (Some Done) = refl

came_by : (q : Question) (x t : Explored) (n : ℕ) (came : Advanced EventVerdict Unknown) → IsMet q x →
    AdvancesBy (asked q.goal q.known) x (event_of q x n) t came → Advances (rules_of q) (IsMet q) x n t came
unfolding rules_of
came_by q x t n Refused met h = (sym (same_stop q x (event_of q x n)) ∙ h.0, h.1)
came_by q x t n Passed met h =
    let u = h.0 in
    let is = h.4 in (
      u,
      sym (same_stop q x (event_of q x n)) ∙ h.1,
      h.2,
      h.3,
      subst (IsMet q) (sym is) (unmade_met q u (met_next q x u n met h.2)),
      ap (rules_of q).view is,
    )
came_by q x t n (Judged what) met h = (h.0, sym (same_stop q x (event_of q x n)) ∙ h.1, h.2, h.3)
came_by q x t n (Stopped reason) met h = sym (same_stop q x (event_of q x n)) ∙ h.0

pub came : (q : Question) (x t : Explored) (n : ℕ) (e : Option Event) (come : Advanced EventVerdict Unknown) → IsMet q x → event_of q x n ≡ e →
    AdvancesBy (asked q.goal q.known) x e t come → Advances (rules_of q) (IsMet q) x n t come
came q x t n e come met is h = came_by q x t n come met (subst (λ f. AdvancesBy (asked q.goal q.known) x f t come) (sym is) h)

-- the events by their numbers

abbrev last_of : Question → Explored → Option Event
last_of q x = option_map (λ byte. Key byte) (slice_get q.goal.keys x.typed)

abbrev picked : Question → Explored → ℕ → Bool → Bool → Option Event
picked q x n first second = if first then Some (Step n) else if second then Some Done else last_of q x

pub step_event : (q : Question) (x : Explored) (n : ℕ) → n < processors_of q → event_of q x n ≡ Some (Step n)
step_event q x n below =
    let test : nat_lt n (processors_of q) ≡ true = grind (arith, nat_tests, below) in ap (λ b. picked q x n b (n == processors_of q)) test

pub done_event : (q : Question) (x : Explored) (n : ℕ) → n ≡ processors_of q → event_of q x n ≡ Some Done
done_event q x n is =
    let first : nat_lt n (processors_of q) ≡ false = grind (arith, nat_tests, is) in
    let second : (n == processors_of q) ≡ true = grind (arith, nat_tests, is) in
    λ i. picked q x n (first i) (second i)

pub key_event : (q : Question) (x : Explored) (n : ℕ) → processors_of q < n → event_of q x n ≡ option_map (λ byte. Key byte) (slice_get q.goal.keys x.typed)
key_event q x n past =
    let first : nat_lt n (processors_of q) ≡ false = grind (arith, nat_tests, past) in
    let second : (n == processors_of q) ≡ false = grind (arith, nat_tests, past) in
    λ i. picked q x n (first i) (second i)

-- where the machine is behind an event

pub is_behind : (q : Question) (x t : Explored) (e : Option Event) (come : Advanced EventVerdict Unknown) → AdvancesBy q x e t come → IsBehind q.goal x e t
is_behind q x t e Refused h = inl h.2
is_behind q x t e Passed h = inr (h.0, h.2, h.4)
is_behind q x t e (Judged what) h = inr (h.0, h.2, h.4)
is_behind q x t e (Stopped reason) h = inl h.1

pub behind_met : (q : Question) (x t : Explored) (n : ℕ) (e : Option Event) → IsMet q x → event_of q x n ≡ e → IsBehind q.goal x e t → IsMet q t
unfolding rules_of
behind_met q x t n e met is (inl same) = subst (IsMet q) (sym same) met
behind_met q x t n e met is (inr next) =
    subst (IsMet q) (sym next.2) (unmade_met q next.0 (met_next q x next.0 n met (ap (next_by q.goal x) is ∙ next.1)))
