use Rattle.std.proofs.Common.{◌≡◌, ◌≢◌, ◌∙◌, refl, ap, sym, subst, ℕ, zero, suc, ◌+◌, ◌<◌, ◌≤◌, arith, Bool, true, false, List, [], ◌∷◌, ◌++◌, length, Option, None, Some, Result, Ok, Err, ◌⊎◌, inl, inr}
use Rattle.std.specs.Prelude.{◌==◌, ◌&&◌, not, is_some, nat_lt, option_map, if◌then◌else◌}
use Rattle.std.specs.List.{list_any}
use Rattle.std.specs.Option.{option_or}
use Rattle.m161_cpu.specs.declared.processor.Outcome.{Outcome}
use Rattle.m161_machine.specs.declared.event.Conflict.{Conflict as ConflictOf}
use Rattle.m161_machine.specs.declared.event.Event.{Event}
use Rattle.m161_machine.specs.declared.event.Event.TheVariants.{Done, Key, Step}
use Rattle.m161_machine.specs.declared.event.Refusal.{Refusal}
use Rattle.m161_machine.specs.Fetched.{fetched}
use Rattle.m161_machine.specs.Resting.{rests, ticks}
use Rattle.m161_machine.specs.State.{State, next as result_of, processor_at}
use Rattle.m161_machine.specs.StoreHistory.{live_state}
use Rattle.m161_audit.specs.Stale.{UsesStale, after_event}
use Rattle.m161_judge.specs.Verdict.{HasSent, has_keys, is_stuck}
use Rattle.m161_alike.specs.Law.{SentLaw}
use Rattle.m161_states.specs.declared.verdict.EventVerdict.{EventVerdict}
use Rattle.m161_states.specs.declared.verdict.EventVerdict.TheVariants.{Conflict, Output, Reached, Stale, Stuck}
use Rattle.m161_states.specs.Question.{Question}
use Rattle.m161_states.specs.System.{Explored, behind, fresh}
use Rattle.m161_states.specs.Verdicts.{conflict_in, has_sent, is_stuck_in, judged, output_in, reached_by, stale_use, stuck_in, verdict_by, wrong_in, wrong_with}
use Rattle.m161_states.specs.Run.{IsBehind, agreed_of, freshened}
use Rattle.m161_states.specs.Judged.{IsFirstWrong, IsWrong, Made, VerdictIsFirst, rank}
use Rattle.m161_states.proofs.Agreed.{agreed_tells}
use Rattle.m161_states.proofs.Audited.{stale_is_audited, use_told}
use Rattle.m161_states.proofs.Followed.{follows_to, freshened_is, image_behind, same_given}

-- The verdict is the first kind that holds.

-- one kind, or some that follow one another

abbrev IsTest : Question → Made → ℕ → Option EventVerdict → Type 0
IsTest q m k o = ((v : EventVerdict) → o ≡ Some v → (rank v ≡ k) × IsWrong q m v) × (o ≡ None → (w : EventVerdict) → rank w ≡ k → IsWrong q m w → ⊥)

abbrev AreTests : Question → Made → ℕ → ℕ → Option EventVerdict → Type 0
AreTests q m low high None = (w : EventVerdict) → low ≤ rank w → rank w < high → IsWrong q m w → ⊥
AreTests q m low high (Some v) = (low ≤ rank v) × IsWrong q m v × ((w : EventVerdict) → low ≤ rank w → rank w < rank v → IsWrong q m w → ⊥)

one_test : (q : Question) (m : Made) (k : ℕ) (o : Option EventVerdict) → IsTest q m k o → AreTests q m k (k + 1) o
one_test q m k None h = λ w low high wrong. h.1 refl w (omega (arith, low, high)) wrong
one_test q m k (Some v) h =
    let found = h.0 v refl in
    let is = found.0 in
    (omega (arith, is), found.1, λ w low less wrong. absurd (let bad : ⊥ = omega (arith, is, low, less) in bad))

below_or : (a b : ℕ) → (a < b) ⊎ (b ≤ a)
below_or zero zero = inr (omega arith)
below_or zero (suc b) = inl (omega arith)
below_or (suc a) zero = inr (omega arith)
below_or (suc a) (suc b) = up (below_or a b)
  where
    up : (a < b) ⊎ (b ≤ a) → (suc a < suc b) ⊎ (suc b ≤ suc a)
    up (inl h) = inl (omega (arith, h))
    up (inr h) = inr (omega (arith, h))

by_side : (q : Question) (m : Made) (low mid : ℕ) (w : EventVerdict) → AreTests q m low mid None → low ≤ rank w → (mid ≤ rank w → ⊥) → IsWrong q m w → (rank w < mid) ⊎ (mid ≤ rank w) → ⊥
by_side q m low mid w none from_low past wrong (inl h) = none w from_low h wrong
by_side q m low mid w none from_low past wrong (inr h) = past h

both_tests : (q : Question) (m : Made) (low mid high : ℕ) (o r : Option EventVerdict) → low ≤ mid → AreTests q m low mid o → AreTests q m mid high r → AreTests q m low high (option_or o r)
both_tests q m low mid high (Some v) r le a b = a
both_tests q m low mid high None None le a b =
    λ w from_low less wrong. by_side q m low mid w a from_low (λ past. b w past less wrong) wrong (below_or (rank w) mid)
both_tests q m low mid high None (Some v) le a b =
    let past_mid = b.0 in
    (omega (arith, le, past_mid), b.1, λ w from_low less wrong. by_side q m low mid w a from_low (λ past. b.2 w past less wrong) wrong (below_or (rank w) mid))

all_tests : (q : Question) (m : Made) (o : Option EventVerdict) → AreTests q m 0 5 o → IsFirstWrong q m o
all_tests q m None h = λ v wrong. h v (omega arith) (small v) wrong
  where
    small : (v : EventVerdict) → rank v < 5
    small (Stale p address row) = omega arith
    small (Reached p address) = omega arith
    small (Conflict conflict) = omega arith
    small Stuck = omega arith
    small Output = omega arith
all_tests q m (Some v) h = (h.1, λ w less wrong. h.2 w (omega arith) less wrong)

some_is : (a b : EventVerdict) → ◌≡◌ {A = Option EventVerdict} (Some a) (Some b) → a ≡ b
some_is a b h = cc

-- an option by a test

test_by : (q : Question) (m : Made) (k : ℕ) (v : EventVerdict) (t : Bool) → rank v ≡ k → (t ≡ true → IsWrong q m v) →
    (t ≡ false → (w : EventVerdict) → rank w ≡ k → IsWrong q m w → ⊥) → IsTest q m k (if t then Some v else None)
test_by q m k v true is hold miss = (
  λ u h. let same : v ≡ u = some_is v u h in subst (λ y. (rank y ≡ k) × IsWrong q m y) same (is, hold refl),
  λ h. absurd (let bad : ◌≡◌ {A = Option EventVerdict} (Some v) None = h in cc),
)
test_by q m k v false is hold miss = (
  λ u h. absurd (let bad : ◌≡◌ {A = Option EventVerdict} None (Some u) = h in cc),
  λ h w r wrong. miss refl w r wrong,
)

both_are : (a b : Bool) → (a && b) ≡ true → (a ≡ true) × (b ≡ true)
both_are true b h = (refl, h)
both_are false b h = absurd (let bad : false ≡ true = h in cc)

both_and : (a b : Bool) → a ≡ true → b ≡ true → (a && b) ≡ false → ⊥
both_and a b ha hb h = let bad : true ≡ false = sym (λ i. ha i && hb i) ∙ h in cc

not_of : (a : Bool) → not a ≡ true → a ≡ true → ⊥
not_of a h e = let bad : false ≡ true = sym (ap not e) ∙ h in cc

is_not : (a : Bool) → (a ≡ true → ⊥) → not a ≡ true
is_not true h = absurd (h refl)
is_not false h = refl

-- the five kinds, behind an event that is accepted

is_stuck_fresh : (keys : Bool) (s : State) → is_stuck keys (fresh s) ≡ is_stuck keys s
unfolding rests ticks
is_stuck_fresh keys s = refl

asked_for : (output : Option (List ℕ)) → is_some output ≡ true → output ≢ None
asked_for None h = λ e. let bad : false ≡ true = h in cc
asked_for (Some asked) h = λ e. let bad : ◌≡◌ {A = Option (List ℕ)} (Some asked) None = e in cc

is_asked : (output : Option (List ℕ)) → output ≢ None → is_some output ≡ true
is_asked None h = absurd (h refl)
is_asked (Some asked) h = refl

step_is : (p r : ℕ) → ◌≡◌ {A = Event} (Step p) (Step r) → p ≡ r
step_is p r h = cc

abbrev made_of : Made → Outcome × State
made_of m = (m.outcome, m.behind)

module _ (law : SentLaw) (q : Question) (m : Made) (x : Explored) (a : Outcome × State) (b : IsBehind q m.events m.before x)
    (h : result_of (live_state m.before) m.event ≡ Ok (m.outcome, m.behind)) (outcome : a.0 ≡ m.outcome) (same : fresh a.1 ≡ fresh m.behind) where
  off_is : a.1.board.off ≡ m.behind.board.off
  off_is = ap (λ (u : State). u.board.off) same

  conflict_is : a.1.conflict ≡ m.behind.conflict
  conflict_is = ap (λ (u : State). u.conflict) same

  follows : IsBehind q (m.events ++ m.event ∷ []) (after_event m.before m.event) (behind q.goal x m.event a.1)
  follows = follows_to law q m.events m.before x m.event b (made_of m) a h same

  stuck_is : is_stuck_in q.goal (behind q.goal x m.event a.1) ≡ is_stuck (has_keys q.goal.keys (m.events ++ m.event ∷ [])) m.behind
  stuck_is =
      ap (λ n. is_stuck (nat_lt n (length q.goal.keys)) a.1) follows.typed
      ∙ sym (is_stuck_fresh (has_keys q.goal.keys (m.events ++ m.event ∷ [])) a.1)
      ∙ ap (is_stuck (has_keys q.goal.keys (m.events ++ m.event ∷ []))) same
      ∙ is_stuck_fresh (has_keys q.goal.keys (m.events ++ m.event ∷ [])) m.behind

  agreed_is : (behind q.goal x m.event a.1).agreed ≡ agreed_of q.goal.output m.behind.board.console.output
  agreed_is = follows.agreed ∙ ap (λ (u : State). agreed_of q.goal.output u.board.console.output) (image_behind q m.events m.before x m.event b (made_of m) h)

  abbrev sent : Bool
  sent = has_sent q.goal.output (behind q.goal x m.event a.1).agreed

  sent_is : sent ≡ true → HasSent q.goal m.behind
  sent_is e = (agreed_tells q.goal.output m.behind.board.console.output).0 (sym (ap (has_sent q.goal.output) agreed_is) ∙ e)

  is_sent : HasSent q.goal m.behind → sent ≡ true
  is_sent e = ap (has_sent q.goal.output) agreed_is ∙ (agreed_tells q.goal.output m.behind.board.console.output).1 e

  -- output

  output_missed : (is_some q.goal.output && a.1.board.off && not sent) ≡ false → (w : EventVerdict) → rank w ≡ 4 → IsWrong q m w → ⊥
  output_missed t Output r wrong =
      both_and (is_some q.goal.output && a.1.board.off) (not sent)
      (λ i. two (is_asked q.goal.output wrong.0 i) ((off_is ∙ wrong.1) i)) (is_not sent (λ e. wrong.2 (sent_is e))) t
    where
      two : Bool → Bool → Bool
      two c d = c && d
  output_missed t (Stale p address row) r wrong = omega (arith, r)
  output_missed t (Reached p address) r wrong = omega (arith, r)
  output_missed t (Conflict conflict) r wrong = omega (arith, r)
  output_missed t Stuck r wrong = omega (arith, r)

  output_held : (is_some q.goal.output && a.1.board.off && not sent) ≡ true → IsWrong q m Output
  output_held t =
      let both = both_are (is_some q.goal.output && a.1.board.off) (not sent) t in
      let two = both_are (is_some q.goal.output) a.1.board.off both.0 in
      (asked_for q.goal.output two.0, sym off_is ∙ two.1, λ e. not_of sent both.1 (is_sent e))

  output_test : IsTest q m 4 (output_in q.goal (behind q.goal x m.event a.1))
  output_test = test_by q m 4 Output (is_some q.goal.output && a.1.board.off && not sent) refl output_held output_missed

  -- stuck

  stuck_missed : (is_stuck_in q.goal (behind q.goal x m.event a.1) && not sent) ≡ false → (w : EventVerdict) → rank w ≡ 3 → IsWrong q m w → ⊥
  stuck_missed t Stuck r wrong =
      both_and (is_stuck_in q.goal (behind q.goal x m.event a.1)) (not sent) (stuck_is ∙ wrong.0) (is_not sent (λ e. wrong.1 (sent_is e))) t
  stuck_missed t (Stale p address row) r wrong = omega (arith, r)
  stuck_missed t (Reached p address) r wrong = omega (arith, r)
  stuck_missed t (Conflict conflict) r wrong = omega (arith, r)
  stuck_missed t Output r wrong = omega (arith, r)

  stuck_held : (is_stuck_in q.goal (behind q.goal x m.event a.1) && not sent) ≡ true → IsWrong q m Stuck
  stuck_held t =
      let both = both_are (is_stuck_in q.goal (behind q.goal x m.event a.1)) (not sent) t in
      (sym stuck_is ∙ both.0, λ e. not_of sent both.1 (is_sent e))

  stuck_test : IsTest q m 3 (stuck_in q.goal (behind q.goal x m.event a.1))
  stuck_test = test_by q m 3 Stuck (is_stuck_in q.goal (behind q.goal x m.event a.1) && not sent) refl stuck_held stuck_missed

  -- conflict

  conflict_missed : ((c : ConflictOf) → m.behind.board.off ≡ true → m.behind.conflict ≡ Some c → ⊥) → (w : EventVerdict) → rank w ≡ 2 → IsWrong q m w → ⊥
  conflict_missed none (Conflict c) r wrong = none c wrong.0 wrong.1
  conflict_missed none (Stale p address row) r wrong = omega (arith, r)
  conflict_missed none (Reached p address) r wrong = omega (arith, r)
  conflict_missed none Stuck r wrong = omega (arith, r)
  conflict_missed none Output r wrong = omega (arith, r)

  conflict_by : (off : Bool) (c : Option ConflictOf) → a.1.board.off ≡ off → a.1.conflict ≡ c → IsTest q m 2 (if off then option_map (λ d. Conflict d) c else None)
  conflict_by true (Some c) is_off is_c = (
    λ u e. let kind : Conflict c ≡ u = some_is (Conflict c) u e in
        subst (λ v. (rank v ≡ 2) × IsWrong q m v) kind (refl, (sym off_is ∙ is_off, sym conflict_is ∙ is_c)),
    λ e. absurd (let bad : ◌≡◌ {A = Option EventVerdict} (Some (Conflict c)) None = e in cc),
  )
  conflict_by true None is_off is_c = (
    λ u e. absurd (let bad : ◌≡◌ {A = Option EventVerdict} None (Some u) = e in cc),
    λ e. conflict_missed (λ c off is. let bad : ◌≡◌ {A = Option ConflictOf} None (Some c) = sym is_c ∙ conflict_is ∙ is in cc),
  )
  conflict_by false c is_off is_c = (
    λ u e. absurd (let bad : ◌≡◌ {A = Option EventVerdict} None (Some u) = e in cc),
    λ e. conflict_missed (λ d off is. let bad : false ≡ true = sym is_off ∙ off_is ∙ off in cc),
  )

  conflict_test : IsTest q m 2 (conflict_in a.1)
  conflict_test = conflict_by a.1.board.off a.1.conflict refl refl

  -- stale and reached

  module _ (p : ℕ) (is : m.event ≡ Step p) where
    stale_missed : stale_use q.goal x p ≡ None → (w : EventVerdict) → rank w ≡ 0 → IsWrong q m w → ⊥
    stale_missed none (Stale r address row) k wrong =
        let p_is : p ≡ r = step_is p r (sym is ∙ wrong.3.event_is) in
        let uses : UsesStale m.before q.goal.watches p wrong.0 = subst (λ n. UsesStale m.before q.goal.watches n wrong.0) (sym p_is) wrong.3.uses in
        let found = (stale_is_audited q m.events m.before x p b).found wrong.0 uses in
        let bad : ◌≡◌ {A = Option EventVerdict} None (Some (Stale p wrong.0.address wrong.0.row)) = sym none ∙ found in cc
    stale_missed none (Reached r address) k wrong = omega (arith, k)
    stale_missed none (Conflict conflict) k wrong = omega (arith, k)
    stale_missed none Stuck k wrong = omega (arith, k)
    stale_missed none Output k wrong = omega (arith, k)

    stale_held : (u : EventVerdict) → stale_use q.goal x p ≡ Some u → (rank u ≡ 0) × IsWrong q m u
    stale_held u e =
        let told = use_told q m.events m.before x p b u e in
        let v = told.0 in
        subst (λ w. (rank w ≡ 0) × IsWrong q m w) (sym told.1)
        (refl, (v, refl, refl, record { event_is = is; given = made_of m; accepted = h; uses = told.2 }))

    word_is : is_some (fetched p x.state a.0) ≡ is_some (fetched p (live_state m.before) m.outcome)
    word_is = ap (λ (u : State). is_some (fetched p u a.0)) b.state ∙ ap (λ o. is_some (fetched p (live_state m.before) o)) outcome

    pc_is : (processor_at p x.state.processors).pc ≡ (processor_at p m.before.processors).pc
    pc_is = ap (λ (u : State). (processor_at p u.processors).pc) b.state

    abbrev among : Bool
    among = list_any (λ c. c == (processor_at p x.state.processors).pc) q.goal.never

    reached_missed : (is_some (fetched p x.state a.0) && among) ≡ false → (w : EventVerdict) → rank w ≡ 1 → IsWrong q m w → ⊥
    reached_missed t (Reached r address) k wrong =
        let p_is : r ≡ p = step_is r p (sym wrong.0 ∙ is) in
        let fetches : is_some (fetched p (live_state m.before) m.outcome) ≡ true = subst (λ n. is_some (fetched n (live_state m.before) m.outcome) ≡ true) p_is wrong.1 in
        let there : address ≡ (processor_at p m.before.processors).pc = subst (λ n. address ≡ (processor_at n m.before.processors).pc) p_is wrong.2 in
        both_and (is_some (fetched p x.state a.0)) among (word_is ∙ fetches)
        (ap (λ n. list_any (λ c. c == n) q.goal.never) (pc_is ∙ sym there) ∙ wrong.3) t
    reached_missed t (Stale r address row) k wrong = omega (arith, k)
    reached_missed t (Conflict conflict) k wrong = omega (arith, k)
    reached_missed t Stuck k wrong = omega (arith, k)
    reached_missed t Output k wrong = omega (arith, k)

    reached_held : (is_some (fetched p x.state a.0) && among) ≡ true → IsWrong q m (Reached p (processor_at p x.state.processors).pc)
    reached_held t =
        let both = both_are (is_some (fetched p x.state a.0)) among t in
        (is, sym word_is ∙ both.0, pc_is, both.1)

    step_tests : AreTests q m 0 2 (wrong_with q.goal x (Step p) a.0)
    step_tests =
        both_tests q m 0 1 2 (stale_use q.goal x p) (reached_by q.goal x p a.0) (omega arith)
        (one_test q m 0 (stale_use q.goal x p) (stale_held, stale_missed))
        (one_test q m 1 (reached_by q.goal x p a.0)
        (test_by q m 1 (Reached p (processor_at p x.state.processors).pc) (is_some (fetched p x.state a.0) && among) refl reached_held reached_missed))

  no_step : ((p : ℕ) → m.event ≡ Step p → ⊥) → AreTests q m 0 2 None
  no_step none (Stale p address row) low less wrong = none p wrong.3.event_is
  no_step none (Reached p address) low less wrong = none p wrong.0
  no_step none (Conflict conflict) low less wrong = omega (arith, less)
  no_step none Stuck low less wrong = omega (arith, less)
  no_step none Output low less wrong = omega (arith, less)

  event_tests : (e : Event) → m.event ≡ e → AreTests q m 0 2 (wrong_with q.goal x e a.0)
  event_tests (Step p) is = step_tests p is
  event_tests (Key byte) is = no_step (λ p e. let bad : ◌≡◌ {A = Event} (Key byte) (Step p) = sym is ∙ e in cc)
  event_tests Done is = no_step (λ p e. let bad : ◌≡◌ {A = Event} Done (Step p) = sym is ∙ e in cc)

  judged_first : IsFirstWrong q m (judged q.goal x m.event (Ok a))
  judged_first =
      let z = behind q.goal x m.event a.1 in
      all_tests q m (judged q.goal x m.event (Ok a))
      (both_tests q m 0 2 5 (wrong_with q.goal x m.event a.0) (wrong_in q.goal z) (omega arith) (event_tests m.event refl)
      (both_tests q m 2 3 5 (conflict_in a.1) (option_or (stuck_in q.goal z) (output_in q.goal z)) (omega arith) (one_test q m 2 (conflict_in a.1) conflict_test)
      (both_tests q m 3 4 5 (stuck_in q.goal z) (output_in q.goal z) (omega arith) (one_test q m 3 (stuck_in q.goal z) stuck_test)
      (one_test q m 4 (output_in q.goal z) output_test))))

given_parts : (a c : Outcome × State) → ◌≡◌ {A = Result (Outcome × State) Refusal} (Ok (a.0, fresh a.1)) (Ok (c.0, fresh c.1)) → a.0 ≡ c.0
given_parts a c h = let pair : ◌≡◌ {A = Outcome × State} (a.0, fresh a.1) (c.0, fresh c.1) = cc in ap (λ (z : Outcome × State). z.0) pair

first_by : SentLaw → (q : Question) (m : Made) (x : Explored) (r : Result (Outcome × State) Refusal) → IsBehind q m.events m.before x →
    result_of (live_state m.before) m.event ≡ Ok (m.outcome, m.behind) → freshened r ≡ freshened (Ok (m.outcome, m.behind)) → IsFirstWrong q m (judged q.goal x m.event r)
first_by law q m x (Ok a) b h same = judged_first law q m x a b h (given_parts a (made_of m) same) (same_given a (made_of m) same)
first_by law q m x (Err refused) b h same =
    absurd (let bad : ◌≡◌ {A = Result (Outcome × State) Refusal} (Err refused) (Ok (m.outcome, fresh m.behind)) = same in cc)

pub verdict_is_first : SentLaw → VerdictIsFirst
verdict_is_first law q m x n b worn is h =
    subst (λ f. IsFirstWrong q m (verdict_by q.goal x f)) (sym is)
    (first_by law q m x (result_of (fresh x.state) m.event) b h (freshened_is q m.events m.before x m.event b worn ∙ ap freshened h))
