use Rattle.std.proofs.Common.{◌≡◌, ◌∙◌, refl, ap, sym, subst, ℕ, ◌+◌, arith, false, List, [], ◌∷◌, ◌++◌, cond, length, map, Option, None, Some, Result, Ok, Err}
use Rattle.std.specs.Prelude.{All, count_by, nat_le}
use Rattle.std.specs.List.{fold}
use Rattle.m161_isa.specs.Choice.{first_answer}
use Rattle.m161_bus.specs.declared.console.DoneError.{DoneError}
use Rattle.m161_bus.specs.declared.console.KeyFull.{KeyFull}
use Rattle.m161_bus.specs.Board.{BoardState, board_done, board_key}
use Rattle.m161_cpu.specs.declared.processor.Outcome.{Outcome}
use Rattle.m161_cpu.specs.Uses.{uses_of}
use Rattle.m161_machine.specs.declared.event.Event.{Event}
use Rattle.m161_machine.specs.declared.event.Event.TheVariants.{Done, Key, Step}
use Rattle.m161_machine.specs.declared.event.Refusal.{Refusal}
use Rattle.m161_machine.specs.declared.event.Refusal.TheVariants.{BadProcessor, Off, Worn}
use Rattle.m161_machine.specs.History.{boot_state}
use Rattle.m161_machine.specs.State.{State, answer, answered_done, answered_key, is_worn, next as result_of, refusal, step_result, unless}
use Rattle.m161_machine.specs.StoreHistory.{StoreState, first_link, links_of, live_state, stores_after, stores_of, with_stores, with_stores_of, without_stores}
use Rattle.m161_machine.specs.Uses.{uses_in}
use Rattle.m161_machine.proofs.Linking.{IsMade}
use Rattle.m161_machine.proofs.Storing.{image, links_first, made_first, next_with_stores}
use Rattle.m161_audit.specs.Stale.{after_event, after_events, state_given}
use Rattle.m161_judge.specs.Verdict.{is_key}
use Rattle.m161_alike.specs.Law.{SentLaw, sent_by}
use Rattle.m161_states.specs.Question.{Question, booted}
use Rattle.m161_states.specs.System.{Explored, accepted, agreed_after, agreed_at_boot, behind, flags_behind, fresh, next_by, stored_by, typed_after}
use Rattle.m161_states.specs.Run.{FreshIsSame, GoesOn, IsBehind, NextIsEvent, StartIsBoot, agreed_of, flags_of, freshened}
use Rattle.m161_states.proofs.Agreed.{agreed_append}
use Rattle.m161_states.proofs.Told.{flags_more}

-- A state of the exploration follows a run of the machine.

-- the number of events before an event is of no account, where the machine isn't worn

key_fresh : (s : State) (r : Result BoardState KeyFull) → freshened (answered_key (fresh s) r) ≡ freshened (answered_key s r)
key_fresh s (Ok board) = refl
key_fresh s (Err e) = refl

done_fresh : (s : State) (r : Result BoardState DoneError) → freshened (answered_done (fresh s) r) ≡ freshened (answered_done s r)
done_fresh s (Ok board) = refl
done_fresh s (Err e) = refl

answer_fresh : (s : State) (e : Event) → freshened (answer (fresh s) e) ≡ freshened (answer s e)
unfolding step_result
answer_fresh s (Step p) = refl
answer_fresh s (Key byte) = key_fresh s (board_key byte s.board)
answer_fresh s Done = done_fresh s (board_done s.board)

refusal_fresh : (s : State) (e : Event) → is_worn s.made ≡ false → refusal (fresh s) e ≡ refusal s e
refusal_fresh s (Step p) worn = λ i. first_answer ((nat_le (length s.processors) p, BadProcessor) ∷ (s.board.off, Off) ∷ (sym worn i, Worn) ∷ [])
refusal_fresh s (Key byte) worn = λ i. first_answer ((s.board.off, Off) ∷ (sym worn i, Worn) ∷ [])
refusal_fresh s Done worn = λ i. first_answer ((s.board.off, Off) ∷ (sym worn i, Worn) ∷ [])

unless_fresh : (o : Option Refusal) (q r : Result (Outcome × State) Refusal) → freshened q ≡ freshened r → freshened (unless o q) ≡ freshened (unless o r)
unless_fresh None q r h = h
unless_fresh (Some refused) q r h = refl

pub next_fresh : (s : State) (e : Event) → is_worn s.made ≡ false → freshened (result_of (fresh s) e) ≡ freshened (result_of s e)
unfolding result_of
next_fresh s e worn =
    ap (λ o. freshened (unless o (answer (fresh s) e))) (refusal_fresh s e worn)
    ∙ unless_fresh (refusal s e) (answer (fresh s) e) (answer s e) (answer_fresh s e)

-- links of a run were made when there were at most as many stores

abbrev AreMade : StoreState → Type 0
AreMade s = All (IsMade s.stores) s.links

event_made : (s : StoreState) (e : Event) (r : Result (Outcome × State) Refusal) → result_of (live_state s) e ≡ r → AreMade s → AreMade (after_event s e)
event_made s e (Ok given) h made =
    let law = next_with_stores e s given.0 given.1 made h in
    let is : after_event s e ≡ with_stores (stores_of e s) (links_of e s) given.1 = ap (state_given s) law.0 in
    subst AreMade (sym is) law.2
event_made s e (Err refused) h made =
    subst AreMade (sym (ap (λ x. state_given s (with_stores_of e s x)) h)) made

run_made : (es : List Event) (s : StoreState) → AreMade s → AreMade (after_events s es)
run_made [] s made = made
run_made (e ∷ es) s made = run_made es (after_event s e) (event_made s e (result_of (live_state s) e) refl made)

run_more : (es : List Event) (s : StoreState) (e : Event) → after_events s (es ++ e ∷ []) ≡ after_event (after_events s es) e
run_more [] s e = refl
run_more (f ∷ es) s e = run_more es (after_event s f) e

made_behind : (q : Question) (es : List Event) (s : StoreState) (x : Explored) → IsBehind q es s x → AreMade s
made_behind q es s x b =
    let first = boot_state (booted q) in
    subst AreMade (sym b.run) (run_made es (without_stores first) (made_first first.links.live))

-- what is kept beside

fold_more : (f : ℕ → Event → ℕ) (n : ℕ) (es : List Event) (e : Event) → fold f n (es ++ e ∷ []) ≡ f (fold f n es) e
fold_more f n [] e = refl
fold_more f n (d ∷ es) e = fold_more f (f n d) es e

one_typed : (e : Event) (n : ℕ) → n + cond (is_key e) 1 0 ≡ typed_after e n
one_typed (Step p) n = omega arith
one_typed (Key byte) n = refl
one_typed Done n = omega arith

typed_more : (es : List Event) (e : Event) → count_by is_key (es ++ e ∷ []) ≡ typed_after e (count_by is_key es)
typed_more es e = fold_more (λ n d. n + cond (is_key d) 1 0) 0 es e ∙ one_typed e (count_by is_key es)

stored_fresh : (e : Event) (s : State) → stored_by e (fresh s) ≡ stored_by e s
unfolding uses_in
stored_fresh (Step p) s = refl
stored_fresh (Key byte) s = refl
stored_fresh Done s = refl

sent_fresh : (e : Event) (s : State) → sent_by e (fresh s) ≡ sent_by e s
sent_fresh (Step p) s = refl
sent_fresh (Key byte) s = refl
sent_fresh Done s = refl

stores_are : (e : Event) (s : StoreState) → stores_of e s ≡ stores_after (stored_by e (live_state s)) s.stores
unfolding uses_in uses_of step_result
stores_are (Step p) s = refl
stores_are (Key byte) s = refl
stores_are Done s = refl

-- one event more

pub same_given : (a b : Outcome × State) → ◌≡◌ {A = Result (Outcome × State) Refusal} (Ok (a.0, fresh a.1)) (Ok (b.0, fresh b.1)) → fresh a.1 ≡ fresh b.1
same_given a b h = let pair : ◌≡◌ {A = Outcome × State} (a.0, fresh a.1) (b.0, fresh b.1) = cc in ap (λ (x : Outcome × State). x.1) pair

module _ (law : SentLaw) (q : Question) (es : List Event) (s : StoreState) (x : Explored) (e : Event) (b : IsBehind q es s x) where
  behind_is : (given a : Outcome × State) → result_of (live_state s) e ≡ Ok given → fresh a.1 ≡ fresh given.1 → IsBehind q (es ++ e ∷ []) (after_event s e) (behind q.goal x e a.1)
  behind_is given a h same =
      let more = next_with_stores e s given.0 given.1 (made_behind q es s x b) h in
      let is : after_event s e ≡ with_stores (stores_of e s) (links_of e s) given.1 = ap (state_given s) more.0 in
      let image_is : live_state (after_event s e) ≡ given.1 = ap live_state is ∙ more.1 in
      let stored : stored_by e x.state ≡ stored_by e (live_state s) = sym (stored_fresh e x.state) ∙ ap (stored_by e) b.state ∙ stored_fresh e (live_state s) in
      let sent : sent_by e x.state ≡ sent_by e (live_state s) = sym (sent_fresh e x.state) ∙ ap (sent_by e) b.state ∙ sent_fresh e (live_state s) in
      let stores : (after_event s e).stores ≡ stores_after (stored_by e (live_state s)) s.stores = ap (λ (u : StoreState). u.stores) is ∙ stores_are e s in
      let output : (after_event s e).board.console.output ≡ s.board.console.output ++ sent_by e (live_state s) =
      ap (λ (u : State). u.board.console.output) image_is ∙ law e (live_state s) given.1 given.0 h in
      record {
        run = ap (λ u. after_event u e) b.run ∙ sym (run_more es (without_stores (boot_state (booted q))) e);
        state = same ∙ ap fresh (sym image_is);
        typed = ap (typed_after e) b.typed ∙ sym (typed_more es e);
        flags = (λ i. flags_behind (stored i) q.goal.watches (b.flags i)) ∙ flags_more (stored_by e (live_state s)) q.goal.watches s.stores
            ∙ ap (λ l. map (flags_of l) q.goal.watches) (sym stores);
        agreed = (λ i. agreed_after q.goal.output (sent i) (b.agreed i))
            ∙ sym (agreed_append q.goal.output s.board.console.output (sent_by e (live_state s)) (agreed_at_boot q.goal.output))
            ∙ ap (agreed_of q.goal.output) (sym output);
      }

  goes_by : (o r : Result (Outcome × State) Refusal) → result_of (live_state s) e ≡ r → freshened o ≡ freshened r → GoesOn q es s e (accepted q.goal x e o) r
  goes_by (Ok a) (Ok given) h same = (behind q.goal x e a.1, refl, behind_is given a h (same_given a given same))
  goes_by (Err refused) (Err other) h same = refl
  goes_by (Ok a) (Err other) h same = absurd (let bad : ◌≡◌ {A = Result (Outcome × State) Refusal} (Ok (a.0, fresh a.1)) (Err other) = same in cc)
  goes_by (Err refused) (Ok given) h same = absurd (let bad : ◌≡◌ {A = Result (Outcome × State) Refusal} (Err refused) (Ok (given.0, fresh given.1)) = same in cc)

pub next_is_event : SentLaw → NextIsEvent
next_is_event law q es s x n e b worn is =
    let same : freshened (result_of (fresh x.state) e) ≡ freshened (result_of (live_state s) e) =
    ap (λ u. freshened (result_of u e)) b.state ∙ next_fresh (live_state s) e worn in
    subst (λ f. GoesOn q es s e (next_by q.goal x f) (result_of (live_state s) e)) (sym is)
    (goes_by law q es s x e b (result_of (fresh x.state) e) (result_of (live_state s) e) refl same)

pub start_is_boot : StartIsBoot
start_is_boot q =
    let s = boot_state (booted q) in
    record {
      run = refl;
      state = ap fresh (sym (image s.links.unit [] (map first_link s.links.live) s (links_first s.links)));
      typed = refl;
      flags = refl;
      agreed = none_sent q.goal.output;
    }
  where
    none_sent : (output : Option (List ℕ)) → agreed_at_boot output ≡ agreed_of output []
    none_sent None = refl
    none_sent (Some asked) = refl

-- the same of the state behind, by its parts

pub follows_to : SentLaw → (q : Question) (es : List Event) (s : StoreState) (x : Explored) (e : Event) → IsBehind q es s x → (given a : Outcome × State) →
    result_of (live_state s) e ≡ Ok given → fresh a.1 ≡ fresh given.1 → IsBehind q (es ++ e ∷ []) (after_event s e) (behind q.goal x e a.1)
follows_to law q es s x e b given a h same = behind_is law q es s x e b given a h same

pub image_behind : (q : Question) (es : List Event) (s : StoreState) (x : Explored) (e : Event) → IsBehind q es s x → (given : Outcome × State) →
    result_of (live_state s) e ≡ Ok given → live_state (after_event s e) ≡ given.1
image_behind q es s x e b given h =
    let more = next_with_stores e s given.0 given.1 (made_behind q es s x b) h in
    ap live_state (ap (state_given s) more.0) ∙ more.1

pub freshened_is : (q : Question) (es : List Event) (s : StoreState) (x : Explored) (e : Event) → IsBehind q es s x → is_worn s.made ≡ false →
    freshened (result_of (fresh x.state) e) ≡ freshened (result_of (live_state s) e)
freshened_is q es s x e b worn = ap (λ u. freshened (result_of u e)) b.state ∙ next_fresh (live_state s) e worn

pub fresh_is_same : FreshIsSame
fresh_is_same s e worn = next_fresh s e worn
