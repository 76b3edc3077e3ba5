use Rattle.std.proofs.Common.{◌≡◌, ◌∙◌, refl, ap, sym, subst, ℕ, zero, suc, ◌+◌, ◌<◌, Bool, true, false, List, [], ◌∷◌, length, take, arith, inl, inr}
use Rattle.std.specs.Prelude.{Option, None, Some, Result, Ok, Err, if◌then◌else◌}
use Rattle.m161_cpu.specs.declared.processor.Outcome.{Outcome}
use Rattle.m161_machine.specs.declared.event.Event.{Event}
use Rattle.m161_machine.specs.declared.event.Event.TheVariants.{Step}
use Rattle.m161_machine.specs.declared.event.Refusal.{Refusal}
use Rattle.m161_machine.specs.State.{State, next}
use Rattle.m161_order.specs.Delays.{behind}
use Rattle.m161_drive.specs.declared.cursor.Cursor.{Cursor}
use Rattle.m161_drive.specs.declared.turns.Turns.{Turns}
use Rattle.m161_drive.specs.Choice.{chosen_with, taken}
use Rattle.m161_drive.specs.Delayed.{passed, turned}
use Rattle.m161_drive.specs.Policy.{Rules}
use Rattle.m161_drive.specs.Ready.{ready, some_ready}
use Rattle.m161_drive.proofs.Passing.{count_behind}
use Rattle.m161_delays.specs.Runs.{ChooseAlike}
use Rattle.m161_places.specs.Laws.{offered as in_run, with_delays}
use Rattle.m161_delays.specs.Lists.{times}
use Rattle.m161_places.specs.Places.{behind_accepted, behind_choice, is_place, offers, with_place}
use Rattle.m161_places.proofs.Splitting.{Splits, passing, splits}

-- Lists that agree below a number choose alike up to its place.

abbrev Choice : Type 0
Choice = Option Event × Cursor

-- what a choice offers, and what comes behind it
abbrev pub offered : (Cursor → State → List ℕ) → State → Choice → List ℕ
offered rest s choice = with_place (is_place choice.0 s) (length (ready s)) (behind_choice choice.0 s choice.1 rest)

abbrev pub Agree : ℕ → List ℕ → List ℕ → Type 0
Agree j a b = (i : ℕ) → i < j → times i a ≡ times i b

-- what comes behind an event, where the rest is alike
abbrev AlikeFrom : (Cursor → State → List ℕ) → Type 0
AlikeFrom rest =
    (turns : Turns) (c : Cursor) (s : State) (j : ℕ) (a b : List ℕ) → Agree j a b →
    take (suc j) (rest (with_delays turns a c) s) ≡ take (suc j) (rest (with_delays turns b c) s)

accepted_alike : (rest : Cursor → State → List ℕ) → AlikeFrom rest → (answer : Result (Outcome × State) Refusal) (e : Event) (turns : Turns)
    (c : Cursor) (j : ℕ) (a b : List ℕ) → Agree j a b →
    take (suc j) (behind_accepted answer e (with_delays turns a c) rest) ≡ take (suc j) (behind_accepted answer e (with_delays turns b c) rest)
accepted_alike rest alike (Ok given) e turns c j a b h = alike turns (taken e given.1 c) given.1 j a b h
accepted_alike rest alike (Err refusal) e turns c j a b h = refl

choice_alike : (rest : Cursor → State → List ℕ) → AlikeFrom rest → (o : Option Event) (turns : Turns) (c : Cursor) (s : State) (j : ℕ)
    (a b : List ℕ) → Agree j a b →
    take (suc j) (behind_choice o s (with_delays turns a c) rest) ≡ take (suc j) (behind_choice o s (with_delays turns b c) rest)
choice_alike rest alike None turns c s j a b h = refl
choice_alike rest alike (Some e) turns c s j a b h = accepted_alike rest alike (next s e) e turns c j a b h

-- at a place
agree_behind : (j : ℕ) (a b : List ℕ) → Agree (suc j) a b → Agree j (behind 1 a) (behind 1 b)
agree_behind j a b h i less =
    let more : i + 1 < suc j = omega (arith, less) in count_behind i a ∙ h (i + 1) more ∙ sym (count_behind i b)

passing_alike : (rest : Cursor → State → List ℕ) → AlikeFrom rest → (p : ℕ) (turns : Turns) (c : Cursor) (s : State) (j : ℕ) (a b : List ℕ) →
    Agree (suc j) a b →
    take (suc j) (behind_choice (passing p turns c s a).0 s (passing p turns c s a).1 rest)
    ≡ take (suc j) (behind_choice (passing p turns c s b).0 s (passing p turns c s b).1 rest)
passing_alike rest alike p turns c s j a b h =
    let now : times 0 a ≡ times 0 b = h 0 (omega arith) in
    let at : ℕ → Option ℕ → List ℕ = λ m o.
    behind_choice (Some (Step (passed m p s))) s (with_delays (turned p (passed m p s) turns) (behind 1 b) (record c { last = Some (passed m p s) })) rest in
    choice_alike rest alike (Some (Step (passed (times 0 a) p s))) (turned p (passed (times 0 a) p s) turns) (record c { last = Some (passed (times 0 a) p s) }) s j
    (behind 1 a) (behind 1 b) (agree_behind j a b h)
    ∙ ap (λ m. take (suc j) (at m None)) now

place_alike : (rest : Cursor → State → List ℕ) → AlikeFrom rest → (p : ℕ) (turns : Turns) (c : Cursor) (s : State) (here : Bool) →
    here ≡ true → (j : ℕ) (a b : List ℕ) → Agree j a b → (r : ℕ) →
    take (suc j) (with_place here r (behind_choice (passing p turns c s a).0 s (passing p turns c s a).1 rest))
    ≡ take (suc j) (with_place here r (behind_choice (passing p turns c s b).0 s (passing p turns c s b).1 rest))
place_alike rest alike p turns c s true is zero a b h r = refl
place_alike rest alike p turns c s true is (suc j) a b h r = ap (λ xs. r ∷ xs) (passing_alike rest alike p turns c s j a b h)
place_alike rest alike p turns c s false is j a b h r = let bad : false ≡ true = is in absurd cc

split_alike : (rest : Cursor → State → List ℕ) → AlikeFrom rest → (choice : List ℕ → Choice) (c : Cursor) (s : State) → Splits choice c s →
    (j : ℕ) (a b : List ℕ) → Agree j a b →
    take (suc j) (offered rest s (choice a)) ≡ take (suc j) (offered rest s (choice b))
split_alike rest alike choice c s (inl aside) j a b h =
    let off : (x : List ℕ) → offered rest s (choice x) ≡ behind_choice aside.event s (with_delays aside.turns x aside.cursor) rest = λ x.
    ap (offered rest s) (aside.chosen x)
    ∙ ap (λ here. with_place here (length (ready s)) (behind_choice aside.event s (with_delays aside.turns x aside.cursor) rest)) aside.elsewhere in
    ap (take (suc j)) (off a) ∙ choice_alike rest alike aside.event aside.turns aside.cursor s j a b h ∙ ap (take (suc j)) (sym (off b))
split_alike rest alike choice c s (inr at) j a b h =
    let there : (x : List ℕ) → choice x ≡ passing at.processor at.turns c s x = at.chosen in
    ap (λ x. take (suc j) (offered rest s x)) (there a)
    ∙ place_alike rest alike at.processor at.turns c s (some_ready s) at.some j a b h (length (ready s))
    ∙ ap (λ x. take (suc j) (offered rest s x)) (sym (there b))

off_alike : (off : Bool) (j : ℕ) (x y : List ℕ) → take (suc j) x ≡ take (suc j) y →
    take (suc j) (if off then [] else x) ≡ take (suc j) (if off then [] else y)
off_alike true j x y h = refl
off_alike false j x y h = h

alike_to : (n : ℕ) (rules : Rules) (keys : ℕ → Option ℕ) → AlikeFrom (offers n rules keys)
unfolding offers
alike_to zero rules keys turns c s j a b h = refl
alike_to (suc n) rules keys turns c s j a b h =
    let choice : List ℕ → Choice = λ left. chosen_with rules (keys c.typed) (with_delays turns left c) s in
    off_alike s.board.off j (offered (offers n rules keys) s (choice a)) (offered (offers n rules keys) s (choice b))
    (split_alike (offers n rules keys) (alike_to n rules keys) choice c s (splits rules (keys c.typed) turns c s) j a b h)

pub choose_alike : (n : ℕ) (rules : Rules) (keys : ℕ → Option ℕ) (turns : Turns) (c : Cursor) (s : State) →
    ChooseAlike (in_run n rules keys turns c s)
choose_alike n rules keys turns c s j a b h =
    let next : suc j ≡ j + 1 = omega arith in
    subst (λ k. take k (offers n rules keys (with_delays turns a c) s) ≡ take k (offers n rules keys (with_delays turns b c) s)) next
    (alike_to n rules keys turns c s j a b h)
