use Rattle.std.proofs.Common.{◌≡◌, ◌∙◌, refl, ap, sym, subst, ℕ, zero, suc, ◌+◌, ◌-◌, ◌<◌, ◌≤◌, Bool, true, false, List, [], ◌∷◌, length, min, map, arith, ◌⊎◌, inl, inr}
use Rattle.std.specs.Prelude.{Option, None, Some, Result, Ok, Err, if◌then◌else◌, slice_index}
use Rattle.m161_cpu.specs.declared.processor.Outcome.{Outcome}
use Rattle.m161_machine.specs.declared.event.Entry.{Entry}
use Rattle.m161_machine.specs.declared.event.Event.{Event}
use Rattle.m161_machine.specs.declared.event.Event.TheVariants.{Step}
use Rattle.m161_machine.specs.declared.event.Refusal.{Refusal}
use Rattle.m161_machine.specs.State.{State, next}
use Rattle.m161_order.specs.Delays.{behind}
use Rattle.m161_drive.specs.declared.cursor.Cursor.{Cursor}
use Rattle.m161_drive.specs.declared.turns.Turns.{Turns}
use Rattle.m161_drive.specs.Choice.{chosen_with, taken}
use Rattle.m161_drive.specs.Delayed.{passed, turned}
use Rattle.m161_drive.specs.Drive.{Chooses, Goes}
use Rattle.m161_drive.specs.Policy.{Rules}
use Rattle.m161_drive.specs.Ready.{is_ready, ready}
use Rattle.m161_drive.proofs.Passing.{count_behind, ready_head}
use Rattle.m161_delays.specs.Lists.{IsAscendingFrom, IsUseful, times}
use Rattle.m161_places.specs.Laws.{IsEffective, IsRunOf, with_delays}
use Rattle.m161_places.specs.Places.{behind_accepted, is_place, offers, with_place}
use Rattle.m161_places.proofs.Ranges.{as_many, passed_most}
use Rattle.m161_places.proofs.Shifting.{ascending_behind, behind_sooner, length_parts, length_sooner, sooner, times_later, times_now, whole}
use Rattle.m161_places.proofs.Splitting.{Aside, Passing, Splits, splits}
use Rattle.m161_places.proofs.Alike.{offered}

-- The delays that have an effect.

-- no delays: in a run without events
nothing_useful : (offered : List ℕ) → IsUseful offered []
nothing_useful offered j some = absurd (let bad : ⊥ = omega (arith, some) in bad)

none_or_some : (ns : List ℕ) → ([] ≡ ns) ⊎ (0 < length ns)
none_or_some [] = inl refl
none_or_some (n ∷ ns) = inr (omega arith)

-- the rest of a run, from the answer to an event on
record Rest
    (n : ℕ) (rules : Rules) (keys : ℕ → Option ℕ) (answer : Result (Outcome × State) Refusal) (e : Event) (turns : Turns) (c : Cursor)
    (all part : List ℕ) : Type 0 where
  pub is_part : (j : ℕ) → times j part ≤ times j all
  pub is_same_or_shorter : IsAscendingFrom 0 all → (part ≡ all) ⊎ (length part < length all)
  pub is_ascending : IsAscendingFrom 0 part
  pub is_useful : IsUseful (behind_accepted answer e (with_delays turns part c) (offers n rules keys)) part
  pub is_run : (es : List Entry) (d : Cursor) (outcome : Outcome) (u t : State) → length es ≤ n → answer ≡ Ok (outcome, u) →
      Chooses rules keys (taken e u (with_delays turns part c)) u es d t →
      IsRunOf rules keys turns all (taken e u c) u es d t

-- each list has such a part
abbrev HasPart : ℕ → Rules → (ℕ → Option ℕ) → Type 0
HasPart n rules keys =
    (turns : Turns) (c : Cursor) (s : State) (all : List ℕ) → (part : List ℕ) × IsEffective n rules keys turns c s all part

rest_of : (n : ℕ) (rules : Rules) (keys : ℕ → Option ℕ) → HasPart n rules keys → (answer : Result (Outcome × State) Refusal) (e : Event)
    (turns : Turns) (c : Cursor) (all : List ℕ) → (part : List ℕ) × Rest n rules keys answer e turns c all part
rest_of n rules keys has (Ok given) e turns c all =
    let inner = has turns (taken e given.1 c) given.1 all in (
      inner.0,
      record {
        is_part = inner.1.is_part;
        is_same_or_shorter = inner.1.is_same_or_shorter;
        is_ascending = inner.1.is_ascending;
        is_useful = inner.1.is_useful;
        is_run = λ es d outcome u t few is h.
            let same_pair : ◌≡◌ {A = Result (Outcome × State) Refusal} (Ok given) (Ok (outcome, u)) = is in
            let pair : given ≡ (outcome, u) = cc in
            let same : given.1 ≡ u = ap (λ (x : Outcome × State). x.1) pair in
            subst (λ v. IsRunOf rules keys turns all (taken e v c) v es d t) same
            (inner.1.is_run es d t few
            (subst (λ v. Chooses rules keys (taken e v (with_delays turns inner.0 c)) v es d t) (sym same) h));
      },
    )
rest_of n rules keys has (Err refusal) e turns c all = (
  [],
  record {
    is_part = λ j. omega arith;
    is_same_or_shorter = λ h. none_or_some all;
    is_ascending = tt;
    is_useful = nothing_useful [];
    is_run = λ es d outcome u t few is h.
        let bad : ◌≡◌ {A = Result (Outcome × State) Refusal} (Err refusal) (Ok (outcome, u)) = is in absurd cc;
  },
)

-- what is chosen by a list, in a state that isn't off
abbrev Chosen : Rules → (ℕ → Option ℕ) → Turns → List ℕ → Cursor → State → Option Event × Cursor
Chosen rules keys turns left c s = chosen_with rules (keys c.typed) (with_delays turns left c) s

pub offers_on : (n : ℕ) (rules : Rules) (keys : ℕ → Option ℕ) (c : Cursor) (s : State) (choice : Option Event × Cursor) → s.board.off ≡ false →
    chosen_with rules (keys c.typed) c s ≡ choice → offers (suc n) rules keys c s ≡ offered (offers n rules keys) s choice
unfolding offers
offers_on n rules keys c s choice on is =
    ap (λ off. if off then [] else offered (offers n rules keys) s (chosen_with rules (keys c.typed) c s)) on
    ∙ ap (offered (offers n rules keys) s) is

-- and where that is an event
pub offers_where : (n : ℕ) (rules : Rules) (keys : ℕ → Option ℕ) (c after : Cursor) (s : State) (ev : Event) (here : Bool) → s.board.off ≡ false →
    chosen_with rules (keys c.typed) c s ≡ (Some ev, after) → is_place (Some ev) s ≡ here →
    offers (suc n) rules keys c s ≡ with_place here (length (ready s)) (behind_accepted (next s ev) ev after (offers n rules keys))
offers_where n rules keys c after s ev here on is place =
    offers_on n rules keys c s (Some ev, after) on is
    ∙ ap (λ b. with_place b (length (ready s)) (behind_accepted (next s ev) ev after (offers n rules keys))) place

-- a run without events
abbrev GoesNowhere : ℕ → Rules → (ℕ → Option ℕ) → Cursor → State → Type 0
GoesNowhere n rules keys c s =
    (e : Entry) (d : Cursor) (t : State) → Goes rules (keys c.typed) c s e d t → n ≡ 0

ended_run : (n : ℕ) (rules : Rules) (keys : ℕ → Option ℕ) (turns : Turns) (c : Cursor) (s : State) (all : List ℕ) →
    GoesNowhere n rules keys (with_delays turns [] c) s → (es : List Entry) (d : Cursor) (t : State) → length es ≤ n →
    Chooses rules keys (with_delays turns [] c) s es d t → IsRunOf rules keys turns all c s es d t
ended_run n rules keys turns c s all none [] d t few h = (turns, [], all, c, h.0, (refl, h.1))
ended_run n rules keys turns c s all none (e ∷ es) d t few h =
    let zero_events : n ≡ 0 = none e h.0 h.1 h.2 in
    absurd (let bad : ⊥ = omega (arith, few, zero_events) in bad)

ended : (n : ℕ) (rules : Rules) (keys : ℕ → Option ℕ) (turns : Turns) (c : Cursor) (s : State) (all : List ℕ) →
    GoesNowhere n rules keys (with_delays turns [] c) s → (part : List ℕ) × IsEffective n rules keys turns c s all part
ended n rules keys turns c s all none = (
  [],
  record {
    is_part = λ j. omega arith;
    is_same_or_shorter = λ h. none_or_some all;
    is_ascending = tt;
    is_useful = nothing_useful (offers n rules keys (with_delays turns [] c) s);
    is_run = ended_run n rules keys turns c s all none;
  },
)

-- an event is next, of the part and of the whole list
gone : (n : ℕ) (rules : Rules) (keys : ℕ → Option ℕ) (turns after : Turns) (c b : Cursor) (s : State) (ev : Event)
    (all part left rest : List ℕ) →
    chosen_with rules (keys c.typed) (with_delays turns part c) s ≡ (Some ev, with_delays after rest b) →
    chosen_with rules (keys c.typed) (with_delays turns all c) s ≡ (Some ev, with_delays after left b) →
    ((es : List Entry) (d : Cursor) (outcome : Outcome) (u t : State) → length es ≤ n → next s ev ≡ Ok (outcome, u) →
    Chooses rules keys (taken ev u (with_delays after rest b)) u es d t → IsRunOf rules keys after left (taken ev u b) u es d t) →
    (es : List Entry) (d : Cursor) (t : State) → length es ≤ suc n →
    Chooses rules keys (with_delays turns part c) s es d t → IsRunOf rules keys turns all c s es d t
gone n rules keys turns after c b s ev all part left rest of_part of_all inner [] d t few h = (turns, part, all, c, h.0, (refl, h.1))
gone n rules keys turns after c b s ev all part left rest of_part of_all inner (e ∷ es) d t few h =
    let goes = h.2 in
    let some_event : ◌≡◌ {A = Option Event} (Some ev) (Some e.event) = sym (ap (λ (x : Option Event × Cursor). x.0) of_part) ∙ goes.choice_is in
    let event : ev ≡ e.event = cc in
    let accepted : next s ev ≡ Ok (e.outcome, h.1) = ap (next s) event ∙ goes.accepted in
    let cursor : h.0 ≡ taken ev h.1 (with_delays after rest b) =
    goes.cursor_is ∙ (λ i. taken (sym event i) h.1 (of_part i).1) in
    let run = inner es d e.outcome h.1 t (omega (arith, few)) accepted (subst (λ x. Chooses rules keys x h.1 es d t) cursor h.3) in (
      run.0,
      run.1,
      run.2,
      run.3,
      run.4,
      (
        taken ev h.1 (with_delays after left b),
        h.1,
        record {
          is_on = goes.is_on;
          choice_is = ap (λ (x : Option Event × Cursor). x.0) of_all ∙ ap (λ (x : Event). Some x) event;
          accepted = goes.accepted;
          cursor_is = λ i. taken (event i) h.1 (sym of_all i).1;
        },
        run.5,
      ),
    )

-- where the delays have no part in the choice
aside_event : (n : ℕ) (rules : Rules) (keys : ℕ → Option ℕ) → HasPart n rules keys → (turns : Turns) (c : Cursor) (s : State) (all : List ℕ) →
    s.board.off ≡ false → (h : Aside (λ left. Chosen rules keys turns left c s) s) → (o : Option Event) → h.event ≡ o →
    (part : List ℕ) × IsEffective (suc n) rules keys turns c s all part
aside_event n rules keys has turns c s all on h None is =
    ended (suc n) rules keys turns c s all
    (λ e d t goes.
    let bad : ◌≡◌ {A = Option Event} None (Some e.event) = sym (ap (λ (x : Option Event × Cursor). x.0) (h.chosen []) ∙ is) ∙ goes.choice_is in absurd cc)
aside_event n rules keys has turns c s all on h (Some ev) is =
    let inner = rest_of n rules keys has (next s ev) ev h.turns h.cursor all in
    let part = inner.0 in
    let after = with_delays h.turns part h.cursor in
    let of : (left : List ℕ) → Chosen rules keys turns left c s ≡ (Some ev, with_delays h.turns left h.cursor) = λ left.
    h.chosen left ∙ ap (λ o. (o, with_delays h.turns left h.cursor)) is in
    let elsewhere : is_place (Some ev) s ≡ false = ap (λ o. is_place o s) (sym is) ∙ h.elsewhere in
    let offers_are : offers (suc n) rules keys (with_delays turns part c) s ≡ behind_accepted (next s ev) ev after (offers n rules keys) =
    offers_where n rules keys (with_delays turns part c) after s ev false on (of part) elsewhere in (
      part,
      record {
        is_part = inner.1.is_part;
        is_same_or_shorter = inner.1.is_same_or_shorter;
        is_ascending = inner.1.is_ascending;
        is_useful = subst (λ xs. IsUseful xs part) (sym offers_are) inner.1.is_useful;
        is_run = gone n rules keys turns h.turns c h.cursor s ev all part all part (of part) (of all) inner.1.is_run;
      },
    )

-- at a place
ascending_map : (k : ℕ) (ns : List ℕ) → IsAscendingFrom k ns → IsAscendingFrom (suc k) (map suc ns)
ascending_map k [] h = tt
ascending_map k (n ∷ ns) h = ((let from = h.0 in omega (arith, from)), ascending_map n ns h.1)

ascending_later : (ns : List ℕ) → IsAscendingFrom 0 ns → IsAscendingFrom 0 (map suc ns)
ascending_later [] h = tt
ascending_later (n ∷ ns) h = (omega arith, ascending_map n ns h.1)

ascending_sooner : (m : ℕ) (ns : List ℕ) → IsAscendingFrom 0 ns → IsAscendingFrom 0 (sooner m ns)
unfolding sooner
ascending_sooner zero ns h = ascending_later ns h
ascending_sooner (suc m) ns h = (omega arith, ascending_sooner m ns h)

compare_less : (m most : ℕ) → m ≤ most → (m ≡ most) ⊎ (m < most)
compare_less m most few = grind (arith, few)

same_or_fewer : (m most : ℕ) (part all : List ℕ) → m ≤ most → most ≡ times 0 all → IsAscendingFrom 0 all → part ≡ behind 1 all →
    (m ≡ most) ⊎ (m < most) → (sooner m part ≡ all) ⊎ (length (sooner m part) < length all)
same_or_fewer m most part all few count asc same (inl all_of) = inl ((λ i. sooner ((all_of ∙ count) i) (same i)) ∙ whole all asc)
same_or_fewer m most part all few count asc same (inr fewer) =
    let long = length_sooner m part in
    let parts = length_parts all in
    let size = ap length same in
    inr (omega (arith, long, parts, size, fewer, count))

sooner_or_shorter : (m most : ℕ) (part all : List ℕ) → m ≤ most → most ≡ times 0 all → IsAscendingFrom 0 all →
    (part ≡ behind 1 all) ⊎ (length part < length (behind 1 all)) → (sooner m part ≡ all) ⊎ (length (sooner m part) < length all)
sooner_or_shorter m most part all few count asc (inr short) =
    let long = length_sooner m part in
    let parts = length_parts all in
    inr (omega (arith, long, parts, short, few, count))
sooner_or_shorter m most part all few count asc (inl same) = same_or_fewer m most part all few count asc same (compare_less m most few)

part_sooner : (m k : ℕ) (part all : List ℕ) → m ≤ times 0 all → ((j : ℕ) → times j part ≤ times j (behind 1 all)) → (j : ℕ) →
    times j (sooner m part) ≤ times j all
part_sooner m k part all few rest zero = let now = times_now m part in omega (arith, now, few)
part_sooner m k part all few rest (suc j) =
    let later = times_later m j part in
    let old = count_behind j all in
    let less = rest j in
    let next : times (j + 1) all ≡ times (suc j) all = (let same : j + 1 ≡ suc j = omega arith in ap (λ k. times k all) same) in
    omega (arith, later, old, less, next)

useful_sooner : (m r : ℕ) (part rest : List ℕ) → m < r → IsUseful rest part → IsUseful (r ∷ rest) (sooner m part)
useful_sooner m r part rest less h zero some = let now = times_now m part in omega (arith, now, less)
useful_sooner m r part rest less h (suc j) some =
    let later = times_later m j part in
    let inner = h j (omega (arith, later, some)) in
    subst (λ k. k < slice_index rest j) (sym later) inner

pub some_there : (p : ℕ) (s : State) → is_ready s p ≡ true → p < length s.processors → 1 ≤ length (ready s)
some_there p s passes here =
    let head = ap length (ready_head p s passes here) in
    let same = as_many p s here in
    omega (arith, head, same)

passing_part : (n : ℕ) (rules : Rules) (keys : ℕ → Option ℕ) → HasPart n rules keys → (turns : Turns) (c : Cursor) (s : State) (all : List ℕ) →
    s.board.off ≡ false → (h : Passing (λ left. Chosen rules keys turns left c s) c s) →
    (part : List ℕ) × IsEffective (suc n) rules keys turns c s all part
passing_part n rules keys has turns c s all on h =
    let p = h.processor in
    let most = times 0 all in
    let r = length (ready s) in
    let m = min most (r - 1) in
    let q = passed most p s in
    let b = record c { last = Some q } in
    let inner = rest_of n rules keys has (next s (Step q)) (Step q) (turned p q h.turns) b (behind 1 all) in
    let part = sooner m inner.0 in
    let after = with_delays (turned p q h.turns) inner.0 b in
    let count = times_now m inner.0 in
    let same : passed (times 0 part) p s ≡ q = ap (λ k. passed k p s) count ∙ passed_most most p s h.is_there in
    let left : behind 1 part ≡ inner.0 = behind_sooner m inner.0 in
    let of_part : Chosen rules keys turns part c s ≡ (Some (Step q), after) =
    h.chosen part
    ∙ (λ i. (Some (Step (same i)), with_delays (turned p (same i) h.turns) (left i) (record c { last = Some (same i) }))) in
    let some = some_there p s h.is_ready_there h.is_there in
    let offers_are : offers (suc n) rules keys (with_delays turns part c) s ≡ r ∷ behind_accepted (next s (Step q)) (Step q) after (offers n rules keys) =
    offers_where n rules keys (with_delays turns part c) after s (Step q) true on of_part h.some in (
      part,
      record {
        is_part = part_sooner m 0 inner.0 all (omega arith) inner.1.is_part;
        is_same_or_shorter = λ asc. sooner_or_shorter m most inner.0 all (omega arith) refl asc (inner.1.is_same_or_shorter (ascending_behind all asc));
        is_ascending = ascending_sooner m inner.0 inner.1.is_ascending;
        is_useful =
            subst (λ xs. IsUseful xs part) (sym offers_are)
            (useful_sooner m r inner.0 (behind_accepted (next s (Step q)) (Step q) after (offers n rules keys)) (omega (arith, some)) inner.1.is_useful);
        is_run = gone n rules keys turns (turned p q h.turns) c b s (Step q) all part (behind 1 all) inner.0 of_part (h.chosen all) inner.1.is_run;
      },
    )

on_part : (n : ℕ) (rules : Rules) (keys : ℕ → Option ℕ) → HasPart n rules keys → (turns : Turns) (c : Cursor) (s : State) (all : List ℕ) →
    s.board.off ≡ false → Splits (λ left. Chosen rules keys turns left c s) c s →
    (part : List ℕ) × IsEffective (suc n) rules keys turns c s all part
on_part n rules keys has turns c s all on (inl aside) = aside_event n rules keys has turns c s all on aside aside.event refl
on_part n rules keys has turns c s all on (inr at) = passing_part n rules keys has turns c s all on at

by_off : (n : ℕ) (rules : Rules) (keys : ℕ → Option ℕ) → HasPart n rules keys → (turns : Turns) (c : Cursor) (s : State) (all : List ℕ) →
    (off : Bool) → s.board.off ≡ off → (part : List ℕ) × IsEffective (suc n) rules keys turns c s all part
by_off n rules keys has turns c s all true is =
    ended (suc n) rules keys turns c s all (λ e d t goes. let bad : true ≡ false = sym is ∙ goes.is_on in absurd cc)
by_off n rules keys has turns c s all false is =
    on_part n rules keys has turns c s all is (splits rules (keys c.typed) turns c s)

pub have_effective_part : (n : ℕ) (rules : Rules) (keys : ℕ → Option ℕ) → HasPart n rules keys
have_effective_part zero rules keys turns c s all = ended zero rules keys turns c s all (λ e d t goes. refl)
have_effective_part (suc n) rules keys turns c s all =
    by_off n rules keys (have_effective_part n rules keys) turns c s all s.board.off refl
