use Rattle.std.proofs.Common.{◌≡◌, ◌∙◌, ◌⊎◌, inl, inr, refl, sym, ap, subst, ℕ, suc, ◌+◌, ◌-◌, ◌<◌, ◌≤◌, Bool, true, false, List, [], ◌∷◌, ◌++◌, cond, length, take, arith}
use Rattle.std.specs.Prelude.{Option, None, Some, Result, Ok, Err, count_by, nat_lt, slice_get}
use Rattle.std.proofs.lemmas.Bool.Decides.{eqb_tells, nat_tests}
use Rattle.std.proofs.lemmas.List.{length-append, take_all}
use Rattle.std.proofs.lemmas.List.Sums.{sum_by-append, sum_by-cons}
use Rattle.m161_cpu.specs.declared.processor.Outcome.{Outcome}
use Rattle.m161_cpu.specs.declared.processor.Outcome.TheVariants.{Idle}
use Rattle.m161_machine.specs.declared.event.Entry.{Entry}
use Rattle.m161_machine.specs.declared.event.Event.{Event}
use Rattle.m161_machine.specs.declared.event.Event.TheVariants.{Step, Key, Done}
use Rattle.m161_machine.specs.declared.event.Refusal.{Refusal}
use Rattle.m161_machine.specs.History.{events_of}
use Rattle.m161_machine.specs.State.{State, next}
use Rattle.m161_drive.specs.declared.cursor.Cursor.{Cursor}
use Rattle.m161_drive.specs.Choice.{cursor_at}
use Rattle.m161_drive.specs.Drive.{Chooses}
use Rattle.m161_drive.specs.Policy.{Rules}
use Rattle.m161_audit.specs.declared.finding.AuditError.{AuditError}
use Rattle.m161_audit.specs.declared.finding.AuditError.TheVariants.{Boot}
use Rattle.m161_machine.specs.declared.conf.BootError.TheVariants.{NoMemory}
use Rattle.m161_judge.specs.declared.first.First.{First}
use Rattle.m161_judge.specs.declared.run.JudgedRun.{JudgedRun}
use Rattle.m161_judge.specs.declared.seen.Seen.{Seen}
use Rattle.m161_judge.specs.declared.verdict.Judged.{Judged}
use Rattle.m161_judge.specs.Begun.{AreKeysBehind, IsFirstOf, IsRunBehind, keys_in}
use Rattle.m161_judge.specs.Seen.{HasSeen, IsFirstBad, WasStuck}
use Rattle.m161_judge.specs.Verdict.{Criteria, IsStuckAfter, after, going_on, has_keys, is_key, is_stuck}
use Rattle.m161_judge.specs.helpers.Walk.{DrivesRest, Ends, IsDrivenRest, IsJudgedOfSteps, Joins}
use Rattle.m161_judge.proofs.Choosing.{chooses_leads, not_stuck_on_the_way}
use Rattle.m161_judge.proofs.Cutting.{badly_down, badly_up, stuck_down, stuck_up}
use Rattle.m161_judge.proofs.Running.{none_is_not, some_is_one}

-- Runs behind first events.

-- first events, and others behind them

take_first : (fs es : List Event) → take (length fs) (fs ++ es) ≡ fs
take_first [] es = refl
take_first (f ∷ fs) es = ap (λ xs. f ∷ xs) (take_first fs es)

take_behind : (fs es : List Event) (j : ℕ) → take (length fs + j) (fs ++ es) ≡ fs ++ take j es
take_behind [] es j = let same : 0 + j ≡ j = omega arith in ap (λ k. take k es) same
take_behind (f ∷ fs) es j =
    let one : suc (length fs) + j ≡ suc (length fs + j) = omega arith in
    ap (λ k. take k (f ∷ (fs ++ es))) one ∙ ap (λ xs. f ∷ xs) (take_behind fs es j)

going_behind : (x : Result (Outcome × State) Refusal) (u : State) (fs es : List Event) →
    ((t : State) → after t fs ≡ Some u → after t (fs ++ es) ≡ after u es) →
    going_on x (λ t. after t fs) ≡ Some u → going_on x (λ t. after t (fs ++ es)) ≡ after u es
going_behind (Ok given) u fs es rest h = rest given.1 h
going_behind (Err refusal) u fs es rest h = absurd (none_is_not u h)

-- where they lead
pub after_behind : (fs es : List Event) (s u : State) → after s fs ≡ Some u → after s (fs ++ es) ≡ after u es
after_behind [] es s u h = ap (λ x. after x es) (some_is_one s u h)
after_behind (f ∷ fs) es s u h = going_behind (next s f) u fs es (λ t more. after_behind fs es t u more) h

-- the keys among them

abbrev key_of : Event → ℕ
key_of e = cond (is_key e) 1 0

count_keys_in : (fs : List Event) → length (keys_in fs) ≡ count_by is_key fs
count_keys_in [] = refl
count_keys_in (Step p ∷ fs) =
    let h = count_keys_in fs in
    let more = sum_by-cons (λ e. key_of e) (Step p) fs in
    omega (arith, h, more)
count_keys_in (Key byte ∷ fs) =
    let h = count_keys_in fs in
    let more = sum_by-cons (λ e. key_of e) (Key byte) fs in
    omega (arith, h, more)
count_keys_in (Done ∷ fs) =
    let h = count_keys_in fs in
    let more = sum_by-cons (λ e. key_of e) Done fs in
    omega (arith, h, more)

same_less : (a b c n m : ℕ) → n ≡ a + b → m ≡ a + c → nat_lt n m ≡ nat_lt b c
same_less a b c n m h k = grind (arith, nat_tests)

-- behind them as many are left as the policy has
keys_behind : (goal : Criteria) (keys : List ℕ) (fs es : List Event) → goal.keys ≡ keys_in fs ++ keys →
    has_keys goal.keys (fs ++ es) ≡ nat_lt (count_by is_key es) (length keys)
keys_behind goal keys fs es h =
    let all = sum_by-append (λ e. key_of e) fs es in
    let first = count_keys_in fs in
    let size = ap length h ∙ length-append (keys_in fs) keys in
    same_less (count_by is_key fs) (count_by is_key es) (length keys) (count_by is_key (fs ++ es)) (length goal.keys) all (omega (arith, size, first))

-- what was seen of the states of first events was seen of them in a longer list

bad_longer : (goal : Criteria) (s : State) (events : List Event) (n m : ℕ) (first : Option ℕ) → n ≤ m → m ≤ length events →
    IsFirstBad goal s (take m events) n first → IsFirstBad goal s events n first
bad_longer goal s events n m None few all h = λ k less bad. h k less (badly_down goal s events m k all (omega (arith, less, few)) bad)
bad_longer goal s events n m (Some first) few all h = (
  h.0,
  (badly_up goal s events m first all h.1).1,
  λ k less bad. let below = h.0 in h.2 k less (badly_down goal s events m k all (omega (arith, less, below, few)) bad),
)

stuck_longer : (goal : Criteria) (s : State) (events : List Event) (n m : ℕ) (was : Bool) → n ≤ m → m ≤ length events →
    WasStuck goal s (take m events) n was → WasStuck goal s events n was
stuck_longer goal s events n m true few all h = (h.0, h.1, (stuck_up goal s events m h.0 h.1 all h.2).1)
stuck_longer goal s events n m false few all h = λ k t less at. h k t less (stuck_down goal s events m k t all (omega (arith, less, few)) at)

seen_longer : (goal : Criteria) (s : State) (fs es : List Event) (seen : Seen) → HasSeen goal s fs (length fs) seen →
    HasSeen goal s (fs ++ es) (length fs) seen
seen_longer goal s fs es seen h =
    let n = length fs in
    let size = length-append fs es in
    let cut : HasSeen goal s (take n (fs ++ es)) n seen = subst (λ xs. HasSeen goal s xs n seen) (sym (take_first fs es)) h in (
      bad_longer goal s (fs ++ es) n n seen.stuck (omega arith) (omega (arith, size)) cut.0,
      stuck_longer goal s (fs ++ es) n n seen.was_stuck (omega arith) (omega (arith, size)) cut.1,
    )

-- where the run isn't stuck from there on, nothing more is seen

abbrev StuckFrom : Criteria → State → List Event → ℕ → ℕ → Type 0
StuckFrom goal s events m n = (k : ℕ) (t : State) → m ≤ k → k < n → IsStuckAfter goal s events k t → ⊥

at_or_below : (m k : ℕ) → (m ≤ k) ⊎ (k < m)
at_or_below m k = elim (eqb_tells (m + (k - m)) k) as (λ _. (m ≤ k) ⊎ (k < m)) [
  | inl e ↦ inl (omega (arith, e.1))
  | inr e ↦ inr (omega (arith, e.1))
]

bad_on : (goal : Criteria) (s : State) (events : List Event) (m n : ℕ) (first : Option ℕ) → m ≤ n → StuckFrom goal s events m n →
    IsFirstBad goal s events m first → IsFirstBad goal s events n first
bad_on goal s events m n None few none h = λ k less bad. elim (at_or_below m k) as (λ _. ⊥) [
  | inl from ↦ none k bad.0 from less bad.1
  | inr below ↦ h k below bad
]
bad_on goal s events m n (Some first) few none h = (let less = h.0 in omega (arith, less, few), h.1, h.2)

stuck_on : (goal : Criteria) (s : State) (events : List Event) (m n : ℕ) (was : Bool) → StuckFrom goal s events m n →
    WasStuck goal s events m was → WasStuck goal s events n was
stuck_on goal s events m n true none h = h
stuck_on goal s events m n false none h = λ k t less at. elim (at_or_below m k) as (λ _. ⊥) [
  | inl from ↦ none k t from less at
  | inr below ↦ h k t below at
]

-- a policy chooses only where the machine is on
chose_on : (rules : Rules) (keys : ℕ → Option ℕ) (es : List Entry) (c d : Cursor) (u t : State) (j : ℕ) → j < length (events_of es) →
    Chooses rules keys c u es d t → u.board.off ≡ false
chose_on rules keys [] c d u t j less h = absurd (let bad : ⊥ = omega (arith, less) in bad)
chose_on rules keys (e ∷ es) c d u t j less h = h.2.is_on

-- on the way of the policy the run isn't stuck
not_stuck_behind : (rules : Rules) (goal : Criteria) (s u t : State) (fs : List Event) (es : List Entry) (d : Cursor) → after s fs ≡ Some u →
    AreKeysBehind goal fs u rules → Chooses rules (slice_get rules.keys) (cursor_at rules u) u es d t →
    StuckFrom goal s (fs ++ events_of es) (length fs) (length (fs ++ events_of es))
not_stuck_behind rules goal s u t fs es d leads keys chosen k v from less at =
    let events = events_of es in
    let size = length-append fs events in
    let j = k - length fs in
    let place : k ≡ length fs + j = omega (arith, from) in
    let within : j < length events = omega (arith, from, less, size) in
    let cut : take k (fs ++ events) ≡ fs ++ take j events = ap (λ i. take i (fs ++ events)) place ∙ take_behind fs events j in
    let there : after u (take j events) ≡ Some v = sym (after_behind fs (take j events) s u leads) ∙ ap (after s) (sym cut) ∙ at.0.1 in
    let on = chose_on rules (slice_get rules.keys) es (cursor_at rules u) d u t j within chosen in
    let left : has_keys goal.keys (take k (fs ++ events)) ≡ nat_lt (count_by is_key (take j events)) (length rules.keys) =
    ap (has_keys goal.keys) cut ∙ keys_behind goal rules.keys fs (take j events) (keys on) in
    let typed : count_by is_key (take j events) ≡ 0 + count_by is_key (take j events) = omega arith in
    not_stuck_on_the_way rules es (cursor_at rules u) d u t j v chosen within there
    (subst (λ n. is_stuck (nat_lt n (length rules.keys)) v ≡ true) typed (subst (λ b. is_stuck b v ≡ true) left at.1))

-- what was seen of the whole run before its last state
pub seen_behind : (rules : Rules) (goal : Criteria) (s u t : State) (fs events : List Event) (first : First) (es : List Entry) (d : Cursor) (made : ℕ) →
    IsFirstOf goal s fs u first → AreKeysBehind goal fs u rules → Chooses rules (slice_get rules.keys) (cursor_at rules u) u es d t →
    events ≡ fs ++ events_of es → made ≡ length events → HasSeen goal s events made first.seen
seen_behind rules goal s u t fs events first es d made h keys chosen same all =
    let whole = fs ++ events_of es in
    let size = length-append fs (events_of es) in
    let few : length fs ≤ length whole = omega (arith, size) in
    let none = not_stuck_behind rules goal s u t fs es d h.leads keys chosen in
    let seen = seen_longer goal s fs (events_of es) first.seen h.looked in
    let there : HasSeen goal s whole (length whole) first.seen = (
      bad_on goal s whole (length fs) (length whole) first.seen.stuck few none seen.0,
      stuck_on goal s whole (length fs) (length whole) first.seen.was_stuck none seen.1,
    ) in
    subst (λ n. HasSeen goal s events n first.seen) (sym all)
    (subst (λ es. HasSeen goal s es (length es) first.seen) (sym same) there)

-- its end
pub ends_behind : (rules : Rules) (s u t : State) (fs events : List Event) (es : List Entry) (d : Cursor) (made : ℕ) → after s fs ≡ Some u →
    Chooses rules (slice_get rules.keys) (cursor_at rules u) u es d t → events ≡ fs ++ events_of es → made ≡ length events → Ends s events made t
ends_behind rules s u t fs events es d made leads chosen same all =
    let whole = fs ++ events_of es in
    let there : after s whole ≡ Some t =
    after_behind fs (events_of es) s u leads ∙ chooses_leads rules (slice_get rules.keys) es (cursor_at rules u) d u t chosen in
    let every : take made events ≡ whole = take_all made events (omega (arith, all)) ∙ same in
    record {
      leads = (omega (arith, all), ap (after s) every ∙ there);
      is_last = λ on. all;
    }

-- events as those of entries, whose outcomes don't matter

abbrev pub plain_entries : List Event → List Entry
plain_entries [] = []
plain_entries (e ∷ es) = record { event = e; outcome = Idle } ∷ plain_entries es

pub plain_events : (es : List Event) → events_of (plain_entries es) ≡ es
plain_events [] = refl
plain_events (e ∷ es) = ap (λ xs. e ∷ xs) (plain_events es)

-- the verdict of a run that goes on

pub rest_error : (rules : Rules) (n : ℕ) (goal : Criteria) (s : State) (fs : List Event) (u : State) (begun : List Event) (error : AuditError) →
    DrivesRest rules n goal s fs u begun (Err error) → error ≡ Boot NoMemory
rest_error rules n goal s fs u begun error h = h

pub rest_judged : (rules : Rules) (n : ℕ) (goal : Criteria) (s : State) (fs : List Event) (u : State) (run : JudgedRun) (of_steps judged : Option Judged) →
    IsDrivenRest rules n goal s fs u run → IsJudgedOfSteps goal s run.events.items of_steps →
    ((aim : Criteria) (t : State) (events : List Event) → Joins aim t events of_steps run.judged judged) →
    IsRunBehind rules n goal s fs u (record { events = run.events; judged = judged; is_cut = run.is_cut })
rest_judged rules n goal s fs u run of_steps judged h steps joins = record {
  driven = h.driven;
  entries = h.entries;
  state = h.state;
  drives = h.drives;
  accepted = h.accepted;
  events_are = h.events_are;
  judged = joins goal s run.events.items h.made steps h.beside;
  cut = h.cut;
}
