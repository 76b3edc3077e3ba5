use Rattle.std.proofs.Common.{◌≡◌, ◌∙◌, refl, sym, ap, subst, ℕ, zero, suc, ◌+◌, ◌<◌, true, false, List, [], ◌∷◌, length, take, arith}
use Rattle.std.specs.Prelude.{None, count_by, is_some, nat_lt, slice_get}
use Rattle.std.proofs.lemmas.Bool.Decides.{nat_tests}
use Rattle.std.proofs.lemmas.List.{take_all}
use Rattle.m161_machine.specs.declared.event.Entry.{Entry}
use Rattle.m161_machine.specs.declared.event.Event.{Event}
use Rattle.m161_machine.specs.History.{events_of}
use Rattle.m161_machine.specs.State.{State}
use Rattle.m161_drive.specs.declared.cursor.Cursor.{Cursor}
use Rattle.m161_drive.specs.Choice.{cursor_at}
use Rattle.m161_drive.specs.declared.run.Driven.{Driven}
use Rattle.m161_drive.specs.Drive.{Chooses, Drives}
use Rattle.m161_drive.specs.Policy.{Rules}
use Rattle.m161_judge.specs.declared.seen.Seen.{Seen}
use Rattle.m161_judge.specs.Verdict.{Criteria, LeadsTo, after, has_keys, is_key, is_stuck}
use Rattle.m161_judge.specs.Seen.{HasSeen}
use Rattle.m161_judge.specs.helpers.Walk.{Ends}
use Rattle.m161_judge.proofs.Choosing.{chooses_leads, not_stuck_on_the_way}

-- Driven runs.

-- where a driven run leads
pub driven_leads : (rules : Rules) (es : List Entry) (c d : Cursor) (s t : State) → Chooses rules (slice_get rules.keys) c s es d t →
    LeadsTo s (events_of es) (length (events_of es)) t
driven_leads rules es c d s t h =
    let all : take (length (events_of es)) (events_of es) ≡ events_of es = take_all (length (events_of es)) (events_of es) (omega arith) in
    (omega arith, ap (after s) all ∙ chooses_leads rules (slice_get rules.keys) es c d s t h)

pub driven_ends : (rules : Rules) (es : List Entry) (c d : Cursor) (s t : State) → Chooses rules (slice_get rules.keys) c s es d t →
    Ends s (events_of es) (length (events_of es)) t
driven_ends rules es c d s t h = record { leads = driven_leads rules es c d s t h; is_last = λ on. refl }

-- on the way it isn't stuck
stuck_on_the_way : (rules : Rules) (es : List Entry) (d : Cursor) (s t : State) (k : ℕ) (u : State) →
    Chooses rules (slice_get rules.keys) (cursor_at rules s) s es d t → k < length (events_of es) → LeadsTo s (events_of es) k u →
    is_stuck (has_keys rules.keys (take k (events_of es))) u ≡ true → ⊥
stuck_on_the_way rules es d s t k u h less at stuck =
    let events = take k (events_of es) in
    let typed : count_by is_key events ≡ 0 + count_by is_key events = omega arith in
    not_stuck_on_the_way rules es (cursor_at rules s) d s t k u h less at.1
    (subst (λ n. is_stuck (nat_lt n (length rules.keys)) u ≡ true) typed stuck)

pub driven_seen : (rules : Rules) (goal : Criteria) (es : List Entry) (d : Cursor) (s t : State) → goal.keys ≡ rules.keys →
    Chooses rules (slice_get rules.keys) (cursor_at rules s) s es d t →
    HasSeen goal s (events_of es) (length (events_of es)) (record { stuck = None; was_stuck = false })
driven_seen rules goal es d s t keys h =
    let by_rules : (k : ℕ) (u : State) → is_stuck (has_keys goal.keys (take k (events_of es))) u ≡ true → is_stuck (has_keys rules.keys (take k (events_of es))) u ≡ true =
    λ k u stuck. subst (λ ks. is_stuck (has_keys ks (take k (events_of es))) u ≡ true) keys stuck in (
      λ k less bad. stuck_on_the_way rules es d s t k bad.0 h less bad.1.0 (by_rules k bad.0 bad.1.1),
      λ k u less at. stuck_on_the_way rules es d s t k u h less at.0 (by_rules k u at.1),
    )

-- a key is left exactly where there is a next one
none_left : (n : ℕ) → false ≡ nat_lt n 0
none_left n = grind (arith, nat_tests)

first_left : (n : ℕ) → true ≡ nat_lt 0 (suc n)
first_left n = grind (arith, nat_tests)

next_left : (n m : ℕ) → nat_lt n m ≡ nat_lt (suc n) (suc m)
next_left n m = grind (arith, nat_tests)

pub key_is_left : (keys : List ℕ) (n : ℕ) → is_some (slice_get keys n) ≡ nat_lt n (length keys)
key_is_left [] n = none_left n
key_is_left (x ∷ xs) zero = first_left (length xs)
key_is_left (x ∷ xs) (suc n) = key_is_left xs n ∙ next_left n (length xs)

-- of the run that was made, and its events
pub run_ends : (rules : Rules) (n : ℕ) (s t : State) (driven : Driven) (entries : List Entry) (events : List Event) (made : ℕ) →
    Drives rules n s driven entries t → events ≡ events_of entries → made ≡ length events → Ends s events made t
run_ends rules n s t driven entries events made drives same all =
    subst (λ j. Ends s events j t) (sym all)
    (subst (λ es. Ends s es (length es) t) (sym same)
    (driven_ends rules entries (cursor_at rules s) drives.cursor s t drives.chosen_are))

pub run_seen : (rules : Rules) (n : ℕ) (s t : State) (driven : Driven) (entries : List Entry) (events : List Event) (made : ℕ)
    (goal : Criteria) → goal.keys ≡ rules.keys → Drives rules n s driven entries t → events ≡ events_of entries →
    made ≡ length events → HasSeen goal s events made (record { stuck = None; was_stuck = false })
run_seen rules n s t driven entries events made goal keys drives same all =
    let none : Seen = record { stuck = None; was_stuck = false } in
    subst (λ j. HasSeen goal s events j none) (sym all)
    (subst (λ es. HasSeen goal s es (length es) none) (sym same)
    (driven_seen rules goal entries drives.cursor s t keys drives.chosen_are))

-- all of the events
pub all_keys : (keys : List ℕ) (events : List Event) (made : ℕ) → made ≡ length events → has_keys keys events ≡ has_keys keys (take made events)
all_keys keys events made all = ap (has_keys keys) (sym (take_all made events (omega (arith, all))))
