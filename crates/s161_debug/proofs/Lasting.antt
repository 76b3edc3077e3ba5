use Rattle.std.proofs.Common.{◌≡◌, ◌∙◌, ℕ, zero, suc, ◌+◌, ◌-◌, List, [], ◌∷◌, ◌++◌, Some, append-nil, arith, ap, length, refl, slice_get, sym, take}
use Rattle.std.specs.Prelude.{min}
use Rattle.std.specs.List.{flat_map, range_with_len}
use Rattle.std.proofs.lemmas.List.{length-map, take_more}
use Rattle.std.proofs.lemmas.List.Concat.{flat_map-append}
use Rattle.std.proofs.lemmas.Option.{get_or_from_slice_get, slice_get-map, slice_get_within}
use Rattle.std.specs.Option.{option_map}
use Rattle.m161_dis.specs.declared.naming.Style.{Style}
use Rattle.m161_machine.specs.declared.event.Entry.{Entry}
use Rattle.m161_machine.specs.declared.event.Event.{Event}
use Rattle.m161_machine.specs.History.{events_of}
use Rattle.m161_machine.specs.State.{State, next}
use Rattle.m161_replay.specs.Replays.{after, along, state_at}
use Rattle.s161_debug.specs.Traces.{last_lines, line_at, line_by, line_if}

-- The lines of a list's last events, one after the other.

along_append : (s : State) (front back : List Event) → along s (front ++ back) ≡ along (along s front) back
along_append s [] back = refl
along_append s (e ∷ front) back = along_append (after s (next s e)) front back

-- the state behind an event
pub state_more : (start : State) (events : List Event) (k : ℕ) (e : Event) (s t : State) → slice_get events k ≡ Some e →
    s ≡ state_at start events k → t ≡ after s (next s e) → t ≡ state_at start events (k + 1)
state_more start events k e s t is here made =
    let front = take_more events k e (slice_get_within events k e is) ∙ ap (λ x. take k events ++ x ∷ []) (get_or_from_slice_get events k e e is) in
    made ∙ ap (λ u. after u (next u e)) here ∙ sym (ap (along start) front ∙ along_append start (take k events) (e ∷ []))

-- the event of an entry of a log
pub event_is : (log : List Entry) (k : ℕ) (e : Entry) → slice_get log k ≡ Some e → slice_get (events_of log) k ≡ Some e.event
event_is log k e is = slice_get-map (λ (x : Entry). x.event) log k ∙ ap (option_map (λ (x : Entry). x.event)) is

range_more : (a n j : ℕ) → a + n ≡ j → range_with_len a (suc n) ≡ range_with_len a n ++ j ∷ []
range_more a zero j e = ap (λ x. x ∷ []) (omega (arith, e))
range_more a (suc n) j e = ap (λ x. a ∷ x) (range_more (a + 1) n j (omega (arith, e)))

-- the lines from event a on, n of them
abbrev pub lines_from : Style → State → List Event → ℕ → ℕ → List ℕ
lines_from style start events a n = flat_map (line_at style start events) (range_with_len a n)

pub lines_more : (style : Style) (start : State) (events : List Event) (a n m j : ℕ) (e : Event) (s : State) (text more : List ℕ) →
    a + n ≡ j → suc n ≡ m → slice_get events j ≡ Some e → s ≡ state_at start events j →
    text ≡ lines_from style start events a n → more ≡ text ++ line_by style j e s (next s e) → more ≡ lines_from style start events a m
lines_more style start events a n m j e s text more at last is here so_far adds =
    let f = line_at style start events in
    let line : line_by style j e s (next s e) ≡ f j = ap (λ u. line_by style j e u (next u e)) here ∙ sym (ap (line_if style j (state_at start events j)) is) in
    adds ∙ ap (λ x. x ++ line_by style j e s (next s e)) so_far ∙ ap (λ x. lines_from style start events a n ++ x) (line ∙ sym (append-nil (f j)))
    ∙ sym (flat_map-append f (range_with_len a n) (j ∷ [])) ∙ sym (ap (flat_map f) (range_more a n j at))
    ∙ ap (λ i. lines_from style start events a i) last

pub all_lines : (style : Style) (start : State) (log : List Entry) (n a m : ℕ) → a ≡ length log - n → m ≡ length log - a →
    lines_from style start (events_of log) a m ≡ last_lines style start (events_of log) n
unfolding last_lines
all_lines style start log n a m first many =
    let long : length (events_of log) ≡ length log = length-map log (λ (x : Entry). x.event) in
    let here : a ≡ length (events_of log) - n = omega (arith, first, long) in
    let all : m ≡ min n (length (events_of log)) = omega (arith, first, many, long) in
    ap (λ i. lines_from style start (events_of log) i m) here ∙ ap (λ i. lines_from style start (events_of log) (length (events_of log) - n) i) all
