-- A line of a schedule.
use Rattle.std.proofs.Common.{◌≡◌, ◌≢◌, ℕ, ◌<◌, List, [], ◌∷◌, length, get_or, replicate, refl, sym, subst, ap, ap₂, ◌∙◌, arith, Option, Some, None, codes, decimal, rules}
use Rattle.std.proofs.lemmas.Option.{none-some, same_Some, some_pair_parts}
use Rattle.m161_machine.specs.declared.event.Event.{Event}
use Rattle.m161_machine.specs.declared.event.Event.TheVariants as events
use Rattle.m161_steplog.specs.declared.schedule.Item.{Item}
use Rattle.m161_steplog.specs.declared.schedule.Item.TheVariants as items
use Rattle.m161_text.specs.Parts.{◌␣◌, hex_text, Reads, Lacks, IsWord}
use Rattle.m161_text.specs.helpers.Parts.{ReadsBoth}
use Rattle.m161_steplog.specs.Text.{event_text, IsEvent}
use Rattle.m161_steplog.specs.Schedule.{ScheduleLine, line_text, line_events, IsLine, IsCount}
use Rattle.m161_steplog.specs.helpers.Schedule.{item_events, ReadsLine}
use Rattle.m161_text.proofs.Reading.{nothing}
use Rattle.m161_text.proofs.Parts.{cut_same, has_space, not_spaced, one_lacks}
use Rattle.m161_text.proofs.Decimal.{decimal_lacks_space}

-- a text by its parts
pub of_parts : {X : Type 0} (Valid : X → Type 0) (f : X → List ℕ) (text kind rest : List ℕ) (r : Option X) → text ≡ kind ␣ rest →
    Reads Valid f (kind ␣ rest) r → Reads Valid f text r
of_parts Valid f text kind rest r same it = subst (λ t. Reads Valid f t r) (sym same) it

-- the first part of an event's text decides the event
abbrev Kind : List ℕ → List ℕ → Event → Type 0
Kind kind rest (events.Step p) = (kind ≡ codes "s") × (rest ≡ decimal p)
Kind kind rest (events.Key b) = (kind ≡ codes "k") × (rest ≡ hex_text 2 b)
Kind kind rest events.Done = ⊥

o_lacks : Lacks 32 (codes "o")
o_lacks = one_lacks 111 (search rules)

kind_of : (kind rest : List ℕ) (event : Event) → Lacks 32 kind → kind ␣ rest ≡ event_text event → Kind kind rest event
kind_of kind rest (events.Step p) lacks same = cut_same 32 kind (codes "s") rest (decimal p) lacks (one_lacks 115 (search rules)) same
kind_of kind rest (events.Key b) lacks same = cut_same 32 kind (codes "k") rest (hex_text 2 b) lacks (one_lacks 107 (search rules)) same
kind_of kind rest events.Done lacks same = has_space kind rest (rw same o_lacks)

pub of_other : (kind rest text : List ℕ) → Lacks 32 kind × (text ≡ kind ␣ rest) → kind ≢ codes "s" → kind ≢ codes "k" → Reads IsEvent event_text text None
of_other kind rest text cut not_s not_k = nothing (λ e fits same. by e (kind_of kind rest e cut.0 (sym cut.1 ∙ same)))
  where
    by : (e : Event) → Kind kind rest e → ⊥
    by (events.Step p) it = not_s it.0
    by (events.Key b) it = not_k it.0
    by events.Done it = it

pub of_no_space : (text : List ℕ) → Lacks 32 text → text ≢ codes "o" → Reads IsEvent event_text text None
of_no_space text lacks other = nothing (λ e fits same. by e same)
  where
    by : (e : Event) → text ≡ event_text e → ⊥
    by (events.Step p) same = not_spaced text (codes "s") (decimal p) lacks same
    by (events.Key b) same = not_spaced text (codes "k") (hex_text 2 b) lacks same
    by events.Done same = other same

-- the text `s P N`
abbrev pub Steps : List ℕ → Option (ℕ × ℕ) → Type 0
Steps text r = Reads (λ (t : ℕ × ℕ). IsWord t.0 × IsCount t.1) (λ (t : ℕ × ℕ). event_text (events.Step t.0) ␣ decimal t.1) text r

steps_rest : (kind rest text : List ℕ) (p n : ℕ) → Lacks 32 kind × (text ≡ kind ␣ rest) → text ≡ event_text (events.Step p) ␣ decimal n → (kind ≡ codes "s") × (rest ≡ decimal p ␣ decimal n)
steps_rest kind rest text p n cut same = cut_same 32 kind (codes "s") rest (decimal p ␣ decimal n) cut.0 (one_lacks 115 (search rules)) (sym cut.1 ∙ same)

pub of_steps : (kind rest text : List ℕ) (r : Option (ℕ × ℕ)) → Lacks 32 kind × (text ≡ kind ␣ rest) → kind ≡ codes "s" → ReadsBoth IsWord IsCount decimal decimal rest r → Steps text r
of_steps kind rest text None cut is none = nothing (λ t fits same. none-some t (none.only t fits (steps_rest kind rest text t.0 t.1 cut same).1))
of_steps kind rest text (Some x) cut is one = record {
  found = (one.found.0, cut.1 ∙ rw (is, one.found.1) refl);
  only = λ t fits same. one.only t fits (steps_rest kind rest text t.0 t.1 cut same).1;
}

pub no_steps : (kind rest text : List ℕ) → Lacks 32 kind × (text ≡ kind ␣ rest) → kind ≢ codes "s" → Steps text None
no_steps kind rest text cut other = nothing (λ t fits same. other (steps_rest kind rest text t.0 t.1 cut same).0)

pub no_steps_cut : (text : List ℕ) → Lacks 32 text → Steps text None
no_steps_cut text lacks = nothing (λ t fits same. not_spaced text (event_text (events.Step t.0)) (decimal t.1) lacks same)

-- an event's text isn't empty and doesn't begin with `#`
begins : (e : Event) → (0 < length (event_text e)) × (get_or (event_text e) 0 0 ≢ 35)
begins (events.Step p) = (omega arith, λ x. omega (arith, x))
begins (events.Key b) = (omega arith, λ x. omega (arith, x))
begins events.Done = (omega arith, λ x. omega (arith, x))

-- no event has the text `s P N`
event_not_times : (e : Event) (p n : ℕ) → IsEvent e → event_text e ≡ event_text (events.Step p) ␣ decimal n → ⊥
event_not_times (events.Step q) p n fits same =
    let parts = cut_same 32 (codes "s") (codes "s") (decimal q) (decimal p ␣ decimal n) (one_lacks 115 (search rules)) (one_lacks 115 (search rules)) same in
    not_spaced (decimal q) (decimal p) (decimal n) (decimal_lacks_space q (omega arith)) parts.1
event_not_times (events.Key b) p n fits same = omega (arith, ap (λ ds. get_or ds 0 0) same)
event_not_times events.Done p n fits same = omega (arith, ap (λ ds. get_or ds 0 0) same)

-- a line with a comment
pub comment : (text : List ℕ) → 0 < length text → get_or text 0 0 ≡ 35 → ReadsLine text (Some items.Nothing)
comment [] some first = absurd (omega arith)
comment (c ∷ rest) some first = record {
  found = (ScheduleLine.Comment rest, tt, ap (λ x. x ∷ rest) first, refl);
  only = only;
}
  where
    only : (line : ScheduleLine) → IsLine line → c ∷ rest ≡ line_text line → (item : Item) × (◌≡◌ {A = Option Item} (Some items.Nothing) (Some item)) × (line_events line ≡ item_events item)
    only ScheduleLine.Blank fits same = absurd (omega (arith, ap length same))
    only (ScheduleLine.Comment text) fits same = (items.Nothing, refl, refl)
    only (ScheduleLine.Once e) fits same = absurd ((begins e).1 (sym (ap (λ ds. get_or ds 0 0) same) ∙ first))
    only (ScheduleLine.Times p n) fits same = absurd (omega (arith, first, ap (λ ds. get_or ds 0 0) same))

-- a line with one event
pub once : (text : List ℕ) (e : Event) → 0 < length text → get_or text 0 0 ≢ 35 → Reads IsEvent event_text text (Some e) → ReadsLine text (Some (items.Repeated e 1))
once text e some first one = record {
  found = (ScheduleLine.Once e, one.found.0, one.found.1, refl);
  only = only;
}
  where
    only : (line : ScheduleLine) → IsLine line → text ≡ line_text line → (item : Item) × (◌≡◌ {A = Option Item} (Some (items.Repeated e 1)) (Some item)) × (line_events line ≡ item_events item)
    only ScheduleLine.Blank fits same = absurd (omega (arith, ap length same))
    only (ScheduleLine.Comment rest) fits same = absurd (first (ap (λ ds. get_or ds 0 0) same))
    only (ScheduleLine.Once x) fits same = (items.Repeated e 1, refl, ap (λ y. y ∷ []) (sym (same_Some e x (one.only x fits same))))
    only (ScheduleLine.Times p n) fits same = absurd (event_not_times e p n one.found.0 (sym one.found.1 ∙ same))

-- a line with Steps
pub steps : (text : List ℕ) (p n : ℕ) → 0 < length text → get_or text 0 0 ≢ 35 → Reads IsEvent event_text text None → Steps text (Some (p, n)) → ReadsLine text (Some (items.Repeated (events.Step p) n))
steps text p n some first none one = record {
  found = (ScheduleLine.Times p n, one.found.0, one.found.1, refl);
  only = only;
}
  where
    only : (line : ScheduleLine) → IsLine line → text ≡ line_text line → (item : Item) × (◌≡◌ {A = Option Item} (Some (items.Repeated (events.Step p) n)) (Some item)) × (line_events line ≡ item_events item)
    only ScheduleLine.Blank fits same = absurd (omega (arith, ap length same))
    only (ScheduleLine.Comment rest) fits same = absurd (first (ap (λ ds. get_or ds 0 0) same))
    only (ScheduleLine.Once x) fits same = absurd (none-some x (none.only x fits same))
    only (ScheduleLine.Times q m) fits same =
        let parts = some_pair_parts p q n m (one.only (q, m) fits same) in
        (items.Repeated (events.Step p) n, refl, ap₂ (λ a b. replicate b (events.Step a)) (sym parts.0) (sym parts.1))

-- a bad line
pub no_item : (text : List ℕ) → 0 < length text → get_or text 0 0 ≢ 35 → Reads IsEvent event_text text None → Steps text None → ReadsLine text None
no_item text some first none none' = record { found = tt; only = only }
  where
    only : (line : ScheduleLine) → IsLine line → text ≡ line_text line → (item : Item) × (◌≡◌ {A = Option Item} None (Some item)) × (line_events line ≡ item_events item)
    only ScheduleLine.Blank fits same = absurd (omega (arith, ap length same))
    only (ScheduleLine.Comment rest) fits same = absurd (first (ap (λ ds. get_or ds 0 0) same))
    only (ScheduleLine.Once x) fits same = absurd (none-some x (none.only x fits same))
    only (ScheduleLine.Times q m) fits same = absurd (none-some (q, m) (none'.only (q, m) fits same))
