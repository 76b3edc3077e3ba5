-- Where a line of a written schedule ends.
use Rattle.std.proofs.Common.{◌≡◌, ◌≢◌, ◌⊎◌, inl, inr, ℕ, zero, suc, ◌+◌, ◌/◌, ◌%◌, ◌<◌, ◌≤◌, List, [], ◌∷◌, ◌++◌, Bool, true, false, cond, eqb, eqb-true, eq-eqb, ne_eqb, map, flat_map, replicate, refl, sym, subst, ap, ap₂, ◌∙◌, arith, decimal, length, drop, append-nil}
use Rattle.std.proofs.lemmas.Bool.{eqb-false}
use Rattle.std.proofs.lemmas.List.{drop_all}
use Rattle.m161_machine.specs.declared.event.Event.{Event}
use Rattle.m161_machine.specs.declared.event.Event.TheVariants as events
use Rattle.m161_text.specs.Lines.{text_of, with_line_end}
use Rattle.m161_text.specs.Parts.{◌␣◌}
use Rattle.m161_steplog.specs.declared.schedule.Item.{Item}
use Rattle.m161_steplog.specs.declared.schedule.Item.TheVariants as items
use Rattle.m161_steplog.specs.Text.{event_text}
use Rattle.m161_steplog.specs.Schedule.{ScheduleLine, line_text, IsCount}
use Rattle.m161_steplog.specs.Written.{Block, step_before, blocks, steps_line, block_lines, written_lines, schedule_text}
use Rattle.m161_steplog.specs.helpers.Schedule.{item_events}
use Rattle.m161_steplog.specs.helpers.Written.{times_text, item_text, IsItem, Ends}

-- a Step of p doesn't join these blocks
abbrev pub Apart : ℕ → List Block → Type 0
Apart p bs = step_before p bs ≡ Block.Steps p 1 ∷ bs

-- the first block has Steps of p
abbrev Begins : ℕ → List Block → Type 0
Begins p bs = (k : ℕ) × (rest : List Block) × (bs ≡ Block.Steps p k ∷ rest)

pub by_test : (t : Bool) (p q n : ℕ) (bs : List Block) → eqb p q ≡ t → step_before p (Block.Steps q n ∷ bs) ≡ cond t (Block.Steps q (n + 1) ∷ bs) (Block.Steps p 1 ∷ Block.Steps q n ∷ bs)
by_test t p q n bs e = ap (λ (s : Bool). cond s (Block.Steps q (n + 1) ∷ bs) (Block.Steps p 1 ∷ Block.Steps q n ∷ bs)) e

onto : (p n : ℕ) (bs : List Block) → step_before p (Block.Steps p n ∷ bs) ≡ Block.Steps p (n + 1) ∷ bs
onto p n bs = by_test true p p n bs (eq-eqb p p refl)

beside : (p q n : ℕ) (bs : List Block) → p ≢ q → Apart p (Block.Steps q n ∷ bs)
beside p q n bs other = by_test false p q n bs (ne_eqb p q other)

begins_or_apart : (p : ℕ) (bs : List Block) → Begins p bs ⊎ Apart p bs
begins_or_apart p [] = inr refl
begins_or_apart p (Block.Other e ∷ bs) = inr refl
begins_or_apart p (Block.Steps q n ∷ bs) = by (eqb p q) refl
  where
    by : (t : Bool) → eqb p q ≡ t → Begins p (Block.Steps q n ∷ bs) ⊎ Apart p (Block.Steps q n ∷ bs)
    by true e = inl (n, bs, ap (λ x. Block.Steps x n ∷ bs) (sym (eqb-true p q e)))
    by false e = inr (by_test false p q n bs e)

-- a Step of another processor is apart, whatever follows
apart_before : (p q : ℕ) (bs : List Block) → p ≢ q → Apart p (step_before q bs)
apart_before p q [] other = beside p q 1 [] other
apart_before p q (Block.Other e ∷ bs) other = beside p q 1 (Block.Other e ∷ bs) other
apart_before p q (Block.Steps r n ∷ bs) other = by (eqb q r) refl
  where
    by : (t : Bool) → eqb q r ≡ t → Apart p (step_before q (Block.Steps r n ∷ bs))
    by true e =
        let is : q ≡ r = eqb-true q r e in
        subst (Apart p) (sym (by_test true q r n bs e)) (beside p r (n + 1) bs (λ same. other (same ∙ sym is)))
    by false e = subst (Apart p) (sym (by_test false q r n bs e)) (beside p q 1 (Block.Steps r n ∷ bs) other)

-- Steps before events that they don't join
run_apart : (p m : ℕ) (es : List Event) → Apart p (blocks es) → blocks (replicate (suc m) (events.Step p) ++ es) ≡ Block.Steps p (suc m) ∷ blocks es
run_apart p zero es apart = apart
run_apart p (suc m) es apart =
    let count : suc m + 1 ≡ suc (suc m) = omega arith in
    ap (step_before p) (run_apart p m es apart) ∙ onto p (suc m) (blocks es) ∙ ap (λ k. Block.Steps p k ∷ blocks es) count

-- Steps before events that they join
run_begins : (p m k : ℕ) (es : List Event) (rest : List Block) → blocks es ≡ Block.Steps p k ∷ rest → blocks (replicate m (events.Step p) ++ es) ≡ Block.Steps p (m + k) ∷ rest
run_begins p zero k es rest is = let count : k ≡ 0 + k = omega arith in is ∙ ap (λ j. Block.Steps p j ∷ rest) count
run_begins p (suc m) k es rest is =
    let count : m + k + 1 ≡ suc m + k = omega arith in
    ap (step_before p) (run_begins p m k es rest is) ∙ onto p (m + k) rest ∙ ap (λ j. Block.Steps p j ∷ rest) count

-- the lines of a block that begins with a full line
full_first : (p n k : ℕ) → n ≡ 1_000_000 → block_lines (Block.Steps p (n + k)) ≡ ScheduleLine.Times p n ∷ block_lines (Block.Steps p k)
full_first p n k full =
    let front : (n + k) / 1_000_000 ≡ suc (k / 1_000_000) = omega arith in
    let last : (n + k) % 1_000_000 ≡ k % 1_000_000 = omega arith in
    ap₂ (λ a b. replicate a (ScheduleLine.Times p 1_000_000) ++ steps_line p b) front last ∙ ap (λ m. ScheduleLine.Times p m ∷ block_lines (Block.Steps p k)) (sym full)

full_alone : (p n : ℕ) → n ≡ 1_000_000 → block_lines (Block.Steps p n) ≡ ScheduleLine.Times p n ∷ []
full_alone p n full =
    let front : n / 1_000_000 ≡ 1 = omega arith in
    let last : n % 1_000_000 ≡ 0 = omega arith in
    ap₂ (λ a b. replicate a (ScheduleLine.Times p 1_000_000) ++ steps_line p b) front last ∙ ap (λ m. ScheduleLine.Times p m ∷ []) (sym full)

short_alone : (p n : ℕ) → n < 1_000_000 → block_lines (Block.Steps p n) ≡ steps_line p n
short_alone p n short =
    let front : n / 1_000_000 ≡ 0 = omega arith in
    let last : n % 1_000_000 ≡ n = omega arith in
    ap₂ (λ a b. replicate a (ScheduleLine.Times p 1_000_000) ++ steps_line p b) front last

-- a line's text
times_is : (p n : ℕ) → n ≢ 1 → with_line_end (line_text (ScheduleLine.Times p n)) ≡ times_text (events.Step p) n
times_is p n other = sym (ap (λ (t : Bool). with_line_end (cond t (event_text (events.Step p)) (event_text (events.Step p) ␣ decimal n))) (ne_eqb n 1 other))

one_line : (p n : ℕ) → 1 ≤ n → (line : ScheduleLine) × (steps_line p n ≡ line ∷ []) × (with_line_end (line_text line) ≡ times_text (events.Step p) n)
one_line p zero some = absurd (omega arith)
one_line p (suc zero) some = (ScheduleLine.Once (events.Step p), refl, refl)
one_line p (suc (suc n)) some = (ScheduleLine.Times p (suc (suc n)), refl, times_is p (suc (suc n)) (λ e. omega (arith, e)))

-- the first line of events, and the others
cut_line : (all es : List Event) (line : ScheduleLine) (text : List ℕ) → written_lines all ≡ line ∷ written_lines es → with_line_end (line_text line) ≡ text → schedule_text all ≡ text ++ schedule_text es
unfolding schedule_text
cut_line all es line text lines same = ap (λ ls. text_of (map line_text ls)) lines ∙ ap (λ t. t ++ text_of (map line_text (written_lines es))) same

-- a full line ends before any events
full_ends : (p n : ℕ) (es : List Event) → n ≡ 1_000_000 → Ends (items.Repeated (events.Step p) n) es
full_ends p zero es full = absurd (omega (arith, full))
full_ends p (suc m) es full = elim (begins_or_apart p (blocks es)) [
  | inl begins ↦
      let lines : written_lines (replicate (suc m) (events.Step p) ++ es) ≡ ScheduleLine.Times p (suc m) ∷ written_lines es =
      ap (flat_map block_lines) (run_begins p (suc m) begins.0 es begins.1 begins.2) ∙ ap (λ ls. ls ++ flat_map block_lines begins.1) (full_first p (suc m) begins.0 full) ∙ ap (λ bs. ScheduleLine.Times p (suc m) ∷ flat_map block_lines bs) (sym begins.2) in
      cut_line (replicate (suc m) (events.Step p) ++ es) es (ScheduleLine.Times p (suc m)) (times_text (events.Step p) (suc m)) lines (times_is p (suc m) (λ e. omega (arith, full, e)))
  | inr apart ↦
      let lines : written_lines (replicate (suc m) (events.Step p) ++ es) ≡ ScheduleLine.Times p (suc m) ∷ written_lines es =
      ap (flat_map block_lines) (run_apart p m es apart) ∙ ap (λ ls. ls ++ written_lines es) (full_alone p (suc m) full) in
      cut_line (replicate (suc m) (events.Step p) ++ es) es (ScheduleLine.Times p (suc m)) (times_text (events.Step p) (suc m)) lines (times_is p (suc m) (λ e. omega (arith, full, e)))
]

-- a shorter one ends before events that it doesn't join
short_ends : (p n : ℕ) (es : List Event) → 1 ≤ n → n < 1_000_000 → Apart p (blocks es) → Ends (items.Repeated (events.Step p) n) es
short_ends p zero es some short apart = absurd (omega arith)
short_ends p (suc m) es some short apart =
    let one = one_line p (suc m) some in
    let lines : written_lines (replicate (suc m) (events.Step p) ++ es) ≡ one.0 ∷ written_lines es =
    ap (flat_map block_lines) (run_apart p m es apart) ∙ ap (λ ls. ls ++ written_lines es) (short_alone p (suc m) short ∙ one.1) in
    cut_line (replicate (suc m) (events.Step p) ++ es) es one.0 (times_text (events.Step p) (suc m)) lines one.2

apart_ends : (p n : ℕ) (es : List Event) → IsCount n → Apart p (blocks es) → Ends (items.Repeated (events.Step p) n) es
apart_ends p n es count apart = by (eqb n 1_000_000) refl
  where
    by : (t : Bool) → eqb n 1_000_000 ≡ t → Ends (items.Repeated (events.Step p) n) es
    by true e = full_ends p n es (eqb-true n 1_000_000 e)
    by false e =
        let other : n ≢ 1_000_000 = eqb-false n 1_000_000 e in
        short_ends p n es count.0 (omega arith) apart

-- an event other than a Step ends at once
alone_ends : (e : Event) (n : ℕ) (es : List Event) → n ≡ 1 → blocks (e ∷ es) ≡ Block.Other e ∷ blocks es → Ends (items.Repeated e n) es
alone_ends e n es one is =
    let P : ℕ → Type 0 = λ k. Ends (items.Repeated e k) es in
    subst P (sym one) (cut_line (e ∷ es) es (ScheduleLine.Once e) (times_text e 1) (ap (flat_map block_lines) is) refl)

key_ends : (b n : ℕ) (es : List Event) → n ≡ 1 → Ends (items.Repeated (events.Key b) n) es
key_ends b n es one = alone_ends (events.Key b) n es one refl

done_ends : (n : ℕ) (es : List Event) → n ≡ 1 → Ends (items.Repeated events.Done n) es
done_ends n es one = alone_ends events.Done n es one refl

-- no events end before any
pub ends_empty : (item : Item) (es : List Event) → ((e : Event) (n : ℕ) → item ≡ items.Repeated e n → ⊥) → Ends item es
ends_empty items.Nothing es other = refl
ends_empty (items.Repeated e n) es other = absurd (other e n refl)

-- and so does another event than a Step
pub ends_alone : (item : Item) (last : Event) (n : ℕ) (es : List Event) → item ≡ items.Repeated last n → IsItem item → ((p : ℕ) → last ≡ events.Step p → ⊥) → Ends item es
ends_alone item last n es is fits other = subst (λ i. Ends i es) (sym is) (by last (subst IsItem is fits) other)
  where
    by : (e : Event) → IsItem (items.Repeated e n) → ((p : ℕ) → e ≡ events.Step p → ⊥) → Ends (items.Repeated e n) es
    by (events.Step p) count none = absurd (none p refl)
    by (events.Key b) one none = key_ends b n es one
    by events.Done one none = done_ends n es one

-- Steps end before another event than a Step
pub ends_before : (item : Item) (last e : Event) (p n : ℕ) (es : List Event) → item ≡ items.Repeated last n → last ≡ events.Step p → IsItem item → ((q : ℕ) → e ≡ events.Step q → ⊥) → Ends item (e ∷ es)
ends_before item last e p n es is step fits other =
    let whole : item ≡ items.Repeated (events.Step p) n = is ∙ ap (λ x. items.Repeated x n) step in
    subst (λ i. Ends i (e ∷ es)) (sym whole) (by e (subst IsItem whole fits) other)
  where
    by : (x : Event) → IsCount n → ((q : ℕ) → x ≡ events.Step q → ⊥) → Ends (items.Repeated (events.Step p) n) (x ∷ es)
    by (events.Step q) count none = absurd (none q refl)
    by (events.Key b) count none = apart_ends p n (events.Key b ∷ es) count refl
    by events.Done count none = apart_ends p n (events.Done ∷ es) count refl

-- before a Step of another processor
pub ends_other : (item : Item) (last e : Event) (p q n : ℕ) (es : List Event) → item ≡ items.Repeated last n → last ≡ events.Step p → e ≡ events.Step q → IsItem item → p ≢ q → Ends item (e ∷ es)
ends_other item last e p q n es is step next fits other =
    let whole : item ≡ items.Repeated (events.Step p) n = is ∙ ap (λ x. items.Repeated x n) step in
    let count : IsCount n = subst IsItem whole fits in
    subst (λ i. Ends i (e ∷ es)) (sym whole) (subst (λ x. Ends (items.Repeated (events.Step p) n) (x ∷ es)) (sym next) (apart_ends p n (events.Step q ∷ es) count (apart_before p q (blocks es) other)))

-- and where the line is full
pub ends_full : (item : Item) (last : Event) (p n : ℕ) (es : List Event) → item ≡ items.Repeated last n → last ≡ events.Step p → n ≡ 1_000_000 → Ends item es
ends_full item last p n es is step full =
    let whole : item ≡ items.Repeated (events.Step p) n = is ∙ ap (λ x. items.Repeated x n) step in
    subst (λ i. Ends i es) (sym whole) (full_ends p n es full)

-- at the end
ends_last : (item : Item) → IsItem item → Ends item []
ends_last items.Nothing fits = refl
ends_last (items.Repeated (events.Step p) n) fits = apart_ends p n [] fits refl
ends_last (items.Repeated (events.Key b) n) fits = key_ends b n [] fits
ends_last (items.Repeated events.Done n) fits = done_ends n [] fits

-- the whole text, once the last item has its line
pub last_text : (es : List Event) (text whole : List ℕ) (i : ℕ) (item : Item) → length es ≤ i → schedule_text es ≡ text ++ schedule_text (item_events item ++ drop i es) → IsItem item → whole ≡ text ++ item_text item → whole ≡ schedule_text es
unfolding schedule_text
last_text es text whole i item all so fits pushed =
    let rest : schedule_text (item_events item ++ drop i es) ≡ item_text item = ap (λ xs. schedule_text (item_events item ++ xs)) (drop_all i es all) ∙ ends_last item fits ∙ append-nil (item_text item) in
    pushed ∙ sym (so ∙ ap (λ t. text ++ t) rest)
