use Rattle.std.proofs.Common.{◌≡◌, ◌≢◌, inl, ◌∙◌, refl, sym, ap, ℕ, ◌+◌, ◌-◌, ◌%◌, ◌<◌, ◌≤◌, Bool, true, false, List, [], ◌∷◌, ◌++◌, length, drop, Option, None, Some, arith}
use Rattle.std.specs.Prelude.{◌&&◌, ◌==◌, nat_le, if◌then◌else◌, slice_index}
use Rattle.std.proofs.lemmas.Bool.Decides.{nat_tests}
use Rattle.m161_ram.specs.Word.{word_at}
use Rattle.m161_tlb.specs.declared.row.Row.{Row}
use Rattle.m161_cop0.specs.declared.register.Register.{Register}
use Rattle.m161_bus.specs.declared.register.BoardWord.{BoardWord}
use Rattle.m161_bus.specs.declared.register.BoardWord.TheVariants as words
use Rattle.m161_bus.specs.Board.{BoardState, IsShown, shown_word}
use Rattle.m161_cpu.specs.declared.processor.Outcome.{Outcome}
use Rattle.m161_cpu.specs.declared.processor.ProcessorState.{ProcessorState}
use Rattle.m161_cpu.specs.declared.processor.ProcessorState.TheVariants as states
use Rattle.m161_cpu.specs.Processor.{Processor}
use Rattle.m161_machine.specs.State.{State, processor_at, word_in}
use Rattle.m161_machine.specs.Uses.{uses_in}
use Rattle.m161_trace.specs.Items.{Item, doing, register, hi, lo, control, row, stored, latched, waiting, board, board_item, changed, common_items, control_item, control_items, control_word, each, hi_lo_items, items, latch_items, link_items, linked_items, outcome_items, places_items, processor_items, register_item, register_items, row_item, row_items, shared_items, shown_registers, start_item, start_items, state_items, stored_items, unlinked_by, unlinked_item, waiting_items}
use Rattle.m161_trace.specs.Law.{AreLatest, Has, Without, high_at, link_of, low_at}
use Rattle.m161_trace.proofs.Members.{has_each, has_left, has_listed, has_right, unchanged}

-- What the items of a Step show, and what has no item.

-- the places of the groups

in_processor : (p : ℕ) (s : State) (o : Outcome) (t : State) (i : Item) → Has i (processor_items p s t) → Has i (items p s o t)
unfolding items
in_processor p s o t i h = has_left i _ _ (has_left i _ _ (has_left i _ _ h))

in_shared : (p : ℕ) (s : State) (o : Outcome) (t : State) (i : Item) → Has i (shared_items p s t) → Has i (items p s o t)
unfolding items
in_shared p s o t i h = has_left i _ _ (has_left i _ _ (has_right i (processor_items p s t) _ h))

pub in_outcome : (p : ℕ) (s : State) (o : Outcome) (t : State) (i : Item) → Has i (outcome_items o) → Has i (items p s o t)
unfolding items
in_outcome p s o t i h = has_left i _ _ (has_right i (processor_items p s t ++ shared_items p s t) _ h)

in_starts : (p : ℕ) (s : State) (o : Outcome) (t : State) (i : Item) → Has i (start_items (length s.processors) s.board.started t.board.started) → Has i (items p s o t)
unfolding items
in_starts p s o t i h = has_right i (processor_items p s t ++ shared_items p s t ++ outcome_items o) _ h

-- within those of the processor

abbrev pub now : ℕ → State → Processor
now p s = processor_at p s.processors

-- what the processor is doing

same_if : (x y : ProcessorState) → (Has (doing y) (state_items x y) → ⊥) → y ≡ x
same_if states.Stopped states.Stopped none = refl
same_if states.Stopped states.Running none = absurd (none (inl refl))
same_if states.Stopped states.Waiting none = absurd (none (inl refl))
same_if states.Running states.Stopped none = absurd (none (inl refl))
same_if states.Running states.Running none = refl
same_if states.Running states.Waiting none = absurd (none (inl refl))
same_if states.Waiting states.Stopped none = absurd (none (inl refl))
same_if states.Waiting states.Running none = absurd (none (inl refl))
same_if states.Waiting states.Waiting none = refl

pub state_stays : (p : ℕ) (s : State) (o : Outcome) (t : State) → Without doing (items p s o t) → (now p t).state ≡ (now p s).state
state_stays p s o t none =
    same_if (now p s).state (now p t).state
    (λ h. none (now p t).state (in_processor p s o t _ (has_left _ _ _ (has_left _ _ _ (has_left _ _ _ (has_left _ _ _ h))))))

-- the general registers, HI and LO

in_registers : (x y : Processor) (r : ℕ) (i : Item) → 1 ≤ r → r < 32 → Has i (register_item x y r) → Has i (register_items x y)
unfolding register_items
in_registers x y r i low high h = has_each 1 31 r (register_item x y) i low high h

pub register_stays : (p : ℕ) (s : State) (o : Outcome) (t : State) (r : ℕ) → 1 ≤ r → r < 32 → Without (register r) (items p s o t)
    → slice_index (now p t).registers r ≡ slice_index (now p s).registers r
register_stays p s o t r low high none =
    unchanged _ _ (register r (slice_index (now p t).registers r))
    (λ h. none _ (in_processor p s o t _
    (has_left _ _ _ (has_left _ _ _ (has_left _ _ _ (has_right _ (state_items (now p s).state (now p t).state) _ (in_registers (now p s) (now p t) r _ low high h)))))))

in_hi_lo : (p : ℕ) (s : State) (o : Outcome) (t : State) (i : Item) → Has i (hi_lo_items (now p s) (now p t)) → Has i (items p s o t)
in_hi_lo p s o t i h =
    in_processor p s o t i
    (has_left i _ _ (has_left i _ _ (has_right i (state_items (now p s).state (now p t).state ++ register_items (now p s) (now p t)) _ h)))

pub hi_stays : (p : ℕ) (s : State) (o : Outcome) (t : State) → Without hi (items p s o t) → (now p t).hi ≡ (now p s).hi
hi_stays p s o t none = unchanged _ _ (hi (now p t).hi) (λ h. none _ (in_hi_lo p s o t _ (has_left _ _ _ h)))

pub lo_stays : (p : ℕ) (s : State) (o : Outcome) (t : State) → Without lo (items p s o t) → (now p t).lo ≡ (now p s).lo
lo_stays p s o t none =
    unchanged _ _ (lo (now p t).lo)
    (λ h. none _ (in_hi_lo p s o t _ (has_right _ (changed (now p s).hi (now p t).hi (hi (now p t).hi)) _ h)))

-- coprocessor 0

in_controls : (p : ℕ) (s t : State) (r : Register) (i : Item) → Has r shown_registers → Has i (control_item p s t r) → Has i (control_items p s t)
unfolding control_items
in_controls p s t r i there h = has_listed (control_item p s t) i r shown_registers there h

pub control_stays : (p : ℕ) (s : State) (o : Outcome) (t : State) (r : Register) → Has r shown_registers → Without (control r) (items p s o t)
    → control_word p t r ≡ control_word p s r
control_stays p s o t r there none =
    unchanged _ _ (control r (control_word p t r))
    (λ h. none _ (in_processor p s o t _
    (has_left _ _ _ (has_right _ (state_items (now p s).state (now p t).state ++ register_items (now p s) (now p t) ++ hi_lo_items (now p s) (now p t)) _
    (in_controls p s t r _ there h)))))

-- rows

in_rows : (x y : List Row) (r : ℕ) (i : Item) → r < 64 → Has i (row_item x y r) → Has i (row_items x y)
unfolding row_items
in_rows x y r i high h = has_each 0 64 r (row_item x y) i (let z : 0 ≤ r = omega arith in z) high h

both_same : (t u : Bool) (h l k m : ℕ) (i : Item) → (h == k) ≡ t → (l == m) ≡ u → (Has i (if t && u then [] else i ∷ []) → ⊥) → (k ≡ h) × (m ≡ l)
both_same true true h l k m i t_is u_is none = (grind (arith, nat_tests, t_is), grind (arith, nat_tests, u_is))
both_same true false h l k m i t_is u_is none = absurd (none (inl refl))
both_same false u h l k m i t_is u_is none = absurd (none (inl refl))

pub row_stays : (p : ℕ) (s : State) (o : Outcome) (t : State) (r : ℕ) → r < 64 → Without (λ (x : ℕ × ℕ). row r x.0 x.1) (items p s o t)
    → (high_at p r t ≡ high_at p r s) × (low_at p r t ≡ low_at p r s)
row_stays p s o t r high none =
    both_same (high_at p r s == high_at p r t) (low_at p r s == low_at p r t) (high_at p r s) (low_at p r s) (high_at p r t) (low_at p r t)
    (row r (high_at p r t) (low_at p r t)) refl refl
    (λ h. none (high_at p r t, low_at p r t) (in_processor p s o t _
    (has_right _ (state_items (now p s).state (now p t).state ++ register_items (now p s) (now p t) ++ hi_lo_items (now p s) (now p t) ++ control_items p s t) _
    (in_rows (now p s).rows (now p t).rows r _ high h))))

-- RAM

in_stored : (p : ℕ) (s : State) (o : Outcome) (t : State) (i : Item) → Has i (stored_items (uses_in p s).stored t.memory) → Has i (items p s o t)
in_stored p s o t i h =
    in_shared p s o t i (has_left i _ _ (has_left i _ _ (has_left i _ _ (has_left i _ _ (has_left i _ _ h)))))

stored_there : (at word : ℕ) (x : Option ℕ) (memory : List ℕ) → x ≡ Some at → word_in memory at ≡ Some word → Has (stored at word) (stored_items x memory)
stored_there at word x memory is there = rw (is, there) (inl refl)

pub has_stored : (p : ℕ) (s : State) (o : Outcome) (t : State) (at word : ℕ) → (uses_in p s).stored ≡ Some at → word_in t.memory at ≡ Some word
    → Has (stored at word) (items p s o t)
has_stored p s o t at word is there = in_stored p s o t _ (stored_there at word (uses_in p s).stored t.memory is there)

ram_if : (t u : Bool) (memory old : List ℕ) (at : ℕ) → (at % 4 == 0) ≡ t → nat_le (at + 4) (length old) ≡ u → length memory ≡ length old →
    (at % 4 ≡ 0 → word_in memory at ≡ Some (word_at memory at) → word_at memory at ≡ word_at old at) → word_in memory at ≡ word_in old at
ram_if false u memory old at is there size same = rw is refl
ram_if true false memory old at is there size same = rw (size, is, there) refl
ram_if true true memory old at is there size same =
    let al : at % 4 ≡ 0 = grind (arith, nat_tests, is) in
    let has : word_in memory at ≡ Some (word_at memory at) = rw (size, is, there) refl in
    has ∙ ap Some (same al has) ∙ sym (rw (is, there) refl)

pub ram_stays : (p : ℕ) (s : State) (o : Outcome) (t : State) (at : ℕ) → length t.memory ≡ length s.memory →
    (at % 4 ≡ 0 → (uses_in p s).stored ≢ Some at → word_at t.memory at ≡ word_at s.memory at) → Without (stored at) (items p s o t)
    → word_in t.memory at ≡ word_in s.memory at
ram_stays p s o t at size same none =
    ram_if (at % 4 == 0) (nat_le (at + 4) (length s.memory)) t.memory s.memory at refl refl size
    (λ al there. same al (λ is. none (word_at t.memory at) (has_stored p s o t at (word_at t.memory at) is there)))

-- links

in_links : (p : ℕ) (s : State) (o : Outcome) (t : State) (i : Item) → Has i (link_items p (length s.processors) s.links.live t.links.live) → Has i (items p s o t)
in_links p s o t i h =
    in_shared p s o t i
    (has_left i _ _ (has_left i _ _ (has_left i _ _ (has_left i _ _ (has_right i (stored_items (uses_in p s).stored t.memory) _ h)))))

pub has_linked : (p : ℕ) (s : State) (o : Outcome) (t : State) (i : Item) → Has i (linked_items (link_of p s) (link_of p t)) → Has i (items p s o t)
unfolding link_items
has_linked p s o t i h = in_links p s o t i (has_left i _ _ h)

pub has_unlinked : (p : ℕ) (s : State) (o : Outcome) (t : State) (q : ℕ) (i : Item) → q < length s.processors → Has i (unlinked_by q (link_of q s) (link_of q t))
    → Has i (items p s o t)
unfolding link_items
has_unlinked p s o t q i lt h =
    in_links p s o t i
    (has_right i (linked_items (link_of p s) (link_of p t)) _
    (has_each 0 (length s.processors) q (unlinked_item s.links.live t.links.live) i (let z : 0 ≤ q = omega arith in z) (let l : q < 0 + length s.processors = omega (arith, lt) in l) h))

-- the console

pub has_latched : (p : ℕ) (s : State) (o : Outcome) (t : State) (i : Item) → Has i (latch_items s.board.console.latch t.board.console.latch) → Has i (items p s o t)
has_latched p s o t i h =
    in_shared p s o t i
    (has_left i _ _ (has_left i _ _ (has_left i _ _ (has_right i (stored_items (uses_in p s).stored t.memory ++ link_items p (length s.processors) s.links.live t.links.live) _ h))))

pub waiting_as_many : (p : ℕ) (s : State) (o : Outcome) (t : State) → Without waiting (items p s o t) → length t.board.console.waiting ≡ length s.board.console.waiting
waiting_as_many p s o t none =
    unchanged _ _ (waiting (length t.board.console.waiting))
    (λ h. none _ (in_shared p s o t _
    (has_left _ _ _ (has_left _ _ _ (has_right _
    (stored_items (uses_in p s).stored t.memory ++ link_items p (length s.processors) s.links.live t.links.live ++ latch_items s.board.console.latch t.board.console.latch) _ h)))))

latch_if : (x y : Option ℕ) → (y ≡ None → x ≡ None) → ((byte : ℕ) → Has (latched byte) (latch_items x y) → ⊥) → y ≡ x
latch_if x None kept none = sym (kept refl)
latch_if None (Some byte) kept none = absurd (none byte (inl refl))
latch_if (Some old) (Some byte) kept none = ap Some (unchanged old byte (latched byte) (none byte))

pub latch_stays : (p : ℕ) (s : State) (o : Outcome) (t : State) → (t.board.console.latch ≡ None → s.board.console.latch ≡ None) → Without latched (items p s o t)
    → t.board.console.latch ≡ s.board.console.latch
latch_stays p s o t kept none =
    latch_if s.board.console.latch t.board.console.latch kept (λ byte h. none byte (has_latched p s o t _ h))

pub waiting_stays : (p : ℕ) (s : State) (o : Outcome) (t : State) → AreLatest t.board.console.waiting s.board.console.waiting → Without waiting (items p s o t)
    → t.board.console.waiting ≡ s.board.console.waiting
waiting_stays p s o t latest none =
    let before : List ℕ = s.board.console.waiting in
    let after : List ℕ = t.board.console.waiting in
    let as_many : length after ≡ length before = waiting_as_many p s o t none in
    let no_fewer : length before - length after ≡ 0 = omega (arith, as_many) in
    latest ∙ ap (λ n. drop n before) no_fewer

-- the board

in_common : (p : ℕ) (s : State) (o : Outcome) (t : State) (i : Item) → Has i (common_items s.board t.board) → Has i (items p s o t)
in_common p s o t i h =
    in_shared p s o t i
    (has_left i _ _ (has_right i
    (stored_items (uses_in p s).stored t.memory ++ link_items p (length s.processors) s.links.live t.links.live ++ latch_items s.board.console.latch t.board.console.latch ++ waiting_items s.board.console t.board.console) _ h))

in_places : (p : ℕ) (s : State) (o : Outcome) (t : State) (i : Item) → Has i (places_items (length s.processors) s.board t.board) → Has i (items p s o t)
in_places p s o t i h =
    in_shared p s o t i
    (has_right i
    (stored_items (uses_in p s).stored t.memory ++ link_items p (length s.processors) s.links.live t.links.live ++ latch_items s.board.console.latch t.board.console.latch ++ waiting_items s.board.console t.board.console
    ++ common_items s.board t.board) _ h)

below : (n q : ℕ) → q < n → q < 0 + n
below n q lt = omega (arith, lt)

from_zero : (q : ℕ) → 0 ≤ q
from_zero q = omega arith

in_enables : (n : ℕ) (x y : BoardState) (c : ℕ) (i : Item) → c < n → Has i (board_item x y (words.Cirqe c)) → Has i (places_items n x y)
unfolding places_items
in_enables n x y c i lt h =
    has_left i _ _ (has_left i _ _ (has_each 0 n c (λ k. board_item x y (words.Cirqe k)) i (from_zero c) (below n c lt) h))

in_raised : (n : ℕ) (x y : BoardState) (c : ℕ) (i : Item) → c < n → Has i (board_item x y (words.Cipi c)) → Has i (places_items n x y)
unfolding places_items
in_raised n x y c i lt h =
    has_left i _ _ (has_right i (each 0 n (λ k. board_item x y (words.Cirqe k))) _ (has_each 0 n c (λ k. board_item x y (words.Cipi k)) i (from_zero c) (below n c lt) h))

in_crams : (n : ℕ) (x y : BoardState) (c k : ℕ) (i : Item) → c < n → k < 64 → Has i (board_item x y (words.Cram c k)) → Has i (places_items n x y)
unfolding places_items
in_crams n x y c k i lt small h =
    has_right i (each 0 n (λ j. board_item x y (words.Cirqe j)) ++ each 0 n (λ j. board_item x y (words.Cipi j))) _
    (has_each 0 n c (λ j. each 0 64 (λ m. board_item x y (words.Cram j m))) i (from_zero c) (below n c lt)
    (has_each 0 64 k (λ m. board_item x y (words.Cram c m)) i (from_zero k) (below 64 k small) h))

has_word : (p : ℕ) (s : State) (o : Outcome) (t : State) (place : BoardWord) (i : Item) → IsShown (length s.processors) place → Has i (board_item s.board t.board place)
    → Has i (items p s o t)
has_word p s o t words.WriteIrq i is h = in_common p s o t i (has_left i _ _ (has_left i _ _ (has_left i _ _ h)))
has_word p s o t words.ReadIrq i is h =
    in_common p s o t i (has_left i _ _ (has_left i _ _ (has_right i (board_item s.board t.board words.WriteIrq) _ h)))
has_word p s o t words.Irqe i is h =
    in_common p s o t i
    (has_left i _ _ (has_right i (board_item s.board t.board words.WriteIrq ++ board_item s.board t.board words.ReadIrq) _ h))
has_word p s o t words.Cpue i is h =
    in_common p s o t i
    (has_right i (board_item s.board t.board words.WriteIrq ++ board_item s.board t.board words.ReadIrq ++ board_item s.board t.board words.Irqe) _ h)
has_word p s o t (words.Cirqe c) i is h = in_places p s o t i (in_enables (length s.processors) s.board t.board c i is h)
has_word p s o t (words.Cipi c) i is h = in_places p s o t i (in_raised (length s.processors) s.board t.board c i is h)
has_word p s o t (words.Cram c k) i is h = in_places p s o t i (in_crams (length s.processors) s.board t.board c k i is.0 is.1 h)

pub word_stays : (p : ℕ) (s : State) (o : Outcome) (t : State) (place : BoardWord) → IsShown (length s.processors) place → Without (board place) (items p s o t)
    → shown_word place t.board ≡ shown_word place s.board
word_stays p s o t place is none =
    unchanged _ _ (board place (shown_word place t.board)) (λ h. none _ (has_word p s o t place _ is h))

-- the processors that were started

pub has_start : (p : ℕ) (s : State) (o : Outcome) (t : State) (q : ℕ) (i : Item) → q < length s.processors → Has i (start_item s.board.started t.board.started q)
    → Has i (items p s o t)
unfolding start_items
has_start p s o t q i lt h =
    in_starts p s o t i (has_each 0 (length s.processors) q (start_item s.board.started t.board.started) i (from_zero q) (below (length s.processors) q lt) h)
