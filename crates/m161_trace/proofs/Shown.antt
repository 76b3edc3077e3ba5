use Rattle.std.proofs.Common.{◌≡◌, ◌≢◌, refl, ℕ, ◌<◌, Bool, true, false, List, [], ◌∷◌, ◌++◌, length, Option, None, Some, arith}
use Rattle.std.specs.Prelude.{◌&&◌, ◌==◌, if◌then◌else◌, slice_index}
use Rattle.std.specs.List.{range_with_len}
use Rattle.m161_bus.specs.declared.register.BoardWord.{BoardWord}
use Rattle.m161_bus.specs.declared.register.BoardWord.TheVariants as words
use Rattle.m161_cpu.specs.declared.processor.Outcome.{Outcome}
use Rattle.m161_cpu.specs.declared.processor.Outcome.TheVariants as outcomes
use Rattle.m161_cpu.specs.declared.processor.ProcessorState.{ProcessorState}
use Rattle.m161_machine.specs.State.{State, processor_at, word_in}
use Rattle.m161_machine.specs.Uses.{uses_in}
use Rattle.m161_trace.specs.Items.{Item, doing, register, hi, lo, control, row, stored, linked, unlinked, latched, waiting, board, trapped, idle, off, conflict, starts, board_item, changed, common_items, control_item, control_items, control_word, each, hi_lo_items, items, latch_items, link_items, linked_items, outcome_items, places_items, processor_items, register_item, register_items, row_item, row_items, same_state, shared_items, shown_registers, start_item, start_items, state_items, stored_as, stored_items, unlinked_by, unlinked_item}
use Rattle.m161_trace.specs.Law.{AreLatest, IsTrueOf, StopsAt, as_started, high_at, link_of, low_at}
use Rattle.m161_trace.proofs.Members.{Every, every_append, every_changed, every_listed, every_none, every_numbered, every_one, every_unless}
use Rattle.m161_trace.proofs.Started.{is_new}
use Rattle.m161_trace.proofs.Telling.{now}

-- Each item of a Step shows its part's value after the Step.

-- what a Step says of the outcome, of the bytes that wait, and of the processors that it started
pub record Given (p : ℕ) (s : State) (o : Outcome) (t : State) : Type 0 where
  pub off : o ≡ outcomes.PoweredOff → t.board.off ≡ true
  pub conflict : (i j : ℕ) → o ≡ outcomes.Conflict i j → StopsAt p i j s t
  pub waiting : AreLatest t.board.console.waiting s.board.console.waiting
  pub starts : (q : ℕ) → q < length s.processors → is_new s.board.started t.board.started q ≡ true → q ≢ p
      → processor_at q t.processors ≡ as_started q t (processor_at q s.processors).count

every_each : (P : Item → Type 0) (a n : ℕ) (f : ℕ → List Item) → ((j : ℕ) → Every P (f j)) → Every P (each a n f)
every_each P a n f all = every_listed P f (range_with_len a n) all

-- of the processor

states_true : (P : Item → Type 0) (x y : ProcessorState) → P (doing y) → Every P (state_items x y)
states_true P x y holds = every_unless (same_state x y) P (doing y) holds

registers_true : (p : ℕ) (s : State) (o : Outcome) (t : State) → Every (IsTrueOf p s o t) (register_items (now p s) (now p t))
unfolding register_items
registers_true p s o t =
    every_each (IsTrueOf p s o t) 1 31 (register_item (now p s) (now p t))
    (λ r. every_changed (IsTrueOf p s o t) _ _ (register r (slice_index (now p t).registers r)) refl)

controls_true : (p : ℕ) (s : State) (o : Outcome) (t : State) → Every (IsTrueOf p s o t) (control_items p s t)
unfolding control_items
controls_true p s o t =
    every_listed (IsTrueOf p s o t) (control_item p s t) shown_registers
    (λ r. every_changed (IsTrueOf p s o t) _ _ (control r (control_word p t r)) refl)

rows_true : (p : ℕ) (s : State) (o : Outcome) (t : State) → Every (IsTrueOf p s o t) (row_items (now p s).rows (now p t).rows)
unfolding row_items
rows_true p s o t =
    every_each (IsTrueOf p s o t) 0 64 (row_item (now p s).rows (now p t).rows)
    (λ i. every_unless ((high_at p i s == high_at p i t) && (low_at p i s == low_at p i t)) (IsTrueOf p s o t) (row i (high_at p i t) (low_at p i t)) (refl, refl))

processor_true : (p : ℕ) (s : State) (o : Outcome) (t : State) → Every (IsTrueOf p s o t) (processor_items p s t)
processor_true p s o t =
    let P : Item → Type 0 = IsTrueOf p s o t in
    let doing_items : List Item = state_items (now p s).state (now p t).state in
    let general : List Item = register_items (now p s) (now p t) in
    let pair : List Item = hi_lo_items (now p s) (now p t) in
    let controls : List Item = control_items p s t in
    let hi_items : List Item = changed (now p s).hi (now p t).hi (hi (now p t).hi) in
    let lo_items : List Item = changed (now p s).lo (now p t).lo (lo (now p t).lo) in
    every_append P (doing_items ++ general ++ pair ++ controls) (row_items (now p s).rows (now p t).rows)
    (every_append P (doing_items ++ general ++ pair) controls
    (every_append P (doing_items ++ general) pair
    (every_append P doing_items general (states_true P (now p s).state (now p t).state refl) (registers_true p s o t))
    (every_append P hi_items lo_items
    (every_changed P (now p s).hi (now p t).hi (hi (now p t).hi) refl) (every_changed P (now p s).lo (now p t).lo (lo (now p t).lo) refl)))
    (controls_true p s o t))
    (rows_true p s o t)

-- beside it

stored_as_true : (p : ℕ) (s : State) (o : Outcome) (t : State) (at : ℕ) (x : Option ℕ) → word_in t.memory at ≡ x → Every (IsTrueOf p s o t) (stored_as at x)
stored_as_true p s o t at None is = every_none (IsTrueOf p s o t)
stored_as_true p s o t at (Some word) is = every_one (IsTrueOf p s o t) (stored at word) is

stored_true : (p : ℕ) (s : State) (o : Outcome) (t : State) (x : Option ℕ) → Every (IsTrueOf p s o t) (stored_items x t.memory)
stored_true p s o t None = every_none (IsTrueOf p s o t)
stored_true p s o t (Some at) = stored_as_true p s o t at (word_in t.memory at) refl

linked_true : (P : Item → Type 0) (x y : Option ℕ) → ((word : ℕ) → y ≡ Some word → P (linked word)) → Every P (linked_items x y)
linked_true P x None holds = every_none P
linked_true P None (Some word) holds = every_one P (linked word) (holds word refl)
linked_true P (Some other) (Some word) holds = every_changed P other word (linked word) (holds word refl)

unlinked_true : (P : Item → Type 0) (q : ℕ) (x y : Option ℕ) → (y ≡ None → P (unlinked q)) → Every P (unlinked_by q x y)
unlinked_true P q None y holds = every_none P
unlinked_true P q (Some word) None holds = every_one P (unlinked q) (holds refl)
unlinked_true P q (Some word) (Some other) holds = every_none P

links_true : (p : ℕ) (s : State) (o : Outcome) (t : State) (n : ℕ) → Every (IsTrueOf p s o t) (link_items p n s.links.live t.links.live)
unfolding link_items
links_true p s o t n =
    let P = IsTrueOf p s o t in
    every_append P _ _ (linked_true P (link_of p s) (link_of p t) (λ word is. is))
    (every_each P 0 n (unlinked_item s.links.live t.links.live) (λ q. unlinked_true P q (link_of q s) (link_of q t) (λ is. is)))

latch_true : (P : Item → Type 0) (x y : Option ℕ) → ((byte : ℕ) → y ≡ Some byte → P (latched byte)) → Every P (latch_items x y)
latch_true P x None holds = every_none P
latch_true P None (Some byte) holds = every_one P (latched byte) (holds byte refl)
latch_true P (Some other) (Some byte) holds = every_changed P other byte (latched byte) (holds byte refl)

word_true : (p : ℕ) (s : State) (o : Outcome) (t : State) (place : BoardWord) → Every (IsTrueOf p s o t) (board_item s.board t.board place)
word_true p s o t place = every_changed (IsTrueOf p s o t) _ _ (board place _) refl

common_true : (p : ℕ) (s : State) (o : Outcome) (t : State) → Every (IsTrueOf p s o t) (common_items s.board t.board)
common_true p s o t =
    let P = IsTrueOf p s o t in
    every_append P _ _
    (every_append P _ _ (every_append P _ _ (word_true p s o t words.WriteIrq) (word_true p s o t words.ReadIrq)) (word_true p s o t words.Irqe))
    (word_true p s o t words.Cpue)

places_true : (p : ℕ) (s : State) (o : Outcome) (t : State) (n : ℕ) → Every (IsTrueOf p s o t) (places_items n s.board t.board)
unfolding places_items
places_true p s o t n =
    let P = IsTrueOf p s o t in
    every_append P _ _
    (every_append P _ _ (every_each P 0 n _ (λ c. word_true p s o t (words.Cirqe c))) (every_each P 0 n _ (λ c. word_true p s o t (words.Cipi c))))
    (every_each P 0 n _ (λ c. every_each P 0 64 _ (λ k. word_true p s o t (words.Cram c k))))

shared_true : (p : ℕ) (s : State) (o : Outcome) (t : State) → AreLatest t.board.console.waiting s.board.console.waiting → Every (IsTrueOf p s o t) (shared_items p s t)
shared_true p s o t latest =
    let P = IsTrueOf p s o t in
    every_append P _ _
    (every_append P _ _
    (every_append P _ _
    (every_append P _ _
    (every_append P _ _ (stored_true p s o t (uses_in p s).stored) (links_true p s o t (length s.processors)))
    (latch_true P s.board.console.latch t.board.console.latch (λ byte is. is)))
    (every_changed P _ _ (waiting (length t.board.console.waiting)) (refl, latest)))
    (common_true p s o t))
    (places_true p s o t (length s.processors))

-- the outcome

outcome_true : (p : ℕ) (s : State) (o x : Outcome) (t : State) → Given p s o t → o ≡ x → Every (IsTrueOf p s o t) (outcome_items x)
outcome_true p s o outcomes.Ran t g is = every_none (IsTrueOf p s o t)
outcome_true p s o (outcomes.Trapped code vector) t g is = every_one (IsTrueOf p s o t) (trapped code vector) is
outcome_true p s o outcomes.Idle t g is = every_one (IsTrueOf p s o t) idle is
outcome_true p s o outcomes.PoweredOff t g is = every_one (IsTrueOf p s o t) off (g.off is)
outcome_true p s o (outcomes.Conflict i j) t g is = every_one (IsTrueOf p s o t) (conflict i j) (is, g.conflict i j is)
outcome_true p s o outcomes.Taken t g is = every_none (IsTrueOf p s o t)

-- the processors that were started

start_if : (b : Bool) (P : Item → Type 0) (q : ℕ) → (b ≡ true → P (starts q)) → Every P (if b then starts q ∷ [] else [])
start_if true P q holds = every_one P (starts q) (holds refl)
start_if false P q holds = every_none P

starts_true : (p : ℕ) (s : State) (o : Outcome) (t : State) → Given p s o t → Every (IsTrueOf p s o t) (start_items (length s.processors) s.board.started t.board.started)
unfolding start_items
starts_true p s o t g =
    every_numbered (IsTrueOf p s o t) 0 (length s.processors) (start_item s.board.started t.board.started)
    (λ q lt. start_if (is_new s.board.started t.board.started q) (IsTrueOf p s o t) q (λ new ne. g.starts q (let l : q < length s.processors = omega (arith, lt) in l) new ne))

pub every_true : (p : ℕ) (s : State) (o : Outcome) (t : State) → Given p s o t → Every (IsTrueOf p s o t) (items p s o t)
unfolding items
every_true p s o t g =
    let P = IsTrueOf p s o t in
    every_append P _ _
    (every_append P _ _ (every_append P _ _ (processor_true p s o t) (shared_true p s o t g.waiting)) (outcome_true p s o o t g refl))
    (starts_true p s o t g)
