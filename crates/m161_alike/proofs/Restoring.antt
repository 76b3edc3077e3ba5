use Rattle.std.proofs.Common.{◌≡◌, ◌∙◌, refl, ap, sym, ℕ, zero, suc, ◌+◌, ◌*◌, ◌/◌, ◌%◌, ◌^◌, ◌<◌, ◌≤◌, arith, Bool, true, false, List, [], ◌∷◌, ◌++◌, length, take, get_or, set, append_assoc, ◌-◌, max}
use Rattle.std.specs.Prelude.{◌==◌, ◌||◌, not, All, flat_map, if◌then◌else◌, slice_index, slice_set}
use Rattle.std.specs.List.{range_with_len}
use Rattle.std.proofs.lemmas.List.{get_or-append_right, get_or-set_same, length-set, length-take-le}
use Rattle.std.proofs.lemmas.List.Elements.{All-get_or}
use Rattle.std.proofs.lemmas.List.FromFn.{fill_by_all}
use Rattle.std.proofs.Math.Seq.{take-append_seam}
use Rattle.m161_tlb.specs.declared.row.Row.{Row as TlbRow}
use Rattle.m161_tlb.specs.Rows.{blank_row}
use Rattle.m161_cop0.specs.declared.control.restore.Cop0Parts.{Cop0Parts}
use Rattle.m161_cop0.specs.Control.{Control}
use Rattle.m161_cop0.specs.Restore.{ticks_to}
use Rattle.m161_cpu.specs.declared.processor.ProcessorState.{ProcessorState}
use Rattle.m161_cpu.specs.declared.processor.ProcessorState.TheVariants.{Stopped, Running, Waiting}
use Rattle.m161_cpu.specs.declared.processor.restore.ProcessorParts.{ProcessorParts}
use Rattle.m161_cpu.specs.Processor.{Processor, stopped_processor}
use Rattle.m161_cpu.specs.Restore.{IsProcessor, restored_processor}
use Rattle.m161_alike.specs.declared.reads.Reads.{Reads}
use Rattle.m161_alike.specs.View.{processor_view}
use Rattle.m161_alike.specs.Words.{control_words, flag, number_of_state, place_words, processor_words, register_words, row_words, rows_words}
use Rattle.m161_alike.specs.Restored.{AreWordsOf, CanBeHeld, IsRow, control_in, processor_in, row_in, row_of_words, rows_in, state_with, with_ticks}
use Rattle.m161_alike.proofs.Written.{small_flag}

-- Processors that are made anew from their words.

-- values by their words

pub flag_back : (b : Bool) → (flag b == 1) ≡ b
flag_back true = refl
flag_back false = refl

state_back : (s : ProcessorState) → state_with (number_of_state s) ≡ s
state_back Stopped = refl
state_back Running = refl
state_back Waiting = refl

-- a row's third word, whose digits these are
record Digits (x a b c e word : ℕ) : Type 0 where
  id : word / 16 % 2 ^ 6 ≡ x
  n : word / 8 % 2 ≡ a
  d : word / 4 % 2 ≡ b
  v : word / 2 % 2 ≡ c
  g : word % 2 ≡ e

digits : (x a b c d : ℕ) → x < 2 ^ 6 → a ≤ 1 → b ≤ 1 → c ≤ 1 → d ≤ 1 → Digits x a b c d (x * 16 + (a * 8 + b * 4 + c * 2 + d))
digits x a b c d small ha hb hc hd = record {
  id = omega (arith, small, ha, hb, hc, hd);
  n = omega (arith, small, ha, hb, hc, hd);
  d = omega (arith, small, ha, hb, hc, hd);
  v = omega (arith, small, ha, hb, hc, hd);
  g = omega (arith, small, ha, hb, hc, hd);
}

row_back : (r : TlbRow) → IsRow r → row_of_words r.page r.frame (r.id * 16 + (flag r.n * 8 + flag r.d * 4 + flag r.v * 2 + flag r.g)) ≡ r
row_back r h =
    let page_small = h.page in
    let frame_small = h.frame in
    let page_is : r.page % 2 ^ 20 ≡ r.page = omega (arith, page_small) in
    let frame_is : r.frame % 2 ^ 20 ≡ r.frame = omega (arith, frame_small) in
    let ds = digits r.id (flag r.n) (flag r.d) (flag r.v) (flag r.g) h.id (small_flag r.n) (small_flag r.d) (small_flag r.v) (small_flag r.g) in
    let n_is = ap (λ x. x == 1) ds.n ∙ flag_back r.n in
    let d_is = ap (λ x. x == 1) ds.d ∙ flag_back r.d in
    let v_is = ap (λ x. x == 1) ds.v ∙ flag_back r.v in
    let g_is = ap (λ x. x == 1) ds.g ∙ flag_back r.g in
    λ i. record { page = page_is i; id = ds.id i; frame = frame_is i; n = n_is i; d = d_is i; v = v_is i; g = g_is i }

-- pieces of three words, one behind the other

first_piece : (r : TlbRow) (rest : List ℕ) (j : ℕ) → j < 3 → get_or (row_words r ++ rest) j 0 ≡ get_or (row_words r) j 0
first_piece r rest zero small = refl
first_piece r rest (suc zero) small = refl
first_piece r rest (suc (suc zero)) small = refl
first_piece r rest (suc (suc (suc j))) small = absurd (let bad : ⊥ = omega (arith, small) in bad)

-- the pieces from piece a on
abbrev pieces : (ℕ → TlbRow) → ℕ → ℕ → List ℕ
pieces g a n = flat_map (λ i. row_words (g i)) (range_with_len a n)

-- word j of piece k of these
piece_at : (g : ℕ → TlbRow) (a n k j : ℕ) → k < n → j < 3 → get_or (pieces g a n) (3 * k + j) 0 ≡ get_or (row_words (g (a + k))) j 0
piece_at g a zero k j below small = absurd (let bad : ⊥ = omega (arith, below) in bad)
piece_at g a (suc n) zero j below small =
    let here : a ≡ a + 0 = omega arith in
    let at : 3 * 0 + j ≡ j = omega arith in
    ap (λ x. get_or (pieces g a (suc n)) x 0) at
    ∙ first_piece (g a) (pieces g (a + 1) n) j small
    ∙ ap (λ x. get_or (row_words (g x)) j 0) here
piece_at g a (suc n) (suc k) j below small =
    let there : a + 1 + k ≡ a + suc k = omega arith in
    let at : 3 * suc k + j ≡ suc (suc (suc (3 * k + j))) = omega arith in
    let left : k < n = omega (arith, below) in
    ap (λ x. get_or (pieces g a (suc n)) x 0) at
    ∙ piece_at g (a + 1) n k j left small
    ∙ ap (λ x. get_or (row_words (g x)) j 0) there

-- the words of a processor, before those of its rows
abbrev first_words : Processor → List ℕ
first_words v = register_words v ++ (place_words v ++ control_words v.control)

in_two : (v : Processor) → processor_words v ≡ first_words v ++ rows_words v
in_two v =
    sym (append_assoc (register_words v) (place_words v ++ control_words v.control) (rows_words v)
    ∙ ap (λ l. register_words v ++ l) (append_assoc (place_words v) (control_words v.control) (rows_words v)))

-- word j of row k
pub word_of_row : (v : Processor) (k j i : ℕ) → k < 64 → j < 3 → i ≡ 53 + (3 * k + j) →
    slice_index (processor_words v) i ≡ get_or (row_words (get_or v.rows k blank_row)) j 0
word_of_row v k j i below small is =
    let inside : 53 ≤ i = omega (arith, is) in
    let place : i - 53 ≡ 3 * k + j = omega (arith, is) in
    let here : 0 + k ≡ k = omega arith in
    ap (λ l. get_or l i 0) (in_two v)
    ∙ get_or-append_right (first_words v) (rows_words v) 53 i 0 refl inside
    ∙ ap (λ x. get_or (rows_words v) x 0) place
    ∙ piece_at (λ x. get_or v.rows x blank_row) 0 64 k j below small
    ∙ ap (λ x. get_or (row_words (get_or v.rows x blank_row)) j 0) here

row_there : (v : Processor) (k : ℕ) → length v.rows ≡ 64 → All IsRow v.rows → k < 64 → row_in (processor_words v) k ≡ get_or v.rows k blank_row
row_there v k size rows below =
    let r = get_or v.rows k blank_row in
    let inside : k < length v.rows = omega (arith, below, size) in
    let page_is : slice_index (processor_words v) (53 + 3 * k) ≡ r.page = word_of_row v k 0 (53 + 3 * k) below (omega arith) (omega arith) in
    let frame_is : slice_index (processor_words v) (54 + 3 * k) ≡ r.frame = word_of_row v k 1 (54 + 3 * k) below (omega arith) (omega arith) in
    let rest_is : slice_index (processor_words v) (55 + 3 * k) ≡ r.id * 16 + (flag r.n * 8 + flag r.d * 4 + flag r.v * 2 + flag r.g) =
    word_of_row v k 2 (55 + 3 * k) below (omega arith) (omega arith) in
    (λ i. row_of_words (page_is i) (frame_is i) (rest_is i)) ∙ row_back r (All-get_or IsRow v.rows k blank_row inside rows)

rows_back : (v : Processor) → length v.rows ≡ 64 → All IsRow v.rows → rows_in (processor_words v) ≡ v.rows
rows_back v size rows =
    sym (fill_by_all (row_in (processor_words v)) v.rows 64 blank_row size (λ k below. sym (row_there v k size rows below)))

first_registers : (v : Processor) → length v.registers ≡ 32 → take 32 (processor_words v) ≡ v.registers
first_registers v size =
    take-append_seam (register_words v) (place_words v ++ (control_words v.control ++ rows_words v))
    ∙ sym (fill_by_all (slice_index v.registers) v.registers 32 0 size (λ k below. refl))

-- register 0 is zero already
zero_set : (xs : List ℕ) → length xs ≡ 32 → slice_index xs 0 ≡ 0 → slice_set xs 0 0 ≡ xs
zero_set [] size is = absurd (let bad : ⊥ = omega (arith, size) in bad)
zero_set (x ∷ xs) size is = ap (λ y. y ∷ xs) (sym is)

registers_back : (v : Processor) → length v.registers ≡ 32 → slice_index v.registers 0 ≡ 0 → slice_set (take 32 (processor_words v)) 0 0 ≡ v.registers
registers_back v size zero_is = ap (λ l. slice_set l 0 0) (first_registers v size) ∙ zero_set v.registers size zero_is

-- the parts of a processor

abbrev control_parts : Control → Cop0Parts
control_parts c = record {
  index = c.index;
  random = c.random;
  entry_lo = c.entry_lo;
  context = c.context;
  bad_vaddr = c.bad_vaddr;
  count = c.count;
  entry_hi = c.entry_hi;
  compare = c.compare;
  status = c.status;
  epc = c.epc;
  cause = record {
    branch_delay = c.branch_delay;
    unit = c.unit;
    code = c.code;
    timer = c.timer;
    software = c.software;
  };
}

abbrev parts : Processor → ProcessorParts
parts v = record {
  registers = v.registers;
  hi = v.hi;
  lo = v.lo;
  pc = v.pc;
  following = v.following;
  slot = v.slot;
  state = v.state;
  control = control_parts v.control;
}

pub small_byte : (n : ℕ) → n < 2 ^ 8 → n % 2 ^ 8 ≡ n
small_byte n small = omega (arith, small)

control_back : (v : Processor) → CanBeHeld v → control_in (processor_words v) ≡ control_parts v.control
control_back v h =
    let c = v.control in
    let lowest = h.lowest in
    let highest = h.highest in
    let unit = h.unit in
    let software = h.software in
    let random_is : max (c.random % 64) 8 ≡ c.random = omega (arith, lowest, highest) in
    let unit_is : c.unit % 4 ≡ c.unit = omega (arith, unit) in
    let code_is = small_byte c.code h.code in
    let software_is : c.software % 4 ≡ c.software = omega (arith, software) in
    let branch_is = flag_back c.branch_delay in
    let timer_is = flag_back c.timer in
    λ i. record {
      index = c.index;
      random = random_is i;
      entry_lo = c.entry_lo;
      context = c.context;
      bad_vaddr = c.bad_vaddr;
      count = c.count;
      entry_hi = c.entry_hi;
      compare = c.compare;
      status = c.status;
      epc = c.epc;
      cause = record {
        branch_delay = branch_is i;
        unit = unit_is i;
        code = code_is i;
        timer = timer_is i;
        software = software_is i;
      };
    }

parts_back : (v : Processor) → CanBeHeld v → processor_in (processor_words v) ≡ parts v
parts_back v h =
    let registers_are = registers_back v h.sizes.0 h.zero in
    let slot_is = flag_back v.slot in
    let state_is = state_back v.state in
    let control_is = control_back v h in
    λ i. record {
      registers = registers_are i;
      hi = v.hi;
      lo = v.lo;
      pc = v.pc;
      following = v.following;
      slot = slot_is i;
      state = state_is i;
      control = control_is i;
    }

-- the view of a processor of a machine could be one, too

lowest_by : (known : Bool) (random : ℕ) → 8 ≤ random → 8 ≤ (if known then random else 63)
lowest_by true random h = h
lowest_by false random h = omega arith

highest_by : (known : Bool) (random : ℕ) → random ≤ 63 → (if known then random else 63) ≤ 63
highest_by true random h = h
highest_by false random h = omega arith

held_view : (known : Reads) (p : Processor) → CanBeHeld p → CanBeHeld (processor_view known p)
held_view known p h = record {
  sizes = h.sizes;
  zero = h.zero;
  lowest = lowest_by known.random p.control.random h.lowest;
  highest = highest_by known.random p.control.random h.highest;
  unit = h.unit;
  code = h.code;
  software = h.software;
  rows = h.rows;
}

-- what the words of a view hold

parts_are : (known : Reads) (p : Processor) (words : List ℕ) → AreWordsOf words known p → processor_in words ≡ parts (processor_view known p)
parts_are known p words h = ap processor_in h.words_are ∙ parts_back (processor_view known p) (held_view known p h.held)

rows_are : (known : Reads) (p : Processor) (words : List ℕ) → AreWordsOf words known p → rows_in words ≡ p.rows
rows_are known p words h = ap rows_in h.words_are ∙ rows_back (processor_view known p) h.held.sizes.1 h.held.rows

pub restored : (known : Reads) (p : Processor) (words : List ℕ) → AreWordsOf words known p →
    restored_processor (processor_in words) (rows_in words) ≡ with_ticks (processor_view known p)
restored known p words h =
    let first = parts_are known p words h in
    let second = rows_are known p words h in
    λ i. restored_processor (first i) (second i)

-- whatever the words are

first_is_zero : (xs : List ℕ) → slice_index (slice_set xs 0 0) 0 ≡ 0
first_is_zero [] = refl
first_is_zero (x ∷ xs) = refl

pub is_processor : (words : List ℕ) → length words ≡ 245 → IsProcessor (processor_in words)
is_processor words size = record {
  registers = length-set (take 32 words) 0 0 ∙ length-take-le 32 words (omega (arith, size));
  zero = first_is_zero (take 32 words);
  control = record { lowest = omega arith; highest = omega arith; unit = omega arith; software = omega arith };
}

pub few_ticks : (words : List ℕ) (made : ℕ) → 55 ≤ made → ticks_to (processor_in words).control.random ≤ made
few_ticks words made few = omega (arith, few)

-- the view of what a view's words give

twice : (test : Bool) (n other : ℕ) → (if test then (if test then n else other) else other) ≡ (if test then n else other)
twice true n other = refl
twice false n other = refl

view_again : (known : Reads) (p : Processor) → processor_view known (with_ticks (processor_view known p)) ≡ processor_view known p
view_again known p =
    let v = processor_view known p in
    let random_is = twice known.random p.control.random 63 in
    let count_is = twice (known.count || not (p.control.compare == 0)) p.control.count 0 in
    λ i. record v { control = record v.control { random = random_is i; count = count_is i } }

pub view_is : (known : Reads) (p : Processor) (ps : List Processor) (k : ℕ) → k < length ps →
    processor_view known (get_or (set ps k (with_ticks (processor_view known p))) k stopped_processor) ≡ processor_view known p
view_is known p ps k inside =
    ap (processor_view known) (get_or-set_same ps k (with_ticks (processor_view known p)) stopped_processor inside) ∙ view_again known p
