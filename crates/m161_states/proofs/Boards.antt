use Rattle.std.proofs.Common.{◌≡◌, ◌∙◌, refl, ap, sym, ℕ, ◌-◌, ◌/◌, ◌%◌, ◌<◌, ◌≤◌, arith, Bool, true, false, List, [], ◌∷◌, length, get_or, set, None, Some, ◌⊎◌, inl, inr}
use Rattle.std.specs.Prelude.{◌==◌, IfOk, nat_le, nat_lt, if◌then◌else◌}
use Rattle.std.specs.List.{AllByRecursion}
use Rattle.std.proofs.lemmas.Bool.Decides.{nat_tests}
use Rattle.m161_bus.specs.Registers.{RegisterLine, at, configuration_register, console_configuration, console_table, controller_configuration, controller_part, controller_register, in_table, is_word_of_slots, place_register, place_table, register_in, register_of}
use Rattle.m161_bus.specs.Board.{BoardState, PlaceState, after_read, board_read, board_written, place_at_boot, place_of, read_from, slot_written, with_place, with_slot_word}
use Rattle.m161_states.proofs.Lists.{either, either_if, set_get, set_size}

-- What a read and a write of a register keep of a board.

pub record KeepsBoard (b c : BoardState) : Type 0 where
  pub ram : c.ram ≡ b.ram
  pub processors : c.processors ≡ b.processors
  pub places : length c.places ≡ length b.places
  pub crams : (p : ℕ) → length (place_of p c).cram ≡ length (place_of p b).cram
  pub others : (p : ℕ) → b.processors ≤ p → place_of p c ≡ place_of p b

pub unchanged : (b c : BoardState) → c.ram ≡ b.ram → c.processors ≡ b.processors → c.places ≡ b.places → KeepsBoard b c
unchanged b c ram processors places = record {
  ram = ram;
  processors = processors;
  places = ap length places;
  crams = λ p. ap (λ (l : List PlaceState). length (get_or l p (place_at_boot 0)).cram) places;
  others = λ p past. ap (λ (l : List PlaceState). get_or l p (place_at_boot 0)) places;
}

-- one place

module _ (p : ℕ) (place : PlaceState) (b : BoardState) (below : p < b.processors) (size : length place.cram ≡ length (place_of p b).cram) where
  cram_by : (k : ℕ) → ((get_or (set b.places p place) k (place_at_boot 0) ≡ place) × (k ≡ p)) ⊎ (get_or (set b.places p place) k (place_at_boot 0) ≡ get_or b.places k (place_at_boot 0)) →
      length (get_or (set b.places p place) k (place_at_boot 0)).cram ≡ length (get_or b.places k (place_at_boot 0)).cram
  cram_by k (inl h) =
      ap (λ (x : PlaceState). length x.cram) h.0 ∙ size ∙ ap (λ j. length (get_or b.places j (place_at_boot 0)).cram) (sym h.1)
  cram_by k (inr h) = ap (λ (x : PlaceState). length x.cram) h

  other_by : (k : ℕ) → b.processors ≤ k → ((get_or (set b.places p place) k (place_at_boot 0) ≡ place) × (k ≡ p)) ⊎ (get_or (set b.places p place) k (place_at_boot 0) ≡ get_or b.places k (place_at_boot 0)) →
      get_or (set b.places p place) k (place_at_boot 0) ≡ get_or b.places k (place_at_boot 0)
  other_by k past (inl h) = let same = h.1 in absurd (let bad : ⊥ = omega (arith, past, below, same) in bad)
  other_by k past (inr h) = h

  placed : KeepsBoard b (with_place p place b)
  placed = record {
    ram = refl;
    processors = refl;
    places = set_size b.places p place;
    crams = λ k. cram_by k (set_get b.places p k place (place_at_boot 0));
    others = λ k past. other_by k past (set_get b.places p k place (place_at_boot 0));
  }

-- the registers of the slots of a board with n processors

abbrev IsKept : ℕ → RegisterLine → Type 0
IsKept n l =
    (value : ℕ) (b : BoardState) → b.processors ≡ n
    → KeepsBoard b (with_slot_word l.register value b) × KeepsBoard b (after_read l.register b)

in_table_kept : (n offset : ℕ) (ls : List RegisterLine) → AllByRecursion (IsKept n) ls → IsKept n (at 0 (in_table offset ls))
in_table_kept n offset [] h = λ value b is. (unchanged b b refl refl refl, unchanged b b refl refl refl)
in_table_kept n offset (l ∷ ls) h =
    either (λ r. IsKept n (at 0 r)) (offset == l.offset) l.register (in_table offset ls) h.0 (in_table_kept n offset ls h.1)

console_kept : (n offset : ℕ) → IsKept n (at 0 (in_table offset console_table))
console_kept n offset = in_table_kept n offset console_table
    (λ value b is. (unchanged b _ refl refl refl, unchanged b _ refl refl refl), (λ value b is. (unchanged b _ refl refl refl, unchanged b _ refl refl refl), (λ value b is. (unchanged b _ refl refl refl, unchanged b _ refl refl refl), tt)))

own_console_kept : (n offset : ℕ) → IsKept n (at 0 (in_table offset console_configuration))
own_console_kept n offset = in_table_kept n offset console_configuration
    (λ value b is. (unchanged b _ refl refl refl, unchanged b _ refl refl refl), (λ value b is. (unchanged b _ refl refl refl, unchanged b _ refl refl refl), (λ value b is. (unchanged b _ refl refl refl, unchanged b _ refl refl refl), tt)))

controller_kept : (n offset : ℕ) → IsKept n (at 0 (in_table offset controller_configuration))
controller_kept n offset = in_table_kept n offset controller_configuration
    (λ value b is. (unchanged b _ refl refl refl, unchanged b _ refl refl refl), (λ value b is. (unchanged b _ refl refl refl, unchanged b _ refl refl refl), (λ value b is. (unchanged b _ refl refl refl, unchanged b _ refl refl refl), (λ value b is. (unchanged b _ refl refl refl, unchanged b _ refl refl refl), (λ value b is. (unchanged b _ refl refl refl, unchanged b _ refl refl refl), (λ value b is. (unchanged b _ refl refl refl, unchanged b _ refl refl refl), (λ value b is. (unchanged b _ refl refl refl, unchanged b _ refl refl refl), (λ value b is. (unchanged b _ refl refl refl, unchanged b _ refl refl refl), (λ value b is. (unchanged b _ refl refl refl, unchanged b _ refl refl refl), (λ value b is. (unchanged b _ refl refl refl, unchanged b _ refl refl refl), tt))))))))))

place_kept : (n p offset : ℕ) → p < n → IsKept n (at 0 (place_register p offset))
place_kept n p offset below =
    either (λ r. IsKept n (at 0 r)) (nat_le 0x300 offset) _ (in_table offset (place_table p))
    (λ value b is. (placed p _ b (omega (arith, below, is)) (set_size (place_of p b).cram ((offset - 0x300) / 4) value), unchanged b _ refl refl refl))
    (in_table_kept n offset (place_table p)
    (λ value b is. (placed p _ b (omega (arith, below, is)) refl, unchanged b _ refl refl refl), (λ value b is. (placed p _ b (omega (arith, below, is)) refl, unchanged b _ refl refl refl), tt)))

configuration_kept : (n slot offset : ℕ) → IsKept n (at 0 (configuration_register slot offset))
configuration_kept n slot offset =
    either (λ r. IsKept n (at 0 r)) (slot == 0) (in_table offset console_configuration) _ (own_console_kept n offset)
    (either (λ r. IsKept n (at 0 r)) (slot == 31) (in_table offset controller_configuration) _ (controller_kept n offset)
    (λ value b is. (unchanged b _ refl refl refl, unchanged b _ refl refl refl)))

part_kept : (n part offset : ℕ) → IsKept n (at 0 (controller_part n part offset))
part_kept n part offset =
    either (λ r. IsKept n (at 0 r)) (nat_lt part 32) (configuration_register part offset) _ (configuration_kept n part offset)
    (either_if (λ r. IsKept n (at 0 r)) (nat_lt (part - 32) n) (place_register (part - 32) offset) _
    (λ h. let below : part - 32 < n = grind (arith, nat_tests, h) in place_kept n (part - 32) offset below)
    (λ h. λ value b is. (unchanged b _ refl refl refl, unchanged b _ refl refl refl)))

slots_kept : (n slot offset : ℕ) → IsKept n (at 0 (register_in n slot offset))
slots_kept n slot offset =
    either (λ r. IsKept n (at 0 r)) (slot == 0) (in_table offset console_table) _ (console_kept n offset)
    (either (λ r. IsKept n (at 0 r)) (slot == 31) (controller_register n offset) _ (part_kept n (offset / 0x400) (offset % 0x400))
    (λ value b is. (unchanged b _ refl refl refl, unchanged b _ refl refl refl)))

-- a write, and a read

write_by : (test : Bool) (slot offset value : ℕ) (b : BoardState) →
    IfOk (slot_written (if test then Some (register_in b.processors slot offset) else None) value b) (KeepsBoard b)
write_by true slot offset value b = (slots_kept b.processors slot offset value b refl).0
write_by false slot offset value b = tt

pub write_keeps : (c address value : ℕ) (b : BoardState) → IfOk (board_written c address value b) (KeepsBoard b)
unfolding board_written register_of
write_keeps c address value b =
    write_by (is_word_of_slots address) ((address - 0x1fe00000) / 0x10000) ((address - 0x1fe00000) % 0x10000) value b

read_by : (test : Bool) (c slot offset : ℕ) (b : BoardState) →
    IfOk (read_from c (if test then Some (register_in b.processors slot offset) else None) b) (λ read. KeepsBoard b read.1)
read_by true c slot offset b = (slots_kept b.processors slot offset 0 b refl).1
read_by false c slot offset b = tt

pub read_keeps : (c address : ℕ) (b : BoardState) → IfOk (board_read c address b) (λ read. KeepsBoard b read.1)
unfolding board_read register_of
read_keeps c address b =
    read_by (is_word_of_slots address) c ((address - 0x1fe00000) / 0x10000) ((address - 0x1fe00000) % 0x10000) b
