use Rattle.std.proofs.Common.{◌≡◌, ◌∙◌, refl, sym, ap, subst, ℕ, ◌-◌, ◌/◌, ◌%◌, Bool, true, false, List, [], ◌∷◌, length, drop, Option, None, Some, Result, Ok, Err, arith}
use Rattle.std.specs.Prelude.{nat_le, nat_lt, ◌==◌, if◌then◌else◌}
use Rattle.m161_bus.specs.declared.board.BusFault.{BusFault}
use Rattle.m161_bus.specs.Board.{BoardState, after_read, board_read, board_written, read_from, slot_word, slot_written, with_slot_word}
use Rattle.m161_bus.specs.Console.{latch_with}
use Rattle.m161_bus.specs.Registers.{RegisterLine, at, configuration_register, console_configuration, console_table, controller_configuration, controller_register, in_table, is_word_of_slots, place_register, place_table, register_in, register_of}
use Rattle.m161_trace.specs.Law.{AreLatest}

-- What a read and a write of a word of the slots keep of the console's bytes.

pub record KeepsBytes (old new : BoardState) : Type 0 where
  pub waiting : AreLatest new.console.waiting old.console.waiting
  pub output : new.console.output ≡ old.console.output
  -- a byte in the latch is there until it is sent
  pub latch : new.console.latch ≡ None → old.console.latch ≡ None

all_left : (bytes : List ℕ) → AreLatest bytes bytes
all_left bytes = let none : length bytes - length bytes ≡ 0 = omega arith in ap (λ n. drop n bytes) (sym none)

without_oldest : (bytes : List ℕ) → AreLatest (drop 1 bytes) bytes
without_oldest [] = refl
without_oldest (byte ∷ rest) =
    let one : length (byte ∷ rest) - length rest ≡ 1 = omega arith in ap (λ n. drop n (byte ∷ rest)) (sym one)

same_console : (a b : BoardState) → b.console ≡ a.console → KeepsBytes a b
same_console a b same = record {
  waiting = subst (λ console. AreLatest console.waiting a.console.waiting) (sym same) (all_left a.console.waiting);
  output = ap (λ console. console.output) same;
  latch = λ h. sym (ap (λ console. console.latch) same) ∙ h;
}

pub keeps_itself : (a : BoardState) → KeepsBytes a a
keeps_itself a = same_console a a refl

-- The register of a line of a table.

record KeepsOf (l : RegisterLine) : Type 0 where
  read : (a : BoardState) → KeepsBytes a (after_read l.register a)
  written : (a : BoardState) (word : ℕ) → KeepsBytes a (with_slot_word l.register word a)

abbrev AllKeep : List RegisterLine → Type 0
AllKeep [] = Unit {0}
AllKeep (l ∷ ls) = KeepsOf l × AllKeep ls

-- one that leaves the console
beside : (l : RegisterLine) → ((a : BoardState) → (after_read l.register a).console ≡ a.console)
    → ((a : BoardState) (word : ℕ) → (with_slot_word l.register word a).console ≡ a.console) → KeepsOf l
beside l read written = record {
  read = λ a. same_console a _ (read a);
  written = λ a word. same_console a _ (written a word);
}

either : {X : Type 0} (P : X → Type 0) (t : Bool) (x y : X) → P x → P y → P (if t then x else y)
either P true x y px py = px
either P false x y px py = py

absent : KeepsOf (at 0 (in_table 0 []))
absent = beside (at 0 (in_table 0 [])) (λ a. refl) (λ a word. refl)

in_list : (offset : ℕ) (ls : List RegisterLine) → AllKeep ls → KeepsOf (at 0 (in_table offset ls))
in_list offset [] all = absent
in_list offset (l ∷ ls) all =
    either (λ r. KeepsOf (at 0 r)) (offset == l.offset) l.register (in_table offset ls) (record { read = all.0.read; written = all.0.written }) (in_list offset ls all.1)

-- the console's own

latch_full : (byte : ℕ) (latch : Option ℕ) → latch_with byte latch ≡ None → latch ≡ None
latch_full byte None h = refl
latch_full byte (Some other) h = h

of_char : KeepsOf (at 0x0 (in_table 0x0 console_table))
of_char = record {
  read = λ a. record { waiting = without_oldest a.console.waiting; output = refl; latch = λ h. h };
  written = λ a word. record { waiting = all_left a.console.waiting; output = refl; latch = latch_full _ a.console.latch };
}

-- WIRQ, by 4, and RIRQ, by 8
of_write_irq : KeepsOf (at 0x4 (in_table 0x4 console_table))
of_write_irq = record { read = λ a. keeps_itself a; written = λ a word. record { waiting = all_left a.console.waiting; output = refl; latch = λ h. h } }

of_read_irq : KeepsOf (at 0x8 (in_table 0x8 console_table))
of_read_irq = record { read = λ a. keeps_itself a; written = λ a word. record { waiting = all_left a.console.waiting; output = refl; latch = λ h. h } }

in_console : AllKeep console_table
in_console = (of_char, (of_write_irq, (of_read_irq, tt)))

-- the others

in_configuration : AllKeep console_configuration
in_configuration = (beside _ (λ a. refl) (λ a word. refl), (beside _ (λ a. refl) (λ a word. refl), (beside _ (λ a. refl) (λ a word. refl), tt)))

in_controller : AllKeep controller_configuration
in_controller =
    (beside _ (λ a. refl) (λ a word. refl), (beside _ (λ a. refl) (λ a word. refl), (beside _ (λ a. refl) (λ a word. refl), (beside _ (λ a. refl) (λ a word. refl), (beside _ (λ a. refl) (λ a word. refl), (beside _ (λ a. refl) (λ a word. refl), (beside _ (λ a. refl) (λ a word. refl), (beside _ (λ a. refl) (λ a word. refl), (beside _ (λ a. refl) (λ a word. refl), (beside _ (λ a. refl) (λ a word. refl), tt))))))))))

of_place : (p : ℕ) → AllKeep (place_table p)
of_place p = (beside _ (λ a. refl) (λ a word. refl), (beside _ (λ a. refl) (λ a word. refl), tt))

in_place : (p offset : ℕ) → KeepsOf (at 0 (place_register p offset))
in_place p offset =
    either (λ r. KeepsOf (at 0 r)) (nat_le 0x300 offset) _ _ (beside _ (λ a. refl) (λ a word. refl)) (in_list offset (place_table p) (of_place p))

of_slot : (slot offset : ℕ) → KeepsOf (at 0 (configuration_register slot offset))
of_slot slot offset =
    either (λ r. KeepsOf (at 0 r)) (slot == 0) _ _ (in_list offset console_configuration in_configuration)
    (either (λ r. KeepsOf (at 0 r)) (slot == 31) _ _ (in_list offset controller_configuration in_controller) absent)

of_controller : (processors offset : ℕ) → KeepsOf (at 0 (controller_register processors offset))
of_controller processors offset =
    either (λ r. KeepsOf (at 0 r)) (nat_lt (offset / 0x400) 32) _ _ (of_slot (offset / 0x400) (offset % 0x400))
    (either (λ r. KeepsOf (at 0 r)) (nat_lt (offset / 0x400 - 32) processors) _ _ (in_place (offset / 0x400 - 32) (offset % 0x400)) absent)

of_register : (processors slot offset : ℕ) → KeepsOf (at 0 (register_in processors slot offset))
of_register processors slot offset =
    either (λ r. KeepsOf (at 0 r)) (slot == 0) _ _ (in_list offset console_table in_console)
    (either (λ r. KeepsOf (at 0 r)) (slot == 31) _ _ (of_controller processors offset) absent)

-- By an address.

read_by : (t : Bool) (c processors slot offset : ℕ) (a b : BoardState) (word : ℕ) →
    read_from c (if t then Some (register_in processors slot offset) else None) a ≡ Ok (word, b) → KeepsBytes a b
read_by false c processors slot offset a b word h = absurd (let bad : ◌≡◌ {A = Result (ℕ × BoardState) BusFault} (Err (record {})) (Ok (word, b)) = h in cc)
read_by true c processors slot offset a b word h =
    let pair : ◌≡◌ {A = ℕ × BoardState} (slot_word c (register_in processors slot offset) a, after_read (register_in processors slot offset) a) (word, b) = cc in
    subst (KeepsBytes a) (ap (λ (x : ℕ × BoardState). x.1) pair) ((of_register processors slot offset).read a)

pub read_keeps : (c address : ℕ) (a b : BoardState) (word : ℕ) → board_read c address a ≡ Ok (word, b) → KeepsBytes a b
unfolding board_read register_of
read_keeps c address a b word h = read_by (is_word_of_slots address) c a.processors ((address - 0x1fe00000) / 0x10000) ((address - 0x1fe00000) % 0x10000) a b word h

written_by : (t : Bool) (processors slot offset word : ℕ) (a b : BoardState) →
    slot_written (if t then Some (register_in processors slot offset) else None) word a ≡ Ok b → KeepsBytes a b
written_by false processors slot offset word a b h = absurd (let bad : ◌≡◌ {A = Result BoardState BusFault} (Err (record {})) (Ok b) = h in cc)
written_by true processors slot offset word a b h =
    let is : with_slot_word (register_in processors slot offset) word a ≡ b = cc in
    subst (KeepsBytes a) is ((of_register processors slot offset).written a word)

pub write_keeps : (c address word : ℕ) (a b : BoardState) → board_written c address word a ≡ Ok b → KeepsBytes a b
unfolding board_written register_of
write_keeps c address word a b h = written_by (is_word_of_slots address) a.processors ((address - 0x1fe00000) / 0x10000) ((address - 0x1fe00000) % 0x10000) word a b h
