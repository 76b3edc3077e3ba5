use Rattle.std.proofs.Common.{◌≡◌, refl, ℕ, zero, suc, ◌+◌, ◌*◌, arith, List, [], ◌∷◌, ◌++◌, length, Option, None, Some, append_assoc}
use Rattle.std.specs.Prelude.{flat_map, IfOk, OnOk, Result, Ok, Err}
use Rattle.std.specs.List.{range_with_len}
use Rattle.std.proofs.lemmas.List.{length-append}
use Rattle.m161_machine.specs.declared.event.Conflict.{Conflict}
use Rattle.m161_machine.specs.State.{State}
use Rattle.m161_alike.specs.Words.{board_words, conflict_words, optional, part_words, register_board_words}
use Rattle.m161_alike.proofs.Telling.{part_size}
use Rattle.m161_states.specs.System.{Flags}
use Rattle.m161_states.specs.Views.{flag_words}

-- The words of a view, one part behind the other.

-- what is said of a success
pub on_ok : {A E : Type 0} {P Q : Type 0} (r : Result A E) → (P → Q) → OnOk r P → OnOk r Q
on_ok (Ok x) f h = f h
on_ok (Err e) f h = tt

pub if_ok : {A E : Type 0} {P Q : A → Type 0} (r : Result A E) → ((x : A) → P x → Q x) → IfOk r P → IfOk r Q
if_ok (Ok x) f h = f x h
if_ok (Err e) f h = tt

pub in_four : (old part rest : List ℕ) (a n : ℕ) → (((old ++ a ∷ []) ++ part) ++ n ∷ []) ++ rest ≡ old ++ (a ∷ (part ++ (n ∷ rest)))
in_four old part rest a n = simp append_assoc

pub in_parts : (old a b c d : List ℕ) → (((old ++ a) ++ b) ++ c) ++ d ≡ old ++ (a ++ (b ++ (c ++ d)))
in_parts old a b c d = simp append_assoc

pub flags_size : (flags : List Flags) → length (flat_map flag_words flags) ≡ 2 * length flags
flags_size [] = refl
flags_size (f ∷ fs) = let rest = flags_size fs in omega (arith, rest)

-- how many words a board has

parts_size : (f : ℕ → List ℕ) → ((i : ℕ) → length (f i) ≡ 68) → (a n : ℕ) → length (flat_map f (range_with_len a n)) ≡ 68 * n
parts_size f size a zero = refl
parts_size f size a (suc n) =
    let first = size a in
    let rest = parts_size f size (a + 1) n in
    let all = length-append (f a) (flat_map f (range_with_len (a + 1) n)) in
    omega (arith, first, rest, all)

by_head : (s : State) (latch : Option ℕ) (conflict : Option Conflict) (parts waiting : List ℕ) → length parts ≡ 68 * s.board.processors →
    length (register_board_words s.board ++ (optional latch ++ (conflict_words conflict ++ (parts ++ waiting)))) ≡ 11 + 68 * s.board.processors + length waiting
by_head s None None parts waiting size = let long = length-append parts waiting in omega (arith, size, long)
by_head s None (Some c) parts waiting size = let long = length-append parts waiting in omega (arith, size, long)
by_head s (Some byte) None parts waiting size = let long = length-append parts waiting in omega (arith, size, long)
by_head s (Some byte) (Some c) parts waiting size = let long = length-append parts waiting in omega (arith, size, long)

pub board_size : (s : State) → length (board_words s) ≡ 11 + 68 * s.board.processors + length s.board.console.waiting
board_size s = by_head s s.board.console.latch s.conflict (flat_map (part_words s) (range_with_len 0 s.board.processors)) s.board.console.waiting
    (parts_size (part_words s) (part_size s) 0 s.board.processors)
