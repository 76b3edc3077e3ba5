use Rattle.std.specs.Prelude.{ℕ, ◌+◌, ◌-◌, ◌%◌, ◌^◌, ◌<◌, ◌≤◌, Bool, true, false, ◌==◌, ◌&&◌, cond, nat_lt, nat_le, List, [], ◌∷◌, ◌++◌, length, None, Some, Ok, Err, codes, decimal}
use Rattle.std.proofs.Common.{◌≡◌, refl, ap, arith}
use Rattle.std.proofs.lemmas.Bool.Decides.{nat_tests}
use Rattle.m161_isa.specs.declared.operand.Operand.{Operand}
use Rattle.m161_isa.specs.declared.operand.Operand.TheVariants as operand
use Rattle.m161_isa.specs.Table.{width_of}
use Rattle.m161_isa.specs.Address.{branch_target, jump_target}
use Rattle.m161_dis.specs.Canon.{register_text, hex_number}
use Rattle.m161_asm.specs.Tokens.{Register, Number, Mark, Placed}
use Rattle.m161_asm.specs.Lines.{SourceFault, Whole, Part, Field, BranchTo, JumpTo, Parsed, part, immediate, is_within, bits_of_whole}
use Rattle.m161_asm.specs.Text.{field_of, word_address, number_by}
use Rattle.m161_dis.proofs.Pieces.{Piece, laid}
use Rattle.m161_dis.proofs.Fields.{branch_field-branch_target, jump_field-jump_target, branch_target-word, jump_target-word}

-- An operand's pieces are read as its field, kind by kind.

-- the pieces of an operand's text
abbrev pub register_one : ℕ → Piece
register_one n = (register_text n, Some (Register n))

abbrev pub decimal_one : ℕ → Piece
decimal_one n = (decimal n, Some (Number n))

abbrev pub hex_one : ℕ → ℕ → Piece
hex_one k n = (hex_number k n, Some (Number n))

abbrev pub signed_pieces : Bool → ℕ → List Piece
signed_pieces true n = decimal_one n ∷ []
signed_pieces false n = (codes "-", Some (Mark 45)) ∷ decimal_one (0x10000 - n) ∷ []

abbrev pub operand_pieces : ℕ → Operand → ℕ → List Piece
operand_pieces at operand.Rd n = register_one n ∷ []
operand_pieces at operand.Rs n = register_one n ∷ []
operand_pieces at operand.Rt n = register_one n ∷ []
operand_pieces at operand.Cop0 n = register_one n ∷ []
operand_pieces at operand.Amount n = decimal_one n ∷ []
operand_pieces at operand.Signed n = signed_pieces (nat_lt n 0x8000) n
operand_pieces at operand.Offset n = signed_pieces (nat_lt n 0x8000) n
operand_pieces at operand.Unsigned n = hex_one 4 n ∷ []
operand_pieces at operand.Base n =
    (codes "(", Some (Mark 40)) ∷ register_one n ∷ (codes ")", Some (Mark 41)) ∷ []
operand_pieces at operand.Branch n = hex_one 8 (branch_target at n) ∷ []
operand_pieces at operand.Jump n = hex_one 8 (jump_target at n) ∷ []

-- read as a part that stands for the field at the address, with what follows left over
pub record IsRead (at n : ℕ) (read : Parsed Part) (more : List Piece) : Type 0 where
  pub part : Part
  pub column : ℕ
  pub reads : read ≡ Ok (part, laid column more)
  pub field : field_of [] at part ≡ Ok n

-- a number that is within its range
within : (low high width n v : ℕ) (w : Whole) (x : List Placed) (e : SourceFault)
    → is_within low high w ≡ true → bits_of_whole width w ≡ v
    → cond {A = Parsed Part} (is_within low high w) (Ok (Field (bits_of_whole width w), x)) (Err e)
    ≡ Ok (Field v, x)
within low high width n v w x e t b = rw (t, b) refl

known : (at n : ℕ) → field_of [] at (Field n) ≡ Ok n
unfolding field_of
known at n = refl

-- a target that is a word's address stands for itself
target_plain : (a c : ℕ) → a < 2 ^ 32 → a % 4 ≡ 0
    → word_address [] (record { label = None; number = (a, 0); column = c }) ≡ Ok a
unfolding word_address number_by
target_plain a c h w =
    let t : (nat_le 0 (a + 0) && nat_le a (0 + (2 ^ 32 - 1)) && ((a - 0) % 4 == 0))
    ≡ true = grind (arith, nat_tests) in
    let z : a - 0 ≡ a = omega arith in
    rw t (ap Ok z)

branch_known : (at n c : ℕ) → at < 2 ^ 32 → at % 4 ≡ 0 → n < 2 ^ 16
    → field_of [] at
    (BranchTo (record { label = None; number = (branch_target at n, 0); column = c })) ≡ Ok n
unfolding field_of
branch_known at n c h w k =
    rw (target_plain (branch_target at n) c (omega arith) (branch_target-word at n w))
    (branch_field-branch_target at c n h k)

jump_known : (at n c : ℕ) → at < 2 ^ 32 → n < 2 ^ 26
    → field_of [] at (JumpTo (record { label = None; number = (jump_target at n, 0); column = c }))
    ≡ Ok n
unfolding field_of
jump_known at n c h k =
    rw (target_plain (jump_target at n) c (omega arith) (jump_target-word at n))
    (jump_field-jump_target at c n h k)

signed_read : (b : Bool) (at n past column : ℕ) (more : List Piece) → nat_lt n 0x8000 ≡ b
    → n < 2 ^ 16
    → IsRead at n (immediate 32768 32767 16 past (laid column (signed_pieces b n ++ more))) more
signed_read true at n past column more t k =
    let small : n < 0x8000 = grind (arith, nat_tests) in
    record {
      part = Field n;
      column = _;
      reads = within 32768 32767 16 n n (n, 0) _ _ (grind (arith, nat_tests)) (omega arith);
      field = known at n;
    }
signed_read false at n past column more t k =
    let large : 0x8000 ≤ n = grind (arith, nat_tests) in
    record {
      part = Field n;
      column = _;
      reads = within 32768 32767 16 n n (0, 0x10000 - n) _ _ (grind (arith, nat_tests))
          (omega arith);
      field = known at n;
    }

below : (n : ℕ) → n < 32 → nat_lt n 32 ≡ true
below n k = grind (arith, nat_tests)

-- one lemma for each kind
pub part_read : (o : Operand) (at n past column : ℕ) (more : List Piece) → at < 2 ^ 32 → at % 4 ≡ 0
    → n < 2 ^ width_of o
    → IsRead at n (part o past (laid column (operand_pieces at o n ++ more))) more
unfolding part
part_read operand.Rd at n past column more h w k = record {
  part = Field n;
  column = column + length (register_text n);
  reads = rw (below n k) refl;
  field = known at n;
}
part_read operand.Rs at n past column more h w k = record {
  part = Field n;
  column = column + length (register_text n);
  reads = rw (below n k) refl;
  field = known at n;
}
part_read operand.Rt at n past column more h w k = record {
  part = Field n;
  column = column + length (register_text n);
  reads = rw (below n k) refl;
  field = known at n;
}
part_read operand.Cop0 at n past column more h w k = record {
  part = Field n;
  column = column + length (register_text n);
  reads = rw (below n k) refl;
  field = known at n;
}
part_read operand.Base at n past column more h w k = record {
  part = Field n;
  column = column + 1 + length (register_text n) + 1;
  reads = rw (below n k) refl;
  field = known at n;
}
part_read operand.Amount at n past column more h w k = record {
  part = Field n;
  column = _;
  reads = within 0 31 5 n n (n, 0) _ _ (grind (arith, nat_tests)) (omega arith);
  field = known at n;
}
part_read operand.Unsigned at n past column more h w k = record {
  part = Field n;
  column = _;
  reads = within 0 65535 16 n n (n, 0) _ _ (grind (arith, nat_tests)) (omega arith);
  field = known at n;
}
part_read operand.Signed at n past column more h w k =
    signed_read (nat_lt n 0x8000) at n past column more refl k
part_read operand.Offset at n past column more h w k =
    signed_read (nat_lt n 0x8000) at n past column more refl k
part_read operand.Branch at n past column more h w k =
    record {
      part = BranchTo
          (record { label = None; number = (branch_target at n, 0); column = column });
      column = _;
      reads = refl;
      field = branch_known at n column h w k;
    }
part_read operand.Jump at n past column more h w k =
    record {
      part = JumpTo
          (record { label = None; number = (jump_target at n, 0); column = column });
      column = _;
      reads = refl;
      field = jump_known at n column h k;
    }
