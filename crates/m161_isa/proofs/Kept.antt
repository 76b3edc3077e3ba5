use Rattle.std.specs.Prelude.{map}
use Rattle.std.proofs.Common.{◌≡◌, ℕ, ◌+◌, ◌<◌, List, [], ◌∷◌, refl, lit<, arith}
use Rattle.m161_isa.specs.declared.table.Row.{Row}
use Rattle.m161_isa.specs.declared.table.Row.TheVariants as rows
use Rattle.m161_isa.specs.declared.operand.Operand.{Operand}
use Rattle.m161_isa.specs.declared.operand.Operand.TheVariants as operand
use Rattle.m161_isa.specs.Table.{Field, table, special, opcode, regimm, cop0, cop0_function, HasFields, number_of, sum_of_fields, sum_of_operands}

-- The word of a row with a word's operands: it fits the row, and has the same operands.

abbrev pub Keeps : ℕ → ℕ → List Field → List Operand → Type 0
Keeps word u fields operands =
    HasFields u fields × (map (number_of u) operands ≡ map (number_of word) operands)

abbrev pub remade : ℕ → List Field → List Operand → ℕ
remade word fields operands =
    sum_of_fields fields + sum_of_operands operands (map (number_of word) operands)

IsKept : ℕ → List Field → List Operand → Type 0
IsKept word fields operands = Keeps word (remade word fields operands) fields operands

next : {x y : ℕ} {xs ys : List ℕ} → x ≡ y → xs ≡ ys → x ∷ xs ≡ y ∷ ys
next e d = cc

-- one lemma for each form of row, whatever its code
special-rd_rt_amount : (word n : ℕ) → n < 64
    → IsKept word (special n) (operand.Rd ∷ operand.Rt ∷ operand.Amount ∷ [])
unfolding IsKept
special-rd_rt_amount word n small = (
  (omega arith, (omega arith, tt)),
  next (omega arith)
      (next (omega arith) (next (omega arith) refl)),
)

special-rd_rt_rs : (word n : ℕ) → n < 64
    → IsKept word (special n) (operand.Rd ∷ operand.Rt ∷ operand.Rs ∷ [])
unfolding IsKept
special-rd_rt_rs word n small = (
  (omega arith, (omega arith, tt)),
  next (omega arith)
      (next (omega arith) (next (omega arith) refl)),
)

special-rs : (word n : ℕ) → n < 64 → IsKept word (special n) (operand.Rs ∷ [])
unfolding IsKept
special-rs word n small = ((omega arith, (omega arith, tt)), next (omega arith) refl)

special-rd_rs : (word n : ℕ) → n < 64 → IsKept word (special n) (operand.Rd ∷ operand.Rs ∷ [])
unfolding IsKept
special-rd_rs word n small =
    ((omega arith, (omega arith, tt)), next (omega arith) (next (omega arith) refl))

special-none : (word n : ℕ) → n < 64 → IsKept word (special n) []
unfolding IsKept
special-none word n small = ((omega arith, (omega arith, tt)), refl)

special-rd : (word n : ℕ) → n < 64 → IsKept word (special n) (operand.Rd ∷ [])
unfolding IsKept
special-rd word n small = ((omega arith, (omega arith, tt)), next (omega arith) refl)

special-rs_rt : (word n : ℕ) → n < 64 → IsKept word (special n) (operand.Rs ∷ operand.Rt ∷ [])
unfolding IsKept
special-rs_rt word n small =
    ((omega arith, (omega arith, tt)), next (omega arith) (next (omega arith) refl))

special-rd_rs_rt : (word n : ℕ) → n < 64
    → IsKept word (special n) (operand.Rd ∷ operand.Rs ∷ operand.Rt ∷ [])
unfolding IsKept
special-rd_rs_rt word n small = (
  (omega arith, (omega arith, tt)),
  next (omega arith)
      (next (omega arith) (next (omega arith) refl)),
)

regimm-rs_branch : (word n : ℕ) → n < 32 → IsKept word (regimm n) (operand.Rs ∷ operand.Branch ∷ [])
unfolding IsKept
regimm-rs_branch word n small =
    ((omega arith, (omega arith, tt)), next (omega arith) (next (omega arith) refl))

opcode-jump : (word n : ℕ) → n < 64 → IsKept word (opcode n) (operand.Jump ∷ [])
unfolding IsKept
opcode-jump word n small = ((omega arith, tt), next (omega arith) refl)

opcode-rs_rt_branch : (word n : ℕ) → n < 64
    → IsKept word (opcode n) (operand.Rs ∷ operand.Rt ∷ operand.Branch ∷ [])
unfolding IsKept
opcode-rs_rt_branch word n small =
    ((omega arith, tt), next (omega arith) (next (omega arith) (next (omega arith) refl)))

opcode-rs_branch : (word n : ℕ) → n < 64 → IsKept word (opcode n) (operand.Rs ∷ operand.Branch ∷ [])
unfolding IsKept
opcode-rs_branch word n small = ((omega arith, tt), next (omega arith) (next (omega arith) refl))

opcode-rt_rs_signed : (word n : ℕ) → n < 64
    → IsKept word (opcode n) (operand.Rt ∷ operand.Rs ∷ operand.Signed ∷ [])
unfolding IsKept
opcode-rt_rs_signed word n small =
    ((omega arith, tt), next (omega arith) (next (omega arith) (next (omega arith) refl)))

opcode-rt_rs_unsigned : (word n : ℕ) → n < 64
    → IsKept word (opcode n) (operand.Rt ∷ operand.Rs ∷ operand.Unsigned ∷ [])
unfolding IsKept
opcode-rt_rs_unsigned word n small =
    ((omega arith, tt), next (omega arith) (next (omega arith) (next (omega arith) refl)))

opcode-rt_unsigned : (word n : ℕ) → n < 64
    → IsKept word (opcode n) (operand.Rt ∷ operand.Unsigned ∷ [])
unfolding IsKept
opcode-rt_unsigned word n small = ((omega arith, tt), next (omega arith) (next (omega arith) refl))

opcode-rt_offset_base : (word n : ℕ) → n < 64
    → IsKept word (opcode n) (operand.Rt ∷ operand.Offset ∷ operand.Base ∷ [])
unfolding IsKept
opcode-rt_offset_base word n small =
    ((omega arith, tt), next (omega arith) (next (omega arith) (next (omega arith) refl)))

cop0-rt_cop0 : (word n : ℕ) → n < 32 → IsKept word (cop0 n) (operand.Rt ∷ operand.Cop0 ∷ [])
unfolding IsKept
cop0-rt_cop0 word n small =
    ((omega arith, (omega arith, tt)), next (omega arith) (next (omega arith) refl))

cop0_function-none : (word n : ℕ) → n < 64 → IsKept word (cop0_function n) []
unfolding IsKept
cop0_function-none word n small = ((omega arith, (omega arith, (omega arith, tt))), refl)

-- each row has one of these forms; the last equation is checked at each of the 68 other rows
kept_form : (word : ℕ) (r : Row) → IsKept word (table r).fields (table r).operands
kept_form word rows.Sll = special-rd_rt_amount word 0 (lit< tt)
kept_form word _ =
    search (
      special-rd_rt_amount,
      special-rd_rt_rs,
      special-rs,
      special-rd_rs,
      special-none,
      special-rd,
      special-rs_rt,
      special-rd_rs_rt,
      regimm-rs_branch,
      opcode-jump,
      opcode-rs_rt_branch,
      opcode-rs_branch,
      opcode-rt_rs_signed,
      opcode-rt_rs_unsigned,
      opcode-rt_unsigned,
      opcode-rt_offset_base,
      cop0-rt_cop0,
      cop0_function-none,
      lit<,
    )

pub kept : (word : ℕ) (r : Row)
    → Keeps word (remade word (table r).fields (table r).operands) (table r).fields
    (table r).operands
unfolding IsKept
kept word r = kept_form word r
