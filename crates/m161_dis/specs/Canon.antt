use Rattle.std.specs.Option.{option_or}
use Rattle.std.specs.Prelude.{ℕ, ◌-◌, ◌==◌, nat_lt, if◌then◌else◌, List, [], ◌∷◌, ◌++◌, slice_index_or, Option, None, Some, codes, decimal}
use Rattle.m161_isa.specs.Address.{branch_target, jump_target}
use Rattle.m161_isa.specs.declared.table.Row.{Row}
use Rattle.m161_isa.specs.declared.operand.Operand.{Operand}
use Rattle.m161_isa.specs.declared.operand.Operand.TheVariants as operand
use Rattle.m161_asm.specs.Tokens.{register_names}
use Rattle.m161_symbols.specs.Names.{place_behind}
use Rattle.m161_text.specs.Parts.{hex_text}
use Rattle.m161_dis.specs.declared.naming.Style.{Style}
use Rattle.m161_dis.specs.declared.naming.Naming.{Naming}
use Rattle.m161_dis.specs.declared.naming.Naming.TheVariants.{Numbers, Names}
use Rattle.m161_isa.specs.Table.{table, row_that_fits, number_of, numbers_of, word_with}

-- The one text of a word at an address, by the instruction table, in a naming of the general
-- registers.

-- a number in its last k hexadecimal digits
abbrev pub hex_number : ℕ → ℕ → List ℕ
hex_number k n = codes "0x" ++ hex_text k n

-- a register by its number
abbrev pub register_text : ℕ → List ℕ
register_text n = codes "$" ++ decimal n

-- a general register: by its number, or by its name
abbrev pub register_in : Naming → ℕ → List ℕ
register_in Numbers n = register_text n
register_in Names n = codes "$" ++ slice_index_or register_names n []

-- a field of 16 bits as a signed number
abbrev pub signed_text : ℕ → List ℕ
signed_text n = if nat_lt n 0x8000 then decimal n else codes "-" ++ decimal (0x10000 - n)

-- the text of an operand, by its kind and its field; a base follows its offset, and a register of
-- coprocessor 0 has its number in either naming
abbrev pub operand_text : Naming → ℕ → Operand → ℕ → List ℕ
operand_text naming at operand.Rd n = register_in naming n
operand_text naming at operand.Rs n = register_in naming n
operand_text naming at operand.Rt n = register_in naming n
operand_text naming at operand.Cop0 n = register_text n
operand_text naming at operand.Amount n = decimal n
operand_text naming at operand.Signed n = signed_text n
operand_text naming at operand.Offset n = signed_text n
operand_text naming at operand.Unsigned n = hex_number 4 n
operand_text naming at operand.Base n = codes "(" ++ register_in naming n ++ codes ")"
operand_text naming at operand.Branch n = hex_number 8 (branch_target at n)
operand_text naming at operand.Jump n = hex_number 8 (jump_target at n)

-- the text before an operand: nothing before a base
abbrev pub lead_of : Operand → List ℕ → List ℕ
lead_of operand.Base lead = []
lead_of _ lead = lead

-- the texts of operands, with `lead` before the first and commas between
abbrev pub operands_text : Naming → ℕ → ℕ → List ℕ → List Operand → List ℕ
operands_text naming word at lead [] = []
operands_text naming word at lead (o ∷ os) =
    lead_of o lead ++ operand_text naming at o (number_of word o)
    ++ operands_text naming word at (codes ", ") os

-- a row's name and the operands of a word
abbrev pub instruction_text : Naming → ℕ → ℕ → Row → List ℕ
instruction_text naming word at r =
    (table r).name ++ operands_text naming word at (codes " ") (table r).operands

abbrev pub data_text : ℕ → List ℕ
data_text word = codes ".word " ++ hex_number 8 word

-- the row of a canonical word: it fits the row, and has no bit outside the row's fields and
-- operands
abbrev pub canonical_by : ℕ → Option Row → Option Row
canonical_by word None = None
canonical_by word (Some r) = if word == word_with r (numbers_of word (Some r)) then Some r else None

unfoldable pub canonical_row : ℕ → Option Row
canonical_row word = canonical_by word (row_that_fits word)

-- a word by its row, or as data
abbrev pub canon_by : Naming → ℕ → ℕ → Option Row → List ℕ
canon_by naming word at None = data_text word
canon_by naming word at (Some r) = instruction_text naming word at r

abbrev pub canon_as : Naming → ℕ → ℕ → List ℕ
canon_as naming word at =
    if word == 0 then codes "nop" else canon_by naming word at (canonical_row word)

-- with the registers by their numbers
abbrev pub canon : ℕ → ℕ → List ℕ
canon word at = canon_as Numbers word at

-- with the registers by their names
abbrev pub canon_named : ℕ → ℕ → List ℕ
canon_named word at = canon_as Names word at

-- The same text with the place of its target: a branch's or a jump's target is the last part of its
-- text.

-- the address that an operand names
abbrev pub target_of_operand : ℕ → Operand → ℕ → Option ℕ
target_of_operand at operand.Rd n = None
target_of_operand at operand.Rs n = None
target_of_operand at operand.Rt n = None
target_of_operand at operand.Cop0 n = None
target_of_operand at operand.Amount n = None
target_of_operand at operand.Signed n = None
target_of_operand at operand.Offset n = None
target_of_operand at operand.Unsigned n = None
target_of_operand at operand.Base n = None
target_of_operand at operand.Branch n = Some (branch_target at n)
target_of_operand at operand.Jump n = Some (jump_target at n)

-- the first of operands that names one
abbrev pub target_among : ℕ → ℕ → List Operand → Option ℕ
target_among word at [] = None
target_among word at (o ∷ os) =
    option_or (target_of_operand at o (number_of word o)) (target_among word at os)

abbrev pub target_by : ℕ → ℕ → Option Row → Option ℕ
target_by word at None = None
target_by word at (Some r) = target_among word at (table r).operands

-- where the instruction of a word at an address goes, if that is a branch or a jump
abbrev pub target_of : ℕ → ℕ → Option ℕ
target_of word at = target_by word at (canonical_row word)

-- its place by the nearest symbol, with a space before it
abbrev pub target_place : List (List ℕ × ℕ) → Option ℕ → List ℕ
target_place symbols None = []
target_place symbols (Some target) = place_behind symbols target

abbrev pub canon_with : Style → ℕ → ℕ → List ℕ
canon_with style word at =
    canon_as style.registers word at ++ target_place style.symbols (target_of word at)
