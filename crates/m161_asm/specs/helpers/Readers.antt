use Rattle.std.specs.Prelude.{◌≡◌, ℕ, Bool, true, false, ◌==◌, nat_lt, if◌then◌else◌, List, [], ◌∷◌, ◌++◌, drop, map, Option, None, Some, Result, Ok, Err}
use Rattle.m161_isa.specs.declared.operand.Operand.{Operand}
use Rattle.m161_isa.specs.declared.table.Row.{Row}
use Rattle.m161_isa.specs.declared.operand.Operand.TheVariants as operand
use Rattle.m161_asm.specs.declared.error.ErrorKind.TheVariants as faults
use Rattle.m161_asm.specs.declared.statement.Reach.{Reach}
use Rattle.m161_asm.specs.declared.statement.Reach.TheVariants as reach
use Rattle.m161_asm.specs.declared.statement.ReadError.{ReadError}
use Rattle.m161_asm.specs.declared.statement.ReadError.TheVariants as errors
use Rattle.m161_asm.specs.declared.statement.Directive.{Directive as CodeDirective}
use Rattle.m161_asm.specs.declared.statement.Directive.TheVariants as directive
use Rattle.m161_asm.specs.Tokens.{Placed, Name, Directive, Register, Number, Mark}
use Rattle.m161_asm.specs.Lines.{◌>>=◌, SourceFault, Parsed, Whole, Value, Part, Field, BranchTo, JumpTo, target, is_within, bits_of_whole, Statement, wrong, next_column, mark, register, negative_number, positive_number, whole, addend, multiple, value, end_of_line, origin_statement, space_statement, entry_statement, words_statement, unknown, instruction}
use Rattle.m161_asm.specs.helpers.Seen.{fault_seen}

-- The token at the front, by its kind.

abbrev pub has_mark : ℕ → List Placed → Bool
has_mark byte ((Mark b, c, e) ∷ ts) = b == byte
has_mark byte ts = false

abbrev pub number_at : List Placed → Option ℕ
number_at ((Number n, c, e) ∷ ts) = Some n
number_at ts = None

-- a register below 32
abbrev pub register_at : List Placed → Option ℕ
register_at ((Register n, c, e) ∷ ts) = if nat_lt n 32 then Some n else None
register_at ts = None

abbrev pub name_at : List Placed → Option (List ℕ)
name_at ((Name x, c, e) ∷ ts) = Some x
name_at ts = None

abbrev pub directive_at : List Placed → Option (List ℕ)
directive_at ((Directive d, c, e) ∷ ts) = Some d
directive_at ts = None

-- Readers.

-- the fault that the next number is outside its range
abbrev pub out_of_range : {A : Type 0} → ℕ → List Placed → Result A SourceFault
out_of_range past ts = Err (faults.OutOfRange, next_column past ts)

-- the whole number of a number behind a minus, or behind none
abbrev pub number_with : Bool → ℕ → List Placed → Parsed Whole
number_with true past ts = negative_number past ts
number_with false past ts = positive_number past ts

abbrev pub signed : Bool → ℕ → Whole
signed true n = (0, n)
signed false n = (n, 0)

-- the number of a value: behind a label, or alone
abbrev pub value_number : Bool → ℕ → List Placed → Parsed Whole
value_number true past ts = addend past (drop 1 ts)
value_number false past ts = whole past ts

-- a register, and a closing parenthesis (41) behind it
abbrev pub closed : ℕ → List Placed → Parsed ℕ
closed past ts = do
  n ← register past ts
  outer ← mark 41 past n.1
  Ok (n.0, outer)

-- `(register)`, with an opening parenthesis (40)
abbrev pub base_register : ℕ → List Placed → Parsed ℕ
base_register past ts = mark 40 past ts >>= closed past

-- the field of a number from -low to high
abbrev pub field_of_whole : ℕ → ℕ → ℕ → Whole → Option ℕ
field_of_whole low high width n =
    if is_within low high n then Some (bits_of_whole width n) else None

abbrev pub in_field : Option ℕ → List Placed → ℕ → List Placed → Parsed ℕ
in_field None rest past ts = out_of_range past ts
in_field (Some field) rest past ts = Ok (field, rest)

abbrev pub immediate_number : ℕ → ℕ → ℕ → ℕ → List Placed → Parsed ℕ
immediate_number low high width past ts = do
  n ← whole past ts
  in_field (field_of_whole low high width n.0) n.1 past ts

-- the field of an operand; a branch and a jump have a target instead
abbrev pub field : Operand → ℕ → List Placed → Parsed ℕ
field operand.Rd past ts = register past ts
field operand.Rs past ts = register past ts
field operand.Rt past ts = register past ts
field operand.Cop0 past ts = register past ts
field operand.Amount past ts = immediate_number 0 31 5 past ts
field operand.Signed past ts = immediate_number 32768 32767 16 past ts
field operand.Offset past ts = immediate_number 32768 32767 16 past ts
field operand.Unsigned past ts = immediate_number 0 65535 16 past ts
field operand.Base past ts = base_register past ts
field operand.Branch past ts = wrong past ts
field operand.Jump past ts = wrong past ts

abbrev pub field_part : Operand → ℕ → List Placed → Parsed Part
field_part o past ts = do
  n ← field o past ts
  Ok (Field n.0, n.1)

abbrev pub target_of : Reach → ℕ → List Placed → Parsed Part
target_of reach.Branch past ts = target BranchTo past ts
target_of reach.Jump past ts = target JumpTo past ts

-- the last number of a line, a multiple of 4
abbrev pub last_multiple : ℕ → List Placed → Result ℕ SourceFault
last_multiple past ts = do
  n ← multiple past ts
  end_of_line n.0 past n.1

-- the last value of a line
abbrev pub last_value : ℕ → List Placed → Result Value SourceFault
last_value past ts = do
  v ← value past ts
  end_of_line v.0 past v.1

-- the statement of a directive, by the directive
abbrev pub by_directive : CodeDirective → ℕ → ℕ → List Placed → Result Statement SourceFault
by_directive directive.Origin column past ts = origin_statement past ts
by_directive directive.Space column past ts = space_statement past ts
by_directive directive.Entry column past ts = entry_statement past ts
by_directive directive.Words column past ts = words_statement past ts
by_directive directive.Unknown column past ts = unknown column

-- the operands of a row
abbrev pub code_statement : Row → ℕ → List Placed → Result Statement SourceFault
code_statement r past ts = instruction (Some r) 0 past ts

-- the name of a line's label, before a colon (58)
abbrev pub label_if : Option (List ℕ) → Bool → Option (List ℕ)
label_if name true = name
label_if name false = None

abbrev pub label_name : List Placed → Option (List ℕ)
label_name ts = label_if (name_at ts) (has_mark 58 (drop 1 ts))

-- a value that is read joins those before it
abbrev pub joined : {A : Type 0} → List A → Parsed A → Parsed (List A)
joined front read = do
  x ← read
  Ok (front ++ (x.0 ∷ []), x.1)

-- a reader that adds one value to a list, unless memory is refused, and gives the tokens after it
abbrev pub Joins : {X Y R : Type 0} → (X → Y) → (R → List Placed) → Result R ReadError → List X
    → List X → Parsed Y → Type 0
Joins view rest (Ok r) old new read = joined (map view old) read ≡ Ok (map view new, rest r)
Joins view rest (Err errors.Memory) old new read = Unit {0}
Joins view rest (Err (errors.Fault f)) old new read = read ≡ Err (fault_seen f)
