use Rattle.std.specs.Prelude.{ℕ, zero, suc, ◌+◌, ◌-◌, ◌%◌, ◌/◌, ◌^◌, Bool, true, false, ◌==◌, nat_le, nat_lt, ◌&&◌, if◌then◌else◌, List, [], ◌∷◌, length, Option, None, Some, Result, Ok, Err, codes, bytes_eq, find, slice_get}
use Rattle.m161_isa.specs.declared.table.Row.{Row}
use Rattle.m161_isa.specs.declared.operand.Operand.{Operand}
use Rattle.m161_isa.specs.declared.operand.Operand.TheVariants as operand
use Rattle.m161_isa.specs.Table.{table, all_rows}
use Rattle.m161_asm.specs.declared.error.ErrorKind.{ErrorKind}
use Rattle.m161_asm.specs.declared.error.ErrorKind.TheVariants as faults
use Rattle.m161_asm.specs.Tokens.{Name, Directive, Register, Number, Mark, Bad, Placed}

-- A line's parse: a label and a statement, or the leftmost fault.

-- a fault and its column
abbrev pub SourceFault : Type 0
SourceFault = ErrorKind × ℕ

infixl 10 ◌>>=◌
abbrev pub ◌>>=◌ : {A B F : Type 0} → Result A F → (A → Result B F) → Result B F
(Ok x) >>= f = f x
(Err e) >>= f = Err e

-- a value that is read from tokens, and the tokens after it
abbrev pub Parsed : Type 0 → Type 0
Parsed A = Result (A × List Placed) SourceFault

-- a whole number, as the difference of two
abbrev pub Whole : Type 0
Whole = ℕ × ℕ

-- a whole number is from -low to high
abbrev pub is_within : ℕ → ℕ → Whole → Bool
is_within low high n = nat_le n.1 (n.0 + low) && nat_le n.0 (n.1 + high)

-- its last `width` bits
abbrev pub bits_of_whole : ℕ → Whole → ℕ
bits_of_whole width n = (n.0 + 2 ^ width - n.1) % 2 ^ width

-- a V of the text: perhaps a label, a whole number, and its column
pub record Value : Type 0 where
  pub label : Option (List ℕ)
  pub number : Whole
  pub column : ℕ

-- an operand of an instruction: a field, or the address that a branch or a jump goes to
pub data Part : Type 0 where
  Field : (field : ℕ) → Part
  BranchTo : (target : Value) → Part
  JumpTo : (target : Value) → Part

pub data Statement : Type 0 where
  Nothing : Statement
  Origin : (address : ℕ) → Statement
  Space : (words : ℕ) → Statement
  Entry : (value : Value) → Statement
  Words : (values : List Value) → Statement
  Code : (row : Row) → (parts : List Part) → Statement

-- the column of the next token, or the one past the last
abbrev pub next_column : ℕ → List Placed → ℕ
next_column past [] = past
next_column past (t ∷ ts) = t.1

-- the fault that the expected token is missing
abbrev pub wrong : {A : Type 0} → ℕ → List Placed → Result A SourceFault
wrong past ts = Err (faults.BadOperand, next_column past ts)

abbrev pub mark : ℕ → ℕ → List Placed → Result (List Placed) SourceFault
mark byte past ((Mark b, c, e) ∷ ts) = if b == byte then Ok ts else wrong past ((Mark b, c, e) ∷ ts)
mark byte past ts = wrong past ts

-- each register token is below 32; the test makes that plain here
abbrev pub register : ℕ → List Placed → Parsed ℕ
register past ((Register n, c, e) ∷ ts) =
    if nat_lt n 32 then Ok (n, ts) else wrong past ((Register n, c, e) ∷ ts)
register past ts = wrong past ts

abbrev pub plain_number : ℕ → List Placed → Parsed ℕ
plain_number past ((Number n, c, e) ∷ ts) = Ok (n, ts)
plain_number past ts = wrong past ts

-- `[-] number`; 45 is `-`, 43 is `+`
abbrev pub negative_number : ℕ → List Placed → Parsed Whole
negative_number past ts = do
  n ← plain_number past ts
  Ok ((0, n.0), n.1)

abbrev pub positive_number : ℕ → List Placed → Parsed Whole
positive_number past ts = do
  n ← plain_number past ts
  Ok ((n.0, 0), n.1)

abbrev pub whole : ℕ → List Placed → Parsed Whole
whole past ((Mark b, c, e) ∷ ts) =
    if b == 45 then negative_number past ts else wrong past ((Mark b, c, e) ∷ ts)
whole past ts = positive_number past ts

-- `[+ number | - number]`
abbrev pub addend : ℕ → List Placed → Parsed Whole
addend past ((Mark b, c, e) ∷ ts) =
    if b == 43 then positive_number past ts else if b == 45 then negative_number past ts
    else Ok ((0, 0), (Mark b, c, e) ∷ ts)
addend past ts = Ok ((0, 0), ts)

abbrev pub with_label : Option (List ℕ) → ℕ → Parsed Whole → Parsed Value
with_label label column read = do
  n ← read
  Ok (record { label = label; number = n.0; column = column }, n.1)

abbrev pub value : ℕ → List Placed → Parsed Value
value past ((Name x, c, e) ∷ ts) = with_label (Some x) c (addend past ts)
value past ts = with_label None (next_column past ts) (whole past ts)

-- a number from -low to high, as a field of `width` bits
abbrev pub immediate : ℕ → ℕ → ℕ → ℕ → List Placed → Parsed Part
immediate low high width past ts = do
  n ← whole past ts
  if is_within low high n.0 then Ok (Field (bits_of_whole width n.0), n.1)
      else Err (faults.OutOfRange, next_column past ts)

abbrev pub register_part : ℕ → List Placed → Parsed Part
register_part past ts = do
  n ← register past ts
  Ok (Field n.0, n.1)

abbrev pub base : ℕ → List Placed → Parsed Part
base past ts = do
  inner ← mark 40 past ts
  n ← register past inner
  outer ← mark 41 past n.1
  Ok (Field n.0, outer)

abbrev pub target : (Value → Part) → ℕ → List Placed → Parsed Part
target part past ts = do
  v ← value past ts
  Ok (part v.0, v.1)

-- an operand, by its kind in the table
unfoldable pub part : Operand → ℕ → List Placed → Parsed Part
part operand.Rd past ts = register_part past ts
part operand.Rs past ts = register_part past ts
part operand.Rt past ts = register_part past ts
part operand.Cop0 past ts = register_part past ts
part operand.Amount past ts = immediate 0 31 5 past ts
part operand.Signed past ts = immediate 32768 32767 16 past ts
part operand.Offset past ts = immediate 32768 32767 16 past ts
part operand.Unsigned past ts = immediate 0 65535 16 past ts
part operand.Base past ts = base past ts
part operand.Branch past ts = target BranchTo past ts
part operand.Jump past ts = target JumpTo past ts

-- a comma (44) before each operand except the first and a base
abbrev pub comma : Bool → Operand → ℕ → List Placed → Result (List Placed) SourceFault
comma true o past ts = Ok ts
comma false operand.Base past ts = Ok ts
comma false _ past ts = mark 44 past ts

abbrev pub comma_and_part : Bool → Operand → ℕ → List Placed → Parsed Part
comma_and_part first o past ts = do
  inner ← comma first o past ts
  part o past inner

-- the line ends here
abbrev pub end_of_line : {A : Type 0} → A → ℕ → List Placed → Result A SourceFault
end_of_line x past [] = Ok x
end_of_line x past (t ∷ ts) = wrong past (t ∷ ts)

-- the operands of a row
unfoldable pub operand_parts : Bool → List Operand → ℕ → List Placed → Result (List Part) SourceFault
operand_parts first [] past ts = end_of_line [] past ts
operand_parts first (o ∷ os) past ts = do
  x ← comma_and_part first o past ts
  xs ← operand_parts false os past x.1
  Ok (x.0 ∷ xs)

-- the values of `.word`, with commas between; there are no more of them than `spare`
abbrev pub further : (List Placed → Result (List Value) SourceFault) → ℕ → List Placed
    → Result (List Value) SourceFault
further others past [] = Ok []
further others past (t ∷ ts) = mark 44 past (t ∷ ts) >>= others

unfoldable pub values : ℕ → ℕ → List Placed → Result (List Value) SourceFault
values zero past ts = wrong past ts
values (suc spare) past ts = do
  v ← value past ts
  vs ← further (λ us. values spare past us) past v.1
  Ok (v.0 ∷ vs)

-- the number of `.org` and `.space`: a multiple of 4
abbrev pub multiple : ℕ → List Placed → Parsed ℕ
multiple past ts = do
  n ← plain_number past ts
  if n.0 % 4 == 0 then Ok n else Err (faults.OutOfRange, next_column past ts)

abbrev pub origin_statement : ℕ → List Placed → Result Statement SourceFault
origin_statement past ts = do
  n ← multiple past ts
  end_of_line (Origin n.0) past n.1

abbrev pub space_statement : ℕ → List Placed → Result Statement SourceFault
space_statement past ts = do
  n ← multiple past ts
  end_of_line (Space (n.0 / 4)) past n.1

abbrev pub entry_statement : ℕ → List Placed → Result Statement SourceFault
entry_statement past ts = do
  v ← value past ts
  end_of_line (Entry v.0) past v.1

abbrev pub words_statement : ℕ → List Placed → Result Statement SourceFault
words_statement past ts = do
  vs ← values (length ts) past ts
  Ok (Words vs)

abbrev pub unknown : ℕ → Result Statement SourceFault
unknown column = Err (faults.UnknownWord, column)

unfoldable pub directive_statement : List ℕ → ℕ → ℕ → List Placed → Result Statement SourceFault
directive_statement d column past ts =
    if bytes_eq d (codes "org") then origin_statement past ts
    else if bytes_eq d (codes "space") then space_statement past ts
    else if bytes_eq d (codes "entry") then entry_statement past ts
    else if bytes_eq d (codes "word") then words_statement past ts
    else unknown column

-- the row of a name
unfoldable pub row_named : List ℕ → Option Row
row_named x = find (λ r. bytes_eq x (table r).name) all_rows

abbrev pub instruction : Option Row → ℕ → ℕ → List Placed → Result Statement SourceFault
instruction None column past ts = unknown column
instruction (Some r) column past ts = do
  xs ← operand_parts true (table r).operands past ts
  Ok (Code r xs)

-- `nop` is a word of zeros
abbrev pub name_statement : Bool → List ℕ → ℕ → ℕ → List Placed → Result Statement SourceFault
name_statement true x column past ts = end_of_line (Space 1) past ts
name_statement false x column past ts = instruction (row_named x) column past ts

unfoldable pub statement : ℕ → List Placed → Result Statement SourceFault
statement past [] = Ok Nothing
statement past ((Directive d, c, e) ∷ ts) = directive_statement d c past ts
statement past ((Name x, c, e) ∷ ts) = name_statement (bytes_eq x (codes "nop")) x c past ts
statement past ((t, c, e) ∷ ts) = unknown c

-- a label of a line, its column, and the tokens after it; 58 is `:`
abbrev pub Label : Type 0
Label = Option (List ℕ × ℕ)

abbrev pub label_if : Bool → List ℕ → ℕ → List Placed → List Placed → Label × List Placed
label_if true x column behind all = (Some (x, column), behind)
label_if false x column behind all = (None, all)

abbrev pub label_of : List Placed → Label × List Placed
label_of ((Name x, c, e) ∷ (Mark b, d, f) ∷ ts) =
    label_if (b == 58) x c ts ((Name x, c, e) ∷ (Mark b, d, f) ∷ ts)
label_of ts = (None, ts)

-- the leftmost bad token is a fault
abbrev pub sound : List Placed → Result (Unit {0}) SourceFault
sound [] = Ok tt
sound ((Bad, c, e) ∷ ts) = Err (faults.BadToken, c)
sound (t ∷ ts) = sound ts

-- the column past a line's last token
abbrev pub past_by : Option Placed → ℕ
past_by None = 1
past_by (Some t) = t.2

abbrev pub past_of : List Placed → ℕ
past_of ts = past_by (slice_get ts (length ts - 1))

-- a line: its label, its statement, and the column of the statement's word, or of the label if
-- there is no statement
pub record SourceLine : Type 0 where
  pub label : Label
  pub statement : Statement
  pub column : ℕ

abbrev pub line_column : List Placed → List Placed → ℕ
line_column all [] = next_column 1 all
line_column all (t ∷ ts) = t.1

-- how many words a line has, whatever the values of its labels
abbrev pub size_of : Statement → ℕ
size_of (Space n) = n
size_of (Words vs) = length vs
size_of (Code r parts) = 1
size_of _ = 0
