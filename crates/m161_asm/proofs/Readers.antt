use Rattle.std.specs.Prelude.{ℕ, ◌%◌, ◌/◌, ◌<◌, length, bytes_eq, codes, Bool, true, false, ◌==◌, nat_lt, if◌then◌else◌, is_some, List, [], ◌∷◌, drop, Option, None, Some, Result, Ok, Err}
use Rattle.std.proofs.Common.{◌≡◌, refl, sym, ◌∙◌, arith}
use Rattle.m161_isa.specs.declared.operand.Operand.{Operand}
use Rattle.m161_isa.specs.declared.operand.Operand.TheVariants as operand
use Rattle.m161_asm.specs.declared.error.ErrorKind.TheVariants as faults
use Rattle.m161_asm.specs.Tokens.{Placed, Name, Directive, Register, Number, Mark, Bad}
use Rattle.m161_asm.specs.Lines.{◌>>=◌, SourceFault, Parsed, Whole, Value, wrong, next_column, is_within, bits_of_whole, Part, Field, BranchTo, JumpTo, mark, register, plain_number, whole, addend, value, with_label, immediate, base, target, part, multiple, end_of_line, origin_statement, space_statement, entry_statement, Label, label_of, statement, directive_statement, name_statement, unknown, Statement, Nothing, Origin, Space, Entry}
use Rattle.m161_asm.specs.Lines as lines
use Rattle.m161_asm.specs.helpers.Readers.{has_mark, number_at, register_at, name_at, directive_at, number_with, signed, value_number, closed, base_register, last_multiple, last_value, label_if, label_name, field_of_whole, in_field, immediate_number, field_part, out_of_range}

-- Each definition of `specs` by the token at the front.

-- what is read at the front, and the tokens after it
abbrev pub at_front : {A : Type 0} → Option A → ℕ → List Placed → Parsed A
at_front None past ts = wrong past ts
at_front (Some x) past ts = Ok (x, drop 1 ts)

pub mark_is : (byte past : ℕ) (ts : List Placed)
    → mark byte past ts ≡ (if has_mark byte ts then Ok (drop 1 ts) else wrong past ts)
mark_is byte past [] = refl
mark_is byte past ((Name x, c, e) ∷ ts) = refl
mark_is byte past ((Directive x, c, e) ∷ ts) = refl
mark_is byte past ((Register x, c, e) ∷ ts) = refl
mark_is byte past ((Number x, c, e) ∷ ts) = refl
mark_is byte past ((Mark x, c, e) ∷ ts) = refl
mark_is byte past ((Bad, c, e) ∷ ts) = refl

pub number_is : (past : ℕ) (ts : List Placed)
    → plain_number past ts ≡ at_front (number_at ts) past ts
number_is past [] = refl
number_is past ((Name x, c, e) ∷ ts) = refl
number_is past ((Directive x, c, e) ∷ ts) = refl
number_is past ((Register x, c, e) ∷ ts) = refl
number_is past ((Number x, c, e) ∷ ts) = refl
number_is past ((Mark x, c, e) ∷ ts) = refl
number_is past ((Bad, c, e) ∷ ts) = refl

register_if : (b : Bool) (n c e past : ℕ) (ts : List Placed)
    → (if b then Ok (n, ts) else wrong past ((Register n, c, e) ∷ ts))
    ≡ at_front (if b then Some n else None) past ((Register n, c, e) ∷ ts)
register_if true n c e past ts = refl
register_if false n c e past ts = refl

pub register_is : (past : ℕ) (ts : List Placed)
    → register past ts ≡ at_front (register_at ts) past ts
register_is past [] = refl
register_is past ((Name x, c, e) ∷ ts) = refl
register_is past ((Directive x, c, e) ∷ ts) = refl
register_is past ((Register x, c, e) ∷ ts) = register_if (nat_lt x 32) x c e past ts
register_is past ((Number x, c, e) ∷ ts) = refl
register_is past ((Mark x, c, e) ∷ ts) = refl
register_is past ((Bad, c, e) ∷ ts) = refl

whole_if : (b : Bool) (x c e past : ℕ) (ts : List Placed)
    → (if b then number_with true past ts else wrong past ((Mark x, c, e) ∷ ts))
    ≡ number_with b past (if b then ts else ((Mark x, c, e) ∷ ts))
whole_if true x c e past ts = refl
whole_if false x c e past ts = refl

-- 45 is a minus
pub whole_is : (past : ℕ) (ts : List Placed)
    → whole past ts ≡ number_with (has_mark 45 ts) past (if has_mark 45 ts then drop 1 ts else ts)
whole_is past [] = refl
whole_is past ((Name x, c, e) ∷ ts) = refl
whole_is past ((Directive x, c, e) ∷ ts) = refl
whole_is past ((Register x, c, e) ∷ ts) = refl
whole_is past ((Number x, c, e) ∷ ts) = refl
whole_is past ((Mark x, c, e) ∷ ts) = whole_if (x == 45) x c e past ts
whole_is past ((Bad, c, e) ∷ ts) = refl

-- 43 is a plus
pub addend_is : (past : ℕ) (ts : List Placed)
    → addend past ts
    ≡ (if has_mark 43 ts then number_with false past (drop 1 ts)
    else if has_mark 45 ts then number_with true past (drop 1 ts)
    else Ok ((0, 0), ts))
addend_is past [] = refl
addend_is past ((Name x, c, e) ∷ ts) = refl
addend_is past ((Directive x, c, e) ∷ ts) = refl
addend_is past ((Register x, c, e) ∷ ts) = refl
addend_is past ((Number x, c, e) ∷ ts) = refl
addend_is past ((Mark x, c, e) ∷ ts) = refl
addend_is past ((Bad, c, e) ∷ ts) = refl

pub value_is : (past : ℕ) (ts : List Placed)
    → value past ts
    ≡ with_label (name_at ts) (next_column past ts) (value_number (is_some (name_at ts)) past ts)
value_is past [] = refl
value_is past ((Name x, c, e) ∷ ts) = refl
value_is past ((Directive x, c, e) ∷ ts) = refl
value_is past ((Register x, c, e) ∷ ts) = refl
value_is past ((Number x, c, e) ∷ ts) = refl
value_is past ((Mark x, c, e) ∷ ts) = refl
value_is past ((Bad, c, e) ∷ ts) = refl

with_sign : (b : Bool) (past : ℕ) (ts : List Placed) (r : Parsed ℕ) → plain_number past ts ≡ r
    → number_with b past ts ≡ (r >>= λ n. Ok (signed b n.0, n.1))
with_sign true past ts r e = rw e refl
with_sign false past ts r e = rw e refl

-- the number behind a sign
pub number_with_is : (b : Bool) (past : ℕ) (ts : List Placed)
    → number_with b past ts ≡ (at_front (number_at ts) past ts >>= λ n. Ok (signed b n.0, n.1))
number_with_is b past ts = with_sign b past ts _ (number_is past ts)

-- a register and what closes it
abbrev pub closed_at : Option ℕ → Bool → ℕ → List Placed → Parsed ℕ
closed_at None b past ts = wrong past ts
closed_at (Some n) true past ts = Ok (n, drop 1 (drop 1 ts))
closed_at (Some n) false past ts = wrong past (drop 1 ts)

closed_if : (b : Bool) (n past : ℕ) (ts : List Placed)
    → ((if b then Ok (drop 1 (drop 1 ts)) else wrong past (drop 1 ts)) >>= λ outer. Ok (n, outer))
    ≡ closed_at (Some n) b past ts
closed_if true n past ts = refl
closed_if false n past ts = refl

closed_by : (r : Option ℕ) (past : ℕ) (ts : List Placed)
    → (at_front r past ts >>= λ n. mark 41 past n.1 >>= λ outer. Ok (n.0, outer))
    ≡ closed_at r (has_mark 41 (drop 1 ts)) past ts
closed_by None past ts = refl
closed_by (Some n) past ts = rw (mark_is 41 past (drop 1 ts)) (closed_if (has_mark 41 (drop 1 ts)) n past ts)

pub closed_is : (past : ℕ) (ts : List Placed)
    → closed past ts ≡ closed_at (register_at ts) (has_mark 41 (drop 1 ts)) past ts
closed_is past ts = rw (register_is past ts) (closed_by (register_at ts) past ts)

base_if : (b : Bool) (past : ℕ) (ts : List Placed)
    → ((if b then Ok (drop 1 ts) else wrong past ts) >>= closed past)
    ≡ (if b then closed past (drop 1 ts) else wrong past ts)
base_if true past ts = refl
base_if false past ts = refl

pub base_is : (past : ℕ) (ts : List Placed)
    → base_register past ts
    ≡ (if has_mark 40 ts then closed past (drop 1 ts) else wrong past ts)
base_is past ts = rw (mark_is 40 past ts) (base_if (has_mark 40 ts) past ts)

-- an operand by its kind
abbrev pub as_field : ℕ × List Placed → Parsed Part
as_field x = Ok (Field x.0, x.1)

abbrev pub number_before : ℕ → List Placed → Parsed ℕ
number_before n ts = Ok (n, ts)

abbrev pub field_if : Bool → ℕ → List Placed → ℕ → List Placed → Parsed Part
field_if b n rest past ts = if b then Ok (Field n, rest) else out_of_range past ts

in_field_if : (b : Bool) (n : ℕ) (rest : List Placed) (past : ℕ) (ts : List Placed)
    → (in_field (if b then Some n else None) rest past ts >>= as_field)
    ≡ field_if b n rest past ts
in_field_if true n rest past ts = refl
in_field_if false n rest past ts = refl

immediate_by : (low high width : ℕ) (read : Parsed Whole) (past : ℕ) (ts : List Placed)
    → ((read >>= λ n. in_field (field_of_whole low high width n.0) n.1 past ts)
    >>= as_field)
    ≡ (read >>= λ n. field_if (is_within low high n.0) (bits_of_whole width n.0) n.1 past ts)
immediate_by low high width (Ok n) past ts =
    in_field_if (is_within low high n.0) (bits_of_whole width n.0) n.1 past ts
immediate_by low high width (Err e) past ts = refl

immediate_is : (low high width past : ℕ) (ts : List Placed)
    → immediate low high width past ts
    ≡ (immediate_number low high width past ts >>= as_field)
immediate_is low high width past ts = sym (immediate_by low high width (whole past ts) past ts)

base_outer : (n : ℕ × List Placed) (outer : Result (List Placed) SourceFault)
    → (outer >>= λ ts. as_field (n.0, ts)) ≡ ((outer >>= λ ts. number_before n.0 ts) >>= as_field)
base_outer n (Ok ts) = refl
base_outer n (Err e) = refl

base_inner : (past : ℕ) (read : Parsed ℕ)
    → (read >>= λ n. mark 41 past n.1 >>= λ outer. as_field (n.0, outer))
    ≡ ((read >>= λ n. mark 41 past n.1 >>= λ outer. number_before n.0 outer) >>= as_field)
base_inner past (Ok n) = base_outer n (mark 41 past n.1)
base_inner past (Err e) = refl

base_by : (past : ℕ) (inner : Result (List Placed) SourceFault)
    → (inner >>= λ ts. register past ts >>= λ n. mark 41 past n.1
    >>= λ outer. as_field (n.0, outer))
    ≡ ((inner >>= closed past) >>= as_field)
base_by past (Ok ts) = base_inner past (register past ts)
base_by past (Err e) = refl

abbrev pub part_by : Operand → ℕ → List Placed → Parsed Part
part_by operand.Branch past ts = target BranchTo past ts
part_by operand.Jump past ts = target JumpTo past ts
part_by o past ts = field_part o past ts

pub part_is : (o : Operand) (past : ℕ) (ts : List Placed) → part o past ts ≡ part_by o past ts
unfolding part
part_is operand.Rd past ts = refl
part_is operand.Rs past ts = refl
part_is operand.Rt past ts = refl
part_is operand.Cop0 past ts = refl
part_is operand.Amount past ts = immediate_is 0 31 5 past ts
part_is operand.Signed past ts = immediate_is 32768 32767 16 past ts
part_is operand.Offset past ts = immediate_is 32768 32767 16 past ts
part_is operand.Unsigned past ts = immediate_is 0 65535 16 past ts
part_is operand.Base past ts = base_by past (mark 40 past ts)
part_is operand.Branch past ts = refl
part_is operand.Jump past ts = refl

-- statements
abbrev pub multiple_at : Option ℕ → Bool → ℕ → List Placed → Result ℕ SourceFault
multiple_at None b past ts = wrong past ts
multiple_at (Some n) true past ts = end_of_line n past (drop 1 ts)
multiple_at (Some n) false past ts = out_of_range past ts

abbrev pub number_if : Bool → ℕ → ℕ → List Placed → Parsed ℕ
number_if b n past ts = if b then Ok (n, drop 1 ts) else out_of_range past ts

multiple_if : (b : Bool) (n past : ℕ) (ts : List Placed)
    → (number_if b n past ts >>= λ x. end_of_line x.0 past x.1)
    ≡ multiple_at (Some n) b past ts
multiple_if true n past ts = refl
multiple_if false n past ts = refl

abbrev pub is_multiple : Option ℕ → Bool
is_multiple None = false
is_multiple (Some n) = n % 4 == 0

multiple_by : (r : Option ℕ) (past : ℕ) (ts : List Placed)
    → ((at_front r past ts >>= λ n. if n.0 % 4 == 0 then Ok n else out_of_range past ts)
    >>= λ x. end_of_line x.0 past x.1)
    ≡ multiple_at r (is_multiple r) past ts
multiple_by None past ts = refl
multiple_by (Some n) past ts = multiple_if (n % 4 == 0) n past ts

pub last_multiple_is : (past : ℕ) (ts : List Placed)
    → last_multiple past ts ≡ multiple_at (number_at ts) (is_multiple (number_at ts)) past ts
last_multiple_is past ts = rw (number_is past ts) (multiple_by (number_at ts) past ts)

ended : {A B : Type 0} (f : A → B) (x : A) (past : ℕ) (ts : List Placed)
    → end_of_line (f x) past ts ≡ (end_of_line x past ts >>= λ y. Ok (f y))
ended f x past [] = refl
ended f x past (t ∷ ts) = refl

ended_by : {A B : Type 0} (f : A → B) (read : Parsed A) (past : ℕ)
    → (read >>= λ x. end_of_line (f x.0) past x.1)
    ≡ ((read >>= λ x. end_of_line x.0 past x.1) >>= λ y. Ok (f y))
ended_by f (Ok x) past = ended f x.0 past x.1
ended_by f (Err e) past = refl

pub origin_is : (past : ℕ) (ts : List Placed)
    → origin_statement past ts ≡ (last_multiple past ts >>= λ n. Ok (Origin n))
origin_is past ts = ended_by (λ n. Origin n) (multiple past ts) past

pub space_is : (past : ℕ) (ts : List Placed)
    → space_statement past ts ≡ (last_multiple past ts >>= λ n. Ok (Space (n / 4)))
space_is past ts = ended_by (λ n. Space (n / 4)) (multiple past ts) past

pub entry_is : (past : ℕ) (ts : List Placed)
    → entry_statement past ts ≡ (last_value past ts >>= λ v. Ok (Entry v))
entry_is past ts = ended_by (λ v. Entry v) (value past ts) past

abbrev pub statement_by : Option (List ℕ) → Option (List ℕ) → ℕ → ℕ → List Placed
    → Result Statement SourceFault
statement_by (Some d) name column past ts = directive_statement d column past ts
statement_by None (Some x) column past ts =
    name_statement (bytes_eq x (codes "nop")) x column past ts
statement_by None None column past ts = unknown column

pub statement_none : (past : ℕ) (ts : List Placed) → length ts ≡ 0 → statement past ts ≡ Ok Nothing
unfolding statement
statement_none past [] h = refl
statement_none past (t ∷ ts) h = absurd (omega (arith, h))

pub statement_is : (past : ℕ) (ts : List Placed) → 0 < length ts
    → statement past ts
    ≡ statement_by (directive_at ts) (name_at ts) (next_column past ts) past (drop 1 ts)
unfolding statement
statement_is past [] h = absurd (omega (arith, h))
statement_is past ((Name x, c, e) ∷ ts) h = refl
statement_is past ((Directive x, c, e) ∷ ts) h = refl
statement_is past ((Register x, c, e) ∷ ts) h = refl
statement_is past ((Number x, c, e) ∷ ts) h = refl
statement_is past ((Mark x, c, e) ∷ ts) h = refl
statement_is past ((Bad, c, e) ∷ ts) h = refl

-- a line that begins with neither
pub unknown_line : (past : ℕ) (ts : List Placed) → 0 < length ts → None ≡ directive_at ts
    → None ≡ name_at ts → statement past ts ≡ Err (faults.UnknownWord, next_column past ts)
unknown_line past ts h d n =
    statement_is past ts h ∙ rw (← d, ← n) refl

abbrev pub label_by : Option (List ℕ) → List Placed → Label × List Placed
label_by None ts = (None, ts)
label_by (Some x) ts = (Some (x, next_column 1 ts), drop 1 (drop 1 ts))

label_end : (b : Bool) (x : List ℕ) (c e k d f : ℕ) (ts : List Placed)
    → lines.label_if b x c ts ((Name x, c, e) ∷ (Mark k, d, f) ∷ ts)
    ≡ label_by (label_if (Some x) b) ((Name x, c, e) ∷ (Mark k, d, f) ∷ ts)
label_end true x c e k d f ts = refl
label_end false x c e k d f ts = refl

rest_unnamed : (b : Bool) (ts : List Placed) → (None, ts) ≡ label_by (label_if None b) ts
rest_unnamed true ts = refl
rest_unnamed false ts = refl

pub label_is : (ts : List Placed) → label_of ts ≡ label_by (label_name ts) ts
label_is [] = refl
label_is ((Name x, c, e) ∷ []) = refl
label_is ((Name x, c, e) ∷ (Name y, d, f) ∷ ts) = refl
label_is ((Name x, c, e) ∷ (Directive y, d, f) ∷ ts) = refl
label_is ((Name x, c, e) ∷ (Register y, d, f) ∷ ts) = refl
label_is ((Name x, c, e) ∷ (Number y, d, f) ∷ ts) = refl
label_is ((Name x, c, e) ∷ (Mark y, d, f) ∷ ts) = label_end (y == 58) x c e y d f ts
label_is ((Name x, c, e) ∷ (Bad, d, f) ∷ ts) = refl
label_is ((Directive x, c, e) ∷ ts) = rest_unnamed (has_mark 58 ts) ((Directive x, c, e) ∷ ts)
label_is ((Register x, c, e) ∷ ts) = rest_unnamed (has_mark 58 ts) ((Register x, c, e) ∷ ts)
label_is ((Number x, c, e) ∷ ts) = rest_unnamed (has_mark 58 ts) ((Number x, c, e) ∷ ts)
label_is ((Mark x, c, e) ∷ ts) = rest_unnamed (has_mark 58 ts) ((Mark x, c, e) ∷ ts)
label_is ((Bad, c, e) ∷ ts) = rest_unnamed (has_mark 58 ts) ((Bad, c, e) ∷ ts)
