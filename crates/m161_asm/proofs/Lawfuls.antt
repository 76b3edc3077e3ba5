use Rattle.std.specs.Prelude.{ℕ, ◌+◌, ◌*◌, ◌^◌, ◌/◌, ◌%◌, ◌≤◌, ◌<◌, Bool, true, false, cond, ◌||◌, ◌==◌, nat_lt, nat_le, List, [], ◌∷◌, length, Option, None, Some, Result, Ok, Err, codes, bytes_eq}
use Rattle.std.proofs.Common.{◌≡◌, refl, ap, subst, arith}
use Rattle.std.proofs.lemmas.Bool.Decides.{Decides-eqb, nat_tests}
use Rattle.m161_isa.specs.declared.table.Row.{Row}
use Rattle.m161_isa.specs.declared.operand.Operand.{Operand}
use Rattle.m161_isa.specs.declared.operand.Operand.TheVariants as operand
use Rattle.m161_isa.specs.Table.{table, width_of, AreOperands}
use Rattle.m161_asm.specs.Tokens.{Placed, Name, Directive, Register, tokens}
use Rattle.m161_asm.specs.Lines.{◌>>=◌, SourceFault, Whole, Value, Part, Field, BranchTo, JumpTo, Parsed, Statement, Nothing, Origin, Space, Entry, Words, Code, SourceLine, register, wrong, whole, is_within, bits_of_whole, part, immediate, register_part, base, target, mark, value, comma, comma_and_part, end_of_line, operand_parts, plain_number, multiple, origin_statement, space_statement, entry_statement, words_statement, unknown, values, directive_statement, row_named, instruction, name_statement, statement, label_of, sound, past_of, line_column, size_of}
use Rattle.m161_asm.specs.Text.{count_words, segments_in, address_below, line_in_place, is_outside, is_filled, new_label, line_of, on_line, read_lines, word_address, distance, field_of, each}
use Rattle.m161_asm.specs.helpers.Lawful.{IsPart, AreParts, IsStatement, HasPlace, Lawful}

-- Lines that were read are lawful.

pub record Bound {A B F : Type 0} (r : Result A F) (f : A → Result B F) (y : B) : Type 0 where
  pub x : A
  pub read : r ≡ Ok x
  pub gives : f x ≡ Ok y

pub bound : {A B F : Type 0} (r : Result A F) (f : A → Result B F) (y : B) → (r >>= f) ≡ Ok y
    → Bound r f y
bound (Ok x) f y e = record { x = x; read = refl; gives = e }
bound (Err x) f y e = cc

abbrev pub IsOk : {A F : Type 0} → A → Result A F → Type 0
IsOk x r = r ≡ Ok x

pub same : {A F : Type 0} (x y : A) → IsOk {F = F} y (Ok x) → x ≡ y
same x y e = cc

-- parts
register_small : (past : ℕ) (ts : List Placed) (x : ℕ × List Placed) → register past ts ≡ Ok x
    → x.0 < 32
register_small past [] x e = cc
register_small past ((Register n, c, d) ∷ ts) x e =
    elim (nat_lt n 32) as
    (λ b. nat_lt n 32 ≡ b
    → cond {A = Parsed ℕ} b (Ok (n, ts)) (wrong past ((Register n, c, d) ∷ ts)) ≡ Ok x
    → x.0 < 32) [
      | true ↦ λ t f. let small : n < 32 =
          grind (arith, nat_tests, t) in
          subst (λ (y : ℕ × List Placed). y.0 < 32) (same (n, ts) x f) small
      | false ↦ λ t f. cc
    ] refl e
register_small past ((t, c, d) ∷ ts) x e = cc

register_is : (o : Operand) (past : ℕ) (ts : List Placed) (x : Part × List Placed)
    → 2 ^ width_of o ≡ 32 → register_part past ts ≡ Ok x → IsPart o x.0
register_is o past ts x w e =
    let b = bound (register past ts) (λ n. Ok (Field n.0, n.1)) x e in
    let small = register_small past ts b.x b.read in
    subst (λ (y : Part × List Placed). IsPart o y.0) (same (Field b.x.0, b.x.1) x b.gives)
    (rw w small)

bits_small : (width : ℕ) (n : Whole) → 0 < 2 ^ width → bits_of_whole width n < 2 ^ width
bits_small width n h = omega (arith, h)

immediate_is : (o : Operand) (low high width past : ℕ) (ts : List Placed) (x : Part × List Placed)
    → 2 ^ width_of o ≡ 2 ^ width → 0 < 2 ^ width → immediate low high width past ts ≡ Ok x
    → IsPart o x.0
immediate_is o low high width past ts x w p e =
    let b = bound (whole past ts) _ x e in
    by (is_within low high b.x.0) b.x.0 b.x.1 _ b.gives
  where
    by : (t : Bool) (n : Whole) (us : List Placed) (f : SourceFault)
        → cond {A = Parsed Part} t (Ok (Field (bits_of_whole width n), us)) (Err f) ≡ Ok x
        → IsPart o x.0
    by true n us f d =
        subst (λ (y : Part × List Placed). IsPart o y.0)
        (same (Field (bits_of_whole width n), us) x d) (rw w (bits_small width n p))
    by false n us f d = cc

base_is : (past : ℕ) (ts : List Placed) (x : Part × List Placed) → base past ts ≡ Ok x
    → IsPart operand.Base x.0
base_is past ts x e =
    let a = bound (mark 40 past ts) _ x e in
    let b = bound (register past a.x) _ x a.gives in
    let c = bound (mark 41 past b.x.1) _ x b.gives in
    subst (λ (y : Part × List Placed). IsPart operand.Base y.0) (same (Field b.x.0, c.x) x c.gives)
    (register_small past a.x b.x b.read)

target_is : (o : Operand) (f : Value → Part) (past : ℕ) (ts : List Placed) (x : Part × List Placed)
    → ((v : Value) → IsPart o (f v)) → target f past ts ≡ Ok x → IsPart o x.0
target_is o f past ts x g e =
    let b = bound (value past ts) _ x e in
    subst (λ (y : Part × List Placed). IsPart o y.0) (same (f b.x.0, b.x.1) x b.gives) (g b.x.0)

part_is : (o : Operand) (past : ℕ) (ts : List Placed) (x : Part × List Placed)
    → part o past ts ≡ Ok x → IsPart o x.0
unfolding part
part_is operand.Rd past ts x e = register_is operand.Rd past ts x refl e
part_is operand.Rs past ts x e = register_is operand.Rs past ts x refl e
part_is operand.Rt past ts x e = register_is operand.Rt past ts x refl e
part_is operand.Cop0 past ts x e = register_is operand.Cop0 past ts x refl e
part_is operand.Amount past ts x e =
    immediate_is operand.Amount 0 31 5 past ts x refl (omega arith) e
part_is operand.Signed past ts x e =
    immediate_is operand.Signed 32768 32767 16 past ts x refl (omega arith) e
part_is operand.Offset past ts x e =
    immediate_is operand.Offset 32768 32767 16 past ts x refl (omega arith) e
part_is operand.Unsigned past ts x e =
    immediate_is operand.Unsigned 0 65535 16 past ts x refl (omega arith) e
part_is operand.Base past ts x e = base_is past ts x e
part_is operand.Branch past ts x e =
    target_is operand.Branch BranchTo past ts x (λ v. omega arith) e
part_is operand.Jump past ts x e = target_is operand.Jump JumpTo past ts x (λ v. omega arith) e

finish_is : {A : Type 0} (y z : A) (past : ℕ) (ts : List Placed) → end_of_line y past ts ≡ Ok z → y ≡ z
finish_is y z past [] e = same y z e
finish_is y z past (t ∷ ts) e = cc

parts_are : (first : Bool) (os : List Operand) (past : ℕ) (ts : List Placed) (xs : List Part)
    → operand_parts first os past ts ≡ Ok xs → AreParts os xs
unfolding operand_parts
parts_are first [] past ts xs e = subst (AreParts []) (finish_is [] xs past ts e) tt
parts_are first (o ∷ os) past ts xs e =
    let a = bound (comma_and_part first o past ts) _ xs e in
    let p = bound (comma first o past ts) _ a.x a.read in
    let b = bound (operand_parts false os past a.x.1) _ xs a.gives in
    subst (AreParts (o ∷ os)) (same (a.x.0 ∷ b.x) xs b.gives)
    (part_is o past p.x a.x p.gives, parts_are false os past a.x.1 b.x b.read)

-- statements
multiple_is : (past : ℕ) (ts : List Placed) (x : ℕ × List Placed) → multiple past ts ≡ Ok x
    → x.0 % 4 ≡ 0
multiple_is past ts x e =
    let a = bound (plain_number past ts) _ x e in
    by a.x _ a.gives
  where
    by : (y : ℕ × List Placed) (f : SourceFault)
        → cond {A = Parsed ℕ} (y.0 % 4 == 0) (Ok y) (Err f) ≡ Ok x → x.0 % 4 ≡ 0
    by y f d =
        elim (y.0 % 4 == 0) as
        (λ b. (y.0 % 4 == 0) ≡ b → cond {A = Parsed ℕ} b (Ok y) (Err f) ≡ Ok x → x.0 % 4 ≡ 0) [
          | true ↦ λ t g. subst (λ (z : ℕ × List Placed). z.0 % 4 ≡ 0) (same y x g)
              ((Decides-eqb (y.0 % 4) 0).0 t)
          | false ↦ λ t g. cc
        ] refl d

origin_is : (past : ℕ) (ts : List Placed) (s : Statement) → origin_statement past ts ≡ Ok s → IsStatement s
origin_is past ts s e =
    let a = bound (multiple past ts) _ s e in
    subst IsStatement (finish_is (Origin a.x.0) s past a.x.1 a.gives)
    (multiple_is past ts a.x a.read)

space_is : (past : ℕ) (ts : List Placed) (s : Statement) → space_statement past ts ≡ Ok s → IsStatement s
space_is past ts s e =
    let a = bound (multiple past ts) _ s e in
    subst IsStatement (finish_is (Space (a.x.0 / 4)) s past a.x.1 a.gives) tt

entry_is : (past : ℕ) (ts : List Placed) (s : Statement) → entry_statement past ts ≡ Ok s → IsStatement s
entry_is past ts s e =
    let a = bound (value past ts) _ s e in
    subst IsStatement (finish_is (Entry a.x.0) s past a.x.1 a.gives) tt

words_is : (past : ℕ) (ts : List Placed) (s : Statement) → words_statement past ts ≡ Ok s
    → IsStatement s
words_is past ts s e =
    let a = bound (values (length ts) past ts) _ s e in
    subst IsStatement (same (Words a.x) s a.gives) tt

directive_by : (s : Statement) (t u v w : Bool) (a b c d : Result Statement SourceFault) (column : ℕ)
    → (a ≡ Ok s → IsStatement s) → (b ≡ Ok s → IsStatement s) → (c ≡ Ok s → IsStatement s)
    → (d ≡ Ok s → IsStatement s) → cond t a (cond u b (cond v c (cond w d (unknown column)))) ≡ Ok s
    → IsStatement s
directive_by s true u v w a b c d column f g h i e = f e
directive_by s false true v w a b c d column f g h i e = g e
directive_by s false false true w a b c d column f g h i e = h e
directive_by s false false false true a b c d column f g h i e = i e
directive_by s false false false false a b c d column f g h i e = cc

directive_is : (x : List ℕ) (column past : ℕ) (ts : List Placed) (s : Statement)
    → directive_statement x column past ts ≡ Ok s → IsStatement s
unfolding directive_statement
directive_is x column past ts s e =
    directive_by s (bytes_eq x (codes "org")) (bytes_eq x (codes "space"))
    (bytes_eq x (codes "entry")) (bytes_eq x (codes "word")) (origin_statement past ts) (space_statement past ts)
    (entry_statement past ts) (words_statement past ts) column
    (origin_is past ts s) (space_is past ts s) (entry_is past ts s) (words_is past ts s) e

instruction_is : (o : Option Row) (column past : ℕ) (ts : List Placed) (s : Statement)
    → instruction o column past ts ≡ Ok s → IsStatement s
instruction_is None column past ts s e = cc
instruction_is (Some r) column past ts s e =
    let a = bound (operand_parts true (table r).operands past ts) _ s e in
    subst IsStatement (same (Code r a.x) s a.gives)
    (parts_are true (table r).operands past ts a.x a.read)

named_is : (t : Bool) (x : List ℕ) (column past : ℕ) (ts : List Placed) (s : Statement)
    → name_statement t x column past ts ≡ Ok s → IsStatement s
named_is true x column past ts s e = subst IsStatement (finish_is (Space 1) s past ts e) tt
named_is false x column past ts s e = instruction_is (row_named x) column past ts s e

statement_is : (past : ℕ) (ts : List Placed) (s : Statement) → statement past ts ≡ Ok s
    → IsStatement s
unfolding statement
statement_is past [] s e = subst IsStatement (same Nothing s e) tt
statement_is past ((Directive d, c, x) ∷ ts) s e = directive_is d c past ts s e
statement_is past ((Name n, c, x) ∷ ts) s e = named_is (bytes_eq n (codes "nop")) n c past ts s e
statement_is past ((t, c, x) ∷ ts) s e = cc

-- lines
record Placement (above : List SourceLine) (l m : SourceLine) : Type 0 where
  pub same : l ≡ m
  pub outside : is_outside above l ≡ false
  pub free : is_filled above (address_below above) (size_of l.statement) ≡ false

placed_by : (above : List SourceLine) (l m : SourceLine) (t u : Bool) (e f : SourceFault)
    → is_outside above l ≡ t
    → is_filled above (address_below above) (size_of l.statement) ≡ u
    → cond {A = Result SourceLine SourceFault} t (Err e) (cond u (Err f) (Ok l)) ≡ Ok m
    → Placement above l m
placed_by above l m true u e f g h d = cc
placed_by above l m false true e f g h d = cc
placed_by above l m false false e f g h d = record { same = same l m d; outside = g; free = h }

first_of : (b c : Bool) → (b || c) ≡ false → b ≡ false
first_of true c e = cc
first_of false c e = refl

second_of : (b c : Bool) → (b || c) ≡ false → c ≡ false
second_of true c e = cc
second_of false c e = e

placed_is : (above : List SourceLine) (l m : SourceLine) → line_in_place above l ≡ Ok m
    → Placement above l m
unfolding line_in_place
placed_is above l m e =
    placed_by above l m (is_outside above l)
    (is_filled above (address_below above) (size_of l.statement)) _ _ refl refl e

at_most : (low high : ℕ) → nat_lt low high ≡ false → high ≤ low
at_most low high e = grind (arith, nat_tests, e)

lawful_line : (above : List SourceLine) (l m : SourceLine) → IsStatement l.statement
    → Placement above l m
    → HasPlace above l
lawful_line above l m s p =
    let o = p.outside in
    record {
      statement = s;
      within =
          at_most (2 ^ 32) (address_below above + 4 * size_of l.statement)
          (first_of _ _ (first_of _ _ (first_of _ _ o)));
      words = at_most 4194304 (count_words (l ∷ above)) (second_of _ _ (first_of _ _ o));
      segments = at_most 1024 (segments_in (l ∷ above)) (second_of _ _ o);
      free = p.free;
    }

pub line_is : (above : List SourceLine) (ts : List Placed) (l : SourceLine)
    → line_of above ts ≡ Ok l
    → Lawful above → Lawful (l ∷ above)
unfolding line_of
line_is above ts l e h =
    let a = bound (sound ts) _ l e in
    let b = bound (new_label above (label_of ts).0) _ l a.gives in
    let c = bound (statement (past_of ts) (label_of ts).1) _ l b.gives in
    let r : SourceLine = record
    { label = (label_of ts).0; statement = c.x; column = line_column ts (label_of ts).1 } in
    let p = placed_is above r l c.gives in
    subst (λ (m : SourceLine). Lawful (m ∷ above)) p.same
    (lawful_line above r l (statement_is _ _ c.x c.read) p, h)

pub read_is : (above : List SourceLine) (texts : List (List ℕ)) (all : List SourceLine)
    → read_lines above texts ≡ Ok all → Lawful above → Lawful all
unfolding read_lines
read_is above [] all e h = subst Lawful (same above all e) h
read_is above (t ∷ texts) all e h =
    let b = bound (on_line (1 + length above) (line_of above (tokens t))) _ all e in
    read_is (b.x ∷ above) texts all b.gives
    (line_is above (tokens t) b.x
    (off (1 + length above) b.x (line_of above (tokens t)) b.read) h)
  where
    off : (n : ℕ) (x : SourceLine) (r : Result SourceLine SourceFault) → on_line n r ≡ Ok x → r ≡ Ok x
    off n x (Ok y) d = cc
    off n x (Err f) d = cc

-- each line is read
pub read_count : (above : List SourceLine) (texts : List (List ℕ)) (all : List SourceLine)
    → read_lines above texts ≡ Ok all → length all ≡ length above + length texts
unfolding read_lines
read_count above [] all e =
    let same_count = ap length (same above all e) in omega (arith, same_count)
read_count above (t ∷ texts) all e =
    let b = bound (on_line (1 + length above) (line_of above (tokens t))) _ all e in
    let more = read_count (b.x ∷ above) texts all b.gives in
    omega (arith, more)

-- the numbers of the parts have room
field_small : (symbols : List (List ℕ × ℕ)) (at : ℕ) (o : Operand) (p : Part) (n : ℕ) → IsPart o p
    → field_of symbols at p ≡ Ok n → n < 2 ^ width_of o
unfolding field_of
field_small symbols at o (Field k) n h e = let q = same k n e in omega (arith, q, h)
field_small symbols at o (BranchTo v) n h e =
    let b = bound (word_address symbols v) _ n e in
    by (nat_lt (distance at b.x) 0x20000 || nat_le 0xfffe0000 (distance at b.x))
    (distance at b.x) _ b.gives
  where
    by : (t : Bool) (d : ℕ) (f : SourceFault)
        → cond {A = Result ℕ SourceFault} t (Ok (d / 4 % 2 ^ 16)) (Err f) ≡ Ok n → n < 2 ^ width_of o
    by true d f g = let q = same (d / 4 % 2 ^ 16) n g in omega (arith, q, h)
    by false d f g = cc
field_small symbols at o (JumpTo v) n h e =
    let b = bound (word_address symbols v) _ n e in
    by (b.x / 2 ^ 28 == (at + 4) % 2 ^ 32 / 2 ^ 28) b.x _ b.gives
  where
    by : (t : Bool) (d : ℕ) (f : SourceFault)
        → cond {A = Result ℕ SourceFault} t (Ok (d / 4 % 2 ^ 26)) (Err f) ≡ Ok n → n < 2 ^ width_of o
    by true d f g = let q = same (d / 4 % 2 ^ 26) n g in omega (arith, q, h)
    by false d f g = cc

pub fields_are : (symbols : List (List ℕ × ℕ)) (at : ℕ) (os : List Operand) (ps : List Part)
    (ns : List ℕ) → AreParts os ps → each (field_of symbols at) ps ≡ Ok ns → AreOperands os ns
fields_are symbols at [] [] ns h e = subst (AreOperands []) (same [] ns e) tt
fields_are symbols at [] (p ∷ ps) ns h e = absurd h
fields_are symbols at (o ∷ os) [] ns h e = absurd h
fields_are symbols at (o ∷ os) (p ∷ ps) ns (h, hs) e =
    let a = bound (field_of symbols at p) _ ns e in
    let b = bound (each (field_of symbols at) ps) _ ns a.gives in
    subst (AreOperands (o ∷ os)) (same (a.x ∷ b.x) ns b.gives)
    (field_small symbols at o p a.x h a.read, fields_are symbols at os ps b.x hs b.read)
