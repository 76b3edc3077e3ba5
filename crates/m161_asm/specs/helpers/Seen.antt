use Rattle.m161_asm.specs.declared.error.AsmError.{AsmError}
use Rattle.m161_asm.specs.declared.error.ErrorKind.TheVariants as faults
use Rattle.std.specs.Prelude.{◌≡◌, ◌⊎◌, ℕ, List, map, Option, option_map, ◌++◌, Result, Ok, Err, reverse}
use Rattle.std.proofs.Common.{Bor}
use Rattle.m161_asm.specs.declared.statement.SourceFault.{SourceFault as CodeFault}
use Rattle.m161_asm.specs.declared.statement.Whole.{Whole as CodeWhole}
use Rattle.m161_asm.specs.declared.statement.Value.{Value as CodeValue}
use Rattle.m161_asm.specs.declared.statement.Part.{Part as CodePart}
use Rattle.m161_asm.specs.declared.statement.Part.TheVariants as part
use Rattle.m161_asm.specs.declared.statement.Reach.TheVariants as reach
use Rattle.m161_asm.specs.declared.statement.ReadError.{ReadError}
use Rattle.m161_asm.specs.declared.statement.ReadError.TheVariants as errors
use Rattle.m161_asm.specs.declared.statement.Statement.{Statement as CodeStatement}
use Rattle.m161_asm.specs.declared.statement.Statement.TheVariants as statement
use Rattle.m161_asm.specs.declared.statement.Label.{Label as CodeLabel}
use Rattle.m161_asm.specs.declared.statement.Line.{Line as CodeLine}
use Rattle.m161_asm.specs.Lines.{◌>>=◌, SourceFault, Whole, Value, Part, Field, BranchTo, JumpTo, Statement, Origin, Space, Entry, Words, Code, Label, SourceLine}
use Rattle.m161_asm.specs.Lines as lines
use Rattle.m161_asm.specs.declared.token.Token.{Token as CodeToken}
use Rattle.m161_asm.specs.declared.token.Token.TheVariants as code
use Rattle.m161_asm.specs.declared.token.Placed.{Placed as CodePlaced}
use Rattle.m161_asm.specs.declared.token.Beginning.{Beginning as CodeBeginning}
use Rattle.m161_asm.specs.declared.token.Beginning.TheVariants as begin
use Rattle.m161_asm.specs.Tokens.{Beginning, Nothing, AName, ANumber, ARegister, ADirective, AMark, NoToken, Token, Name, Directive, Register, Number, Mark, Bad, Placed}

-- The code's tokens, without the places of their bytes in memory.

abbrev pub token_seen : CodeToken → Token
token_seen (code.Name text) = Name text.now
token_seen (code.Directive letters) = Directive letters.now
token_seen (code.Register n) = Register n
token_seen (code.Number n) = Number n
token_seen (code.Mark b) = Mark b
token_seen code.Bad = Bad

abbrev pub placed_seen : CodePlaced → Placed
placed_seen t = (token_seen t.token, t.column, t.past)

abbrev pub all_seen : List CodePlaced → List Placed
all_seen ts = map placed_seen ts

abbrev pub lexeme_seen : Option CodeToken × ℕ → Option Token × ℕ
lexeme_seen l = (option_map token_seen l.0, l.1)

abbrev pub beginning_seen : CodeBeginning → Beginning
beginning_seen begin.Nothing = Nothing
beginning_seen begin.Name = AName
beginning_seen begin.Number = ANumber
beginning_seen begin.Register = ARegister
beginning_seen begin.Directive = ADirective
beginning_seen begin.Mark = AMark
beginning_seen begin.NoToken = NoToken

-- A value that was read, and the tokens after it.

abbrev pub fault_seen : CodeFault → SourceFault
fault_seen f = (f.kind, f.column)

-- a reader's result, seen by `view`, is that of the definition
abbrev pub Gives : {X Y : Type 0} → (X → Y) → Result X CodeFault → Result Y SourceFault → Type 0
Gives view (Ok x) read = read ≡ Ok (view x)
Gives view (Err f) read = read ≡ Err (fault_seen f)

abbrev pub rest_seen : Bor (List CodePlaced) → List Placed
rest_seen ts = all_seen ts.now

abbrev pub number_seen : ℕ × Bor (List CodePlaced) → ℕ × List Placed
number_seen x = (x.0, all_seen x.1.now)

abbrev pub whole_seen : CodeWhole → Whole
whole_seen n = (n.up, n.down)

abbrev pub whole_read : CodeWhole × Bor (List CodePlaced) → Whole × List Placed
whole_read x = (whole_seen x.0, all_seen x.1.now)

abbrev pub value_seen : CodeValue → Value
value_seen v = record {
  label = option_map (λ (t : Bor (List ℕ)). t.now) v.label;
  number = whole_seen v.number;
  column = v.column;
}

abbrev pub value_read : CodeValue × Bor (List CodePlaced) → Value × List Placed
value_read x = (value_seen x.0, all_seen x.1.now)

abbrev pub part_seen : CodePart → Part
part_seen (part.Field n) = Field n
part_seen (part.Target reach.Branch v) = BranchTo (value_seen v)
part_seen (part.Target reach.Jump v) = JumpTo (value_seen v)

abbrev pub part_read : CodePart × Bor (List CodePlaced) → Part × List Placed
part_read x = (part_seen x.0, all_seen x.1.now)

-- the values that are read, after those that exist already
abbrev pub with_front : {Y : Type 0} → List Y → Result (List Y) SourceFault → Result (List Y) SourceFault
with_front front read = read >>= λ ys. Ok (front ++ ys)

-- a reader that adds its values to a list, unless memory is refused
abbrev pub Adds : {X Y : Type 0} → (X → Y) → Result (Unit {0}) ReadError → List X → List X
    → Result (List Y) SourceFault → Type 0
Adds view (Ok u) old new read = with_front (map view old) read ≡ Ok (map view new)
Adds view (Err errors.Memory) old new read = Unit {0}
Adds view (Err (errors.Fault f)) old new read = with_front (map view old) read ≡ Err (fault_seen f)

-- the same of a reader that makes a new list
abbrev pub Yields : {X Y : Type 0} → (X → Y) → Result X ReadError → Result Y SourceFault → Type 0
Yields view (Ok x) read = read ≡ Ok (view x)
Yields view (Err errors.Memory) read = Unit {0}
Yields view (Err (errors.Fault f)) read = read ≡ Err (fault_seen f)

-- Statements and lines.

abbrev pub statement_seen : CodeStatement → Statement
statement_seen statement.Nothing = lines.Nothing
statement_seen (statement.Origin n) = Origin n
statement_seen (statement.Space n) = Space n
statement_seen (statement.Entry v) = Entry (value_seen v)
statement_seen (statement.Words vs) = Words (map value_seen vs.items)
statement_seen (statement.Code r ps) = Code r.now (map part_seen ps.items)

abbrev pub label_seen : Option CodeLabel → Label
label_seen l = option_map (λ (x : CodeLabel). (x.name.now, x.column)) l

abbrev pub label_read : Option CodeLabel × Bor (List CodePlaced) → Label × List Placed
label_read x = (label_seen x.0, all_seen x.1.now)

abbrev pub line_seen : CodeLine → SourceLine
line_seen l = record {
  label = label_seen l.label;
  statement = statement_seen l.statement;
  column = l.column;
}

-- the lines above, nearest first
abbrev pub above_of : List CodeLine → List SourceLine
above_of ls = reverse (map line_seen ls)

-- Errors.

-- an error of a line: memory was refused, or the line's fault
abbrev pub TellsFault : AsmError → ℕ → ReadError → Type 0
TellsFault e line errors.Memory = (e.kind ≡ faults.NoMemory) × (e.column ≡ 1)
TellsFault e line (errors.Fault f) = (e.line ≡ line) × (e.column ≡ f.column) × (e.kind ≡ f.kind)

-- one line further the definition is the same, or the error is reported
abbrev pub GoesOn : {Y : Type 0} → Result (Unit {0}) AsmError → Result Y (ℕ × SourceFault)
    → Result Y (ℕ × SourceFault) → Type 0
GoesOn (Ok u) before after = before ≡ after
GoesOn (Err e) before after =
    ((e.kind ≡ faults.NoMemory) × (e.column ≡ 1)) ⊎ (before ≡ Err (e.line, (e.kind, e.column)))

-- a reader of numbers that adds them to a list
abbrev pub AddsNumbers :
    Result (Unit {0}) ReadError → List ℕ → List ℕ → Result (List ℕ) SourceFault → Type 0
AddsNumbers (Ok u) old new read = with_front old read ≡ Ok new
AddsNumbers (Err errors.Memory) old new read = Unit {0}
AddsNumbers (Err (errors.Fault f)) old new read = read ≡ Err (fault_seen f)
