use Rattle.std.specs.Prelude.{◌≡◌, ◌≢◌, ◌⊎◌, ℕ, ◌+◌, ◌-◌, ◌^◌, ◌<◌, ◌≤◌, ◌==◌, if◌then◌else◌, List, [], ◌∷◌, ◌++◌, Option, None, Some, Result, Ok, Err, codes, decimal, length, min, get_or}
use Rattle.std.specs.List.{AllByRecursion}
use Rattle.std.specs.Str.Parse.{IsNumeral, digits_value}
use Rattle.m161_machine.specs.declared.event.Event.{Event}
use Rattle.m161_machine.specs.declared.event.Event.TheVariants as events
use Rattle.m161_symbols.specs.Names.{value_in}
use Rattle.m161_text.specs.Parts.{◌␣◌, IsByte, IsWord, Lacks, hex_text}
use Rattle.m161_debug.specs.declared.command.Area.{Area}
use Rattle.m161_debug.specs.declared.command.Area.TheVariants.{Memory, Code}
use Rattle.m161_debug.specs.declared.command.Change.{Change}
use Rattle.m161_debug.specs.declared.command.Change.TheVariants.{Set, Delete}
use Rattle.m161_debug.specs.declared.command.Command.{Command}
use Rattle.m161_debug.specs.declared.command.Command.TheVariants.{At, Breakpoint, Make, Steps, Go, GoFirst, Until, Show, Register, Where, Words, Fetched, Log}
use Rattle.m161_debug.specs.declared.command.CommandError.{CommandError}
use Rattle.m161_debug.specs.declared.command.CommandError.TheVariants.{Unknown, BadArgument, BadProcessor, TooMany, NoMemory}
use Rattle.m161_debug.specs.declared.command.Display.{Display}
use Rattle.m161_debug.specs.declared.command.Display.TheVariants.{Regs, Cop0, Tlb}
use Rattle.m161_debug.specs.declared.condition.Condition.{Condition}
use Rattle.m161_debug.specs.declared.condition.Condition.TheVariants as conditions

-- The lines of commands.

-- the words of commands
abbrev pub command_words : List (List ℕ)
command_words =
    codes "b" ∷ codes "d" ∷ codes "s" ∷ codes "k" ∷ codes "o" ∷ codes "g" ∷ codes "r" ∷ codes "c"
    ∷ codes "t"
    ∷ codes "m" ∷ codes "x" ∷ codes "l" ∷ codes "u" ∷ codes "w" ∷ codes "a" ∷ []

abbrev pub change_word : Change → List ℕ
change_word Set = codes "b"
change_word Delete = codes "d"

abbrev pub event_word : Event → List ℕ
event_word (events.Step p) = codes "s"
event_word (events.Key byte) = codes "k"
event_word events.Done = codes "o"

abbrev pub display_word : Display → List ℕ
display_word Regs = codes "r"
display_word Cop0 = codes "c"
display_word Tlb = codes "t"

abbrev pub area_word : Area → List ℕ
area_word Memory = codes "m"
area_word Code = codes "x"

abbrev pub word_of : Command → List ℕ
word_of (Breakpoint change p address) = change_word change
word_of (Make event) = event_word event
word_of (Steps p n) = codes "s"
word_of Go = codes "g"
word_of (GoFirst n) = codes "g"
word_of (Until condition) = codes "u"
word_of (Show display p) = display_word display
word_of (Register p r) = codes "r"
word_of Where = codes "w"
word_of (Words area address n) = area_word area
word_of (Fetched address n p) = codes "x"
word_of (Log n) = codes "l"
word_of At = codes "a"

-- The arguments.

-- a decimal number of 32 bits, without leading zeros
abbrev pub IsNumber : ℕ → List ℕ → Type 0
IsNumber n text = IsWord n × (text ≡ decimal n)

-- two lower case hexadecimal digits
abbrev pub IsByteText : ℕ → List ℕ → Type 0
IsByteText byte text = IsByte byte × (text ≡ hex_text 2 byte)

-- k lower case hexadecimal digits, behind 0x or not
abbrev pub IsHex : ℕ → ℕ → List ℕ → Type 0
IsHex k n text = (text ≡ hex_text k n) ⊎ (text ≡ codes "0x" ++ hex_text k n)

-- an address: 1 to 8 such digits
abbrev pub IsAddress : ℕ → List ℕ → Type 0
IsAddress address text = (k : ℕ) × (1 ≤ k) × (k ≤ 8) × (address < 16 ^ k) × IsHex k address text

-- a name: a word without a space that is no address
abbrev pub IsName : List ℕ → Type 0
IsName text = Lacks 32 text × ((address : ℕ) → IsAddress address text → ⊥)

-- so many bytes behind a symbol: its name, +, and how many, written as an address is
pub record IsBehind (symbols : List (List ℕ × ℕ)) (address : ℕ) (text : List ℕ) : Type 0 where
  pub name : List ℕ
  pub distance : List ℕ
  pub value : ℕ
  pub bytes : ℕ
  pub text_is : text ≡ name ++ 43 ∷ distance
  pub value_is : value_in symbols name ≡ Some value
  pub distance_is : IsAddress bytes distance
  pub address_is : address ≡ value + bytes
  pub fits : address < 2 ^ 32

-- the address of a symbol, or so many bytes behind one where no symbol has the whole word as its
-- name
abbrev pub IsNamed : List (List ℕ × ℕ) → ℕ → List ℕ → Type 0
IsNamed symbols address text =
    (value_in symbols text ≡ Some address)
    ⊎ ((value_in symbols text ≡ None) × IsBehind symbols address text)

-- an address, or a name for one
abbrev pub IsPlace : List (List ℕ × ℕ) → ℕ → List ℕ → Type 0
IsPlace symbols address text =
    IsAddress address text ⊎ (IsName text × IsNamed symbols address text)

-- a decimal number of any size, without leading zeros
abbrev pub IsDecimal : List ℕ → Type 0
IsDecimal digits = IsNumeral 10 digits × (get_or digits 0 0 ≡ 48 → length digits ≡ 1)

-- how many events a number asks for: one too large for a list is read as 2^64 - 1
abbrev pub count_of : List ℕ → ℕ
count_of digits = min (digits_value 10 digits) (2 ^ 64 - 1)

abbrev pub IsCount : ℕ → List ℕ → Type 0
IsCount n text = IsDecimal text × (n ≡ count_of text)

-- two parts of a text, with one space between
abbrev pub AreParts :
    {X Y : Type 0} → (X → List ℕ → Type 0) → (Y → List ℕ → Type 0) → X × Y → List ℕ → Type 0
AreParts Says Tells values text =
    (a : List ℕ) × (b : List ℕ) × Says values.0 a × Tells values.1 b × (text ≡ a ␣ b)

abbrev pub AreNumbers : ℕ × ℕ → List ℕ → Type 0
AreNumbers numbers text = AreParts IsNumber IsNumber numbers text

-- the part of a text before the first space
abbrev pub first_word : List ℕ → List ℕ
first_word [] = []
first_word (b ∷ bs) = if b == 32 then [] else b ∷ first_word bs

-- and the part behind it, if there is a space
abbrev pub arguments_of : List ℕ → Option (List ℕ)
arguments_of [] = None
arguments_of (b ∷ bs) = if b == 32 then Some bs else arguments_of bs

-- what a run waits for: the first letter, and the arguments

abbrev pub condition_word : Condition → List ℕ
condition_word (conditions.Memory address) = codes "m"
condition_word (conditions.Trap p) = codes "t"
condition_word (conditions.Register p r) = codes "r"
condition_word (conditions.Row p i) = codes "i"
condition_word conditions.Output = codes "o"

abbrev pub IsConditionWith : List (List ℕ × ℕ) → Condition → Option (List ℕ) → Type 0
IsConditionWith symbols (conditions.Memory address) None = ⊥
IsConditionWith symbols (conditions.Memory address) (Some text) = IsPlace symbols address text
IsConditionWith symbols (conditions.Trap p) None = ⊥
IsConditionWith symbols (conditions.Trap p) (Some text) = IsNumber p text
IsConditionWith symbols (conditions.Register p r) None = ⊥
IsConditionWith symbols (conditions.Register p r) (Some text) = AreNumbers (p, r) text
IsConditionWith symbols (conditions.Row p i) None = ⊥
IsConditionWith symbols (conditions.Row p i) (Some text) = AreNumbers (p, i) text
IsConditionWith symbols conditions.Output None = Unit {0}
IsConditionWith symbols conditions.Output (Some text) = ⊥

abbrev pub IsConditionOf : List (List ℕ × ℕ) → List ℕ → Option (List ℕ) → Condition → Type 0
IsConditionOf symbols word arguments condition =
    (condition_word condition ≡ word) × IsConditionWith symbols condition arguments

abbrev pub IsCondition : List (List ℕ × ℕ) → Condition → List ℕ → Type 0
IsCondition symbols condition text =
    IsConditionOf symbols (first_word text) (arguments_of text) condition

-- commands without arguments
abbrev pub StandsAlone : Command → Type 0
StandsAlone (Breakpoint change p address) = ⊥
StandsAlone (Make (events.Step p)) = ⊥
StandsAlone (Make (events.Key byte)) = ⊥
StandsAlone (Make events.Done) = Unit {0}
StandsAlone (Steps p n) = ⊥
StandsAlone Go = Unit {0}
StandsAlone (GoFirst n) = ⊥
StandsAlone (Until condition) = ⊥
StandsAlone (Show display p) = ⊥
StandsAlone (Register p r) = ⊥
StandsAlone Where = Unit {0}
StandsAlone (Words area address n) = ⊥
StandsAlone (Fetched address n p) = ⊥
StandsAlone (Log n) = ⊥
StandsAlone At = Unit {0}

-- and with these
abbrev pub HasArguments : List (List ℕ × ℕ) → Command → List ℕ → Type 0
HasArguments symbols (Breakpoint change p address) text = AreParts IsNumber (IsPlace symbols) (p, address) text
HasArguments symbols (Make (events.Step p)) text = IsNumber p text
HasArguments symbols (Make (events.Key byte)) text = IsByteText byte text
HasArguments symbols (Make events.Done) text = ⊥
HasArguments symbols (Steps p n) text = AreNumbers (p, n) text
HasArguments symbols Go text = ⊥
HasArguments symbols (GoFirst n) text = IsCount n text
HasArguments symbols (Until condition) text = IsCondition symbols condition text
HasArguments symbols (Show display p) text = IsNumber p text
HasArguments symbols (Register p r) text = AreNumbers (p, r) text
HasArguments symbols Where text = ⊥
HasArguments symbols (Words area address n) text = AreParts (IsPlace symbols) IsNumber (address, n) text
HasArguments symbols (Fetched address n p) text = AreParts (IsPlace symbols) AreNumbers (address, (n, p)) text
HasArguments symbols (Log n) text = IsNumber n text
HasArguments symbols At text = ⊥

abbrev pub IsCommandWith : List (List ℕ × ℕ) → Command → Option (List ℕ) → Type 0
IsCommandWith symbols command None = StandsAlone command
IsCommandWith symbols command (Some text) = HasArguments symbols command text

-- a word with these arguments, if any, is this command
abbrev pub IsCommandOf : List (List ℕ × ℕ) → List ℕ → Option (List ℕ) → Command → Type 0
IsCommandOf symbols word arguments command =
    (word_of command ≡ word) × IsCommandWith symbols command arguments

-- a word is none of the commands'
abbrev pub IsNoWord : List ℕ → Type 0
IsNoWord word = AllByRecursion (λ w. word ≢ w) command_words

-- what a word with these arguments asks for: a command; or the word is unknown; or it is known, but
-- no command has it with these arguments
abbrev pub IsAskedOf :
    List (List ℕ × ℕ) → List ℕ → Option (List ℕ) → Result Command CommandError → Type 0
IsAskedOf symbols word arguments (Ok command) = IsCommandOf symbols word arguments command
IsAskedOf symbols word arguments (Err Unknown) = IsNoWord word
IsAskedOf symbols word arguments (Err BadArgument) =
    (IsNoWord word → ⊥) × ((command : Command) → IsCommandOf symbols word arguments command → ⊥)
IsAskedOf symbols word arguments (Err BadProcessor) = ⊥
IsAskedOf symbols word arguments (Err TooMany) = ⊥
IsAskedOf symbols word arguments (Err NoMemory) = ⊥

-- what a line asks for, where addresses may have these names: its first word, and behind one space
-- its arguments, if it has any
abbrev pub IsAsked : List (List ℕ × ℕ) → List ℕ → Result Command CommandError → Type 0
IsAsked symbols line asked = IsAskedOf symbols (first_word line) (arguments_of line) asked

-- the names that errors are printed by
abbrev pub name_of_error : CommandError → List ℕ
name_of_error Unknown = codes "Unknown"
name_of_error BadArgument = codes "BadArgument"
name_of_error BadProcessor = codes "BadProcessor"
name_of_error TooMany = codes "TooMany"
name_of_error NoMemory = codes "NoMemory"
