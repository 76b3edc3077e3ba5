-- What a line asks for.
use Rattle.std.proofs.Common.{◌≡◌, ◌∙◌, ℕ, List, [], ◌∷◌, refl, sym, ap, subst, arith, codes, get_or, ne_eqb, Option, None, Some, Result, Err}
use Rattle.m161_text.specs.Parts.{◌␣◌, Lacks}
use Rattle.m161_text.proofs.Parts.{rest_lacks}
use Rattle.m161_machine.specs.declared.event.Event.TheVariants as events
use Rattle.m161_debug.specs.declared.command.Area.TheVariants.{Memory, Code}
use Rattle.m161_debug.specs.declared.command.Change.{Change}
use Rattle.m161_debug.specs.declared.command.Change.TheVariants.{Set, Delete}
use Rattle.m161_debug.specs.declared.command.Command.{Command}
use Rattle.m161_debug.specs.declared.command.Command.TheVariants.{At, Breakpoint, Make, Steps, Go, GoFirst, Until, Show, Register, Where, Words, Fetched, Log}
use Rattle.m161_debug.specs.declared.command.CommandError.{CommandError}
use Rattle.m161_debug.specs.declared.command.CommandError.TheVariants.{BadArgument}
use Rattle.m161_debug.specs.declared.command.Display.TheVariants.{Regs, Cop0, Tlb}
use Rattle.m161_debug.specs.declared.condition.Condition.{Condition}
use Rattle.m161_debug.specs.declared.condition.Condition.TheVariants as conditions
use Rattle.m161_debug.specs.Commands.{arguments_of, change_word, condition_word, first_word, word_of, AreNumbers, AreParts, HasArguments, IsAsked, IsAskedOf, IsCondition, IsConditionOf, IsConditionWith, IsNumber, IsPlace}
use Rattle.m161_debug.specs.helpers.Reading.{Finds}

first_word_alone : (line : List ℕ) → Lacks 32 line → first_word line ≡ line
first_word_alone [] lacks = refl
first_word_alone (b ∷ bs) lacks = rw (ne_eqb b 32 (lacks 0 (omega arith))) (ap (λ l. b ∷ l) (first_word_alone bs (rest_lacks 32 b bs lacks)))

first_word_cut : (word rest : List ℕ) → Lacks 32 word → first_word (word ␣ rest) ≡ word
first_word_cut [] rest lacks = refl
first_word_cut (b ∷ bs) rest lacks = rw (ne_eqb b 32 (lacks 0 (omega arith))) (ap (λ l. b ∷ l) (first_word_cut bs rest (rest_lacks 32 b bs lacks)))

arguments_alone : (line : List ℕ) → Lacks 32 line → arguments_of line ≡ None
arguments_alone [] lacks = refl
arguments_alone (b ∷ bs) lacks = rw (ne_eqb b 32 (lacks 0 (omega arith))) (arguments_alone bs (rest_lacks 32 b bs lacks))

arguments_cut : (word rest : List ℕ) → Lacks 32 word → arguments_of (word ␣ rest) ≡ Some rest
arguments_cut [] rest lacks = refl
arguments_cut (b ∷ bs) rest lacks = rw (ne_eqb b 32 (lacks 0 (omega arith))) (arguments_cut bs rest (rest_lacks 32 b bs lacks))

-- a relation of a line's word and arguments
cut_is : (P : List ℕ → Option (List ℕ) → Type 0) (line word rest : List ℕ) → Lacks 32 word × (line ≡ word ␣ rest) → P word (Some rest) → P (first_word line) (arguments_of line)
cut_is P line word rest cut p =
    subst (λ l. P (first_word l) (arguments_of l)) (sym cut.1)
    (subst (λ w. P w (arguments_of (word ␣ rest))) (sym (first_word_cut word rest cut.0)) (subst (λ a. P word a) (sym (arguments_cut word rest cut.0)) p))

alone_is : (P : List ℕ → Option (List ℕ) → Type 0) (line : List ℕ) → Lacks 32 line → P line None → P (first_word line) (arguments_of line)
alone_is P line lacks p = subst (λ w. P w (arguments_of line)) (sym (first_word_alone line lacks)) (subst (λ a. P line a) (sym (arguments_alone line lacks)) p)

pub asked_cut : (symbols : List (List ℕ × ℕ)) (line word rest : List ℕ) (r : Result Command CommandError) → Lacks 32 word × (line ≡ word ␣ rest) → IsAskedOf symbols word (Some rest) r → IsAsked symbols line r
asked_cut symbols line word rest r cut asked = cut_is (λ w a. IsAskedOf symbols w a r) line word rest cut asked

pub asked_alone : (symbols : List (List ℕ × ℕ)) (line : List ℕ) (r : Result Command CommandError) → Lacks 32 line → IsAskedOf symbols line None r → IsAsked symbols line r
asked_alone symbols line r lacks asked = alone_is (λ w a. IsAskedOf symbols w a r) line lacks asked

-- the same of a condition

both_sides : {Says Tells : Condition → List ℕ → Type 0} {a b : List ℕ} (r : Option Condition) → ((c : Condition) → Says c a → Tells c b) → ((c : Condition) → Tells c b → Says c a)
    → Finds Says a r → Finds Tells b r
both_sides None there back finds = record { found = tt; none = λ c t. finds.none c (back c t) }
both_sides (Some c) there back finds = record { found = there c finds.found; none = tt }

back_cut : (symbols : List (List ℕ × ℕ)) (line word rest : List ℕ) → Lacks 32 word × (line ≡ word ␣ rest) → (c : Condition) → IsCondition symbols c line → IsConditionOf symbols word (Some rest) c
back_cut symbols line word rest cut c is =
    subst (λ a. IsConditionOf symbols word a c) (arguments_cut word rest cut.0)
    (subst (λ w. IsConditionOf symbols w (arguments_of (word ␣ rest)) c) (first_word_cut word rest cut.0) (subst (λ l. IsCondition symbols c l) cut.1 is))

back_alone : (symbols : List (List ℕ × ℕ)) (line : List ℕ) → Lacks 32 line → (c : Condition) → IsCondition symbols c line → IsConditionOf symbols line None c
back_alone symbols line lacks c is = subst (λ a. IsConditionOf symbols line a c) (arguments_alone line lacks) (subst (λ w. IsConditionOf symbols w (arguments_of line) c) (first_word_alone line lacks) is)

pub condition_cut : (symbols : List (List ℕ × ℕ)) (line word rest : List ℕ) (r : Option Condition) → Lacks 32 word × (line ≡ word ␣ rest)
    → Finds (λ c text. IsConditionOf symbols word (Some text) c) rest r → Finds (IsCondition symbols) line r
condition_cut symbols line word rest r cut finds =
    both_sides r (λ c is. cut_is (λ w a. IsConditionOf symbols w a c) line word rest cut is) (back_cut symbols line word rest cut) finds

pub condition_alone : (symbols : List (List ℕ × ℕ)) (line : List ℕ) (r : Option Condition) → Lacks 32 line → Finds (λ c text. IsConditionOf symbols line None c) line r → Finds (IsCondition symbols) line r
condition_alone symbols line r lacks finds = both_sides r (λ c is. alone_is (λ w a. IsConditionOf symbols w a c) line lacks is) (back_alone symbols line lacks) finds

-- `s` with what is neither a processor nor a processor and a number
pub no_steps : (symbols : List (List ℕ × ℕ)) (text : List ℕ) → Finds IsNumber text None → Finds AreNumbers text None → IsAskedOf symbols (codes "s") (Some text) (Err BadArgument)
no_steps symbols text one two = (λ unknown. unknown.1.1.0 refl, λ command is. by command is.0 is.1)
  where
    by : (command : Command) → word_of command ≡ codes "s" → HasArguments symbols command text → ⊥
    by (Breakpoint Set p address) word is = omega (arith, ap (λ ds. get_or ds 0 0) word)
    by (Breakpoint Delete p address) word is = omega (arith, ap (λ ds. get_or ds 0 0) word)
    by (Make (events.Step p)) word is = one.none p is
    by (Make (events.Key byte)) word is = omega (arith, ap (λ ds. get_or ds 0 0) word)
    by (Make events.Done) word is = absurd is
    by (Steps p n) word is = two.none (p, n) is
    by Go word is = absurd is
    by (GoFirst n) word is = omega (arith, ap (λ ds. get_or ds 0 0) word)
    by (Until condition) word is = omega (arith, ap (λ ds. get_or ds 0 0) word)
    by (Show Regs p) word is = omega (arith, ap (λ ds. get_or ds 0 0) word)
    by (Show Cop0 p) word is = omega (arith, ap (λ ds. get_or ds 0 0) word)
    by (Show Tlb p) word is = omega (arith, ap (λ ds. get_or ds 0 0) word)
    by (Register p r) word is = omega (arith, ap (λ ds. get_or ds 0 0) word)
    by Where word is = absurd is
    by (Words Memory address n) word is = omega (arith, ap (λ ds. get_or ds 0 0) word)
    by (Words Code address n) word is = omega (arith, ap (λ ds. get_or ds 0 0) word)
    by (Fetched address n p) word is = omega (arith, ap (λ ds. get_or ds 0 0) word)
    by (Log n) word is = omega (arith, ap (λ ds. get_or ds 0 0) word)
    by At word is = absurd is

-- and `r`, with what is neither a processor nor a processor and a number
pub no_registers : (symbols : List (List ℕ × ℕ)) (text : List ℕ) → Finds IsNumber text None → Finds AreNumbers text None → IsAskedOf symbols (codes "r") (Some text) (Err BadArgument)
no_registers symbols text one two = (λ unknown. unknown.1.1.1.1.1.1.0 refl, λ command is. by command is.0 is.1)
  where
    by : (command : Command) → word_of command ≡ codes "r" → HasArguments symbols command text → ⊥
    by (Breakpoint Set p address) word is = omega (arith, ap (λ ds. get_or ds 0 0) word)
    by (Breakpoint Delete p address) word is = omega (arith, ap (λ ds. get_or ds 0 0) word)
    by (Make (events.Step p)) word is = omega (arith, ap (λ ds. get_or ds 0 0) word)
    by (Make (events.Key byte)) word is = omega (arith, ap (λ ds. get_or ds 0 0) word)
    by (Make events.Done) word is = absurd is
    by (Steps p n) word is = omega (arith, ap (λ ds. get_or ds 0 0) word)
    by Go word is = absurd is
    by (GoFirst n) word is = omega (arith, ap (λ ds. get_or ds 0 0) word)
    by (Until condition) word is = omega (arith, ap (λ ds. get_or ds 0 0) word)
    by (Show Regs p) word is = one.none p is
    by (Show Cop0 p) word is = omega (arith, ap (λ ds. get_or ds 0 0) word)
    by (Show Tlb p) word is = omega (arith, ap (λ ds. get_or ds 0 0) word)
    by (Register p r) word is = two.none (p, r) is
    by Where word is = absurd is
    by (Words Memory address n) word is = omega (arith, ap (λ ds. get_or ds 0 0) word)
    by (Words Code address n) word is = omega (arith, ap (λ ds. get_or ds 0 0) word)
    by (Fetched address n p) word is = omega (arith, ap (λ ds. get_or ds 0 0) word)
    by (Log n) word is = omega (arith, ap (λ ds. get_or ds 0 0) word)
    by At word is = absurd is

-- `b` with what is no processor and address
pub no_break : (symbols : List (List ℕ × ℕ)) (text : List ℕ) → Finds (AreParts IsNumber (IsPlace symbols)) text None → IsAskedOf symbols (codes "b") (Some text) (Err BadArgument)
no_break symbols text none = (λ unknown. unknown.0 refl, λ command is. by command is.0 is.1)
  where
    by : (command : Command) → word_of command ≡ codes "b" → HasArguments symbols command text → ⊥
    by (Breakpoint Set p address) word is = none.none (p, address) is
    by (Breakpoint Delete p address) word is = omega (arith, ap (λ ds. get_or ds 0 0) word)
    by (Make (events.Step p)) word is = omega (arith, ap (λ ds. get_or ds 0 0) word)
    by (Make (events.Key byte)) word is = omega (arith, ap (λ ds. get_or ds 0 0) word)
    by (Make events.Done) word is = absurd is
    by (Steps p n) word is = omega (arith, ap (λ ds. get_or ds 0 0) word)
    by Go word is = absurd is
    by (GoFirst n) word is = omega (arith, ap (λ ds. get_or ds 0 0) word)
    by (Until condition) word is = omega (arith, ap (λ ds. get_or ds 0 0) word)
    by (Show Regs p) word is = omega (arith, ap (λ ds. get_or ds 0 0) word)
    by (Show Cop0 p) word is = omega (arith, ap (λ ds. get_or ds 0 0) word)
    by (Show Tlb p) word is = omega (arith, ap (λ ds. get_or ds 0 0) word)
    by (Register p r) word is = omega (arith, ap (λ ds. get_or ds 0 0) word)
    by Where word is = absurd is
    by (Words Memory address n) word is = omega (arith, ap (λ ds. get_or ds 0 0) word)
    by (Words Code address n) word is = omega (arith, ap (λ ds. get_or ds 0 0) word)
    by (Fetched address n p) word is = omega (arith, ap (λ ds. get_or ds 0 0) word)
    by (Log n) word is = omega (arith, ap (λ ds. get_or ds 0 0) word)
    by At word is = absurd is

-- and `d`
pub no_delete : (symbols : List (List ℕ × ℕ)) (text : List ℕ) → Finds (AreParts IsNumber (IsPlace symbols)) text None → IsAskedOf symbols (codes "d") (Some text) (Err BadArgument)
no_delete symbols text none = (λ unknown. unknown.1.0 refl, λ command is. by command is.0 is.1)
  where
    by : (command : Command) → word_of command ≡ codes "d" → HasArguments symbols command text → ⊥
    by (Breakpoint Set p address) word is = omega (arith, ap (λ ds. get_or ds 0 0) word)
    by (Breakpoint Delete p address) word is = none.none (p, address) is
    by (Make (events.Step p)) word is = omega (arith, ap (λ ds. get_or ds 0 0) word)
    by (Make (events.Key byte)) word is = omega (arith, ap (λ ds. get_or ds 0 0) word)
    by (Make events.Done) word is = absurd is
    by (Steps p n) word is = omega (arith, ap (λ ds. get_or ds 0 0) word)
    by Go word is = absurd is
    by (GoFirst n) word is = omega (arith, ap (λ ds. get_or ds 0 0) word)
    by (Until condition) word is = omega (arith, ap (λ ds. get_or ds 0 0) word)
    by (Show Regs p) word is = omega (arith, ap (λ ds. get_or ds 0 0) word)
    by (Show Cop0 p) word is = omega (arith, ap (λ ds. get_or ds 0 0) word)
    by (Show Tlb p) word is = omega (arith, ap (λ ds. get_or ds 0 0) word)
    by (Register p r) word is = omega (arith, ap (λ ds. get_or ds 0 0) word)
    by Where word is = absurd is
    by (Words Memory address n) word is = omega (arith, ap (λ ds. get_or ds 0 0) word)
    by (Words Code address n) word is = omega (arith, ap (λ ds. get_or ds 0 0) word)
    by (Fetched address n p) word is = omega (arith, ap (λ ds. get_or ds 0 0) word)
    by (Log n) word is = omega (arith, ap (λ ds. get_or ds 0 0) word)
    by At word is = absurd is

-- `m` with what is no address and number
pub no_memory : (symbols : List (List ℕ × ℕ)) (text : List ℕ) → Finds (AreParts (IsPlace symbols) IsNumber) text None → IsAskedOf symbols (codes "m") (Some text) (Err BadArgument)
no_memory symbols text none = (λ unknown. unknown.1.1.1.1.1.1.1.1.1.0 refl, λ command is. by command is.0 is.1)
  where
    by : (command : Command) → word_of command ≡ codes "m" → HasArguments symbols command text → ⊥
    by (Breakpoint Set p address) word is = omega (arith, ap (λ ds. get_or ds 0 0) word)
    by (Breakpoint Delete p address) word is = omega (arith, ap (λ ds. get_or ds 0 0) word)
    by (Make (events.Step p)) word is = omega (arith, ap (λ ds. get_or ds 0 0) word)
    by (Make (events.Key byte)) word is = omega (arith, ap (λ ds. get_or ds 0 0) word)
    by (Make events.Done) word is = absurd is
    by (Steps p n) word is = omega (arith, ap (λ ds. get_or ds 0 0) word)
    by Go word is = absurd is
    by (GoFirst n) word is = omega (arith, ap (λ ds. get_or ds 0 0) word)
    by (Until condition) word is = omega (arith, ap (λ ds. get_or ds 0 0) word)
    by (Show Regs p) word is = omega (arith, ap (λ ds. get_or ds 0 0) word)
    by (Show Cop0 p) word is = omega (arith, ap (λ ds. get_or ds 0 0) word)
    by (Show Tlb p) word is = omega (arith, ap (λ ds. get_or ds 0 0) word)
    by (Register p r) word is = omega (arith, ap (λ ds. get_or ds 0 0) word)
    by Where word is = absurd is
    by (Words Memory address n) word is = none.none (address, n) is
    by (Words Code address n) word is = omega (arith, ap (λ ds. get_or ds 0 0) word)
    by (Fetched address n p) word is = omega (arith, ap (λ ds. get_or ds 0 0) word)
    by (Log n) word is = omega (arith, ap (λ ds. get_or ds 0 0) word)
    by At word is = absurd is

-- `x` with what is neither this, nor an address, a number and a processor
pub no_code : (symbols : List (List ℕ × ℕ)) (text : List ℕ) → Finds (AreParts (IsPlace symbols) IsNumber) text None → Finds (AreParts (IsPlace symbols) AreNumbers) text None → IsAskedOf symbols (codes "x") (Some text) (Err BadArgument)
no_code symbols text none more = (λ unknown. unknown.1.1.1.1.1.1.1.1.1.1.0 refl, λ command is. by command is.0 is.1)
  where
    by : (command : Command) → word_of command ≡ codes "x" → HasArguments symbols command text → ⊥
    by (Breakpoint Set p address) word is = omega (arith, ap (λ ds. get_or ds 0 0) word)
    by (Breakpoint Delete p address) word is = omega (arith, ap (λ ds. get_or ds 0 0) word)
    by (Make (events.Step p)) word is = omega (arith, ap (λ ds. get_or ds 0 0) word)
    by (Make (events.Key byte)) word is = omega (arith, ap (λ ds. get_or ds 0 0) word)
    by (Make events.Done) word is = absurd is
    by (Steps p n) word is = omega (arith, ap (λ ds. get_or ds 0 0) word)
    by Go word is = absurd is
    by (GoFirst n) word is = omega (arith, ap (λ ds. get_or ds 0 0) word)
    by (Until condition) word is = omega (arith, ap (λ ds. get_or ds 0 0) word)
    by (Show Regs p) word is = omega (arith, ap (λ ds. get_or ds 0 0) word)
    by (Show Cop0 p) word is = omega (arith, ap (λ ds. get_or ds 0 0) word)
    by (Show Tlb p) word is = omega (arith, ap (λ ds. get_or ds 0 0) word)
    by (Register p r) word is = omega (arith, ap (λ ds. get_or ds 0 0) word)
    by Where word is = absurd is
    by (Words Memory address n) word is = omega (arith, ap (λ ds. get_or ds 0 0) word)
    by (Words Code address n) word is = none.none (address, n) is
    by (Fetched address n p) word is = more.none (address, (n, p)) is
    by (Log n) word is = omega (arith, ap (λ ds. get_or ds 0 0) word)
    by At word is = absurd is

pub no_change : (symbols : List (List ℕ × ℕ)) (change : Change) (text : List ℕ) → Finds (AreParts IsNumber (IsPlace symbols)) text None → IsAskedOf symbols (change_word change) (Some text) (Err BadArgument)
no_change symbols Set text none = no_break symbols text none
no_change symbols Delete text none = no_delete symbols text none

-- conditions whose arguments aren't read

abbrev NoCondition : List (List ℕ × ℕ) → List ℕ → List ℕ → Type 0
NoCondition symbols word text = Finds (λ condition arguments. IsConditionOf symbols word (Some arguments) condition) text None

pub no_word_of_memory : (symbols : List (List ℕ × ℕ)) (word text : List ℕ) → word ≡ codes "m" → Finds (IsPlace symbols) text None → NoCondition symbols word text
no_word_of_memory symbols word text same none = record { found = tt; none = λ condition is. by condition (is.0 ∙ same) is.1 }
  where
    by : (condition : Condition) → condition_word condition ≡ codes "m" → IsConditionWith symbols condition (Some text) → ⊥
    by (conditions.Memory address) w is = none.none address is
    by (conditions.Trap p) w is = omega (arith, ap (λ ds. get_or ds 0 0) w)
    by (conditions.Register p r) w is = omega (arith, ap (λ ds. get_or ds 0 0) w)
    by (conditions.Row p i) w is = omega (arith, ap (λ ds. get_or ds 0 0) w)
    by conditions.Output w is = absurd is

pub no_register : (symbols : List (List ℕ × ℕ)) (word text : List ℕ) → word ≡ codes "r" → Finds AreNumbers text None → NoCondition symbols word text
no_register symbols word text same none = record { found = tt; none = λ condition is. by condition (is.0 ∙ same) is.1 }
  where
    by : (condition : Condition) → condition_word condition ≡ codes "r" → IsConditionWith symbols condition (Some text) → ⊥
    by (conditions.Memory address) w is = omega (arith, ap (λ ds. get_or ds 0 0) w)
    by (conditions.Trap p) w is = omega (arith, ap (λ ds. get_or ds 0 0) w)
    by (conditions.Register p r) w is = none.none (p, r) is
    by (conditions.Row p i) w is = omega (arith, ap (λ ds. get_or ds 0 0) w)
    by conditions.Output w is = absurd is

pub no_row : (symbols : List (List ℕ × ℕ)) (word text : List ℕ) → word ≡ codes "i" → Finds AreNumbers text None → NoCondition symbols word text
no_row symbols word text same none = record { found = tt; none = λ condition is. by condition (is.0 ∙ same) is.1 }
  where
    by : (condition : Condition) → condition_word condition ≡ codes "i" → IsConditionWith symbols condition (Some text) → ⊥
    by (conditions.Memory address) w is = omega (arith, ap (λ ds. get_or ds 0 0) w)
    by (conditions.Trap p) w is = omega (arith, ap (λ ds. get_or ds 0 0) w)
    by (conditions.Register p r) w is = omega (arith, ap (λ ds. get_or ds 0 0) w)
    by (conditions.Row p i) w is = none.none (p, i) is
    by conditions.Output w is = absurd is
