use Rattle.std.specs.Prelude.{◌≡◌, ◌≢◌, ℕ, ◌*◌, ◌<◌, ◌^◌, Bool, true, false, not, ◌&&◌, ◌||◌, List, Option, None, Some, IfSome, codes, is_some, option_map, pos}
use Rattle.std.specs.Str.Parse.{IsNumeral, digits_value, without_leading_plus}
use Rattle.clap.specs.Words.{App, Row, Rule, Text, first_of, new_rule, one_of, with_rule}
use Rattle.clap.specs.declared.builder.action.ArgAction.TheVariants.{Append}
use Rattle.clap.specs.declared.builder.value_parser.ValueParser.TheVariants.{Signed, Unsigned}
use Rattle.m161_order.specs.declared.order.Order.{Order}
use Rattle.m161_order.specs.declared.order.Order.TheVariants.{Turns, Delayed, Random, Priorities}
use Rattle.m161_order.specs.Order.{order_fault}
use Rattle.s161_command.specs.declared.drive.Clash.{Clash}
use Rattle.s161_command.specs.declared.drive.Clash.TheVariants.{TwoOrders, HalfPriorities, ChangesWithoutSeed, DelayedWithoutTurns, NoOrder, PaceWithoutOrder, OrderInThreads, ShownTwice, TrapsUnshown, FewEntries, FileAndOrder, NoEvents, DelaysAndSeeds, NoRuns, TurnsWithoutDelays, BadOrder, BadGap, BadDelays, BadClass, BadLink, ManyNever}
use Rattle.s161_command.specs.declared.drive.OrderUse.{OrderUse}
use Rattle.s161_command.specs.declared.drive.OrderUse.TheVariants.{Optional, Needed, Assumed, Seeded, OrFile}
use Rattle.s161_command.specs.declared.drive.Drive.{Drive}
use Rattle.s161_command.specs.Classes.{IsBadClass}
use Rattle.s161_command.specs.Delays.{AreDelays, IsBadDelays}
use Rattle.s161_command.specs.Links.{IsBadLink}
use Rattle.s161_command.specs.Repeated.{AreTooMany, texts_of}
use Rattle.s161_command.specs.Numbers.{IsNumber, IsNumberOf, is_given, is_set}

-- The options of a driven run, and which options go together.

-- an option `--name N`, a number of 32 bits from low to high; its absence counts, so it has no
-- default in clap
abbrev pub optional_rule : Text → ℕ → ℕ → Rule
optional_rule name low high =
    record (new_rule name) {
      long = Some name;
      value_names = 1;
      parser = Some (Signed (pos low) (pos high));
    }

-- the same of 64 bits
abbrev pub long_rule : Text → ℕ → ℕ → Rule
long_rule name low high =
    record (optional_rule name low high) { parser = Some (Unsigned low high) }

-- an option `--name TEXT`
abbrev pub text_rule : Text → Rule
text_rule name = record (new_rule name) { long = Some name; value_names = 1 }

-- the same, where it may be given more than once
abbrev pub texts_rule : Text → Rule
texts_rule name = record (text_rule name) { action = Some Append }

-- a command, with the options of an order by priorities added
abbrev pub with_priority_rules : App → App
with_priority_rules command =
    with_rule (with_rule command
    (optional_rule (codes "changes") 0 64))
    (optional_rule (codes "within") 1 16_777_216)

-- a command, with the options of an order added
abbrev pub with_order_rules : App → App
with_order_rules command =
    with_priority_rules (with_rule (with_rule (with_rule command
    (optional_rule (codes "turns") 1 1_000_000))
    (text_rule (codes "delayed")))
    (long_rule (codes "random") 0 18_446_744_073_709_551_615))

-- a command, with the options added that say how long a driven run is, when bytes are sent, which keys
-- are typed, and when, and which events come first
abbrev pub with_pace_rules : ℕ → App → App
with_pace_rules most command =
    with_rule (with_rule (with_rule (with_rule (with_rule command
    (long_rule (codes "events") 1 most))
    (optional_rule (codes "transfer") 0 4_294_967_295))
    (text_rule (codes "keys")))
    (text_rule (codes "gap")))
    (text_rule (codes "after"))

-- the same without files
abbrev pub with_console_pace_rules : ℕ → App → App
with_console_pace_rules most command =
    with_rule (with_rule (with_rule command
    (long_rule (codes "events") 1 most))
    (optional_rule (codes "transfer") 0 4_294_967_295))
    (text_rule (codes "gap"))

abbrev pub has_order : List Row → Bool
has_order rows = is_given (codes "turns") rows || is_given (codes "random") rows

-- an option is given that only a driven run has
abbrev pub has_pace : List Row → Bool
has_pace rows =
    is_given (codes "events") rows || is_given (codes "transfer") rows
    || is_given (codes "keys") rows || is_given (codes "gap") rows
    || is_given (codes "after") rows

abbrev pub two_orders : List Row → Bool
two_orders rows = is_given (codes "turns") rows && is_given (codes "random") rows

-- one of `--changes` and `--within` without the other, where `--within` isn't that of `--delays`
abbrev pub half_priorities : List Row → Bool
half_priorities rows =
    (is_given (codes "changes") rows && not (is_given (codes "within") rows))
    || (is_given (codes "within") rows && not (is_given (codes "changes") rows)
    && not (is_given (codes "delays") rows))

-- runs by their delays, and runs by seeds too
abbrev pub delays_and_seeds : List Row → Bool
delays_and_seeds rows =
    is_given (codes "delays") rows
    && (is_given (codes "seeds") rows || is_given (codes "changes") rows)

-- neither of them
abbrev pub lacks_runs : OrderUse → List Row → Bool
lacks_runs Seeded rows =
    not (is_given (codes "delays") rows) && not (is_given (codes "seeds") rows)
lacks_runs _ rows = false

-- turns of `search` without delays
abbrev pub turns_without_delays : OrderUse → List Row → Bool
turns_without_delays Seeded rows =
    is_given (codes "turns") rows && not (is_given (codes "delays") rows)
turns_without_delays _ rows = false

-- priorities have a seed
abbrev pub has_seed : OrderUse → List Row → Bool
has_seed Seeded rows = true
has_seed _ rows = is_given (codes "random") rows

-- delays without turns
abbrev pub delayed_without_turns : List Row → Bool
delayed_without_turns rows = is_given (codes "delayed") rows && not (is_given (codes "turns") rows)

-- the run is a driven one
abbrev pub is_driven : OrderUse → List Row → Bool
is_driven Optional rows = has_order rows
is_driven Needed rows = has_order rows
is_driven Assumed rows = true
is_driven Seeded rows = true
is_driven OrFile rows = has_order rows

abbrev pub changes_without_seed : OrderUse → List Row → Bool
changes_without_seed orders rows =
    is_given (codes "changes") rows && not (has_seed orders rows)

abbrev pub lacks_order : OrderUse → List Row → Bool
lacks_order Needed rows = not (has_order rows)
lacks_order _ rows = false

abbrev pub pace_without_order : OrderUse → List Row → Bool
pace_without_order orders rows = has_pace rows && not (is_driven orders rows)

abbrev pub order_in_threads : List Row → Bool
order_in_threads rows =
    has_order rows && (is_given (codes "threads") rows || is_given (codes "burst") rows)

-- two ways to say what is printed are given
abbrev pub shows_twice : List Row → Bool
shows_twice rows =
    (is_set (codes "show-log") rows && is_set (codes "only-log") rows)
    || (is_set (codes "show-log") rows && is_set (codes "only-output") rows)
    || (is_set (codes "only-log") rows && is_set (codes "only-output") rows)

-- traps are counted where no line is printed
abbrev pub traps_unshown : List Row → Bool
traps_unshown rows =
    is_set (codes "traps") rows
    && (is_set (codes "only-log") rows || is_set (codes "only-output") rows)

-- a file and an order both give the events
abbrev pub file_and_order : OrderUse → List Row → Bool
file_and_order OrFile rows = is_given (codes "file") rows && has_order rows
file_and_order _ rows = false

-- neither of them does
abbrev pub lacks_events : OrderUse → List Row → Bool
lacks_events OrFile rows = not (is_given (codes "file") rows) && not (has_order rows)
lacks_events _ rows = false

-- options go together
abbrev pub go_together : OrderUse → List Row → Bool
go_together orders rows =
    not (two_orders rows) && not (delays_and_seeds rows) && not (lacks_runs orders rows)
    && not (turns_without_delays orders rows) && not (half_priorities rows)
    && not (changes_without_seed orders rows) && not (delayed_without_turns rows)
    && not (lacks_order orders rows) && not (pace_without_order orders rows)
    && not (order_in_threads rows) && not (shows_twice rows) && not (traps_unshown rows)
    && not (file_and_order orders rows) && not (lacks_events orders rows)

-- a number of 64 bits in decimal digits, optionally after a plus
abbrev pub IsLongNumber : Text → Type 0
IsLongNumber text =
    IsNumeral 10 (without_leading_plus text)
    × (digits_value 10 (without_leading_plus text) < 2 ^ 64)

-- an option's number is that of clap's text, if it is a number, else the default
pub record HasLongNumber (default : ℕ) (text : Text) (n : ℕ) : Type 0 where
  pub number : IsLongNumber text → n ≡ digits_value 10 (without_leading_plus text)
  pub other : ¬ IsLongNumber text → n ≡ default

abbrev pub IsLongNumberOf : ℕ → Option Text → ℕ → Type 0
IsLongNumberOf default None n = n ≡ default
IsLongNumberOf default (Some text) n = HasLongNumber default text n

-- the options ask for this order, with the seed of this option
abbrev pub IsSeeded : Text → List Row → Order → Type 0
IsSeeded name rows (Turns steps) = ⊥
IsSeeded name rows (Delayed turns delays) = ⊥
IsSeeded name rows (Random seed) =
    (is_given (codes "changes") rows ≡ false) × IsLongNumberOf 0 (one_of name rows) seed
IsSeeded name rows (Priorities seed changes within) =
    (is_given (codes "changes") rows ≡ true)
    × IsLongNumberOf 0 (one_of name rows) seed
    × IsNumberOf 0 (one_of (codes "changes") rows) changes
    × IsNumberOf 1 (one_of (codes "within") rows) within

-- the options ask for this order, by `--turns` or `--random`
abbrev pub IsGivenOrder : List Row → Order → Type 0
IsGivenOrder rows (Turns steps) =
    (is_given (codes "turns") rows ≡ true) × (is_given (codes "delayed") rows ≡ false)
    × IsNumberOf 1 (one_of (codes "turns") rows) steps
IsGivenOrder rows (Delayed turns delays) =
    (is_given (codes "turns") rows ≡ true)
    × IsNumberOf 1 (one_of (codes "turns") rows) turns
    × AreDelays (first_of (codes "delayed") rows) delays
IsGivenOrder rows order =
    (is_given (codes "turns") rows ≡ false) × IsSeeded (codes "random") rows order

-- turns of one Step where no order is given
abbrev pub IsGivenOrTurns : Bool → List Row → Order → Type 0
IsGivenOrTurns true rows order = IsGivenOrder rows order
IsGivenOrTurns false rows order = order ≡ Turns 1

-- the order of the runs of `search`: by turns with `--delays`, else by the seeds
abbrev pub IsSearched : Bool → List Row → Order → Type 0
IsSearched true rows (Turns steps) = IsNumberOf 50 (one_of (codes "turns") rows) steps
IsSearched true rows (Delayed turns delays) = ⊥
IsSearched true rows (Random seed) = ⊥
IsSearched true rows (Priorities seed changes within) = ⊥
IsSearched false rows order = IsSeeded (codes "from") rows order

-- the order of a driven run
abbrev pub IsOrder : OrderUse → List Row → Order → Type 0
IsOrder Optional rows order = IsGivenOrder rows order
IsOrder Needed rows order = IsGivenOrder rows order
IsOrder Assumed rows order = IsGivenOrTurns (has_order rows) rows order
IsOrder Seeded rows order = IsSearched (is_given (codes "delays") rows) rows order
IsOrder OrFile rows order = IsGivenOrder rows order

-- `--gap none`, or a number, or the default
abbrev pub IsGap : Option ℕ → Option Text → Option ℕ → Type 0
IsGap default None gap = gap ≡ default
IsGap default (Some text) None = text ≡ codes "none"
IsGap default (Some text) (Some n) =
    (text ≢ codes "none") × IsNumber text × (n ≡ digits_value 10 (without_leading_plus text))

abbrev pub IsBadGap : Option Text → Type 0
IsBadGap None = ⊥
IsBadGap (Some text) = (text ≢ codes "none") × ¬ IsNumber text

-- the most events where their number isn't given; `console` has no limit that a run could reach
abbrev pub events_by_default : OrderUse → ℕ
events_by_default Optional = 1_000_000
events_by_default Needed = 1_000_000
events_by_default Assumed = 18_446_744_073_709_551_615
events_by_default Seeded = 100_000
events_by_default OrFile = 1_000_000

abbrev pub gap_by_default : OrderUse → Option ℕ
gap_by_default Assumed = None
gap_by_default _ = Some 1_000

-- the options of a driven run ask for this
pub record AsksDrive (orders : OrderUse) (rows : List Row) (drive : Drive) : Type 0 where
  pub order : IsOrder orders rows drive.order
  pub limits : order_fault drive.order ≡ None
  pub events : IsLongNumberOf (events_by_default orders) (one_of (codes "events") rows) drive.events
  pub transfer : IsNumberOf 100 (one_of (codes "transfer") rows) drive.transfer
  pub gap : IsGap (gap_by_default orders) (first_of (codes "gap") rows) drive.gap
  pub keys : option_map (λ name. name.now) drive.keys ≡ first_of (codes "keys") rows
  pub after : option_map (λ name. name.now) drive.after ≡ first_of (codes "after") rows

-- a driven run if an order is given
pub record AsksDriveIf (orders : OrderUse) (rows : List Row) (found : Option Drive) : Type 0 where
  pub ordered : is_some found ≡ has_order rows
  pub asks : IfSome found (AsksDrive orders rows)

-- traps are counted of a run in threads whose log has no room for the entry of each of its Steps
pub record LacksEntries (rows : List Row) : Type 0 where
  pub traps : is_set (codes "traps") rows ≡ true
  pub quota : ℕ
  pub is_quota : IsNumberOf 0 (one_of (codes "threads") rows) quota
  pub processors : ℕ
  pub are_processors : IsNumberOf 1 (one_of (codes "cpus") rows) processors
  pub log : ℕ
  pub is_log : IsNumberOf 65_536 (one_of (codes "log") rows) log
  pub few : log < quota * processors

-- options that clap takes, and that can't be followed: why
abbrev pub Clashes : OrderUse → List Row → Clash → Type 0
Clashes orders rows TwoOrders = two_orders rows ≡ true
Clashes orders rows DelaysAndSeeds = delays_and_seeds rows ≡ true
Clashes orders rows NoRuns = lacks_runs orders rows ≡ true
Clashes orders rows TurnsWithoutDelays = turns_without_delays orders rows ≡ true
Clashes orders rows HalfPriorities = half_priorities rows ≡ true
Clashes orders rows ChangesWithoutSeed = changes_without_seed orders rows ≡ true
Clashes orders rows DelayedWithoutTurns = delayed_without_turns rows ≡ true
Clashes orders rows NoOrder = lacks_order orders rows ≡ true
Clashes orders rows PaceWithoutOrder = pace_without_order orders rows ≡ true
Clashes orders rows OrderInThreads = order_in_threads rows ≡ true
Clashes orders rows (BadOrder e) =
    (order : Order) × IsOrder orders rows order × (order_fault order ≡ Some e)
Clashes orders rows BadGap = IsBadGap (first_of (codes "gap") rows)
Clashes orders rows BadDelays = IsBadDelays (first_of (codes "delayed") rows)
Clashes orders rows BadClass = IsBadClass rows
Clashes orders rows ManyNever = AreTooMany (texts_of (codes "never") rows)
Clashes orders rows BadLink = IsBadLink (first_of (codes "link") rows)
Clashes orders rows ShownTwice = shows_twice rows ≡ true
Clashes orders rows TrapsUnshown = traps_unshown rows ≡ true
Clashes orders rows FewEntries = LacksEntries rows
Clashes orders rows FileAndOrder = file_and_order orders rows ≡ true
Clashes orders rows NoEvents = lacks_events orders rows ≡ true
