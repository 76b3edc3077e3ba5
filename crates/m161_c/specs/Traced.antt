use Rattle.std.specs.Prelude.{◌≡◌, ◌⊎◌, ℕ, Bool, false, if◌then◌else◌, List, [], Option, None, Some}
use Rattle.m161_machine.specs.History.{History}
use Rattle.m161_order.specs.declared.order.Order.{Order}
use Rattle.m161_order.specs.declared.order.OrderError.{OrderError}
use Rattle.m161_order.specs.Order.{order_fault}
use Rattle.m161_dis.specs.declared.naming.Style.{Style}
use Rattle.m161_dis.specs.declared.naming.Naming.TheVariants.{Names, Numbers}
use Rattle.m161_drive.specs.declared.run.Stop.{Stop}
use Rattle.m161_drive.specs.Policy.{Rules}
use Rattle.m161_symbols.specs.Names.{names_in}
use Rattle.m161_c.specs.declared.answer.LineStyle.{LineStyle}
use Rattle.m161_c.specs.declared.answer.OrderNumbers.{OrderNumbers}
use Rattle.m161_c.specs.declared.session.Session.{Session}
use Rattle.m161_c.specs.Driven.{TracesOn, number_of_order, number_of_stop, order_in, rules_in}

-- Events with their lines, which become the session's bytes.

-- registers by their names or numbers, and the symbols of a file or none
abbrev pub style_in : LineStyle → List ℕ → Style
style_in style file = record {
  registers = if style.names then Names else Numbers;
  symbols = if style.symbols then names_in file else [];
}

-- nothing is changed, and no event is made
abbrev pub Stays : ℕ → ℕ → Session → ℕ → Session → Type 0
Stays answer made s why t = (answer ≡ why) × (made ≡ 0) × (t ≡ s)

-- a session's machine and bytes after a trace
abbrev pub Leaves : Session → History → List ℕ → Type 0
Leaves t k text = (t.machine ≡ Some k) × (t.bytes.items ≡ text)

-- a driven run of at most n events, of which so many were made, with this answer; or memory was refused
abbrev pub TracesBy :
    Style → Bool → Option OrderError → Rules → ℕ → ℕ → ℕ → History → Session → Session → Type 0
TracesBy style loads (Some fault) rules n made answer m s t =
    Stays answer made s (number_of_order fault) t
TracesBy style loads None rules n made answer m s t =
    Stays answer made s 254 t
    ⊎ ((stop : Stop) × (k : History) × (text : List ℕ) × (answer ≡ number_of_stop stop)
    × TracesOn style loads rules n m (record { made = made; stop = stop }) k [] text × Leaves t k text)

abbrev pub TracesIn :
    Style → Bool → Option Order → OrderNumbers → List ℕ → ℕ → ℕ → ℕ → History → Session → Session
    → Type 0
TracesIn style loads None numbers keys n made answer m s t = Stays answer made s 253 t
TracesIn style loads (Some order) numbers keys n made answer m s t =
    TracesBy style loads (order_fault order) (rules_in numbers order keys) n made answer m s t

abbrev pub TracesOf :
    Style → Bool → Option History → OrderNumbers → List ℕ → ℕ → ℕ → ℕ → Session → Session → Type 0
TracesOf style loads None numbers keys n made answer s t = Stays answer made s 255 t
TracesOf style loads (Some m) numbers keys n made answer s t =
    TracesIn style loads (order_in numbers) numbers keys n made answer m s t

-- lines in this style, with the symbols of this file where it wants symbols
abbrev pub TracesWith :
    LineStyle → List ℕ → OrderNumbers → List ℕ → ℕ → ℕ → ℕ → Session → Session → Type 0
TracesWith style file numbers keys n made answer s t =
    TracesOf (style_in style file) style.loads s.machine numbers keys n made answer s t

-- lines without symbols and loads
abbrev pub plain_with : Bool → LineStyle
plain_with names = record { names = names; symbols = false; loads = false }

abbrev pub TracesAs : Bool → OrderNumbers → List ℕ → ℕ → ℕ → ℕ → Session → Session → Type 0
TracesAs names numbers keys n made answer s t =
    TracesWith (plain_with names) [] numbers keys n made answer s t
