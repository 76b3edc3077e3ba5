use Rattle.std.specs.Prelude.{◌≡◌, ℕ, ◌==◌, ◌&&◌, nat_lt, Bool, true, false, not, if◌then◌else◌, List, [], ◌∷◌, ◌++◌, Option, None, Some, IsSome, length}
use Rattle.std.specs.List.{filter}
use Rattle.m161_gdb.specs.declared.packet.Kind.{Kind}
use Rattle.m161_gdb.specs.declared.packet.Kind.TheVariants as kinds
use Rattle.m161_gdb.specs.declared.stops.Breakpoint.{Breakpoint}
use Rattle.m161_gdb.specs.declared.stops.StopError.{StopError}
use Rattle.m161_gdb.specs.declared.stops.StopError.TheVariants as errors
use Rattle.m161_gdb.specs.declared.stops.Watch.{Watch}
use Rattle.m161_gdb.specs.Packets.{is_watch}

-- What stops moves.

pub record StopsValue : Type 0 where
  pub breakpoints : List Breakpoint
  pub watches : List Watch
  pub mark : Option ℕ
  pub interrupted : Bool

abbrev pub no_stops : StopsValue
no_stops = record { breakpoints = []; watches = []; mark = None; interrupted = false }

-- a kind's number in a packet
abbrev pub number_of_kind : Kind → ℕ
number_of_kind kinds.Software = 0
number_of_kind kinds.Hardware = 1
number_of_kind kinds.Write = 2
number_of_kind kinds.Read = 3
number_of_kind kinds.Access = 4

abbrev pub is_same_kind : Kind → Kind → Bool
is_same_kind a b = number_of_kind a == number_of_kind b

-- A breakpoint is the one of its kind and address, and a watch that of its kind, address and size.

abbrev pub is_breakpoint : Kind → ℕ → Breakpoint → Bool
is_breakpoint kind address b = is_same_kind b.kind kind && b.address == address

abbrev pub has_breakpoint : List Breakpoint → Kind → ℕ → Bool
has_breakpoint [] kind address = false
has_breakpoint (b ∷ bs) kind address =
    if is_breakpoint kind address b then true else has_breakpoint bs kind address

abbrev pub is_watch_of : Kind → ℕ → ℕ → Watch → Bool
is_watch_of kind address size w = is_same_kind w.kind kind && w.address == address && w.size == size

abbrev pub has_watch : List Watch → Kind → ℕ → ℕ → Bool
has_watch [] kind address size = false
has_watch (w ∷ ws) kind address size =
    if is_watch_of kind address size w then true else has_watch ws kind address size

-- What becomes of the stops by a packet. One that is set goes behind the others; there are at most 64
-- breakpoints and 64 watches.

abbrev pub with_breakpoint : Kind → ℕ → StopsValue → Option StopsValue
with_breakpoint kind address stops =
    if has_breakpoint stops.breakpoints kind address then Some stops
    else if nat_lt (length stops.breakpoints) 64
    then Some (record stops { breakpoints = stops.breakpoints ++ (record { kind = kind; address = address }) ∷ [] })
    else None

abbrev pub with_watch : Kind → ℕ → ℕ → StopsValue → Option StopsValue
with_watch kind address size stops =
    if has_watch stops.watches kind address size then Some stops
    else if nat_lt (length stops.watches) 64
    then Some (record stops { watches = stops.watches ++ (record { kind = kind; address = address; size = size }) ∷ [] })
    else None

-- of a breakpoint the size doesn't count
abbrev pub after_set : Kind → ℕ → ℕ → StopsValue → Option StopsValue
after_set kind address size stops =
    if is_watch kind then with_watch kind address size stops else with_breakpoint kind address stops

abbrev pub after_delete : Kind → ℕ → ℕ → StopsValue → StopsValue
after_delete kind address size stops =
    if is_watch kind
    then record stops { watches = filter (λ w. not (is_watch_of kind address size w)) stops.watches }
    else record stops { breakpoints = filter (λ b. not (is_breakpoint kind address b)) stops.breakpoints }

-- why one isn't set
abbrev pub IsRefused : StopError → Option StopsValue → Type 0
IsRefused errors.TooMany after = after ≡ None
IsRefused errors.NoMemory after = IsSome after
