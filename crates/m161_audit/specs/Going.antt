use Rattle.std.specs.Prelude.{◌≡◌, ◌≢◌, ℕ, ◌+◌, List, [], ◌++◌, length, Result, Ok, Err}
use Rattle.m161_machine.specs.declared.conf.BootError.TheVariants.{NoMemory}
use Rattle.m161_machine.specs.declared.event.Event.{Event}
use Rattle.m161_machine.specs.State.{State}
use Rattle.m161_machine.specs.StoreHistory.{StoreState, without_stores}
use Rattle.m161_audit.specs.declared.finding.AuditError.{AuditError}
use Rattle.m161_audit.specs.declared.finding.AuditError.TheVariants.{Boot, BadWatch}
use Rattle.m161_audit.specs.declared.finding.Finding.{Finding}
use Rattle.m161_audit.specs.declared.finding.Finding.TheVariants.{Clean, Stale}
use Rattle.m161_audit.specs.declared.shootdown.Shootdown.{Shootdown}
use Rattle.m161_audit.specs.declared.watch.Watch.{Watch}
use Rattle.m161_audit.specs.Stale.{IsFinding, after_events}
use Rattle.m161_audit.specs.Watch.{AreGood, IsBad}
use Rattle.m161_audit.specs.Tracking.{IsAt}

-- Audits that go on where another one came.

-- the finding of events that stand behind so many others
abbrev pub behind : ℕ → Finding → Finding
behind n Clean = Clean
behind n (Stale place p address row) = Stale (n + place) p address row

-- the law of going on: a stale use among the first events is the finding of all; where there is none,
-- that of the others, from the state to which those lead
abbrev pub IsFoundInParts : StoreState → List Event → List Event → List Watch → Type 0
IsFoundInParts s begun rest watches =
    ((f : Finding) → f ≢ Clean → IsFinding s begun watches f → IsFinding s (begun ++ rest) watches f)
    × ((f : Finding) → IsFinding s begun watches Clean → IsFinding (after_events s begun) rest watches f
    → IsFinding s (begun ++ rest) watches (behind (length begun) f))

-- what an audit keeps at a place of a run
pub record Memory : Type 0 where
  -- the machine's state
  pub core : State
  -- how far each shootdown is
  pub shootdowns : List Shootdown
  -- how many events were audited
  pub audited : ℕ
  -- what was found in them
  pub finding : Finding

-- the memory of an audit of these events of a run from s on: what it found is their finding; where that
-- is clean, the machine and the shootdowns are those to which they lead
pub record IsMemoryOf (s : StoreState) (watches : List Watch) (events : List Event) (m : Memory)
    : Type 0 where
  pub found : IsFinding s events watches m.finding
  pub goes_on : m.finding ≡ Clean
      → (m.audited ≡ length events) × IsAt watches (after_events s events) m.core m.shootdowns

-- an audit before the first event of a run from a state in which nothing counts as stored; or the first
-- bad watch; or memory was refused
abbrev pub Starts : State → List Watch → Result Memory AuditError → Type 0
Starts s watches (Ok m) =
    ((k : ℕ) → AreGood s.conf.ram watches k) × IsMemoryOf (without_stores s) watches [] m
Starts s watches (Err (Boot e)) = e ≡ NoMemory
Starts s watches (Err (BadWatch k)) =
    IsBad s.conf.ram watches k × AreGood s.conf.ram watches k

-- the memory of an audit of these events; or memory was refused
abbrev pub IsMemoryAfter :
    StoreState → List Watch → List Event → Result Unit AuditError → Memory → Type 0
IsMemoryAfter s watches events (Ok done) m = IsMemoryOf s watches events m
IsMemoryAfter s watches events (Err error) m = error ≡ Boot NoMemory

-- an audit goes on: the memory of the first of these events becomes that of all of them
abbrev pub GoesOn : List Event → Memory → Result Unit AuditError → Memory → Type 0
GoesOn events old result new =
    (s : StoreState) (watches : List Watch) (begun rest : List Event) → events ≡ begun ++ rest
    → IsMemoryOf s watches begun old → IsMemoryAfter s watches events result new
