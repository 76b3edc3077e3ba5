-- A run, and the verdict on it.
use Rattle.std.proofs.Common.{◌≡◌, ℕ, ◌+◌, ◌<◌, List, [], ◌∷◌, ◌++◌, length, take, get_or, Bool, true, false, Option, None, Some, Ok, Err}
use Rattle.std.proofs.lemmas.List.{take_more}
use Rattle.m161_machine.specs.declared.conf.Conf.{Conf}
use Rattle.m161_machine.specs.declared.conf.BootError.{BootError}
use Rattle.m161_machine.specs.declared.event.Entry.{Entry}
use Rattle.m161_machine.specs.State.{State, next}
use Rattle.m161_machine.specs.History.{History, Leads, Boots}
use Rattle.m161_machine.proofs.Leading.{leads_more, leads_rest}
use Rattle.m161_steplog.specs.declared.verdict.Comparison.{Comparison}
use Rattle.m161_steplog.specs.Verdict.{Follows, IsVerdict, Verifies}
use Rattle.m161_steplog.specs.helpers.Verdict.{Repeats}

made_next : (log : List Entry) (k : ℕ) (d : Entry) → k < length log → take (k + 1) log ≡ take k log ++ get_or log k d ∷ []
made_next log k d lt = take_more log k d lt

-- no run goes through an entry that isn't made
made_no_more : (s u : State) (before : List Entry) (e : Entry) → Leads s before u → ((t : State) → next u e.event ≡ Ok (e.outcome, t) → ⊥) → Follows s (before ++ e ∷ []) → ⊥
made_no_more s u before e made other follows =
    let last = leads_rest before (e ∷ []) s u follows.0 made follows.1 in other last.0 last.1

-- an entry that the machine repeats
pub repeated : (s m n : State) (log : List Entry) (k : ℕ) (d : Entry) (b : Bool) → k < length log → Leads s (take k log) m → Repeats m (get_or log k d) n (Ok b) → b ≡ true → Leads s (take (k + 1) log) n
repeated s m n log k d false lt made here is = absurd (cc)
repeated s m n log k d true lt made here is = rw (made_next log k d lt) (leads_more (take k log) (get_or log k d) s m n made here)

-- one that it doesn't repeat
pub differs : (s m n : State) (log : List Entry) (k : ℕ) (d : Entry) (b : Bool) → k < length log → Leads s (take k log) m → Repeats m (get_or log k d) n (Ok b) → b ≡ false → IsVerdict s log (Comparison.Differs k)
differs s m n log k d true lt made here is = absurd (cc)
differs s m n log k d false lt made here is = (lt, (m, made), rw (made_next log k d lt) (made_no_more s m (take k log) (get_or log k d) made here))

-- the contract by the boot's answer
pub not_booted : (file : List ℕ) (conf : Conf) (fault : Option BootError) (log : List Entry) (e : BootError) → Boots file conf fault (Err e) → Verifies file conf fault log (Err e)
not_booted file conf (Some first) log e h = h
not_booted file conf None log e h = h

pub judged : (file : List ℕ) (conf : Conf) (fault : Option BootError) (log : List Entry) (m : History) (v : Comparison) → Boots file conf fault (Ok m) → IsVerdict m.state log v → Verifies file conf fault log (Ok v)
judged file conf (Some first) log m v h is = absurd h
judged file conf None log m v h is = (m, h, is)

pub no_memory : (file : List ℕ) (conf : Conf) (fault : Option BootError) (log : List Entry) (m : History) (e : BootError) → Boots file conf fault (Ok m) → e ≡ BootError.NoMemory → Verifies file conf fault log (Err e)
no_memory file conf (Some first) log m e h is = absurd h
no_memory file conf None log m e h is = is
