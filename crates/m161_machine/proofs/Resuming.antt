use Rattle.std.proofs.Common.{◌≡◌, subst}
use Rattle.m161_machine.specs.History.{History, IsReplay, Leads}
use Rattle.m161_machine.proofs.Leading.{leads_to_one}

-- Two machines with one base and one log.

-- two replays of one base and one log end in the same state
pub determined : (m n : History) → IsReplay m → IsReplay n → n.start ≡ m.start → n.base ≡ m.base → n.log ≡ m.log → n ≡ m
determined m n m_replays n_replays start_is base_is log_is =
    let as_m : Leads m.base m.log n.state =
    subst (λ s. Leads s m.log n.state) base_is (subst (λ es. Leads n.base es n.state) log_is n_replays) in
    let state_is : n.state ≡ m.state = leads_to_one m.log m.base n.state m.state as_m m_replays in
    λ i. record { start = start_is i; base = base_is i; log = log_is i; state = state_is i }
