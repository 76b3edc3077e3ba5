use Rattle.std.proofs.Common.{◌≡◌, ◌∙◌, inl, inr, refl, sym, subst, ℕ, true, false, List, [], ◌++◌, length, append_assoc}
use Rattle.std.specs.Prelude.{Option, None, Some, Result, Ok, Err}
use Rattle.m161_machine.specs.declared.conf.BootError.TheVariants.{NoMemory}
use Rattle.m161_machine.specs.declared.event.Event.{Event}
use Rattle.m161_machine.specs.State.{State}
use Rattle.m161_machine.specs.StoreHistory.{StoreState, without_stores}
use Rattle.m161_cpu.specs.declared.uses.Via.{Via}
use Rattle.m161_audit.specs.declared.finding.AuditError.{AuditError}
use Rattle.m161_audit.specs.declared.finding.AuditError.TheVariants.{Boot, BadWatch}
use Rattle.m161_audit.specs.declared.finding.Finding.TheVariants as finding
use Rattle.m161_audit.specs.declared.watch.Watch.{Watch}
use Rattle.m161_audit.specs.Going.{IsMemoryAfter, IsMemoryOf, Memory, Starts}
use Rattle.m161_audit.specs.Stale.{IsFinding, IsStaleVia, UsesStale}
use Rattle.m161_audit.specs.Watch.{AreGood}
use Rattle.m161_judge.specs.declared.reach.Reach.{Reach}
use Rattle.m161_judge.specs.declared.reach.Sought.TheVariants.{Open, Over}
use Rattle.m161_judge.specs.Judge.{IsUnjudged}
use Rattle.m161_judge.specs.Memory.{IsAuditOf, IsKeptAfter, IsKeptOf, IsReachOf, ReachMemory, StartsSteps, StepsMemory}
use Rattle.m161_judge.specs.Verdict.{Criteria}
use Rattle.m161_judge.specs.Memory.{IsFirstReach, IsSought, Reaching}
use Rattle.m161_judge.specs.helpers.Steps.{IsAuditAfter, IsReachAfter, ReachesOn, finding_of, reach_of}
use Rattle.m161_judge.proofs.Reaching.{first_sought, reaching_longer, reaching_none}

-- What is kept of the Steps of a run.

-- without watches no use is stale

unwatched_use : (s : StoreState) (p : ℕ) (v : Via) → IsStaleVia s [] p v → ⊥
unwatched_use s p v h = absurd (let bad : ◌≡◌ {A = Option Watch} None (Some h.1) = h.2 in cc)

unwatched_uses : (s : StoreState) (p : ℕ) (v : Via) → UsesStale s [] p v → ⊥
unwatched_uses s p v u = elim u as (λ _. ⊥) [
  | inl fetch ↦ unwatched_use s p v fetch.1
  | inr access ↦ unwatched_use s p v access.2
]

unwatched : (s : StoreState) (events : List Event) → IsFinding s events [] finding.Clean
unwatched s events k less p v at = unwatched_uses _ p v at.2.uses

pub kept_finding : (watches : List Watch) (s : State) (events : List Event) (m : Option Memory) → IsAuditOf watches s events m →
    IsFinding (without_stores s) events watches (finding_of m)
kept_finding watches s events None none =
    subst (λ ws. IsFinding (without_stores s) events ws finding.Clean) (sym none) (unwatched (without_stores s) events)
kept_finding watches s events (Some m) h = h.found

-- without addresses none is reached

unsought : (s : State) (events : List Event) → IsFirstReach [] s events None
unsought s events k p address h = let bad : false ≡ true = h.is_among in cc

pub kept_reach : (never : List ℕ) (s : State) (events : List Event) (m : Option ReachMemory) → IsReachOf never s events m →
    IsFirstReach never s events (reach_of m)
kept_reach never s events None none = subst (λ ns. IsFirstReach ns s events None) (sym none) (unsought s events)
kept_reach never s events (Some m) h = first_sought never s events m.sought m.core h.1

-- the start

pub start_good : (s t : State) (watches : List Watch) (m : Memory) → s ≡ t → Starts s watches (Ok m) → (k : ℕ) → AreGood t.conf.ram watches k
start_good s t watches m same h = subst (λ (x : State). (k : ℕ) → AreGood x.conf.ram watches k) same h.0

pub start_audit : (s t : State) (watches : List Watch) (m : Memory) → s ≡ t → Starts s watches (Ok m) → IsAuditOf watches t [] (Some m)
start_audit s t watches m same h = subst (λ (x : State). IsMemoryOf (without_stores x) watches [] m) same h.1

pub start_fault : (s t : State) (watches : List Watch) (error : AuditError) → s ≡ t → Starts s watches (Err error) → IsUnjudged t.conf watches error
start_fault s t watches (Boot e) same h = h
start_fault s t watches (BadWatch k) same h = subst (λ (x : State). IsUnjudged x.conf watches (BadWatch k)) same h

pub start_reach : (never : List ℕ) (s t : State) (m : ReachMemory) → t ≡ s → m ≡ record { core = t; made = 0; sought = Open } → IsReachOf never s [] (Some m)
start_reach never s t m same is =
    subst (λ (x : ReachMemory). IsReachOf never s [] (Some x)) (sym is)
    (refl, subst (λ x. Reaching never s [] 0 x) (sym same) (reaching_none never s []))

-- further on

pub audit_after : (watches : List Watch) (s : State) (events : List Event) (result : Result Unit AuditError) (m : Memory) →
    IsMemoryAfter (without_stores s) watches events result m → IsAuditAfter watches s events result (Some m)
audit_after watches s events (Ok done) m h = h
audit_after watches s events (Err error) m h = h

-- the search for a reach, where it is over

over_on : (never : List ℕ) (s : State) (begun rest : List Event) (reach : Option Reach) (t : State) → IsSought never s begun (Over reach) t →
    IsSought never s (begun ++ rest) (Over reach) t
over_on never s begun rest reach t h more =
    subst (λ es. IsFirstReach never s es reach) (sym (append_assoc begun rest more)) (h (rest ++ more))

pub sought_over : (never : List ℕ) (events : List Event) (old new : ReachMemory) (reach : Option Reach) → old.sought ≡ Over reach → new.sought ≡ old.sought →
    new.made ≡ length events → ReachesOn never events (Some old) (Ok tt) (Some new)
sought_over never events old new reach is same made s begun rest parts h =
    let over : IsSought never s begun (Over reach) old.core = subst (λ x. IsSought never s begun x old.core) is h.1 in
    let longer : IsSought never s events (Over reach) new.core =
    subst (λ es. IsSought never s es (Over reach) new.core) (sym parts) (over_on never s begun rest reach new.core over) in
    (made, subst (λ x. IsSought never s events x new.core) (sym (same ∙ is)) longer)

-- and where it isn't
pub sought_on : (never : List ℕ) (events : List Event) (old new : ReachMemory) → old.sought ≡ Open → new.made ≡ length events →
    ((s : State) → Reaching never s events old.made old.core → IsSought never s events new.sought new.core) →
    ReachesOn never events (Some old) (Ok tt) (Some new)
sought_on never events old new is made seeks s begun rest parts h =
    let all : Reaching never s begun (length begun) old.core = subst (λ x. IsSought never s begun x old.core) is h.1 in
    let longer : Reaching never s (begun ++ rest) (length begun) old.core = reaching_longer never s begun rest (length begun) old.core all in (
      made,
      seeks s (subst (λ es. Reaching never s es old.made old.core) (sym parts)
          (subst (λ n. Reaching never s (begun ++ rest) n old.core) (sym h.0) longer)),
    )

-- or memory is refused
pub sought_fails : (never : List ℕ) (events : List Event) (old : ReachMemory) (error : AuditError) → old.sought ≡ Open →
    ((s : State) → Reaching never s events old.made old.core → error ≡ Boot NoMemory) → (s : State) (begun rest : List Event) → events ≡ begun ++ rest →
    IsReachOf never s begun (Some old) → error ≡ Boot NoMemory
sought_fails never events old error is fails s begun rest parts h =
    let all : Reaching never s begun (length begun) old.core = subst (λ x. IsSought never s begun x old.core) is h.1 in
    let longer : Reaching never s (begun ++ rest) (length begun) old.core = reaching_longer never s begun rest (length begun) old.core all in
    fails s (subst (λ es. Reaching never s es old.made old.core) (sym parts)
    (subst (λ n. Reaching never s (begun ++ rest) n old.core) (sym h.0) longer))

-- both

pub kept_after : (goal : Criteria) (s : State) (begun events : List Event) (old new : StepsMemory) (result : Result Unit AuditError) → IsKeptOf goal s begun old →
    IsAuditOf goal.watches s events new.audit → IsReachAfter goal.never s events result new.reach → IsKeptAfter goal s events result new
kept_after goal s begun events old new (Ok done) h audit reach = record { good = h.good; audit = audit; reach = reach }
kept_after goal s begun events old new (Err error) h audit reach = reach

-- or nothing could be kept
pub not_started : (goal : Criteria) (s : State) (watches : List Watch) (error : AuditError) → watches ≡ goal.watches → IsUnjudged s.conf watches error →
    StartsSteps goal s (Err error)
not_started goal s watches error same h = subst (λ ws. IsUnjudged s.conf ws error) same h
