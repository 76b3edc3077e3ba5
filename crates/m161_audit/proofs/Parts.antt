use Rattle.std.proofs.Common.{◌≡◌, ◌≢◌, ◌∙◌, ◌⊎◌, inl, inr, refl, ap, sym, subst, arith, ℕ, zero, suc, ◌+◌, ◌-◌, ◌<◌, ◌≤◌, List, [], ◌∷◌, ◌++◌, length, take, Option, Some, Result, Ok, Err}
use Rattle.std.proofs.lemmas.Bool.{cases_lt}
use Rattle.std.proofs.lemmas.List.{length-append, take_all}
use Rattle.std.proofs.Math.Seq.{take-length}
use Rattle.m161_cpu.specs.declared.uses.Via.{Via}
use Rattle.m161_machine.specs.declared.event.Event.{Event}
use Rattle.m161_machine.specs.State.{State}
use Rattle.m161_machine.specs.StoreHistory.{StoreState, without_stores}
use Rattle.m161_audit.specs.declared.finding.AuditError.{AuditError}
use Rattle.m161_audit.specs.declared.finding.Finding.{Finding}
use Rattle.m161_audit.specs.declared.finding.Finding.TheVariants.{Clean, Stale}
use Rattle.m161_audit.specs.declared.shootdown.Shootdown.{Shootdown}
use Rattle.m161_audit.specs.declared.watch.Watch.{Watch}
use Rattle.m161_audit.specs.Going.{GoesOn, IsFoundInParts, IsMemoryOf, Memory, behind}
use Rattle.m161_audit.specs.Stale.{IsFinding, IsStale, IsStaleAt, NoneBefore, after_event, after_events}
use Rattle.m161_audit.specs.Tracking.{tracked}
use Rattle.m161_audit.specs.Tracking.{IsAt}
use Rattle.m161_audit.specs.helpers.Run.{FindsIn, FindsOn, NoneStale, Passes}
use Rattle.m161_audit.proofs.Begun.{at_boot}
use Rattle.m161_audit.proofs.Made.{clean}

-- Audits that go on.

-- places among the first events

in_first : (watches : List Watch) (s : StoreState) (xs ys : List Event) (k p : ℕ) (v : Via) → k < length xs →
    IsStaleAt s (xs ++ ys) watches k p v → IsStaleAt s xs watches k p v
in_first watches s [] ys k p v less at = absurd (omega (arith, less))
in_first watches s (x ∷ xs) ys zero p v less at = (at.0, at.1, at.2)
in_first watches s (x ∷ xs) ys (suc k) p v less at =
    let more = in_first watches (after_event s x) xs ys k p v (omega (arith, less)) (at.0, at.1, at.2) in
    (more.0, more.1, more.2)

of_first : (watches : List Watch) (s : StoreState) (xs ys : List Event) (k p : ℕ) (v : Via) → k < length xs →
    IsStaleAt s xs watches k p v → IsStaleAt s (xs ++ ys) watches k p v
of_first watches s [] ys k p v less at = absurd (omega (arith, less))
of_first watches s (x ∷ xs) ys zero p v less at = (at.0, at.1, at.2)
of_first watches s (x ∷ xs) ys (suc k) p v less at =
    let more = of_first watches (after_event s x) xs ys k p v (omega (arith, less)) (at.0, at.1, at.2) in
    (more.0, more.1, more.2)

-- and among the rest

in_rest : (watches : List Watch) (s : StoreState) (xs ys : List Event) (k j p : ℕ) (v : Via) → k ≡ length xs + j →
    IsStaleAt s (xs ++ ys) watches k p v → IsStaleAt (after_events s xs) ys watches j p v
in_rest watches s [] ys k j p v is at =
    let same : k ≡ j = omega (arith, is) in
    subst (λ i. IsStaleAt s ys watches i p v) same at
in_rest watches s (x ∷ xs) ys zero j p v is at = absurd (omega (arith, is))
in_rest watches s (x ∷ xs) ys (suc k) j p v is at =
    in_rest watches (after_event s x) xs ys k j p v (omega (arith, is)) (at.0, at.1, at.2)

of_rest : (watches : List Watch) (s : StoreState) (xs ys : List Event) (k j p : ℕ) (v : Via) → k ≡ length xs + j →
    IsStaleAt (after_events s xs) ys watches j p v → IsStaleAt s (xs ++ ys) watches k p v
of_rest watches s [] ys k j p v is at =
    let same : j ≡ k = omega (arith, is) in
    subst (λ i. IsStaleAt s ys watches i p v) same at
of_rest watches s (x ∷ xs) ys zero j p v is at = absurd (omega (arith, is))
of_rest watches s (x ∷ xs) ys (suc k) j p v is at =
    let more = of_rest watches (after_event s x) xs ys k j p v (omega (arith, is)) at in
    (more.0, more.1, more.2)

-- the law

stale_within : (watches : List Watch) (s : StoreState) (events : List Event) (k p : ℕ) (v : Via) → IsStaleAt s events watches k p v → k < length events
stale_within watches s [] k p v at = absurd (let bad : ◌≡◌ {A = Option Event} Option.None (Some at.0) = at.1 in cc)
stale_within watches s (x ∷ xs) zero p v at = omega arith
stale_within watches s (x ∷ xs) (suc k) p v at =
    let less = stale_within watches (after_event s x) xs k p v (at.0, at.1, at.2) in omega (arith, less)

first_found : (watches : List Watch) (s : StoreState) (xs ys : List Event) (f : Finding) → f ≢ Clean → IsFinding s xs watches f → IsFinding s (xs ++ ys) watches f
first_found watches s xs ys Clean not h = absurd (not refl)
first_found watches s xs ys (Stale place p address row) not h =
    let at = h.1 in
    let within = stale_within watches s xs place p at.0 at.3 in (
      λ k less q u stale. h.0 k less q u (in_first watches s xs ys k q u (omega (arith, less, within)) stale),
      (at.0, at.1, at.2, of_first watches s xs ys place p at.0 within at.3),
    )

-- none among the first events, and none below a place of the rest
none_below : (watches : List Watch) (s : StoreState) (xs ys : List Event) (n m : ℕ) → m ≡ length xs + n → NoneBefore s xs watches (length xs) →
    NoneBefore (after_events s xs) ys watches n → NoneBefore s (xs ++ ys) watches m
none_below watches s xs ys n m is none more k less p v at = elim (cases_lt k (length xs)) as (λ _. ⊥) [
  | inl before ↦ none k before p v (in_first watches s xs ys k p v before at)
  | inr past ↦
      (let j = k - length xs in
      let there : k ≡ length xs + j = omega (arith, past) in
      more j (omega (arith, less, is, there)) p v (in_rest watches s xs ys k j p v there at))
]

rest_found : (watches : List Watch) (s : StoreState) (xs ys : List Event) (f : Finding) → IsFinding s xs watches Clean →
    IsFinding (after_events s xs) ys watches f → IsFinding s (xs ++ ys) watches (behind (length xs) f)
rest_found watches s xs ys Clean none h =
    none_below watches s xs ys (length ys) (length (xs ++ ys)) (length-append xs ys) none h
rest_found watches s xs ys (Stale place p address row) none h =
    let at = h.1 in (
      none_below watches s xs ys place (length xs + place) refl none h.0,
      (at.0, at.1, at.2, of_rest watches s xs ys (length xs + place) place p at.0 refl at.3),
    )

pub in_parts : (s : StoreState) (begun rest : List Event) (watches : List Watch) → IsFoundInParts s begun rest watches
in_parts s begun rest watches = (first_found watches s begun rest, rest_found watches s begun rest)

-- what the code's loop says

none_stale : (watches : List Watch) (s : StoreState) (events : List Event) → NoneBefore s events watches (length events) → NoneStale watches s events
none_stale watches s [] none = tt
none_stale watches s (x ∷ xs) none = (
  λ p v stale. none zero (omega arith) p v (x, refl, stale),
  none_stale watches (after_event s x) xs (λ k less p v at. none (suc k) (omega (arith, less)) p v (at.0, at.1, at.2)),
)

pub passes_none : (watches : List Watch) (s : StoreState) (core : State) (items : List Shootdown) → IsAt watches s core items → Passes watches s [] core items
passes_none watches s core items at = (tt, at)

pub finds_in : (watches : List Watch) (s : StoreState) (events : List Event) (r : Result Finding AuditError) (core : State) (items : List Shootdown) →
    FindsOn watches s events r core items → FindsIn watches s events r
finds_in watches s events (Ok Clean) core items h = clean watches s events h.0
finds_in watches s events (Ok (Stale k p address row)) core items h = h
finds_in watches s events (Err error) core items h = h

-- the memory

stale_isnt_clean : (place p address row : ℕ) → Stale place p address row ≡ Clean → ⊥
stale_isnt_clean place p address row h = cc

-- before the first event
pub first_memory : (watches : List Watch) (s core : State) (items : List Shootdown) (audited : ℕ) → core ≡ s → items ≡ tracked watches [] → audited ≡ 0 →
    IsMemoryOf (without_stores s) watches [] (record { core = core; shootdowns = items; audited = audited; finding = Clean })
first_memory watches s core items audited core_is items_are none = record {
  found = λ k less p v at. omega (arith, less);
  goes_on = λ _. (none, at_boot watches s core items core_is items_are);
}

new_memory : (watches : List Watch) (s : StoreState) (events : List Event) (f : Finding) (core : State) (items : List Shootdown) (audited : ℕ) →
    audited ≡ length events → FindsOn watches s events (Ok f) core items →
    IsMemoryOf s watches events (record { core = core; shootdowns = items; audited = audited; finding = f })
new_memory watches s events Clean core items audited all h = record {
  found = clean watches s events h.0;
  goes_on = λ _. (all, h.1);
}
new_memory watches s events (Stale k p address row) core items audited all h = record {
  found = h;
  goes_on = λ is. absurd (stale_isnt_clean k p address row is);
}

-- the first events were made
pub were_made : (watches : List Watch) (s : StoreState) (begun rest events : List Event) (m : Memory) → events ≡ begun ++ rest → m.finding ≡ Clean →
    IsMemoryOf s watches begun m → Passes watches s (take m.audited events) m.core m.shootdowns
were_made watches s begun rest events m all is h =
    let on = h.goes_on is in
    let first : take m.audited events ≡ begun =
    (λ i. take (on.0 i) (all i)) ∙ take-seam begun rest in
    let none = none_stale watches s begun (subst (IsFinding s begun watches) is h.found) in
    subst (λ es. Passes watches s es m.core m.shootdowns) (sym first) (none, on.1)
  where
    take-seam : (xs ys : List Event) → take (length xs) (xs ++ ys) ≡ xs
    take-seam [] ys = refl
    take-seam (x ∷ xs) ys = ap (λ l. x ∷ l) (take-seam xs ys)

-- where no stale use was found
pub clean_goes_on : (events : List Event) (m : Memory) (f : Finding) (core : State) (items : List Shootdown) (audited : ℕ) → m.finding ≡ Clean →
    audited ≡ length events →
    ((watches : List Watch) (s : StoreState) → Passes watches s (take m.audited events) m.core m.shootdowns → FindsOn watches s events (Ok f) core items) →
    GoesOn events m (Ok tt) (record { core = core; shootdowns = items; audited = audited; finding = f })
clean_goes_on events m f core items audited is all finds s watches begun rest parts h =
    new_memory watches s events f core items audited all (finds watches s (were_made watches s begun rest events m parts is h))

-- where one was found
pub stale_goes_on : (events : List Event) (m n : Memory) (place p address row : ℕ) → m.finding ≡ Stale place p address row → n ≡ m →
    GoesOn events m (Ok tt) n
stale_goes_on events m n place p address row is same s watches begun rest parts h =
    let not : m.finding ≢ Clean = λ clean. stale_isnt_clean place p address row (sym is ∙ clean) in
    subst (λ (x : Memory). IsMemoryOf s watches events x) (sym same) (record {
      found = subst (λ es. IsFinding s es watches m.finding) (sym parts) ((in_parts s begun rest watches).0 m.finding not h.found);
      goes_on = λ clean. absurd (not clean);
    })
