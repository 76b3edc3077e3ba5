use Rattle.std.proofs.Common.{◌≡◌, refl, ap, ℕ, ◌+◌, ◌<◌, ◌≤◌, Bool, true, false, List, length, drop, get_or, Option, None}
use Rattle.std.specs.Prelude.{◌||◌, if◌then◌else◌}
use Rattle.std.proofs.lemmas.List.{drop_all, drop_more}
use Rattle.m161_audit.specs.declared.watch.Watch.{Watch}
use Rattle.m161_states.specs.System.{Flags}
use Rattle.m161_states.specs.Verdicts.{reached_at, some_watch}

-- Tests of the watches, and of the addresses, one after the other.

pub watch_more : (test : Watch → Flags → Bool) (ws : List Watch) (kept : List Flags) (i : ℕ) (w : Watch) (f : Flags) → i < length ws → i < length kept →
    some_watch test (drop i ws) (drop i kept) ≡ (test (get_or ws i w) (get_or kept i f) || some_watch test (drop (i + 1) ws) (drop (i + 1) kept))
watch_more test ws kept i w f inside within =
    let watches = drop_more ws i w inside in
    let flags = drop_more kept i f within in
    λ j. some_watch test (watches j) (flags j)

pub watch_none : (test : Watch → Flags → Bool) (ws : List Watch) (kept : List Flags) (i : ℕ) → length ws ≤ i → some_watch test (drop i ws) (drop i kept) ≡ false
watch_none test ws kept i past = ap (λ l. some_watch test l (drop i kept)) (drop_all i ws past)

-- what a Step reached, by what it reaches if it fetches a word
pub reached : (never : List ℕ) (p address : ℕ) (word : Option ℕ) (none : Bool) →
    reached_at never p address (if none then None else word) ≡ (if none then None else reached_at never p address word)
reached never p address word true = refl
reached never p address word false = refl
