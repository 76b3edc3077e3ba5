use Rattle.std.specs.Prelude.{◌≡◌, ℕ, ◌<◌, ◌≤◌, ◌%◌, Bool, true, false, ◌==◌, ◌&&◌, List, slice_get, slice_index_or, Option, None, Some}
use Rattle.m161_tlb.specs.declared.row.Row.{Row}
use Rattle.m161_cpu.specs.declared.uses.Via.{Via}
use Rattle.m161_machine.specs.State.{State, processor_at, word_in}
use Rattle.m161_audit.specs.declared.shootdown.Progress.{Progress}
use Rattle.m161_audit.specs.declared.shootdown.Progress.TheVariants.{Before, Changed, GoneOn}
use Rattle.m161_audit.specs.declared.shootdown.Shootdown.{Shootdown}
use Rattle.m161_audit.specs.Stale.{entry_in, is_old}
use Rattle.m161_audit.specs.Tracking.{progress_after}

-- How the code follows the shootdowns.

abbrev pub after_word : ℕ → Shootdown → Shootdown
after_word word x = record { watch = x.watch; progress = progress_after x.watch word x.progress }

abbrev pub has_gone_on : Progress → Bool
has_gone_on Before = false
has_gone_on Changed = false
has_gone_on GoneOn = true

-- the test of one watch
abbrev pub is_old_in : Option ℕ → Option Row → Bool
is_old_in (Some word) (Some row) = is_old (entry_in word) row
is_old_in (Some word) None = false
is_old_in None row = false

abbrev pub is_stale_for : State → ℕ → Via → Shootdown → Bool
is_stale_for s p v x =
    (v.page == x.watch.page) && (v.id == x.watch.id) && has_gone_on x.progress
    && is_old_in (word_in s.memory x.watch.pte) (slice_get (processor_at p s.processors).rows v.row)

-- the words of a watch are from `low` to `high`
abbrev pub IsWithin : ℕ → ℕ → Shootdown → Type 0
IsWithin low high x =
    (low ≤ x.watch.pte) × (x.watch.pte ≤ high) × (low ≤ x.watch.done) × (x.watch.done ≤ high)

-- if the initiator of the watch at place i has gone on, i is in the range of the page
abbrev pub IsInRange : List ℕ → List ℕ → ℕ → Shootdown → Type 0
IsInRange firsts pasts i x =
    x.progress ≡ GoneOn
    → (slice_index_or firsts (x.watch.page % 64) 0 ≤ i)
    × (i < slice_index_or pasts (x.watch.page % 64) 0)

abbrev pub AreInRangesBefore : List ℕ → List ℕ → List Shootdown → ℕ → Type 0
AreInRangesBefore firsts pasts items k =
    (i : ℕ) (x : Shootdown) → i < k → slice_get items i ≡ Some x → IsInRange firsts pasts i x

abbrev pub AreInRanges : List ℕ → List ℕ → List Shootdown → Type 0
AreInRanges firsts pasts items =
    (i : ℕ) (x : Shootdown) → slice_get items i ≡ Some x → IsInRange firsts pasts i x

abbrev pub IsAtMost : ℕ → ℕ → Type 0
IsAtMost most n = n ≤ most
