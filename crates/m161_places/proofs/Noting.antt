use Rattle.std.proofs.Common.{◌≡◌, ◌∙◌, ap, sym, subst, ℕ, ◌≤◌, Bool, true, false, List, [], ◌∷◌, ◌++◌, length, arith}
use Rattle.std.specs.List.{range_with_len}
use Rattle.std.specs.Prelude.{Option, Some, if◌then◌else◌, ◌&&◌, nat_lt}
use Rattle.m161_machine.specs.declared.event.Entry.{Entry}
use Rattle.m161_machine.specs.declared.event.Event.{Event}
use Rattle.m161_machine.specs.State.{State}
use Rattle.m161_drive.specs.declared.cursor.Cursor.{Cursor}
use Rattle.m161_drive.specs.Drive.{Chooses, Goes}
use Rattle.m161_drive.specs.Policy.{Rules}
use Rattle.m161_drive.specs.Ready.{is_ready, ready}
use Rattle.m161_places.specs.Going.{place_number}
use Rattle.m161_places.specs.helpers.Noting.{GoesNoting}
use Rattle.m161_places.specs.Places.{is_place, is_step}
use Rattle.m161_places.proofs.Along.{any_counted}

-- Events that are noted.

pub noted_one : (rules : Rules) (keys : ℕ → Option ℕ) (c d : Cursor) (s t : State) (e : Entry) (r places : ℕ) (old new : List Event) →
    r ≡ length (ready s) → places ≡ (if is_step (Some e.event) && nat_lt 0 r then 1 else 0) → new ≡ old ++ e.event ∷ [] →
    Chooses rules keys c s (e ∷ []) d t → GoesNoting rules keys c s old places d t new
noted_one rules keys c d s t e r places old new count is noted h =
    let here : (is_step (Some e.event) && nat_lt 0 r) ≡ is_place (Some e.event) s =
    ap (λ x. is_step (Some e.event) && nat_lt 0 x) count
    ∙ ap (λ b. is_step (Some e.event) && b) (sym (any_counted (is_ready s) (range_with_len 0 (length s.processors)))) in
    let goes : Goes rules (keys c.typed) c s e d t =
    subst (λ x. Goes rules (keys c.typed) c s e x t) (sym h.3.0) (subst (λ u. Goes rules (keys c.typed) c s e h.0 u) (sym h.3.1) h.2) in
    (e, goes, is ∙ ap (λ b. if b then 1 else 0) here, noted)

few_here : (b : Bool) → (if b then 1 else 0) ≤ 1
few_here true = omega arith
few_here false = omega arith

pub place_few : (e : Event) (s : State) → place_number e s ≤ 1
place_few e s = few_here (is_place (Some e) s)
