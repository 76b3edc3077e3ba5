use Rattle.std.proofs.Common.{◌≡◌, ◌∙◌, refl, ap, sym, ℕ, List, [], ◌∷◌, ◌++◌, map, Option, None, Some}
use Rattle.std.proofs.lemmas.Option.{slice_get-map}
use Rattle.std.specs.Prelude.{slice_get, option_map}
use Rattle.m161_audit.specs.declared.watch.Watch.{Watch}
use Rattle.m161_audit.specs.declared.shootdown.Shootdown.{Shootdown}
use Rattle.m161_audit.specs.Tracking.{tracked, shootdown_at}
use Rattle.m161_audit.specs.helpers.Progress.{after_word}
use Rattle.m161_audit.proofs.GoneOn.{progress_more}

-- one store more
pub tracked_more : (watches : List Watch) (stores : List ℕ) (word : ℕ) → map (after_word word) (tracked watches stores) ≡ tracked watches (stores ++ word ∷ [])
tracked_more [] stores word = refl
tracked_more (w ∷ ws) stores word = λ i. record { watch = w; progress = sym (progress_more w stores word) i } ∷ tracked_more ws stores word i

pub at_place : (watches : List Watch) (stores : List ℕ) (i : ℕ) (w : Watch) → slice_get watches i ≡ Some w → slice_get (tracked watches stores) i ≡ Some (shootdown_at stores w)
at_place watches stores i w h = slice_get-map (shootdown_at stores) watches i ∙ ap (option_map (shootdown_at stores)) h

of_option : (stores : List ℕ) (o : Option Watch) (x : Shootdown) → option_map (shootdown_at stores) o ≡ Some x → (w : Watch) × (o ≡ Some w) × (shootdown_at stores w ≡ x)
of_option stores None x h = absurd (let bad : ◌≡◌ {A = Option Shootdown} None (Some x) = h in cc)
of_option stores (Some w) x h = (w, refl, (let e : ◌≡◌ {A = Option Shootdown} (Some (shootdown_at stores w)) (Some x) = h in cc))

pub of_place : (watches : List Watch) (stores : List ℕ) (i : ℕ) (x : Shootdown) → slice_get (tracked watches stores) i ≡ Some x → (w : Watch) × (slice_get watches i ≡ Some w) × (shootdown_at stores w ≡ x)
of_place watches stores i x h = of_option stores (slice_get watches i) x (sym (slice_get-map (shootdown_at stores) watches i) ∙ h)
