use Rattle.std.proofs.Common.{◌≡◌, ◌∙◌, ℕ, ◌-◌, Option, None, Some, Ok, Err, Vec, length, length-drop, refl, ap}
use Rattle.std.proofs.lemmas.List.{length-map}
use Rattle.std.specs.Global.{Global}
use Rattle.m161_machine.specs.declared.event.Event.{Event}
use Rattle.m161_machine.specs.History.{events_of}
use Rattle.m161_debug.specs.declared.jump.JumpError.{JumpError}
use Rattle.m161_debug.specs.declared.jump.JumpError.TheVariants.{NoMemory}
use Rattle.m161_debug.specs.Breakpoints.{SessionState}
use Rattle.m161_debug.specs.Jumps.{Jumps}

-- Jumps, by the first reason not to jump.

pub refused : (k : ℕ) (s : SessionState) (f : Option JumpError) (e : JumpError) → Some e ≡ f → Jumps f k s (Err e) s
refused k s (Some first) e is = let same : e ≡ first = cc in (same, refl)
refused k s None e is = absurd (cc)

pub no_memory : (k : ℕ) (s : SessionState) (f : Option JumpError) → None ≡ f → Jumps f k s (Err NoMemory) s
no_memory k s (Some first) is = absurd (cc)
no_memory k s None is = (refl, refl)

-- how many events are undone
pub undone_many : (k : ℕ) (s t : SessionState) (f : Option JumpError) (undone : Vec Event Global) → None ≡ f → Jumps f k s (Ok undone) t →
    length undone.items ≡ length s.machine.log - k
undone_many k s t (Some first) undone is h = absurd h
undone_many k s t None undone is h =
    ap length h.undone_are ∙ length-drop k (events_of s.machine.log) ∙ ap (λ n. n - k) (length-map s.machine.log _)
