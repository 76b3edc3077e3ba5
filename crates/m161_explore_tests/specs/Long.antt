use Rattle.std.specs.Prelude.{◌≡◌, ℕ, ◌+◌, ◌*◌, ◌<◌, ◌==◌, nat_lt, zero, suc, List, ◌∷◌, ◌++◌, length, replicate, slice_index_or, Bool, true, false, None, Some, if◌then◌else◌}
use Rattle.std.proofs.Common.{arith, refl, ap, sym, ◌∙◌}
use Rattle.std.proofs.lemmas.List.{length-replicate}
use borrow.Author.Tests.{ltb-true}
use Rattle.m161_explore.specs.Rules.{Rules}
use Rattle.m161_explore_tests.specs.declared.long.Long.{Long}
use Rattle.m161_explore_tests.specs.declared.long.Shape.{Shape}
use Rattle.m161_explore_tests.specs.declared.long.Shape.TheVariants.{Counted, Marked}
use Rattle.m161_explore_tests.specs.Table.{next_of, place_behind, stop_of, verdict_of}

-- A table whose states have long views.

-- how many words a view has that shows its state by their number
abbrev pub count_of : ℕ → Bool → ℕ → ℕ
count_of first whole s = first + (if whole then 64 * s else s)

abbrev pub view_of : Shape → ℕ → List ℕ
view_of (Marked before after) s = replicate before 7 ++ s ∷ replicate after 7
view_of (Counted first whole) s = replicate (count_of first whole s) 7

abbrev pub long_rules : Long → Rules ℕ ℕ ℕ
long_rules long = record {
  width = 2;
  start = 0;
  next = λ s e. next_of long.table s e;
  verdict = λ s e. verdict_of long.table s e;
  stop = λ s e. stop_of long.table s e;
  is_end = λ s. s == long.table.end;
  view = λ s. view_of long.shape s;
}

-- the word at the place of the state
pub mark_at : (n s : ℕ) (rest : List ℕ) → slice_index_or (replicate n 7 ++ s ∷ rest) n 0 ≡ s
mark_at zero s rest = refl
mark_at (suc n) s rest = mark_at n s rest

pub same_count : (first : ℕ) (whole : Bool) (s t : ℕ) → count_of first whole s ≡ count_of first whole t → s ≡ t
same_count first true s t h = omega arith
same_count first false s t h = omega arith

-- a view has one state
pub same_view : (shape : Shape) (s t : ℕ) → view_of shape s ≡ view_of shape t → s ≡ t
same_view (Marked before after) s t h =
    sym (mark_at before s (replicate after 7)) ∙ ap (λ x. slice_index_or x before 0) h ∙ mark_at before t (replicate after 7)
same_view (Counted first whole) s t h =
    same_count first whole s t (sym (length-replicate (count_of first whole s) 7) ∙ ap length h ∙ length-replicate (count_of first whole t) 7)

below_eight : (b : Bool) (p t : ℕ) → nat_lt p 8 ≡ b → (if b then Some p else None) ≡ Some t → t < 8
below_eight true p t h e = let same : p ≡ t = cc in omega (arith, ltb-true p 8 h)
below_eight false p t h e = absurd (cc)

-- an event leads to one of the eight states
pub next_below : (long : Long) (s t e : ℕ) → next_of long.table s e ≡ Some t → t < 8
next_below long s t e h = below_eight (nat_lt (place_behind long.table s e) 8) (place_behind long.table s e) t refl h

pub zero_below : 0 < 8
zero_below = omega arith
