use Rattle.std.specs.Prelude.{ℕ, zero, suc, ◌+◌, ◌<◌, ◌≤◌, List, [], ◌∷◌, ◌++◌, length, map, drop, Result, Ok, Err}
use Rattle.std.specs.List.{slice_index_or}
use Rattle.std.proofs.Common.{◌≡◌, refl, ap, sym, ◌∙◌, arith}
use mathlib.Core.List.{append-nil}
use Rattle.m161_asm.specs.Lines.{◌>>=◌, SourceFault}
use Rattle.m161_asm.specs.Text.{each}
use Rattle.m161_asm.specs.helpers.Seen.{with_front}
use Rattle.m161_asm.proofs.Fronts.{fronted}

-- A list of numbers, one after the other.

dropped : {C : Type 0} (cs : List C) (d : C) (i : ℕ) → i < length cs
    → drop i cs ≡ slice_index_or cs i d ∷ drop (i + 1) cs
dropped [] d i h = absurd (omega (arith, h))
dropped (c ∷ cs) d zero h = refl
dropped (c ∷ cs) d (suc i) h =
    let e : suc i + 1 ≡ suc (i + 1) = omega arith in rw e (dropped cs d i (omega (arith, h)))

ends : {C : Type 0} (cs : List C) (i : ℕ) → length cs ≤ i → drop i cs ≡ []
ends [] zero h = refl
ends [] (suc i) h = refl
ends (c ∷ cs) zero h = absurd (omega (arith, h))
ends (c ∷ cs) (suc i) h = ends cs i (omega (arith, h))

pub one_more : {A C : Type 0} (view : C → A) (f : A → Result ℕ SourceFault) (cs : List C) (d : C)
    (i n : ℕ) (front : List ℕ) (whole : Result (List ℕ) SourceFault) → i < length cs
    → f (view (slice_index_or cs i d)) ≡ Ok n
    → with_front front (each f (map view (drop i cs))) ≡ whole
    → with_front (front ++ (n ∷ [])) (each f (map view (drop (i + 1) cs))) ≡ whole
one_more view f cs d i n front whole h e k =
    let g : with_front front (each f (map view (slice_index_or cs i d ∷ drop (i + 1) cs)))
    ≡ whole = rw (dropped cs d i h) at k in
    let m : with_front front (each f (map view (drop (i + 1) cs)) >>= λ ns. Ok (n ∷ ns))
    ≡ whole = rw e at g in
    sym (fronted front n (each f (map view (drop (i + 1) cs)))) ∙ m

pub stopped : {A C : Type 0} (view : C → A) (f : A → Result ℕ SourceFault) (cs : List C) (d : C) (i : ℕ)
    (x : SourceFault) (front : List ℕ) (whole : Result (List ℕ) SourceFault) → i < length cs
    → f (view (slice_index_or cs i d)) ≡ Err x
    → with_front front (each f (map view (drop i cs))) ≡ whole → whole ≡ Err x
stopped view f cs d i x front whole h e k =
    let g : with_front front (each f (map view (slice_index_or cs i d ∷ drop (i + 1) cs)))
    ≡ whole = rw (dropped cs d i h) at k in
    let m : Err x ≡ whole = rw e at g in
    sym m

pub all_done : {A C : Type 0} (view : C → A) (f : A → Result ℕ SourceFault) (cs : List C) (i : ℕ)
    (front : List ℕ) (whole : Result (List ℕ) SourceFault) → length cs ≤ i
    → with_front front (each f (map view (drop i cs))) ≡ whole → whole ≡ Ok front
all_done view f cs i front whole h k =
    let g : Ok (front ++ []) ≡ whole = rw (ends cs i h) at k in
    sym g ∙ ap Ok (append-nil front)

pub front_err : {Y : Type 0} (front : List Y) (read : Result (List Y) SourceFault) (x : SourceFault)
    → with_front front read ≡ Err x → read ≡ Err x
front_err front (Ok ys) x e = cc
front_err front (Err y) x e = e
