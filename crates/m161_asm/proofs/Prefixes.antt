use Rattle.std.specs.Prelude.{◌⊎◌, ℕ, zero, suc, ◌+◌, ◌<◌, ◌≤◌, List, [], ◌∷◌, ◌++◌, length, map, take, drop, Err}
use Rattle.std.specs.List.{slice_index_or}
use Rattle.std.proofs.Common.{◌≡◌, inl, inr, refl, ap, sym, ◌∙◌, subst, arith}
use Rattle.std.proofs.lemmas.List.{map-append, reverse-append}
use Rattle.m161_asm.specs.declared.statement.Line.{Line as CodeLine}
use Rattle.m161_asm.specs.declared.statement.ReadError.{ReadError}
use Rattle.m161_asm.specs.declared.statement.ReadError.TheVariants as errors
use Rattle.m161_asm.specs.declared.error.AsmError.{AsmError}
use Rattle.m161_asm.specs.declared.error.ErrorKind.TheVariants as faults
use Rattle.m161_asm.specs.declared.second.SecondPass.{SecondPass}
use Rattle.m161_asm.specs.Lines.{SourceFault, SourceLine}
use Rattle.m161_asm.specs.Text.{segments_of}
use Rattle.m161_asm.specs.helpers.Lawful.{Lawful}
use Rattle.m161_asm.specs.helpers.Seen.{line_seen, above_of, TellsFault}
use Rattle.m161_asm.specs.helpers.SecondPass.{FillsLine, IsFilled}
use Rattle.m161_asm.proofs.Above.{took, above_len}

-- The first lines of a text, while the second pass goes over them.

take_next : {C : Type 0} (cs : List C) (d : C) (i : ℕ) → i < length cs
    → take (i + 1) cs ≡ take i cs ++ (slice_index_or cs i d ∷ [])
take_next [] d i h = absurd (omega (arith, h))
take_next (c ∷ cs) d zero h = refl
take_next (c ∷ cs) d (suc i) h =
    let e : suc i + 1 ≡ suc (i + 1) = omega arith in
    rw e (ap (λ t. c ∷ t) (take_next cs d i (omega (arith, h))))

take_drop : {C : Type 0} (cs : List C) (n : ℕ) → take n cs ++ drop n cs ≡ cs
take_drop [] zero = refl
take_drop [] (suc n) = refl
take_drop (c ∷ cs) zero = refl
take_drop (c ∷ cs) (suc n) = ap (λ t. c ∷ t) (take_drop cs n)

length_taken : {C : Type 0} (cs : List C) (n : ℕ) → n ≤ length cs → length (take n cs) ≡ n
length_taken [] zero h = refl
length_taken [] (suc n) h = absurd (omega (arith, h))
length_taken (c ∷ cs) zero h = refl
length_taken (c ∷ cs) (suc n) h = let e = length_taken cs n (omega (arith, h)) in omega (arith, e)

above_split : (xs ys : List CodeLine) → above_of (xs ++ ys) ≡ above_of ys ++ above_of xs
above_split xs ys =
    rw (map-append line_seen xs ys) (reverse-append (map line_seen xs) (map line_seen ys))

above_at : (ls : List CodeLine) (n : ℕ) → above_of (drop n ls) ++ above_of (take n ls) ≡ above_of ls
above_at ls n = sym (above_split (take n ls) (drop n ls)) ∙ ap above_of (take_drop ls n)

-- one line more
pub next_above : (ls : List CodeLine) (d : CodeLine) (i : ℕ) → i < length ls
    → above_of (take (i + 1) ls) ≡ line_seen (slice_index_or ls i d) ∷ above_of (take i ls)
next_above ls d i h =
    took (take i ls) (take (i + 1) ls) (slice_index_or ls i d) (take_next ls d i h)

lawful_behind : (xs ys : List SourceLine) → Lawful (xs ++ ys) → Lawful ys
lawful_behind [] ys h = h
lawful_behind (x ∷ xs) ys (a, h) = lawful_behind xs ys h

pub lawful_at : (ls : List CodeLine) (d : CodeLine) (i : ℕ) → i < length ls → Lawful (above_of ls)
    → Lawful (line_seen (slice_index_or ls i d) ∷ above_of (take i ls))
lawful_at ls d i h l =
    subst Lawful (next_above ls d i h)
    (lawful_behind (above_of (drop (i + 1) ls)) (above_of (take (i + 1) ls))
    (subst Lawful (sym (above_at ls (i + 1))) l))

-- a fault stays, whatever stands below
faulty : (symbols : List (List ℕ × ℕ)) (xs ys : List SourceLine) (e : ℕ × SourceFault)
    → segments_of symbols ys ≡ Err e → segments_of symbols (xs ++ ys) ≡ Err e
unfolding segments_of
faulty symbols [] ys e h = h
faulty symbols (x ∷ xs) ys e h = rw (faulty symbols xs ys e h) refl

pub told_pass : (e : AsmError) (r : ReadError) (symbols : List (List ℕ × ℕ)) (ls : List CodeLine)
    (d : CodeLine) (i : ℕ) (new : SecondPass) → TellsFault e (i + 1) r → i < length ls
    → FillsLine (Err r) new symbols (line_seen (slice_index_or ls i d) ∷ above_of (take i ls))
    → ((e.kind ≡ faults.NoMemory) × (e.column ≡ 1))
    ⊎ (segments_of symbols (above_of ls) ≡ Err (e.line, (e.kind, e.column)))
told_pass e errors.Memory symbols ls d i new t h f = inl t
told_pass e (errors.Fault x) symbols ls d i new (l, c, k) h f =
    let size : length (line_seen (slice_index_or ls i d) ∷ above_of (take i ls))
    ≡ e.line = omega (arith, l, above_len (take i ls), length_taken ls i (omega (arith, h))) in
    let here : segments_of symbols (above_of (take (i + 1) ls))
    ≡ Err (e.line, (e.kind, e.column)) = rw (next_above ls d i h) (f ∙ rw (size, c, k) refl) in
    inr (subst (λ (xs : List SourceLine). segments_of symbols xs ≡ Err (e.line, (e.kind, e.column)))
    (above_at ls (i + 1))
    (faulty symbols (above_of (drop (i + 1) ls)) (above_of (take (i + 1) ls))
    (e.line, (e.kind, e.column)) here))

-- the same at a line that was read out of the list
pub lawful_here : (ls : List CodeLine) (x : CodeLine) (i : ℕ) → x ≡ slice_index_or ls i x
    → i < length ls → Lawful (above_of ls) → Lawful (line_seen x ∷ above_of (take i ls))
lawful_here ls x i e h l =
    subst (λ (y : CodeLine). Lawful (line_seen y ∷ above_of (take i ls))) (sym e)
    (lawful_at ls x i h l)

pub told_here : (e : AsmError) (r : ReadError) (symbols : List (List ℕ × ℕ)) (ls : List CodeLine)
    (x : CodeLine) (i : ℕ) (new : SecondPass) → x ≡ slice_index_or ls i x → TellsFault e (i + 1) r
    → i < length ls → FillsLine (Err r) new symbols (line_seen x ∷ above_of (take i ls))
    → ((e.kind ≡ faults.NoMemory) × (e.column ≡ 1))
    ⊎ (segments_of symbols (above_of ls) ≡ Err (e.line, (e.kind, e.column)))
told_here e r symbols ls x i new q t h f =
    told_pass e r symbols ls x i new t h
    (subst (λ (y : CodeLine). FillsLine (Err r) new symbols (line_seen y ∷ above_of (take i ls))) q
    f)

-- the pass is one line further
pub filled_here : (p : SecondPass) (symbols : List (List ℕ × ℕ)) (ls : List CodeLine) (x : CodeLine)
    (i : ℕ) → x ≡ slice_index_or ls i x → i < length ls
    → IsFilled p symbols (line_seen x ∷ above_of (take i ls))
    → IsFilled p symbols (above_of (take (i + 1) ls))
filled_here p symbols ls x i e h f =
    subst (IsFilled p symbols)
    (ap (λ y. line_seen y ∷ above_of (take i ls)) e ∙ sym (next_above ls x i h)) f

take_whole : {C : Type 0} (cs : List C) (i : ℕ) → length cs ≤ i → take i cs ≡ cs
take_whole [] zero h = refl
take_whole [] (suc i) h = refl
take_whole (c ∷ cs) zero h = absurd (omega (arith, h))
take_whole (c ∷ cs) (suc i) h = ap (λ t. c ∷ t) (take_whole cs i (omega (arith, h)))

pub filled_all : (p : SecondPass) (symbols : List (List ℕ × ℕ)) (ls : List CodeLine) (i : ℕ)
    → length ls ≤ i → IsFilled p symbols (above_of (take i ls)) → IsFilled p symbols (above_of ls)
filled_all p symbols ls i h f =
    subst (λ (t : List CodeLine). IsFilled p symbols (above_of t)) (take_whole ls i h) f
