use Rattle.std.specs.Prelude.{ℕ, suc, ◌+◌, ◌-◌, ◌<◌, ◌≤◌, true, false, List, [], ◌∷◌, ◌++◌, drop, length, map, Result, Ok, Err}
use Rattle.std.proofs.Common.{◌≡◌, refl, ap, sym, ◌∙◌, arith}
use mathlib.Core.List.{append-nil}
use Rattle.m161_asm.specs.declared.statement.Value.{Value as CodeValue}
use Rattle.m161_asm.specs.declared.statement.ReadError.{ReadError}
use Rattle.m161_asm.specs.declared.statement.ReadError.TheVariants as errors
use Rattle.std.specs.Global.{Global}
use Rattle.std.specs.Prelude.{Vec}
use Rattle.m161_asm.specs.Tokens.{Placed}
use Rattle.m161_asm.specs.Lines.{◌>>=◌, SourceFault, Parsed, Value, value, values, further, mark, wrong}
use Rattle.m161_asm.specs.helpers.Readers.{has_mark, joined, Joins}
use Rattle.m161_asm.specs.helpers.Seen.{with_front, value_seen, all_seen, rest_seen, Yields}
use Rattle.m161_asm.specs.declared.token.Placed.{Placed as CodePlaced}
use Rattle.m161_asm.proofs.Fronts.{fronted}
use Rattle.m161_asm.proofs.Readers.{mark_is}

-- The values of `.word`, one after the other.

-- what a comma leads to
further_next : (f : List Placed → Result (List Value) SourceFault) (past : ℕ) (rest : List Placed)
    → 0 < length rest → has_mark 44 rest ≡ true → further f past rest ≡ f (drop 1 rest)
further_next f past [] h m = absurd (omega (arith, h))
further_next f past (t ∷ ts) h m =
    let d : mark 44 past (t ∷ ts) ≡ Ok (drop 1 (t ∷ ts)) = rw m at (mark_is 44 past (t ∷ ts)) in
    ap (λ x. x >>= f) d

further_none : (f : List Placed → Result (List Value) SourceFault) (past : ℕ) (rest : List Placed)
    → 0 < length rest → has_mark 44 rest ≡ false → further f past rest ≡ wrong past rest
further_none f past [] h m = absurd (omega (arith, h))
further_none f past (t ∷ ts) h m =
    let d : mark 44 past (t ∷ ts) ≡ wrong past (t ∷ ts) = rw m at (mark_is 44 past (t ∷ ts)) in
    ap (λ x. x >>= f) d

same_ok : (x y : List Value × List Placed) (r : Parsed (List Value)) → r ≡ Ok x → r ≡ Ok y → x ≡ y
same_ok x y r d e = cc

-- a value that is read, and those behind it
stepped : (read : Parsed Value) (front all : List Value) (rest : List Placed)
    (f : List Placed → Result (List Value) SourceFault) → joined front read ≡ Ok (all, rest)
    → with_front front (read >>= λ v. f v.1 >>= λ vs. Ok (v.0 ∷ vs)) ≡ with_front all (f rest)
stepped (Ok v) front all rest f e =
    let x : List Value × List Placed = (front ++ (v.0 ∷ []), v.1) in
    let y : List Value × List Placed = (all, rest) in
    let d : x ≡ y = same_ok x y (Ok x) refl e in
    let a : front ++ (v.0 ∷ []) ≡ all = ap (λ (z : List Value × List Placed). z.0) d in
    let b : v.1 ≡ rest = ap (λ (z : List Value × List Placed). z.1) d in
    rw (← a, ← b) (fronted front v.0 (f v.1))
stepped (Err e) front all rest f h = cc

-- the values from the token at which the loop stands
opened : (spare past : ℕ) (front all : List Value) (ts rest : List Placed)
    → joined front (value past ts) ≡ Ok (all, rest)
    → with_front front (values (suc spare) past ts)
    ≡ with_front all (further (λ us. values spare past us) past rest)
unfolding values
opened spare past front all ts rest e =
    stepped (value past ts) front all rest (λ us. further (λ vs. values spare past vs) past us) e

spared : (n i : ℕ) → i < n → n - i ≡ suc (n - (i + 1))
spared n i h = omega (arith, h)

pub one_more : (n i past : ℕ) (front all : List Value) (ts rest : List Placed)
    (whole : Result (List Value) SourceFault) → i < n → joined front (value past ts) ≡ Ok (all, rest)
    → 0 < length rest → has_mark 44 rest ≡ true
    → with_front front (values (n - i) past ts) ≡ whole
    → with_front all (values (n - (i + 1)) past (drop 1 rest)) ≡ whole
one_more n i past front all ts rest whole h e s m k =
    let a = opened (n - (i + 1)) past front all ts rest e in
    let b = further_next (λ us. values (n - (i + 1)) past us) past rest s m in
    let d : with_front front (values (suc (n - (i + 1))) past ts)
    ≡ whole = rw (spared n i h) at k in
    sym (a ∙ ap (with_front all) b) ∙ d

pub last_one : (n i past : ℕ) (front all : List Value) (ts : List Placed)
    (whole : Result (List Value) SourceFault) → i < n → joined front (value past ts) ≡ Ok (all, [])
    → with_front front (values (n - i) past ts) ≡ whole → whole ≡ Ok all
last_one n i past front all ts whole h e k =
    let d : with_front front (values (suc (n - (i + 1))) past ts)
    ≡ whole = rw (spared n i h) at k in
    sym d ∙ opened (n - (i + 1)) past front all ts [] e ∙ ap Ok (append-nil all)

-- the reader's error is that of the values
pub bad_value : (e : ReadError) (n i past : ℕ) (old new : List CodeValue) (ts : List Placed)
    (whole : Result (List Value) SourceFault) → i < n
    → Joins value_seen rest_seen (Err e) old new (value past ts)
    → with_front (map value_seen old) (values (n - i) past ts) ≡ whole
    → Yields (λ (vs : Vec CodeValue Global). map value_seen vs.items) (Err e) whole
unfolding values
bad_value errors.Memory n i past old new ts whole h j k = tt
bad_value (errors.Fault f) n i past old new ts whole h j k =
    let d : with_front (map value_seen old) (values (suc (n - (i + 1))) past ts)
    ≡ whole = rw (spared n i h) at k in
    sym d ∙ rw j refl

pub bad_comma : (n i past : ℕ) (front all : List Value) (ts rest : List Placed)
    (whole : Result (List Value) SourceFault) → i < n → joined front (value past ts) ≡ Ok (all, rest)
    → 0 < length rest → has_mark 44 rest ≡ false
    → with_front front (values (n - i) past ts) ≡ whole → whole ≡ wrong past rest
bad_comma n i past front all ts rest whole h e s m k =
    let d : with_front front (values (suc (n - (i + 1))) past ts)
    ≡ whole = rw (spared n i h) at k in
    sym d ∙ opened (n - (i + 1)) past front all ts rest e
    ∙ ap (with_front all) (further_none (λ us. values (n - (i + 1)) past us) past rest s m)

pub none_left : (n i past : ℕ) (front : List Value) (ts : List Placed)
    (whole : Result (List Value) SourceFault) → n ≤ i → with_front front (values (n - i) past ts) ≡ whole
    → whole ≡ wrong past ts
unfolding values
none_left n i past front ts whole h k =
    let z : n - i ≡ 0 = omega (arith, h) in
    let d : with_front front (values 0 past ts) ≡ whole = rw z at k in
    sym d

pub none_seen : (xs : List CodePlaced) → length xs ≡ 0 → all_seen xs ≡ []
none_seen [] h = refl
none_seen (x ∷ xs) h = absurd (omega (arith, h))

pub some_seen : (xs : List CodePlaced) → 0 < length xs → 0 < length (all_seen xs)
some_seen [] h = absurd (omega (arith, h))
some_seen (x ∷ xs) h = omega arith
