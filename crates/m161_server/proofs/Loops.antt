use Rattle.std.proofs.Common.{◌≡◌, refl, sym, subst, ℕ, zero, suc, ◌+◌, ◌-◌, ◌<◌, List, [], ◌∷◌, ◌++◌, Option, None, Some, ap, ◌∙◌, add-one, append_assoc, length, length-append, arith}
use Rattle.std.proofs.lemmas.List.{append-nil}
use Rattle.m161_gdb.specs.Motions.{tabulate}
use Rattle.m161_server.specs.Texts.{byte_and, byte_at, bytes_from, up_to}

-- one text more
pub one_more : (text : ℕ → List ℕ) (n : ℕ) → up_to text (n + 1) ≡ up_to text n ++ text n
one_more text n = rw add-one refl

-- as many values as were asked for
pub tabulated : {X : Type 0} (value : ℕ → X) (n : ℕ) → length (tabulate value n) ≡ n
tabulated value zero = refl
tabulated value (suc n) = let rest = tabulated value n in length-append (tabulate value n) (value n ∷ []) ∙ omega (arith, rest)

-- a byte more
pub byte_step :
    (byte : ℕ → Option ℕ) (front new total : List ℕ) (at n b : ℕ) →
    front ++ bytes_from byte at n ≡ total → 0 < n → Some b ≡ byte_at byte at → new ≡ front ++ b ∷ [] →
    new ++ bytes_from byte (at + 1) (n - 1) ≡ total
byte_step byte front new total at zero b so some is it = absurd (omega arith)
byte_step byte front new total at (suc n) b so some is it =
    let less : n ≡ suc n - 1 = omega arith in
    subst (λ m. new ++ bytes_from byte (at + 1) m ≡ total) less
    (ap (λ xs. xs ++ bytes_from byte (at + 1) n) it ∙ append_assoc front (b ∷ []) (bytes_from byte (at + 1) n)
    ∙ ap (λ o. front ++ byte_and o (bytes_from byte (at + 1) n)) is ∙ so)

-- and none more
pub byte_last :
    (byte : ℕ → Option ℕ) (front total : List ℕ) (at n : ℕ) →
    front ++ bytes_from byte at n ≡ total → 0 < n → byte_at byte at ≡ None → front ≡ total
byte_last byte front total at zero so some is = absurd (omega arith)
byte_last byte front total at (suc n) so some is =
    sym (append-nil front) ∙ ap (λ o. front ++ byte_and o (bytes_from byte (at + 1) n)) (sym is) ∙ so
