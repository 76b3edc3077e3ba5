use Rattle.std.specs.Prelude.{ℕ, true, false, cond, List, [], ◌∷◌, ◌++◌, map, None, Some, String, string_bytes, bytes_eq}
use Rattle.std.specs.Global.{Global}
use Rattle.std.specs.Map.{lookup}
use Rattle.std.specs.String.{string_eq}
use Rattle.std.proofs.Common.{◌≡◌, refl, ap}
use Rattle.std.proofs.lemmas.List.{map-append}
use Rattle.indexmap.specs.IndexMap.{insert_entry}
use Rattle.m161_asm.specs.Text.{label_address}
use Rattle.m161_asm.specs.Seen.{symbol_seen}

-- The table of symbols.

pub looked_up : (es : List (String Global × ℕ)) (x : List ℕ)
    → lookup (λ k. bytes_eq x (string_bytes k)) es ≡ lookup (bytes_eq x) (map symbol_seen es)
looked_up [] x = refl
looked_up (e ∷ es) x = ap (cond (bytes_eq x (string_bytes e.0)) (Some e.1)) (looked_up es x)

-- a new key goes last
pub added : (es : List (String Global × ℕ)) (k : String Global) (v : ℕ)
    → lookup (bytes_eq (string_bytes k)) (map symbol_seen es) ≡ None
    → insert_entry string_eq es k v ≡ es ++ ((k, v) ∷ [])
added [] k v h = refl
added (e ∷ es) k v h =
    elim (bytes_eq (string_bytes k) (string_bytes e.0)) as
    (λ b. cond b (Some e.1) (lookup (bytes_eq (string_bytes k)) (map symbol_seen es)) ≡ None
    → cond b ((e.0, v) ∷ es) (e ∷ insert_entry string_eq es k v) ≡ e ∷ (es ++ ((k, v) ∷ [])))
    [ true ↦ λ d. cc | false ↦ λ d. ap (λ r. e ∷ r) (added es k v d) ] h

pub added_seen : (old new : List (String Global × ℕ)) (k : String Global) (x : List ℕ) (v : ℕ)
    → string_bytes k ≡ x → label_address (map symbol_seen old) x ≡ None
    → new ≡ insert_entry string_eq old k v
    → map symbol_seen new ≡ map symbol_seen old ++ ((x, v) ∷ [])
unfolding label_address
added_seen old new k x v b h e =
    let n : lookup (bytes_eq (string_bytes k)) (map symbol_seen old) ≡ None = rw b h in
    rw (e, added old k v n, ← b) (map-append symbol_seen old ((k, v) ∷ []))
