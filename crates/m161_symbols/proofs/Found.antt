use Rattle.std.proofs.Common.{◌≡◌, ℕ, ◌<◌, Bool, true, false, cond, List, [], ◌∷◌, ◌++◌, length, map, Option, None, Some, get_or, refl, sym, ◌∙◌, ap, arith, zero, suc}
use Rattle.std.specs.Prelude.{bytes_eq, nat_le, ◌&&◌, if◌then◌else◌}
use Rattle.std.specs.Global.{Global}
use Rattle.std.specs.List.{list_all}
use Rattle.std.specs.Map.{lookup}
use Rattle.std.specs.Option.{is_some, option_or}
use Rattle.std.specs.Prelude.{String, string_bytes}
use Rattle.std.specs.String.{string_eq}
use Rattle.std.proofs.lemmas.Bool.{and_parts}
use Rattle.std.proofs.lemmas.Bool.Decides.{nat_tests}
use Rattle.std.proofs.lemmas.List.{map-append}
use Rattle.std.proofs.lemmas.Slice.Eq.{bytes_eq-Decides}
use Rattle.indexmap.specs.IndexMap.{insert_entry}
use Rattle.m161_elf.specs.Symbols.{is_shown, is_visible}
use Rattle.m161_symbols.specs.Names.{value_in}
use Rattle.m161_symbols.specs.helpers.{with_new}
use Rattle.m161_symbols.specs.Table.{entry_seen}

-- The values of names.

-- what a map of names has at a name
pub looked_up : (es : List (String Global × ℕ)) (x : List ℕ)
    → lookup (λ k. bytes_eq x (string_bytes k)) es ≡ lookup (bytes_eq x) (map entry_seen es)
looked_up [] x = refl
looked_up (e ∷ es) x = ap (cond (bytes_eq x (string_bytes e.0)) (Some e.1)) (looked_up es x)

-- one name more
lookup_last : (es : List (List ℕ × ℕ)) (s : List ℕ × ℕ) (name : List ℕ) →
    lookup (bytes_eq name) (es ++ s ∷ [])
    ≡ option_or (lookup (bytes_eq name) es) (cond (bytes_eq name s.0) (Some s.1) None)
lookup_last [] s name = refl
lookup_last (e ∷ es) s name = by (bytes_eq name e.0) (lookup_last es s name)
  where
    by : (t : Bool)
        → lookup (bytes_eq name) (es ++ s ∷ [])
        ≡ option_or (lookup (bytes_eq name) es) (cond (bytes_eq name s.0) (Some s.1) None)
        → cond t (Some e.1) (lookup (bytes_eq name) (es ++ s ∷ []))
        ≡ option_or (cond t (Some e.1) (lookup (bytes_eq name) es))
        (cond (bytes_eq name s.0) (Some s.1) None)
    by true rest = refl
    by false rest = rest

-- a byte of a shown name is one of ASCII
pub visible_at : (bytes : List ℕ) (i d : ℕ) → list_all is_visible bytes ≡ true → i < length bytes
    → get_or bytes i d < 128
visible_at [] i d all within = absurd (omega arith)
visible_at (b ∷ bs) zero d all within =
    let parts = and_parts (is_visible b) (list_all is_visible bs) all in
    let here : is_visible b ≡ true = parts.0 in
    grind (arith, nat_tests)
visible_at (b ∷ bs) (suc i) d all within =
    visible_at bs i d (and_parts (is_visible b) (list_all is_visible bs) all).1 (omega arith)

pub shown_at : (bytes : List ℕ) (i d : ℕ) → is_shown bytes ≡ true → i < length bytes
    → get_or bytes i d < 128
shown_at bytes i d shown =
    visible_at bytes i d
    (and_parts (nat_le 1 (length bytes) && nat_le (length bytes) 255) (list_all is_visible bytes)
    shown).1

or_none : (o : Option ℕ) → option_or o None ≡ o
or_none None = refl
or_none (Some x) = refl

or_some : (o p : Option ℕ) → is_some o ≡ true → option_or o p ≡ o
or_some None p e = absurd (cc)
or_some (Some x) p e = refl

-- names with a symbol more
pub found_more : (known names : List (List ℕ × ℕ)) (s : List ℕ × ℕ)
    → ((name : List ℕ) → lookup (bytes_eq name) known ≡ value_in names name)
    → (name : List ℕ) → lookup (bytes_eq name) (with_new known s) ≡ value_in (names ++ s ∷ []) name
found_more known names s same name =
    by (is_some (lookup (bytes_eq s.0) known)) refl (bytes_eq name s.0) refl
    ∙ sym (lookup_last names s name)
  where
    by : (t : Bool) → is_some (lookup (bytes_eq s.0) known) ≡ t
        → (u : Bool) → bytes_eq name s.0 ≡ u
        → lookup (bytes_eq name) (if t then known else known ++ s ∷ [])
        ≡ option_or (value_in names name) (cond (bytes_eq name s.0) (Some s.1) None)
    by false new u e =
        lookup_last known s name
        ∙ ap (λ o. option_or o (cond (bytes_eq name s.0) (Some s.1) None)) (same name)
    by true there true e =
        let equal : name ≡ s.0 = (bytes_eq-Decides name s.0).0 e in
        let some : is_some (lookup (bytes_eq name) known) ≡ true =
        ap (λ x. is_some (lookup (bytes_eq x) known)) equal ∙ there in
        sym (or_some (lookup (bytes_eq name) known) (cond (bytes_eq name s.0) (Some s.1) None) some)
        ∙ ap (λ o. option_or o (cond (bytes_eq name s.0) (Some s.1) None)) (same name)
    by true there false e =
        same name ∙ sym (or_none (value_in names name))
        ∙ ap (λ t. option_or (value_in names name) (cond t (Some s.1) None)) (sym e)

-- a new key goes last in a map
pub added : (es : List (String Global × ℕ)) (k : String Global) (v : ℕ)
    → lookup (bytes_eq (string_bytes k)) (map entry_seen es) ≡ None
    → insert_entry string_eq es k v ≡ es ++ ((k, v) ∷ [])
added [] k v h = refl
added (e ∷ es) k v h =
    elim (bytes_eq (string_bytes k) (string_bytes e.0)) as
    (λ b. cond b (Some e.1) (lookup (bytes_eq (string_bytes k)) (map entry_seen es)) ≡ None
    → cond b ((e.0, v) ∷ es) (e ∷ insert_entry string_eq es k v) ≡ e ∷ (es ++ ((k, v) ∷ [])))
    [ true ↦ λ d. cc | false ↦ λ d. ap (λ r. e ∷ r) (added es k v d) ] h

pub added_seen : (old new : List (String Global × ℕ)) (k : String Global) (s : List ℕ × ℕ)
    → string_bytes k ≡ s.0 → lookup (bytes_eq s.0) (map entry_seen old) ≡ None
    → new ≡ insert_entry string_eq old k s.1
    → map entry_seen new ≡ map entry_seen old ++ s ∷ []
added_seen old new k s b h e =
    let n : lookup (bytes_eq (string_bytes k)) (map entry_seen old) ≡ None = rw b h in
    rw (e, added old k s.1 n) (map-append entry_seen old ((k, s.1) ∷ [])
    ∙ ap (λ x. map entry_seen old ++ (x, s.1) ∷ []) b)

pub not_some : (o : Option ℕ) → is_some o ≡ false → o ≡ None
not_some None e = refl
not_some (Some x) e = absurd (cc)
