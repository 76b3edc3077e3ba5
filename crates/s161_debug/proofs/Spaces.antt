use Rattle.std.proofs.Common.{◌≡◌, ◌∙◌, ℕ, Bool, true, false, List, [], ◌∷◌, ◌++◌, ap, refl, sym, append-nil, append_assoc}
use Rattle.std.specs.List.{filter, flat_map, onto_first}
use Rattle.s161_debug.specs.Blanks.{has_byte, is_blank, parts_of, spaced, with_spaces, words_of}
use Rattle.s161_debug.specs.helpers.Blanks.{kept_with, with_byte}

-- What is kept of a line is what it counts as.

-- words behind others, with a space before each
abbrev behind : List (List ℕ) → List ℕ
behind words = flat_map (λ w. 32 ∷ w) words

-- these parts behind a blank, or within a word, with which the first goes on
abbrev parts_text : Bool → List (List ℕ) → List ℕ
parts_text true parts = behind (filter has_byte parts)
parts_text false [] = []
parts_text false (part ∷ parts) = part ++ behind (filter has_byte parts)

-- one more byte of the first part
onto : (b : ℕ) (parts : List (List ℕ)) → parts_text false (onto_first b parts) ≡ b ∷ parts_text false parts
onto b [] = refl
onto b (part ∷ parts) = refl

apart_onto : (b : ℕ) (parts : List (List ℕ)) → parts_text true (onto_first b parts) ≡ 32 ∷ b ∷ parts_text false parts
apart_onto b [] = refl
apart_onto b (part ∷ parts) = refl

spaces_onto : (b : ℕ) (parts : List (List ℕ)) → with_spaces (filter has_byte (onto_first b parts)) ≡ b ∷ parts_text false parts
spaces_onto b [] = refl
spaces_onto b (part ∷ parts) = refl

-- behind some bytes that are kept
nothing_more : (apart : Bool) (kept : List ℕ) → kept ≡ kept ++ parts_text apart []
nothing_more true kept = sym (append-nil kept)
nothing_more false kept = sym (append-nil kept)

blank_more : (apart : Bool) (parts : List (List ℕ)) → parts_text true parts ≡ parts_text apart ([] ∷ parts)
blank_more true parts = refl
blank_more false parts = refl

byte_more : (apart : Bool) (k : ℕ) (ks : List ℕ) (b : ℕ) (parts : List (List ℕ)) →
    with_byte (k ∷ ks) apart b ++ parts_text false parts ≡ (k ∷ ks) ++ parts_text apart (onto_first b parts)
byte_more true k ks b parts = append_assoc (k ∷ ks) (32 ∷ b ∷ []) (parts_text false parts) ∙ ap (λ x. (k ∷ ks) ++ x) (sym (apart_onto b parts))
byte_more false k ks b parts = append_assoc (k ∷ ks) (b ∷ []) (parts_text false parts) ∙ ap (λ x. (k ∷ ks) ++ x) (sym (onto b parts))

-- something is kept
abbrev IsKept : List ℕ → Bool → List ℕ → Type 0
IsKept kept apart bytes = kept_with kept apart bytes ≡ kept ++ parts_text apart (parts_of bytes)

one_more : (blank apart : Bool) (k : ℕ) (ks : List ℕ) (b : ℕ) (bs : List ℕ) → is_blank b ≡ blank →
    ((still : Bool) (more : List ℕ) → IsKept (k ∷ more) still bs) → IsKept (k ∷ ks) apart (b ∷ bs)
one_more true apart k ks b bs is rest = rw is (rest true ks ∙ ap (λ x. (k ∷ ks) ++ x) (blank_more apart (parts_of bs)))
one_more false true k ks b bs is rest = rw is (rest false (ks ++ 32 ∷ b ∷ []) ∙ byte_more true k ks b (parts_of bs))
one_more false false k ks b bs is rest = rw is (rest false (ks ++ b ∷ []) ∙ byte_more false k ks b (parts_of bs))

kept_behind : (apart : Bool) (k : ℕ) (ks bytes : List ℕ) → IsKept (k ∷ ks) apart bytes
kept_behind apart k ks [] = nothing_more apart (k ∷ ks)
kept_behind apart k ks (b ∷ bs) = one_more (is_blank b) apart k ks b bs refl (λ still more. kept_behind still k more bs)

-- from the line's beginning
first_more : (blank apart : Bool) (b : ℕ) (bs : List ℕ) → is_blank b ≡ blank → kept_with [] true bs ≡ with_spaces (words_of bs) →
    kept_with [] apart (b ∷ bs) ≡ with_spaces (words_of (b ∷ bs))
first_more true apart b bs is rest = rw is rest
first_more false apart b bs is rest = rw is (kept_behind false b [] bs ∙ sym (spaces_onto b (parts_of bs)))

kept_first : (apart : Bool) (bytes : List ℕ) → kept_with [] apart bytes ≡ with_spaces (words_of bytes)
kept_first apart [] = refl
kept_first apart (b ∷ bs) = first_more (is_blank b) apart b bs refl (kept_first true bs)

pub kept_is : (apart : Bool) (bytes : List ℕ) → kept_with [] apart bytes ≡ spaced bytes
unfolding spaced
kept_is apart bytes = kept_first apart bytes
