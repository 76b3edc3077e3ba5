use Rattle.std.proofs.Common.{add-one, ◌≡◌, ℕ, ◌+◌, ◌-◌, ◌<◌, ◌≤◌, suc, zero, List, [], ◌∷◌, ◌++◌, length, take, drop, refl, ap, sym, ◌∙◌, subst, arith, get_or, length-append, length-drop}
use Rattle.std.specs.Prelude.{slice_range}
use Rattle.std.proofs.lemmas.List.{take-append-le, drop-append-le, drop_at, take_all}
use Rattle.m161_explore.specs.helpers.Keys.{parts, AreCuts}

pub length-parts : (cuts words : List ℕ) → length (parts cuts words) ≡ length cuts - 1
length-parts [] words = refl
length-parts (a ∷ []) words = refl
length-parts (a ∷ (b ∷ cuts)) words = let h = length-parts (b ∷ cuts) words in omega arith

-- each cut is within the words
pub cut_within : (cuts : List ℕ) (n i : ℕ) → AreCuts cuts n → i < length cuts → get_or cuts i 0 ≤ n
cut_within [] n i h l = absurd h
cut_within (a ∷ []) n zero h l = omega arith
cut_within (a ∷ []) n (suc i) h l = absurd (omega arith)
cut_within (a ∷ (b ∷ cuts)) n zero h l = let k = cut_within (b ∷ cuts) n 0 h.1 (omega arith) in omega arith
cut_within (a ∷ (b ∷ cuts)) n (suc i) h l = cut_within (b ∷ cuts) n i h.1 (omega arith)

pub cuts_ascend : (cuts : List ℕ) (n i : ℕ) → AreCuts cuts n → suc i < length cuts → get_or cuts i 0 ≤ get_or cuts (suc i) 0
cuts_ascend [] n i h l = absurd h
cuts_ascend (a ∷ []) n i h l = absurd (omega arith)
cuts_ascend (a ∷ (b ∷ cuts)) n zero h l = h.0
cuts_ascend (a ∷ (b ∷ cuts)) n (suc i) h l = cuts_ascend (b ∷ cuts) n i h.1 (omega arith)

pub get_or-parts : (cuts words : List ℕ) (i : ℕ) → suc i < length cuts → get_or (parts cuts words) i [] ≡ slice_range words (get_or cuts i 0) (get_or cuts (suc i) 0)
get_or-parts [] words i l = absurd (omega arith)
get_or-parts (a ∷ []) words i l = absurd (omega arith)
get_or-parts (a ∷ (b ∷ cuts)) words zero l = refl
get_or-parts (a ∷ (b ∷ cuts)) words (suc i) l = get_or-parts (b ∷ cuts) words i (omega arith)

pub some_cuts : (cuts : List ℕ) (n : ℕ) → AreCuts cuts n → 0 < length cuts
some_cuts [] n h = absurd h
some_cuts (a ∷ cuts) n h = omega arith

-- a part of words that more words follow
pub range_kept : (words key : List ℕ) (a b : ℕ) → a ≤ b → b ≤ length words → slice_range (words ++ key) a b ≡ slice_range words a b
range_kept words key a b h l =
    ap (take (b - a)) (drop-append-le a words key (omega arith))
    ∙ take-append-le (b - a) (drop a words) key (omega (arith, length-drop a words))

pub range_new : (words key : List ℕ) (a b : ℕ) → a ≡ length words → b ≡ length words + length key → slice_range (words ++ key) a b ≡ key
range_new words key a b h l = ap (take (b - a)) (drop_at words key a (sym h)) ∙ take_all (b - a) key (omega arith)

pub cuts-push : (cuts : List ℕ) (n m : ℕ) → AreCuts cuts n → n ≤ m → AreCuts (cuts ++ m ∷ []) m
cuts-push [] n m h l = absurd h
cuts-push (a ∷ []) n m h l = (omega arith, refl)
cuts-push (a ∷ (b ∷ cuts)) n m h l = (h.0, cuts-push (b ∷ cuts) n m h.1 l)

first_cut : (b : ℕ) (cuts : List ℕ) (n : ℕ) → AreCuts (b ∷ cuts) n → b ≤ n
first_cut b cuts n h = cut_within (b ∷ cuts) n 0 h (omega arith)

pub parts-push : (cuts words key : List ℕ) (m : ℕ) → AreCuts cuts (length words) → m ≡ length words + length key →
    parts (cuts ++ m ∷ []) (words ++ key) ≡ parts cuts words ++ key ∷ []
parts-push [] words key m h e = absurd h
parts-push (a ∷ []) words key m h e = ap (λ x. x ∷ []) (range_new words key a m h e)
parts-push (a ∷ (b ∷ cuts)) words key m h e =
    let first : slice_range (words ++ key) a b ≡ slice_range words a b =
    range_kept words key a b h.0 (first_cut b cuts (length words) h.1) in
    let rest = parts-push (b ∷ cuts) words key m h.1 e in
    ap (λ x. x ∷ parts (b ∷ (cuts ++ m ∷ [])) (words ++ key)) first ∙ ap (λ x. slice_range words a b ∷ x) rest

pub next_cut : (cuts : List ℕ) (n i : ℕ) → AreCuts cuts n → i + 1 < length cuts → get_or cuts i 0 ≤ get_or cuts (i + 1) 0
next_cut cuts n i h l = rw add-one (cuts_ascend cuts n i h (omega arith))

pub part_at : (cuts words : List ℕ) (i : ℕ) → i + 1 < length cuts → slice_range words (get_or cuts i 0) (get_or cuts (i + 1) 0) ≡ get_or (parts cuts words) i []
part_at cuts words i l = rw add-one (sym (get_or-parts cuts words i (omega arith)))

-- after a push
pub pushed_cuts : (cuts kept cuts2 words words2 key : List ℕ) (end : ℕ) → AreCuts cuts (length words) → kept ≡ cuts → words2 ≡ words ++ key → cuts2 ≡ kept ++ end ∷ [] → end ≡ length words2 → AreCuts cuts2 (length words2)
pushed_cuts cuts kept cuts2 words words2 key end h same is is2 e =
    let P : List ℕ → Type 0 = λ x. AreCuts x (length words2) in
    let Q : ℕ → Type 0 = λ x. AreCuts (cuts ++ end ∷ []) x in
    let l : length words2 ≡ length words + length key = ap length is ∙ length-append words key in
    subst P (ap (λ x. x ++ end ∷ []) (sym same) ∙ sym is2) (subst Q e (cuts-push cuts (length words) end h (omega arith)))

pub pushed_parts : (cuts kept cuts2 words words2 key : List ℕ) (end : ℕ) → AreCuts cuts (length words) → kept ≡ cuts → words2 ≡ words ++ key → cuts2 ≡ kept ++ end ∷ [] → end ≡ length words2 → parts cuts2 words2 ≡ parts cuts words ++ key ∷ []
pushed_parts cuts kept cuts2 words words2 key end h same is is2 e =
    let l : length words2 ≡ length words + length key = ap length is ∙ length-append words key in
    ap (λ x. parts x words2) (is2 ∙ ap (λ x. x ++ end ∷ []) same) ∙ ap (λ x. parts (cuts ++ end ∷ []) x) is
    ∙ parts-push cuts words key end h (omega arith)
