use Rattle.std.proofs.Common.{◌≡◌, ◌∙◌, refl, sym, ap, ℕ, Bool, true, false, List, [], ◌∷◌, ◌++◌, get_or}
use Rattle.std.specs.Prelude.{not, ◌&&◌, ◌==◌, flat_map, if◌then◌else◌}
use Rattle.std.specs.List.{range_with_len}
use Rattle.std.proofs.lemmas.Bool.Decides.{Decides-eqb}
use Rattle.m161_isa.specs.Bits.{has_bit}
use Rattle.m161_tlb.specs.declared.row.Row.{Row}
use Rattle.m161_tlb.specs.Row.{hi_word, lo_word}
use Rattle.m161_tlb.specs.Rows.{blank_row}
use Rattle.m161_bus.specs.declared.register.BoardWord.{BoardWord}
use Rattle.m161_bus.specs.declared.register.BoardWord.TheVariants as words
use Rattle.m161_bus.specs.Board.{BoardState, PlaceState, place_at_boot, shown_word}
use Rattle.m161_trace.specs.Items.{Item, board, row, board_item, changed, each, places_items, row_item, row_items, start_item, start_items}
use Rattle.m161_trace.specs.Line.{spaced}
use Rattle.m161_trace.specs.helpers.Adds.{Adds}
use Rattle.m161_trace.proofs.Spaced.{spaced_none}

-- Parts that are as before have no items.

same_number : (n : ℕ) → (n == n) ≡ true
same_number n = (Decides-eqb n n).1 refl

no_change : (n : ℕ) (i : Item) → changed n n i ≡ []
no_change n i = ap (λ (t : Bool). if t then [] else i ∷ []) (same_number n)

none_listed : (f : ℕ → List Item) (xs : List ℕ) → ((j : ℕ) → f j ≡ []) → flat_map f xs ≡ []
none_listed f [] none = refl
none_listed f (x ∷ xs) none = ap (λ is. is ++ flat_map f xs) (none x) ∙ none_listed f xs none

none_each : (a n : ℕ) (f : ℕ → List Item) → ((j : ℕ) → f j ≡ []) → each a n f ≡ []
none_each a n f none = none_listed f (range_with_len a n) none

-- nothing is appended
appended : (old : List ℕ) (is : List Item) → is ≡ [] → Adds old is old
appended old is none style = spaced_none old style ∙ ap (λ js. old ++ spaced style js) (sym none)

-- rows

both_if : (t u : Bool) (is : List Item) → t ≡ true → u ≡ true → (if t && u then [] else is) ≡ []
both_if true true is t_is u_is = refl
both_if true false is t_is u_is = absurd (let bad : false ≡ true = u_is in cc)
both_if false u is t_is u_is = absurd (let bad : false ≡ true = t_is in cc)

same_row : (i : ℕ) (r : Row) → (if (hi_word r == hi_word r) && (lo_word r == lo_word r) then [] else row i (hi_word r) (lo_word r) ∷ []) ≡ []
same_row i r = both_if (hi_word r == hi_word r) (lo_word r == lo_word r) (row i (hi_word r) (lo_word r) ∷ []) (same_number (hi_word r)) (same_number (lo_word r))

no_rows_of : (rows : List Row) → row_items rows rows ≡ []
unfolding row_items
no_rows_of rows = none_each 0 64 (row_item rows rows) (λ i. same_row i (get_or rows i blank_row))

pub no_rows : (old : List ℕ) (a b : List Row) → b ≡ a → Adds old (row_items a b) old
no_rows old a b same = appended old (row_items a b) (ap (row_items a) same ∙ no_rows_of a)

-- the words of each processor

no_word : (a b : BoardState) (place : BoardWord) → shown_word place b ≡ shown_word place a → board_item a b place ≡ []
no_word a b place same =
    ap (λ n. changed (shown_word place a) n (board place n)) same ∙ no_change (shown_word place a) (board place (shown_word place a))

no_places_of : (n : ℕ) (a b : BoardState) → b.places ≡ a.places → places_items n a b ≡ []
unfolding places_items
no_places_of n a b same =
    let enables = none_each 0 n (λ c. board_item a b (words.Cirqe c)) (λ c. no_word a b (words.Cirqe c) (ap (λ (ps : List PlaceState). (get_or ps c (place_at_boot 0)).cirqe) same)) in
    let raised = none_each 0 n (λ c. board_item a b (words.Cipi c))
    (λ c. no_word a b (words.Cipi c) (ap (λ (ps : List PlaceState). if (get_or ps c (place_at_boot 0)).cipi then 1 else 0) same)) in
    let crams = none_each 0 n (λ c. each 0 64 (λ k. board_item a b (words.Cram c k)))
    (λ c. none_each 0 64 (λ k. board_item a b (words.Cram c k))
    (λ k. no_word a b (words.Cram c k) (ap (λ (ps : List PlaceState). get_or (get_or ps c (place_at_boot 0)).cram k 0) same))) in
    λ i. enables i ++ raised i ++ crams i

pub no_places : (old : List ℕ) (n : ℕ) (a b : BoardState) → b.places ≡ a.places → Adds old (places_items n a b) old
no_places old n a b same = appended old (places_items n a b) (no_places_of n a b same)

-- the processors that were started

not_new : (bit : Bool) (is : List Item) → (if bit && not bit then is else []) ≡ []
not_new true is = refl
not_new false is = refl

no_starts_of : (n mask : ℕ) → start_items n mask mask ≡ []
unfolding start_items
no_starts_of n mask = none_each 0 n (start_item mask mask) (λ q. not_new (has_bit mask q) _)

pub no_starts : (old : List ℕ) (n before after : ℕ) → before ≡ after → Adds old (start_items n before after) old
no_starts old n before after same = appended old (start_items n before after) (ap (start_items n before) (sym same) ∙ no_starts_of n before)
