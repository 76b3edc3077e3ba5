use Rattle.std.proofs.Common.{◌≡◌, ◌∙◌, refl, sym, ap, ℕ, ◌+◌, ◌-◌, ◌≤◌, ◌<◌, Bool, true, false, List, [], ◌∷◌, ◌++◌, take, length, get_or, arith, append_assoc, Result, Ok, Err}
use Rattle.std.specs.Prelude.{◌==◌, OnOk, flat_map, if◌then◌else◌}
use Rattle.std.proofs.lemmas.Bool.Decides.{Decides-eqb}
use Rattle.std.specs.List.{range_with_len}
use Rattle.std.proofs.lemmas.List.{append-nil, flat_map_more, take_more, map-id}
use Rattle.std.proofs.lemmas.List.Concat.{flat_map-append}
use Rattle.std.proofs.lemmas.List.FromFn.{map-range_with_len_more}
use Rattle.m161_dis.specs.declared.naming.Style.{Style}
use Rattle.m161_trace.specs.Items.{Item, changed, each}
use Rattle.m161_trace.specs.Line.{behind, item_text, spaced}
use Rattle.m161_trace.specs.helpers.Adds.{Adds, AddsIn, AddsItem, AddsPart}

-- Items, a space before each.

pub spaced_more : (style : Style) (xs ys : List Item) → spaced style (xs ++ ys) ≡ spaced style xs ++ spaced style ys
unfolding spaced
spaced_more style xs ys = flat_map-append (λ (i : Item). 32 ∷ item_text style i) xs ys

pub spaced_none : (old : List ℕ) → Adds old [] old
unfolding spaced
spaced_none old style = sym (append-nil old)

pub spaced_one : (style : Style) (i : Item) → spaced style (i ∷ []) ≡ 32 ∷ item_text style i
unfolding spaced
spaced_one style i = append-nil (32 ∷ item_text style i)

-- one item appended
pub one : (style : Style) (old new : List ℕ) (i : Item) → AddsPart old (item_text style i) new → AddsIn style old (i ∷ []) new
one style old new i h = h ∙ ap (λ bs. old ++ bs) (sym (spaced_one style i))

-- items appended to items
pub both_in : (style : Style) (old mid new : List ℕ) (xs ys : List Item) → AddsIn style old xs mid → AddsIn style mid ys new → AddsIn style old (xs ++ ys) new
both_in style old mid new xs ys h k =
    k ∙ ap (λ bs. bs ++ spaced style ys) h ∙ append_assoc old (spaced style xs) (spaced style ys) ∙ ap (λ bs. old ++ bs) (sym (spaced_more style xs ys))

pub both : (old mid new : List ℕ) (xs ys : List Item) → Adds old xs mid → Adds mid ys new → Adds old (xs ++ ys) new
both old mid new xs ys h k style = both_in style old mid new xs ys (h style) (k style)

-- the same, of items that are these

pub grown_in : (style : Style) (old mid new : List ℕ) (xs ys zs : List Item) → zs ≡ xs ++ ys → AddsIn style old xs mid → AddsIn style mid ys new → AddsIn style old zs new
grown_in style old mid new xs ys zs are h k = both_in style old mid new xs ys h k ∙ ap (λ is. old ++ spaced style is) (sym are)

pub grown : (old mid new : List ℕ) (xs ys zs : List Item) → zs ≡ xs ++ ys → Adds old xs mid → Adds mid ys new → Adds old zs new
grown old mid new xs ys zs are h k style = grown_in style old mid new xs ys zs are (h style) (k style)

-- the same items
pub these_in : (style : Style) (old new : List ℕ) (xs ys : List Item) → xs ≡ ys → AddsIn style old xs new → AddsIn style old ys new
these_in style old new xs ys are h = h ∙ ap (λ is. old ++ spaced style is) are

pub these : (old new : List ℕ) (xs ys : List Item) → xs ≡ ys → Adds old xs new → Adds old ys new
these old new xs ys are h style = these_in style old new xs ys are (h style)

-- a part with the same value has no item; one that differs has

pub same_if : (t : Bool) (old : List ℕ) (i : Item) → t ≡ true → Adds old (if t then [] else i ∷ []) old
same_if true old i is = spaced_none old
same_if false old i is = absurd (let bad : false ≡ true = is in cc)

pub same : (old : List ℕ) (before after : ℕ) (i : Item) → before ≡ after → Adds old (changed before after i) old
same old before after i e = same_if (before == after) old i ((Decides-eqb before after).1 e)

differs_if : (t : Bool) (before after : ℕ) (style : Style) (old new : List ℕ) (i : Item) → (before == after) ≡ t → (before ≡ after → ⊥)
    → AddsPart old (item_text style i) new → AddsIn style old (if t then [] else i ∷ []) new
differs_if true before after style old new i is ne h = absurd (ne ((Decides-eqb before after).0 is))
differs_if false before after style old new i is ne h = one style old new i h

pub differs : (style : Style) (old new : List ℕ) (before after : ℕ) (i : Item) → (before ≡ after → ⊥) → AddsPart old (item_text style i) new
    → AddsIn style old (changed before after i) new
differs style old new before after i ne h = differs_if (before == after) before after style old new i refl ne h

-- the same of a call that appends an item, if it succeeds

pub one_in_ok : {T E : Type 0} (r : Result T E) (style : Style) (old new : List ℕ) (i : Item) → OnOk r (AddsPart old (item_text style i) new) → OnOk r (AddsIn style old (i ∷ []) new)
one_in_ok (Ok x) style old new i h = one style old new i h
one_in_ok (Err e) style old new i h = tt

pub one_ok : {T E : Type 0} (r : Result T E) (old new : List ℕ) (i : Item) → OnOk r (AddsItem old i new) → OnOk r (Adds old (i ∷ []) new)
one_ok (Ok x) old new i h = λ style. one style old new i (h style)
one_ok (Err e) old new i h = tt

pub differs_in_ok : {T E : Type 0} (r : Result T E) (style : Style) (old new : List ℕ) (before after : ℕ) (i : Item) → (before ≡ after → ⊥)
    → OnOk r (AddsPart old (item_text style i) new) → OnOk r (AddsIn style old (changed before after i) new)
differs_in_ok (Ok x) style old new before after i ne h = differs style old new before after i ne h
differs_in_ok (Err e) style old new before after i ne h = tt

pub differs_ok : {T E : Type 0} (r : Result T E) (old new : List ℕ) (before after : ℕ) (i : Item) → (before ≡ after → ⊥) → OnOk r (AddsItem old i new)
    → OnOk r (Adds old (changed before after i) new)
differs_ok (Ok x) old new before after i ne h = λ style. differs style old new before after i ne (h style)
differs_ok (Err e) old new before after i ne h = tt

pub unless_ok : {T E : Type 0} (r : Result T E) (t : Bool) (old new : List ℕ) (i : Item) → t ≡ false → OnOk r (AddsItem old i new)
    → OnOk r (Adds old (if t then [] else i ∷ []) new)
unless_ok r true old new i is h = absurd (let bad : true ≡ false = is in cc)
unless_ok r false old new i is h = one_ok r old new i h

pub when_ok : {T E : Type 0} (r : Result T E) (t : Bool) (old new : List ℕ) (i : Item) → t ≡ true → OnOk r (AddsItem old i new)
    → OnOk r (Adds old (if t then i ∷ [] else []) new)
when_ok r true old new i is h = one_ok r old new i h
when_ok r false old new i is h = absurd (let bad : false ≡ true = is in cc)

pub not_when : (t : Bool) (old : List ℕ) (i : Item) → t ≡ false → Adds old (if t then i ∷ [] else []) old
not_when true old i is = absurd (let bad : true ≡ false = is in cc)
not_when false old i is = spaced_none old

pub both_in_ok : {T E : Type 0} (r : Result T E) (style : Style) (old mid new : List ℕ) (xs ys : List Item) → AddsIn style old xs mid → OnOk r (Adds mid ys new)
    → OnOk r (AddsIn style old (xs ++ ys) new)
both_in_ok (Ok x) style old mid new xs ys h k = both_in style old mid new xs ys h (k style)
both_in_ok (Err e) style old mid new xs ys h k = tt

pub both_ok : {T E : Type 0} (r : Result T E) (old mid new : List ℕ) (xs ys : List Item) → Adds old xs mid → OnOk r (Adds mid ys new)
    → OnOk r (Adds old (xs ++ ys) new)
both_ok (Ok x) old mid new xs ys h k = both old mid new xs ys h k
both_ok (Err e) old mid new xs ys h k = tt

-- parts of an item

pub appended_ok : {T E : Type 0} (r : Result T E) (old mid new a b : List ℕ) → mid ≡ old ++ a → OnOk r (new ≡ mid ++ b) → OnOk r (new ≡ old ++ (a ++ b))
appended_ok (Ok x) old mid new a b h k = k ∙ ap (λ bs. bs ++ b) h ∙ append_assoc old a b
appended_ok (Err e) old mid new a b h k = tt

pub glued_ok : {T E : Type 0} (r : Result T E) (old first second new a b c : List ℕ) → first ≡ old ++ a → second ≡ first ++ b → OnOk r (new ≡ second ++ c)
    → OnOk r (new ≡ old ++ ((a ++ b) ++ c))
glued_ok r old first second new a b c h k l = appended_ok r old second new (a ++ b) c (k ∙ ap (λ bs. bs ++ b) h ∙ append_assoc old a b) l

-- an item whose text is this part, in every style
pub item_ok : {T E : Type 0} (r : Result T E) (old new part : List ℕ) (i : Item) → ((style : Style) → item_text style i ≡ part) → OnOk r (AddsPart old part new)
    → OnOk r (AddsItem old i new)
item_ok (Ok x) old new part i is h = λ style. h ∙ ap (λ p. old ++ 32 ∷ p) (sym (is style))
item_ok (Err e) old new part i is h = tt

-- items behind a line's beginning

pub nothing_behind : (style : Style) (old items : List ℕ) (is : List Item) → length items ≡ 0 → items ≡ spaced style is → old ≡ old ++ behind style is
unfolding spaced
nothing_behind style old items [] none are = sym (append-nil old)
nothing_behind style old items (i ∷ is) none are =
    absurd (let long : length items ≡ length (spaced style (i ∷ is)) = ap length are in let bad : ⊥ = omega (arith, long, none) in bad)

pub some_behind : {T E : Type 0} (r : Result T E) (style : Style) (old mid new items : List ℕ) (is : List Item) → (length items ≡ 0 → ⊥) → items ≡ spaced style is
    → mid ≡ old ++ 32 ∷ [] → OnOk r (new ≡ mid ++ items) → OnOk r (new ≡ old ++ behind style is)
unfolding spaced
some_behind r style old mid new items [] some are here h = absurd (some (ap length are))
some_behind (Ok x) style old mid new items (i ∷ is) some are here h = h ∙ ap (λ bs. bs ++ items) here ∙ append_assoc old (32 ∷ []) items ∙ ap (λ bs. old ++ 32 ∷ bs) are
some_behind (Err e) style old mid new items (i ∷ is) some are here h = tt

counted : (a n j : ℕ) → a + n ≡ j → range_with_len a (n + 1) ≡ range_with_len a n ++ j ∷ []
counted a n j e =
    sym (map-id (range_with_len a (n + 1))) ∙ map-range_with_len_more (λ (x : ℕ). x) a n j e ∙ ap (λ l. l ++ j ∷ []) (map-id (range_with_len a n))

-- one more of counted items
pub each_more : (a n j : ℕ) (f : ℕ → List Item) → a + n ≡ j → each a (n + 1) f ≡ each a n f ++ f j
each_more a n j f e = ap (flat_map f) (counted a n j e) ∙ sym (flat_map_more f [] (range_with_len a n) j)

-- the same by the next number
pub each_next : (a i : ℕ) (f : ℕ → List Item) → a ≤ i → each a (i + 1 - a) f ≡ each a (i - a) f ++ f i
each_next a i f le =
    let there : a + (i - a) ≡ i = omega arith in
    let more : i + 1 - a ≡ i - a + 1 = omega arith in
    ap (λ n. each a n f) more ∙ each_more a (i - a) i f there

-- one more of the items of a list's elements
pub listed_more : {X : Type 0} (f : X → List Item) (xs : List X) (i : ℕ) (d : X) → i < length xs → flat_map f (take (i + 1) xs) ≡ flat_map f (take i xs) ++ f (get_or xs i d)
listed_more f xs i d lt = ap (flat_map f) (take_more xs i d lt) ∙ sym (flat_map_more f [] (take i xs) (get_or xs i d))
