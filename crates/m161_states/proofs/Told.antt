use Rattle.std.proofs.Common.{◌≡◌, ◌≢◌, ◌⊎◌, inl, inr, ◌∙◌, refl, ap, sym, subst, ℕ, Bool, true, false, List, [], ◌∷◌, ◌++◌, append_assoc, append-nil, map, Option, None, Some}
use Rattle.std.proofs.lemmas.Bool.Decides.{eqb_tells}
use Rattle.std.specs.Prelude.{◌==◌, ◌||◌, if◌then◌else◌}
use Rattle.m161_machine.specs.StoreHistory.{stores_after}
use Rattle.m161_audit.specs.declared.watch.Watch.{Watch}
use Rattle.m161_audit.specs.Stale.{HasGoneOn, touches}
use Rattle.m161_states.specs.System.{Flags, all_after, flags_after, flags_behind, no_flags}
use Rattle.m161_states.specs.Run.{FlagTells, flags_from, flags_of}

-- What the flags of a watch say of the stores, and the number of bytes of the output.

from_append : (w : Watch) (f : Flags) (xs ys : List ℕ) → flags_from w f (xs ++ ys) ≡ flags_from w (flags_from w f xs) ys
from_append w f [] ys = refl
from_append w f (x ∷ xs) ys = from_append w (flags_after x w f) xs ys

-- one store more

all_more : (watches : List Watch) (stores : List ℕ) (word : ℕ) →
    all_after word watches (map (flags_of stores) watches) ≡ map (flags_of (stores ++ word ∷ [])) watches
all_more [] stores word = refl
all_more (w ∷ ws) stores word = λ i. sym (from_append w (no_flags w) stores (word ∷ [])) i ∷ all_more ws stores word i

pub flags_more : (stored : Option ℕ) (watches : List Watch) (stores : List ℕ) →
    flags_behind stored watches (map (flags_of stores) watches) ≡ map (flags_of (stores_after stored stores)) watches
flags_more None watches stores = refl
flags_more (Some word) watches stores = all_more watches stores word

pub flags_none : (watches : List Watch) → map no_flags watches ≡ map (flags_of []) watches
flags_none watches = refl

-- tests

same_test : (n : ℕ) (h : ((n == n) ≡ true) × (n ≡ n) ⊎ (((n == n) ≡ false) × (n ≢ n))) → (n == n) ≡ true
same_test n (inl h) = h.0
same_test n (inr h) = absurd (h.1 refl)

pub same : (n : ℕ) → (n == n) ≡ true
same n = same_test n (eqb_tells n n)

equal_test : (a b : ℕ) → (((a == b) ≡ true) × (a ≡ b)) ⊎ (((a == b) ≡ false) × (a ≢ b)) → (a == b) ≡ true → a ≡ b
equal_test a b (inl h) e = h.1
equal_test a b (inr h) e = absurd (let bad : false ≡ true = sym h.0 ∙ e in cc)

pub equal : (a b : ℕ) → (a == b) ≡ true → a ≡ b
equal a b e = equal_test a b (eqb_tells a b) e

or_false : (a b : Bool) → (a || b) ≡ false → (a ≡ false) × (b ≡ false)
or_false true b h = absurd (let bad : true ≡ false = h in cc)
or_false false b h = (refl, h)

-- after the initiator has gone on, no store to the entry

abbrev changed : Flags
changed = record { changed = true; gone_on = false }

abbrev gone : Flags
gone = record { changed = true; gone_on = true }

by_gone : (a d : Bool) → a ≡ false → (if a then changed else if d then gone else gone) ≡ gone
by_gone true d h = absurd (let bad : true ≡ false = h in cc)
by_gone false true h = refl
by_gone false false h = refl

stays : (w : Watch) (after : List ℕ) → touches w.pte after ≡ false → flags_from w gone after ≡ gone
stays w [] h = refl
stays w (x ∷ xs) h =
    let both = or_false (w.pte == x) (touches w.pte xs) h in
    ap (λ f. flags_from w f xs) (by_gone (w.pte == x) (w.done == x) both.0) ∙ stays w xs both.1

by_mark : (a d : Bool) → a ≡ false → d ≡ true → (if a then changed else if d then gone else changed) ≡ gone
by_mark true d h e = absurd (let bad : true ≡ false = h in cc)
by_mark false true h e = refl
by_mark false false h e = absurd (let bad : false ≡ true = e in cc)

by_other : (a d : Bool) → a ≡ false → d ≡ false → (if a then changed else if d then gone else changed) ≡ changed
by_other true d h e = absurd (let bad : true ≡ false = h in cc)
by_other false true h e = absurd (let bad : true ≡ false = e in cc)
by_other false false h e = refl

by_test : (w : Watch) (x : ℕ) (xs : List ℕ) (t : Bool) → (w.done == x) ≡ t → touches w.pte (x ∷ xs) ≡ false → touches w.done (x ∷ xs) ≡ true
    → (touches w.pte xs ≡ false → touches w.done xs ≡ true → flags_from w changed xs ≡ gone) → flags_from w changed (x ∷ xs) ≡ gone
by_test w x xs true e h d rest =
    let both = or_false (w.pte == x) (touches w.pte xs) h in
    ap (λ f. flags_from w f xs) (by_mark (w.pte == x) (w.done == x) both.0 e) ∙ stays w xs both.1
by_test w x xs false e h d rest =
    let both = or_false (w.pte == x) (touches w.pte xs) h in
    let later : touches w.done xs ≡ true = ap (λ t. t || touches w.done xs) (sym e) ∙ d in
    ap (λ f. flags_from w f xs) (by_other (w.pte == x) (w.done == x) both.0 e) ∙ rest both.1 later

reaches : (w : Watch) (after : List ℕ) → touches w.pte after ≡ false → touches w.done after ≡ true → flags_from w changed after ≡ gone
reaches w [] h d = absurd (let bad : false ≡ true = d in cc)
reaches w (x ∷ xs) h d = by_test w x xs (w.done == x) refl h d (reaches w xs)

by_entry : (f g : Flags) (t : Bool) → t ≡ true → (if t then changed else g) ≡ changed
by_entry f g true e = refl
by_entry f g false e = absurd (let bad : false ≡ true = e in cc)

gone_on_flag : (w : Watch) (stores : List ℕ) → HasGoneOn w stores → (flags_of stores w).gone_on ≡ true
gone_on_flag w stores o =
    let is : flags_of stores w ≡ gone =
    ap (λ l. flags_of l w) o.stores_are
    ∙ from_append w (no_flags w) o.before (w.pte ∷ o.after)
    ∙ ap (λ f. flags_from w f o.after) (by_entry (flags_of o.before w) _ (w.pte == w.pte) (same w.pte))
    ∙ reaches w o.after o.is_last o.is_done in
    ap (λ (f : Flags). f.gone_on) is

-- what the flags say of the stores

touched_more : (word : ℕ) (xs : List ℕ) (x : ℕ) → touches word (xs ++ x ∷ []) ≡ (touches word xs || (word == x))
touched_more word [] x = last (word == x)
  where
    last : (t : Bool) → (t || false) ≡ t
    last true = refl
    last false = refl
touched_more word (y ∷ ys) x = ap (λ t. (word == y) || t) (touched_more word ys x) ∙ assoc (word == y) (touches word ys) (word == x)
  where
    assoc : (a b c : Bool) → (a || (b || c)) ≡ ((a || b) || c)
    assoc true b c = refl
    assoc false b c = refl

abbrev IsChanged : Watch → List ℕ → Type 0
IsChanged w stores = (before : List ℕ) × (after : List ℕ) × (stores ≡ before ++ w.pte ∷ after) × (touches w.pte after ≡ false)

abbrev Says : Watch → List ℕ → Bool → Bool → Type 0
Says w stores c g = (c ≡ true → IsChanged w stores) × (g ≡ true → HasGoneOn w stores)

more_after : (stores before after : List ℕ) (pte x : ℕ) → stores ≡ before ++ pte ∷ after → stores ++ x ∷ [] ≡ before ++ pte ∷ (after ++ x ∷ [])
more_after stores before after pte x e = ap (λ l. l ++ x ∷ []) e ∙ append_assoc before (pte ∷ after) (x ∷ [])

still_last : (w : Watch) (after : List ℕ) (x : ℕ) → touches w.pte after ≡ false → (w.pte == x) ≡ false → touches w.pte (after ++ x ∷ []) ≡ false
still_last w after x h e = touched_more w.pte after x ∙ ap (λ t. t || (w.pte == x)) h ∙ e

or_left : (a b : Bool) → a ≡ true → (a || b) ≡ true
or_left true b h = refl
or_left false b h = absurd (let bad : false ≡ true = h in cc)

or_right : (a b : Bool) → b ≡ true → (a || b) ≡ true
or_right true b h = refl
or_right false b h = h

change_more : (w : Watch) (stores : List ℕ) (x : ℕ) → (w.pte == x) ≡ false → IsChanged w stores → IsChanged w (stores ++ x ∷ [])
change_more w stores x e h = (h.0, h.1 ++ x ∷ [], more_after stores h.0 h.1 w.pte x h.2, still_last w h.1 x h.3 e)

marked : (w : Watch) (stores : List ℕ) (x : ℕ) → (w.pte == x) ≡ false → (w.done == x) ≡ true → IsChanged w stores → HasGoneOn w (stores ++ x ∷ [])
marked w stores x ea ed h = record {
  before = h.0;
  after = h.1 ++ x ∷ [];
  stores_are = more_after stores h.0 h.1 w.pte x h.2;
  is_last = still_last w h.1 x h.3 ea;
  is_done = touched_more w.done h.1 x ∙ or_right (touches w.done h.1) (w.done == x) ed;
}

gone_more : (w : Watch) (stores : List ℕ) (x : ℕ) → (w.pte == x) ≡ false → HasGoneOn w stores → HasGoneOn w (stores ++ x ∷ [])
gone_more w stores x e o = record {
  before = o.before;
  after = o.after ++ x ∷ [];
  stores_are = more_after stores o.before o.after w.pte x o.stores_are;
  is_last = still_last w o.after x o.is_last e;
  is_done = touched_more w.done o.after x ∙ or_left (touches w.done o.after) (w.done == x) o.is_done;
}

abbrev SaysOf : Watch → List ℕ → Flags → Type 0
SaysOf w stores f = Says w stores f.changed f.gone_on

said_more : (w : Watch) (stores : List ℕ) (x : ℕ) (f : Flags) (a d : Bool) → (w.pte == x) ≡ a → (w.done == x) ≡ d → SaysOf w stores f →
    SaysOf w (stores ++ x ∷ []) (if a then changed else if d then record { changed = f.changed; gone_on = f.changed } else f)
said_more w stores x f true d ea ed h = (
  λ _. (stores, [], ap (λ y. stores ++ y ∷ []) (sym (equal w.pte x ea)), refl),
  λ bad. absurd (let no : false ≡ true = bad in cc),
)
said_more w stores x f false true ea ed h = (λ c. change_more w stores x ea (h.0 c), λ c. marked w stores x ea ed (h.0 c))
said_more w stores x f false false ea ed h = (λ c. change_more w stores x ea (h.0 c), λ g. gone_more w stores x ea (h.1 g))

said : (w : Watch) (rest stores : List ℕ) (f : Flags) → SaysOf w stores f → SaysOf w (stores ++ rest) (flags_from w f rest)
said w [] stores f h = subst (λ l. SaysOf w l f) (sym (append-nil stores)) h
said w (x ∷ rest) stores f h =
    subst (λ l. SaysOf w l (flags_from w (flags_after x w f) rest)) (append_assoc stores (x ∷ []) rest)
    (said w rest (stores ++ x ∷ []) (flags_after x w f) (said_more w stores x f (w.pte == x) (w.done == x) refl refl h))

flag_gone_on : (w : Watch) (stores : List ℕ) → (flags_of stores w).gone_on ≡ true → HasGoneOn w stores
flag_gone_on w stores e =
    (said w stores [] (no_flags w) (λ c. absurd (let no : false ≡ true = c in cc), λ g. absurd (let no : false ≡ true = g in cc))).1 e

pub flag_tells : FlagTells
flag_tells w stores = (flag_gone_on w stores, gone_on_flag w stores)
