use Rattle.std.proofs.Common.{◌≡◌, ◌≢◌, ◌⊎◌, inl, inr, ◌∙◌, refl, ap, sym, ℕ, Bool, true, false, List, [], ◌∷◌, ◌++◌, append_assoc, append-nil, subst}
use Rattle.std.proofs.lemmas.Bool.Decides.{eqb_tells}
use Rattle.std.specs.Prelude.{◌==◌, ◌||◌, if◌then◌else◌}
use Rattle.m161_audit.specs.declared.watch.Watch.{Watch}
use Rattle.m161_audit.specs.declared.shootdown.Progress.{Progress}
use Rattle.m161_audit.specs.declared.shootdown.Progress.TheVariants.{Before, Changed, GoneOn}
use Rattle.m161_audit.specs.Stale.{HasGoneOn, touches}
use Rattle.m161_audit.specs.Tracking.{if_changed, progress_after, progress_from, progress_of}

-- The code's progress says whether the initiator has gone on.

from_append : (w : Watch) (p : Progress) (xs ys : List ℕ) → progress_from w p (xs ++ ys) ≡ progress_from w (progress_from w p xs) ys
from_append w p [] ys = refl
from_append w p (x ∷ xs) ys = from_append w (progress_after w x p) xs ys

-- one store more
pub progress_more : (w : Watch) (stores : List ℕ) (word : ℕ) → progress_of w (stores ++ word ∷ []) ≡ progress_after w word (progress_of w stores)
progress_more w stores word = from_append w Before stores (word ∷ [])

same_test : (n : ℕ) (h : ((n == n) ≡ true) × (n ≡ n) ⊎ (((n == n) ≡ false) × (n ≢ n))) → (n == n) ≡ true
same_test n (inl h) = h.0
same_test n (inr h) = absurd (h.1 refl)

pub same : (n : ℕ) → (n == n) ≡ true
same n = same_test n (eqb_tells n n)

equal_test : (a b : ℕ) → (((a == b) ≡ true) × (a ≡ b)) ⊎ (((a == b) ≡ false) × (a ≢ b)) → (a == b) ≡ true → a ≡ b
equal_test a b (inl h) e = h.1
equal_test a b (inr h) e = absurd (let bad : false ≡ true = sym h.0 ∙ e in cc)

pub equal : (a b : ℕ) → (a == b) ≡ true → a ≡ b
equal a b e = equal_test a b (eqb_tells a b) e

or_false : (a b : Bool) → (a || b) ≡ false → (a ≡ false) × (b ≡ false)
or_false true b h = absurd (cc)
or_false false b h = (refl, h)

-- after the initiator has gone on, no store to the entry

by_gone_on : (a d : Bool) → a ≡ false → (if a then Changed else if d then if_changed GoneOn else GoneOn) ≡ GoneOn
by_gone_on true d h = absurd (cc)
by_gone_on false true h = refl
by_gone_on false false h = refl

stays : (w : Watch) (after : List ℕ) → touches w.pte after ≡ false → progress_from w GoneOn after ≡ GoneOn
stays w [] h = refl
stays w (x ∷ xs) h =
    let both = or_false (w.pte == x) (touches w.pte xs) h in
    ap (λ q. progress_from w q xs) (by_gone_on (w.pte == x) (w.done == x) both.0) ∙ stays w xs both.1

by_mark : (a d : Bool) → a ≡ false → d ≡ true → (if a then Changed else if d then if_changed Changed else Changed) ≡ GoneOn
by_mark true d h e = absurd (cc)
by_mark false true h e = refl
by_mark false false h e = absurd (cc)

by_other : (a d : Bool) → a ≡ false → d ≡ false → (if a then Changed else if d then if_changed Changed else Changed) ≡ Changed
by_other true d h e = absurd (cc)
by_other false true h e = absurd (cc)
by_other false false h e = refl

by_test : (w : Watch) (x : ℕ) (xs : List ℕ) (t : Bool) → (w.done == x) ≡ t → touches w.pte (x ∷ xs) ≡ false → touches w.done (x ∷ xs) ≡ true
    → (touches w.pte xs ≡ false → touches w.done xs ≡ true → progress_from w Changed xs ≡ GoneOn) → progress_from w Changed (x ∷ xs) ≡ GoneOn
by_test w x xs true e h d rest =
    let both = or_false (w.pte == x) (touches w.pte xs) h in
    ap (λ q. progress_from w q xs) (by_mark (w.pte == x) (w.done == x) both.0 e) ∙ stays w xs both.1
by_test w x xs false e h d rest =
    let both = or_false (w.pte == x) (touches w.pte xs) h in
    let later : touches w.done xs ≡ true = ap (λ t. t || touches w.done xs) (sym e) ∙ d in
    ap (λ q. progress_from w q xs) (by_other (w.pte == x) (w.done == x) both.0 e) ∙ rest both.1 later

reaches : (w : Watch) (after : List ℕ) → touches w.pte after ≡ false → touches w.done after ≡ true → progress_from w Changed after ≡ GoneOn
reaches w [] h d = absurd (cc)
reaches w (x ∷ xs) h d = by_test w x xs (w.done == x) refl h d (reaches w xs)

by_entry : (w : Watch) (p : Progress) (t : Bool) → t ≡ true → (if t then Changed else if w.done == w.pte then if_changed p else p) ≡ Changed
by_entry w p true e = refl
by_entry w p false e = absurd (cc)

pub gone_on_progress : (w : Watch) (stores : List ℕ) → HasGoneOn w stores → progress_of w stores ≡ GoneOn
gone_on_progress w stores o =
    ap (progress_of w) o.stores_are
    ∙ from_append w Before o.before (w.pte ∷ o.after)
    ∙ ap (λ q. progress_from w q o.after) (by_entry w (progress_of w o.before) (w.pte == w.pte) (same w.pte))
    ∙ reaches w o.after o.is_last o.is_done

-- what the progress says of the stores

touched_more : (word : ℕ) (xs : List ℕ) (x : ℕ) → touches word (xs ++ x ∷ []) ≡ (touches word xs || (word == x))
touched_more word [] x = last (word == x)
  where
    last : (t : Bool) → (t || false) ≡ t
    last true = refl
    last false = refl
touched_more word (y ∷ ys) x = ap (λ t. (word == y) || t) (touched_more word ys x) ∙ assoc (word == y) (touches word ys) (word == x)
  where
    assoc : (a b c : Bool) → (a || (b || c)) ≡ ((a || b) || c)
    assoc true b c = refl
    assoc false b c = refl

abbrev Says : Watch → List ℕ → Progress → Type 0
Says w stores Before = Unit {0}
Says w stores Changed = (before : List ℕ) × (after : List ℕ) × (stores ≡ before ++ w.pte ∷ after) × (touches w.pte after ≡ false)
Says w stores GoneOn = HasGoneOn w stores

more_after : (stores before after : List ℕ) (pte x : ℕ) → stores ≡ before ++ pte ∷ after → stores ++ x ∷ [] ≡ before ++ pte ∷ (after ++ x ∷ [])
more_after stores before after pte x e = ap (λ l. l ++ x ∷ []) e ∙ append_assoc before (pte ∷ after) (x ∷ [])

still_last : (w : Watch) (after : List ℕ) (x : ℕ) → touches w.pte after ≡ false → (w.pte == x) ≡ false → touches w.pte (after ++ x ∷ []) ≡ false
still_last w after x h e = touched_more w.pte after x ∙ ap (λ t. t || (w.pte == x)) h ∙ e

or_left : (a b : Bool) → a ≡ true → (a || b) ≡ true
or_left true b h = refl
or_left false b h = absurd (cc)

or_right : (a b : Bool) → b ≡ true → (a || b) ≡ true
or_right true b h = refl
or_right false b h = h

extended : (w : Watch) (stores : List ℕ) (x : ℕ) → HasGoneOn w stores → (w.pte == x) ≡ false → HasGoneOn w (stores ++ x ∷ [])
extended w stores x o e = record {
  before = o.before;
  after = o.after ++ x ∷ [];
  stores_are = more_after stores o.before o.after w.pte x o.stores_are;
  is_last = still_last w o.after x o.is_last e;
  is_done = touched_more w.done o.after x ∙ or_left (touches w.done o.after) (w.done == x) o.is_done;
}

said_more : (w : Watch) (stores : List ℕ) (x : ℕ) (p : Progress) (a d : Bool) → (w.pte == x) ≡ a → (w.done == x) ≡ d → Says w stores p → Says w (stores ++ x ∷ []) (if a then Changed else if d then if_changed p else p)
said_more w stores x p true d ea ed h = (stores, [], ap (λ y. stores ++ y ∷ []) (sym (equal w.pte x ea)), refl)
said_more w stores x Before false true ea ed h = tt
said_more w stores x Changed false true ea ed h = record {
  before = h.0;
  after = h.1 ++ x ∷ [];
  stores_are = more_after stores h.0 h.1 w.pte x h.2;
  is_last = still_last w h.1 x h.3 ea;
  is_done = touched_more w.done h.1 x ∙ or_right (touches w.done h.1) (w.done == x) ed;
}
said_more w stores x GoneOn false true ea ed h = extended w stores x h ea
said_more w stores x Before false false ea ed h = tt
said_more w stores x Changed false false ea ed h = (h.0, h.1 ++ x ∷ [], more_after stores h.0 h.1 w.pte x h.2, still_last w h.1 x h.3 ea)
said_more w stores x GoneOn false false ea ed h = extended w stores x h ea

said : (w : Watch) (rest stores : List ℕ) (p : Progress) → Says w stores p → Says w (stores ++ rest) (progress_from w p rest)
said w [] stores p h = subst (λ l. Says w l p) (sym (append-nil stores)) h
said w (x ∷ rest) stores p h =
    subst (λ l. Says w l (progress_from w (progress_after w x p) rest)) (append_assoc stores (x ∷ []) rest)
    (said w rest (stores ++ x ∷ []) (progress_after w x p) (said_more w stores x p (w.pte == x) (w.done == x) refl refl h))

pub progress_gone_on : (w : Watch) (stores : List ℕ) → progress_of w stores ≡ GoneOn → HasGoneOn w stores
progress_gone_on w stores e = subst (Says w stores) e (said w stores [] Before tt)
