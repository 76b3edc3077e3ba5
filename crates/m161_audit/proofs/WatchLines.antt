use Rattle.std.proofs.Common.{◌≡◌, ◌≢◌, ℕ, ◌<◌, List, [], ◌∷◌, length, get_or, refl, sym, subst, ap, ◌∙◌, arith, Option, Some, None, codes, decimal, rules}
use Rattle.std.proofs.lemmas.Option.{none-some, same_Some}
use Rattle.m161_text.specs.Parts.{◌␣◌, Lacks, IsWord, Reads}
use Rattle.m161_text.specs.helpers.Parts.{ReadsBoth}
use Rattle.m161_text.proofs.Reading.{nothing}
use Rattle.m161_text.proofs.Parts.{cut_same, not_spaced, one_lacks}
use Rattle.m161_audit.specs.declared.text.Item.{Item}
use Rattle.m161_audit.specs.declared.text.Item.TheVariants as items
use Rattle.m161_audit.specs.declared.watch.Watch.{Watch}
use Rattle.m161_audit.specs.WatchText.{HasText, IsLine, WatchLine, line_text, line_watches, watch_text}
use Rattle.m161_audit.specs.helpers.WatchText.{IsPlace, ReadsLine, item_watches, place_text}

-- A line of watches.

-- the numbers of a watch, as they are read
abbrev Numbers : Type 0
Numbers = ℕ × (ℕ × (ℕ × ℕ))

abbrev numbers_of : Watch → Numbers
numbers_of w = (w.id, (w.page, (w.pte, w.done)))

abbrev watch_of : Numbers → Watch
watch_of t = record { id = t.0; page = t.1.0; pte = t.1.1.0; done = t.1.1.1 }

-- what stands after the first part
watch_rest : (kind rest : List ℕ) (w : Watch) → Lacks 32 kind → kind ␣ rest ≡ watch_text w → (kind ≡ codes "w") × (rest ≡ decimal w.id ␣ place_text (w.page, (w.pte, w.done)))
watch_rest kind rest w lacks same = cut_same 32 kind (codes "w") rest (decimal w.id ␣ place_text (w.page, (w.pte, w.done))) lacks (one_lacks 119 (search rules)) same

pub no_numbers : (kind rest : List ℕ) → Lacks 32 kind → ReadsBoth IsWord IsPlace decimal place_text rest None → Reads HasText watch_text (kind ␣ rest) None
no_numbers kind rest lacks none = nothing (λ w fits same.
    none-some (numbers_of w) (none.only (numbers_of w) (fits.id, (fits.page, (fits.pte, fits.done))) (watch_rest kind rest w lacks same).1))

pub other_kind : (kind rest : List ℕ) → Lacks 32 kind → kind ≢ codes "w" → Reads HasText watch_text (kind ␣ rest) None
other_kind kind rest lacks other = nothing (λ w fits same. other (watch_rest kind rest w lacks same).0)

pub of_numbers : (kind rest : List ℕ) (id page pte done : ℕ) → Lacks 32 kind → kind ≡ codes "w" → ReadsBoth IsWord IsPlace decimal place_text rest (Some (id, (page, (pte, done)))) →
    Reads HasText watch_text (kind ␣ rest) (Some (record { id = id; page = page; pte = pte; done = done }))
of_numbers kind rest id page pte done lacks is one = record {
  found = (
    record { id = one.found.0.0; page = one.found.0.1.0; pte = one.found.0.1.1.0; done = one.found.0.1.1.1 },
    rw (is, one.found.1) refl,
  );
  only = λ w fits same.
      let read = one.only (numbers_of w) (fits.id, (fits.page, (fits.pte, fits.done))) (watch_rest kind rest w lacks same).1 in
      ap (λ (t : Numbers). Some (watch_of t)) (same_Some (id, (page, (pte, done))) (numbers_of w) read);
}

-- the text of a watch isn't empty, doesn't begin with `#`, and has a space
begins : (w : Watch) → (0 < length (watch_text w)) × (get_or (watch_text w) 0 0 ≢ 35)
begins w = (omega arith, λ x. omega (arith, x))

abbrev Only : List ℕ → Option Item → Type 0
Only text result =
    (line : WatchLine) → IsLine line → text ≡ line_text line → (item : Item) × (result ≡ Some item) × (line_watches line ≡ item_watches item)

pub comment : (text : List ℕ) → 0 < length text → get_or text 0 0 ≡ 35 → ReadsLine text (Some items.Nothing)
comment [] some first = absurd (omega arith)
comment (c ∷ rest) some first = record {
  found = (WatchLine.Comment rest, tt, ap (λ x. x ∷ rest) first, refl);
  only = only;
}
  where
    only : Only (c ∷ rest) (Some items.Nothing)
    only WatchLine.Blank fits same = absurd (omega (arith, ap length same))
    only (WatchLine.Comment text) fits same = (items.Nothing, refl, refl)
    only (WatchLine.Watches w) fits same = absurd ((begins w).1 (sym (ap (λ ds. get_or ds 0 0) same) ∙ first))

pub one : (text : List ℕ) (w : Watch) → 0 < length text → get_or text 0 0 ≢ 35 → Reads HasText watch_text text (Some w) → ReadsLine text (Some (items.Watched w))
one text w some first read = record {
  found = (WatchLine.Watches w, read.found.0, read.found.1, refl);
  only = only;
}
  where
    only : Only text (Some (items.Watched w))
    only WatchLine.Blank fits same = absurd (omega (arith, ap length same))
    only (WatchLine.Comment rest) fits same = absurd (first (ap (λ ds. get_or ds 0 0) same))
    only (WatchLine.Watches x) fits same = (items.Watched w, refl, ap (λ y. y ∷ []) (sym (same_Some w x (read.only x fits same))))

pub none : (text : List ℕ) → 0 < length text → get_or text 0 0 ≢ 35 → Reads HasText watch_text text None → ReadsLine text None
none text some first read = record { found = tt; only = only }
  where
    only : Only text None
    only WatchLine.Blank fits same = absurd (omega (arith, ap length same))
    only (WatchLine.Comment rest) fits same = absurd (first (ap (λ ds. get_or ds 0 0) same))
    only (WatchLine.Watches x) fits same = absurd (none-some x (read.only x fits same))

pub no_space : (text : List ℕ) → Lacks 32 text → Reads HasText watch_text text None
no_space text lacks = nothing (λ w fits same. not_spaced text (codes "w") (decimal w.id ␣ place_text (w.page, (w.pte, w.done))) lacks same)

pub of_parts : (text kind rest : List ℕ) (r : Option Watch) → text ≡ kind ␣ rest → Reads HasText watch_text (kind ␣ rest) r → Reads HasText watch_text text r
of_parts text kind rest r same it = subst (λ t. Reads HasText watch_text t r) (sym same) it
