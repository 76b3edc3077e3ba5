use Rattle.std.proofs.Common.{◌≡◌, ◌∙◌, refl, sym, ap, subst, ℕ, suc, ◌+◌, ◌≤◌, Bool, true, false, nat_le, List, [], ◌∷◌, ◌++◌, length, take, Option, Ok, append-nil, append_assoc, inr, arith}
use Rattle.std.proofs.lemmas.List.{length-append, take-append-le, take_all}
use Rattle.std.proofs.Math.Seq.{take-append_seam}
use Rattle.std.proofs.lemmas.List.Concat.{flat_map-append}
use Rattle.std.proofs.lemmas.Bool.{leb-true, leb-false}
use Rattle.std.proofs.KnownBytes.{Appends-nil, Appends-trans}
use Rattle.std.proofs.lemmas.Bool.Decides.{nat_tests}
use Rattle.std.specs.Prelude.{if◌then◌else◌, nat_lt, slice_set, string_bytes}
use Rattle.std.specs.Io.KnownBytes.{Appends}
use Rattle.m161_cpu.specs.declared.processor.Outcome.{Outcome}
use Rattle.m161_machine.specs.declared.event.Entry.{Entry}
use Rattle.m161_machine.specs.declared.event.Event.{Event}
use Rattle.m161_machine.specs.State.{State, next}
use Rattle.m161_machine.specs.History.{Leads, entry}
use Rattle.m161_machine.proofs.Leading.{leads_on}
use Rattle.m161_text.specs.Lines.{text_of, with_line_end}
use Rattle.m161_trace.specs.Line.{event_line_with}
use Rattle.s161_base.specs.declared.fault.Fault.{Fault}
use Rattle.s161_base.specs.declared.fault.Fault.TheVariants.{Memory}
use Rattle.s161_base.specs.Streams.{AppendsSome}
use Rattle.s161_texts.specs.declared.lines.Lines.{Lines}
use Rattle.s161_texts.specs.declared.filter.LineFilter.{LineFilter}
use Rattle.s161_texts.specs.declared.shared.Mark.{Mark}
use Rattle.s161_texts.specs.declared.shared.SharedWords.{SharedWords}
use Rattle.s161_texts.specs.Shared.{Touch}
use Rattle.s161_texts.specs.Traces.{line_if, told, told_and, touches_if, touches_in}
use Rattle.s161_texts.specs.helpers.Marks.{mark_after, mark_at, marked, marks_after, no_marks}
use Rattle.s161_texts.specs.helpers.Printing.{FailsToPrint, FailsToPut, Prints, PutsOut, has_line, lines_from, noted_after, touches_now}

-- The lines of a run, one after the other.

-- what is told of events

module _ {A : Type 0} (tell : ℕ → State → Event → Outcome → State → List A) where
  -- of the first event, and of those after it
  first_told : (number : ℕ) (s : State) (e : Entry) (es : List Entry) (t : State) → next s e.event ≡ Ok (e.outcome, t) →
      told tell number s (e ∷ es) ≡ tell number s e.event e.outcome t ++ told tell (number + 1) t es
  first_told number s e es t h = ap (λ r. told_and tell number s e.event r (λ u. told tell (number + 1) u es)) h

  pub one_told : (number : ℕ) (s : State) (e : Event) (o : Outcome) (t : State) → next s e ≡ Ok (o, t) →
      told tell number s (entry e o ∷ []) ≡ tell number s e o t
  one_told number s e o t h = first_told number s (entry e o) [] t h ∙ append-nil (tell number s e o t)

  -- of some events, and of those after them
  pub told_on : (es fs : List Entry) (number : ℕ) (s t : State) → Leads s es t →
      told tell number s (es ++ fs) ≡ told tell number s es ++ told tell (number + length es) t fs
  told_on [] fs number s t h =
      let same : number + 0 ≡ number = omega arith in
      ap (λ u. told tell number u fs) (sym h) ∙ sym (ap (λ n. told tell n t fs) same)
  told_on (e ∷ es) fs number s t h =
      let one = tell number s e.event e.outcome h.0 in
      let rest = told tell (number + 1) h.0 es in
      let after : number + 1 + length es ≡ number + suc (length es) = omega arith in
      first_told number s e (es ++ fs) h.0 h.1
      ∙ ap (λ xs. one ++ xs) (told_on es fs (number + 1) h.0 t h.2)
      ∙ sym (append_assoc one rest (told tell (number + 1 + length es) t fs))
      ∙ ap (λ xs. xs ++ told tell (number + 1 + length es) t fs) (sym (first_told number s e es h.0 h.1))
      ∙ ap (λ n. told tell number s (e ∷ es) ++ told tell n t fs) after

-- the text of lines

module _ (w : LineFilter) where
  abbrev line_of : ℕ → State → Event → Outcome → State → List (List ℕ)
  line_of = line_if w.style w.loads (has_line w)

  pub text_on : (number : ℕ) (s t : State) (es fs : List Entry) → Leads s es t →
      text_of (lines_from w number s (es ++ fs)) ≡ text_of (lines_from w number s es) ++ text_of (lines_from w (number + length es) t fs)
  text_on number s t es fs h =
      ap text_of (told_on line_of es fs number s t h)
      ∙ flat_map-append with_line_end (lines_from w number s es) (lines_from w (number + length es) t fs)

  pub with_line : (number : ℕ) (s : State) (e : Event) (o : Outcome) (t : State) → has_line w number s e o ≡ true → next s e ≡ Ok (o, t) →
      text_of (lines_from w number s (entry e o ∷ [])) ≡ with_line_end (event_line_with w.style w.loads number e s o t)
  with_line number s e o t has h =
      let line = event_line_with w.style w.loads number e s o t in
      ap text_of (one_told line_of number s e o t h)
      ∙ ap (λ b. text_of (if b then line ∷ [] else [])) has
      ∙ append-nil (with_line_end line)

  pub without_line : (number : ℕ) (s : State) (e : Event) (o : Outcome) (t : State) → has_line w number s e o ≡ false → next s e ≡ Ok (o, t) →
      text_of (lines_from w number s (entry e o ∷ [])) ≡ []
  without_line number s e o t has h =
      let line = event_line_with w.style w.loads number e s o t in
      ap text_of (one_told line_of number s e o t h)
      ∙ ap (λ b. text_of (if b then line ∷ [] else [])) has

  -- what is noted of one event
  pub noted_one : (number : ℕ) (s : State) (e : Event) (o : Outcome) (t : State) (noted : SharedWords) → next s e ≡ Ok (o, t) →
      noted_after w number s (entry e o ∷ []) noted ≡ marks_after noted.marks.items (touches_now w number s e o)
  noted_one number s e o t noted h = ap (marks_after noted.marks.items) (one_told (touches_if w.from w.count) number s e o t h)

-- after more touches
pub marks_on : (marks : List Mark) (xs ys : List Touch) → marks_after marks (xs ++ ys) ≡ marks_after (marks_after marks xs) ys
marks_on marks [] ys = refl
marks_on marks (x ∷ xs) ys = marks_on (marked marks x) xs ys

-- nothing can be noted of no word
unmarked : (t : Touch) (marks : List Mark) (less : Bool) → nat_lt t.word 0 ≡ less → (if less then marks else []) ≡ []
unmarked t marks true lt = absurd (let bad : ⊥ = grind (arith, nat_tests, lt) in bad)
unmarked t marks false lt = refl

pub none_marked : (ts : List Touch) → marks_after (no_marks 0) ts ≡ no_marks 0
none_marked [] = refl
none_marked (t ∷ ts) =
    let one = slice_set [] t.word (mark_after (mark_at [] t.word) t.processor t.stores) in
    ap (λ marks. marks_after marks ts) (unmarked t one (nat_lt t.word 0) refl) ∙ none_marked ts

-- bytes that are put out

pub puts_none : (a : Option (List ℕ)) (kept : List ℕ) → PutsOut a kept [] a kept
puts_none a kept = ([], Appends-nil a, sym (append-nil kept))

pub puts_on : (a b c : Option (List ℕ)) (kept left last xs ys : List ℕ) → PutsOut a kept xs b left → PutsOut b left ys c last →
    PutsOut a kept (xs ++ ys) c last
puts_on a b c kept left last xs ys x y = (
  x.0 ++ y.0,
  Appends-trans a b c x.0 y.0 x.1 y.1,
  append_assoc x.0 y.0 last ∙ ap (λ zs. x.0 ++ zs) y.2 ∙ sym (append_assoc x.0 left ys)
      ∙ ap (λ zs. zs ++ ys) x.2 ∙ append_assoc kept xs ys,
)

take_past : (w zs : List ℕ) (n : ℕ) → take (length w + n) (w ++ zs) ≡ w ++ take n zs
take_past [] zs n = let same : 0 + n ≡ n = omega arith in ap (λ k. take k zs) same
take_past (x ∷ w) zs n =
    let more : suc (length w) + n ≡ suc (length w + n) = omega arith in
    ap (λ k. take k (x ∷ (w ++ zs))) more ∙ ap (λ rest. x ∷ rest) (take_past w zs n)

-- some bytes are put out, and then it fails
pub puts_some : (a b c : Option (List ℕ)) (kept left xs ys : List ℕ) → PutsOut a kept xs b left → AppendsSome b c (left ++ ys) →
    AppendsSome a c (kept ++ (xs ++ ys))
puts_some a b c kept left xs ys x y =
    let whole : x.0 ++ (left ++ ys) ≡ kept ++ (xs ++ ys) =
    sym (append_assoc x.0 left ys) ∙ ap (λ zs. zs ++ ys) x.2 ∙ append_assoc kept xs ys in (
      length x.0 + y.0,
      subst (Appends a c) (sym (take_past x.0 (left ++ ys) y.0) ∙ ap (take (length x.0 + y.0)) whole)
          (Appends-trans a b c x.0 (take y.0 (left ++ ys)) x.1 y.1),
    )

-- nothing of them is written
pub some_none : (a : Option (List ℕ)) (xs : List ℕ) → AppendsSome a a xs
some_none a xs = (0, Appends-nil a)

-- some of the first are
pub some_more : (a b : Option (List ℕ)) (xs ys : List ℕ) → AppendsSome a b xs → AppendsSome a b (xs ++ ys)
some_more a b xs ys h = by (nat_le h.0 (length xs)) refl
  where
    by : (t : Bool) → nat_le h.0 (length xs) ≡ t → AppendsSome a b (xs ++ ys)
    by true is = (h.0, subst (Appends a b) (sym (take-append-le h.0 xs ys (leb-true h.0 (length xs) is))) h.1)
    by false is =
        let more = leb-false h.0 (length xs) is in
        let long : length xs ≤ h.0 = omega (arith, more) in
        (length xs, subst (Appends a b) (take_all h.0 xs long ∙ sym (take-append_seam xs ys)) h.1)

-- all that was kept back is written
pub puts_all : (a b : Option (List ℕ)) (kept : List ℕ) → Appends a b kept → PutsOut a kept [] b []
puts_all a b kept h = (kept, h, refl)

pub fails_all : (a b : Option (List ℕ)) (kept : List ℕ) → AppendsSome a b kept → AppendsSome a b (kept ++ [])
fails_all a b kept h = subst (AppendsSome a b) (sym (append-nil kept)) h

-- then a line is kept back
pub puts_push : (a b : Option (List ℕ)) (kept left line last : List ℕ) → PutsOut a kept [] b left → last ≡ left ++ line →
    PutsOut a kept line b last
puts_push a b kept left line last x is = puts_on a b b kept left last [] line x ([], Appends-nil b, is)

pub fails_push : (a b : Option (List ℕ)) (kept left line : List ℕ) → PutsOut a kept [] b left → AppendsSome a b (kept ++ line)
fails_push a b kept left line x = puts_some a b b kept left [] line x (some_none b (left ++ line))

pub fails_before : (a b : Option (List ℕ)) (kept line : List ℕ) (fault : Fault) → FailsToPut a kept [] b fault →
    FailsToPut a kept line b fault
fails_before a b kept line fault h =
    (h.0, subst (AppendsSome a b) (ap (λ bytes. bytes ++ line) (append-nil kept)) (some_more a b (kept ++ []) line h.1))

-- and all is written
pub puts_end : (a b c : Option (List ℕ)) (kept left more : List ℕ) → PutsOut a kept more b left → Appends b c left →
    Appends a c (kept ++ more)
puts_end a b c kept left more x h = subst (Appends a c) x.2 (Appends-trans a b c x.0 left x.1 h)

pub fails_end : (a b c : Option (List ℕ)) (kept left more : List ℕ) → PutsOut a kept more b left → AppendsSome b c left →
    AppendsSome a c (kept ++ more)
fails_end a b c kept left more x h =
    subst (λ bytes. AppendsSome a c (kept ++ bytes)) (append-nil more)
    (puts_some a b c kept left more [] x (fails_all b c left h))

-- lines that are put out

pub prints_none : (l : Lines) (a : Option (List ℕ)) (s : State) → l.tracer ≡ s → Prints l a [] s l a
prints_none l a s same = record {
  filter_is = refl;
  number_is = omega arith;
  tracer_is = same;
  leads = sym same;
  noted_is = refl;
  puts = puts_none a (string_bytes l.piece);
}

-- one event
pub one_leads : (s : State) (e : Event) (o : Outcome) (t : State) → next s e ≡ Ok (o, t) → Leads s (entry e o ∷ []) t
one_leads s e o t h = (t, h, refl)

pub one_fails : (l : Lines) (a : Option (List ℕ)) (e : Event) (o : Outcome) (t : State) → next l.tracer e ≡ Ok (o, t) →
    FailsToPrint l a (entry e o ∷ []) t a Memory
one_fails l a e o t h =
    let text = text_of (lines_from l.filter l.number l.tracer (entry e o ∷ [])) in
    (one_leads l.tracer e o t h, (inr refl, some_none a (string_bytes l.piece ++ text)))

module _ (l k : Lines) (a b c : Option (List ℕ)) (es fs : List Entry) (t : State) (x : Prints l a es t k b) where
  -- those of the later events, in the words of the first
  later : text_of (lines_from l.filter l.number l.tracer es) ++ text_of (lines_from k.filter k.number k.tracer fs)
      ≡ text_of (lines_from l.filter l.number l.tracer (es ++ fs))
  later =
      ap (λ text. text_of (lines_from l.filter l.number l.tracer es) ++ text)
      (λ i. text_of (lines_from (x.filter_is i) (x.number_is i) (x.tracer_is i) fs))
      ∙ sym (text_on l.filter l.number l.tracer t es fs x.leads)

  noted_then : (u : State) (j : Lines) → Prints k b fs u j c →
      j.noted.marks.items ≡ noted_after l.filter l.number l.tracer (es ++ fs) l.noted
  noted_then u j y =
      let w = l.filter in
      let first = touches_in w.from w.count l.number l.tracer es in
      y.noted_is
      ∙ ap (λ marks. marks_after marks (touches_in k.filter.from k.filter.count k.number k.tracer fs)) x.noted_is
      ∙ (λ i. marks_after (marks_after l.noted.marks.items first)
      (touches_in (x.filter_is i).from (x.filter_is i).count (x.number_is i) (x.tracer_is i) fs))
      ∙ sym (marks_on l.noted.marks.items first (touches_in w.from w.count (l.number + length es) t fs))
      ∙ ap (marks_after l.noted.marks.items) (sym (told_on (touches_if w.from w.count) es fs l.number l.tracer t x.leads))

  leads_then : (u : State) → Leads k.tracer fs u → Leads l.tracer (es ++ fs) u
  leads_then u h = leads_on es fs l.tracer t u x.leads (subst (λ v. Leads v fs u) x.tracer_is h)

  pub prints_on : (j : Lines) (u : State) → Prints k b fs u j c → Prints l a (es ++ fs) u j c
  prints_on j u y = record {
    filter_is = y.filter_is ∙ x.filter_is;
    number_is =
        let first = x.number_is in let second = y.number_is in omega (arith, first, second, length-append es fs);
    tracer_is = y.tracer_is;
    leads = leads_then u y.leads;
    noted_is = noted_then u j y;
    puts =
        subst (λ text. PutsOut a (string_bytes l.piece) text c (string_bytes j.piece)) later
        (puts_on a b c (string_bytes l.piece) (string_bytes k.piece) (string_bytes j.piece) _ _ x.puts y.puts);
  }

  pub fails_on : (u : State) (fault : Fault) → FailsToPrint k b fs u c fault → FailsToPrint l a (es ++ fs) u c fault
  fails_on u fault y = (
    leads_then u y.0,
    (
      y.1.0,
      subst (λ text. AppendsSome a c (string_bytes l.piece ++ text)) later
          (puts_some a b c (string_bytes l.piece) (string_bytes k.piece) _ _ x.puts y.1.1),
    ),
  )
