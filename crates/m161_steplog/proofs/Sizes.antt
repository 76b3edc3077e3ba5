-- The machine line of a schedule's text.
use Rattle.std.proofs.Common.{◌≡◌, ◌⊎◌, inl, inr, ℕ, Bool, true, false, List, [], ◌∷◌, ◌++◌, length, Option, Some, None, refl, sym, subst, ap, ap₂, ◌∙◌, arith, rules, codes, decimal, append-nil, append_assoc}
use Rattle.std.proofs.lemmas.List.{append_cancel_left, length-append}
use Rattle.std.proofs.lemmas.Option.{none-some, same_Some}
use Rattle.m161_isa.specs.declared.link.LinkUnit.{LinkUnit}
use Rattle.m161_isa.specs.declared.link.LinkUnit.TheVariants as units
use Rattle.m161_machine.specs.declared.event.Event.{Event}
use Rattle.m161_text.specs.Lines.{lines_of, with_line_end}
use Rattle.m161_text.specs.Parts.{◌␣◌, IsWord, Lacks, Reads}
use Rattle.m161_text.specs.helpers.Parts.{ReadsBoth}
use Rattle.m161_text.proofs.Decimal.{decimal_lacks, decimal_lacks_space}
use Rattle.m161_text.proofs.Feeds.{lines_cut}
use Rattle.m161_text.proofs.Parts.{cut_same, not_spaced}
use Rattle.m161_text.proofs.Reading.{nothing, just}
use Rattle.m161_steplog.specs.declared.mode.Mode.{Mode}
use Rattle.m161_steplog.specs.declared.size.MachineSize.{MachineSize}
use Rattle.m161_steplog.specs.Machine.{first_line}
use Rattle.m161_steplog.specs.Schedule.{IsSchedule, ScheduleLine}
use Rattle.m161_steplog.specs.Size.{IsMachineSize, link_words, processors_text, size_text, strict_words}
use Rattle.m161_steplog.specs.helpers.Size.{HasWords, IsSizeEnd, mode_words, size_end_text}
use Rattle.m161_steplog.proofs.LogLines.{lacks_nil, lacks_cons, lacks_append}
use Rattle.m161_steplog.proofs.Machines.{first_cut}

-- a machine whose mode has no words
abbrev pub plain : Mode
plain = record { link = units.Word; strict = false }

-- behind the number there are no words, or a space and then the mode's
abbrev pub IsPlain : Mode → Type 0
IsPlain mode = (mode.link ≡ units.Word) × (mode.strict ≡ false)

abbrev pub HasEnd : ℕ → Mode → Type 0
HasEnd n mode = (size_end_text (n, mode) ≡ decimal n ␣ mode_words mode) × HasWords mode

end_cases : (n : ℕ) (link : LinkUnit) (strict : Bool) → IsPlain (record { link = link; strict = strict }) ⊎ HasEnd n (record { link = link; strict = strict })
end_cases n units.Word false = inl (refl, refl)
end_cases n units.Line false = inr (refl, inl refl)
end_cases n units.Word true = inr (refl, inr refl)
end_cases n units.Line true = inr (refl, inr refl)

-- the number alone
plain_text : (n : ℕ) (mode : Mode) → IsPlain mode → size_end_text (n, mode) ≡ decimal n
plain_text n mode e = ap₂ (λ (l : LinkUnit) (s : Bool). decimal n ++ (link_words l ++ strict_words s)) e.0 e.1 ∙ append-nil (decimal n)

plain_same : (mode : Mode) → IsPlain mode → plain ≡ mode
plain_same mode e = ap₂ (λ (l : LinkUnit) (s : Bool). record { link = l; strict = s }) (sym e.0) (sym e.1)

abbrev pub pair : ℕ → Mode → ℕ × Mode
pair n mode = (n, mode)

pair_same : (n m : ℕ) (a b : Mode) → n ≡ m → a ≡ b → pair n a ≡ pair m b
pair_same n m a b e f = ap₂ (λ (x : ℕ) (y : Mode). (x, y)) e f

number_lacks : (n : ℕ) → IsWord n → Lacks 32 (decimal n)
number_lacks n small = decimal_lacks_space n (omega arith)

pub no_plain : (text : List ℕ) → Lacks 32 text → Reads IsWord decimal text None → Reads IsSizeEnd size_end_text text None
no_plain text lacks none = nothing (λ (t : ℕ × Mode) fits same. elim (end_cases t.0 t.1.link t.1.strict) [
  | inl e ↦ none-some t.0 (none.only t.0 fits (same ∙ plain_text t.0 t.1 e))
  | inr e ↦ not_spaced text (decimal t.0) (mode_words t.1) lacks (same ∙ e.0)
])

pub plain_read : (text : List ℕ) (n : ℕ) → Lacks 32 text → Reads IsWord decimal text (Some n) → Reads IsSizeEnd size_end_text text (Some (n, plain))
plain_read text n lacks one =
    let is : text ≡ size_end_text (n, plain) = one.found.1 ∙ sym (plain_text n plain (refl, refl)) in
    just (n, plain) one.found.0 is (λ (t : ℕ × Mode) fits same. elim (end_cases t.0 t.1.link t.1.strict) [
      | inl e ↦ pair_same n t.0 plain t.1 (same_Some n t.0 (one.only t.0 fits (is ∙ same ∙ plain_text t.0 t.1 e))) (plain_same t.1 e)
      | inr e ↦ absurd (not_spaced text (decimal t.0) (mode_words t.1) lacks (is ∙ same ∙ e.0))
    ])

-- a number, a space and words aren't a number alone
not_plain : (a b : List ℕ) (t : ℕ × Mode) → IsSizeEnd t → a ␣ b ≡ size_end_text t → IsPlain t.1 → ⊥
not_plain a b t fits same e = not_spaced (decimal t.0) a b (number_lacks t.0 fits) (sym (same ∙ plain_text t.0 t.1 e))

parts_same : (a b : List ℕ) (t : ℕ × Mode) → Lacks 32 a → IsSizeEnd t → a ␣ b ≡ size_end_text t → HasEnd t.0 t.1 → (a ≡ decimal t.0) × (b ≡ mode_words t.1)
parts_same a b t lacks fits same e = cut_same 32 a (decimal t.0) b (mode_words t.1) lacks (number_lacks t.0 fits) (same ∙ e.0)

pub no_number : (a b : List ℕ) → Lacks 32 a → Reads IsWord decimal a None → Reads IsSizeEnd size_end_text (a ␣ b) None
no_number a b lacks none = nothing (λ (t : ℕ × Mode) fits same. elim (end_cases t.0 t.1.link t.1.strict) [
  | inl e ↦ not_plain a b t fits same e
  | inr e ↦ none-some t.0 (none.only t.0 fits (parts_same a b t lacks fits same e).0)
])

pub no_words : (a b : List ℕ) → Lacks 32 a → Reads HasWords mode_words b None → Reads IsSizeEnd size_end_text (a ␣ b) None
no_words a b lacks none = nothing (λ (t : ℕ × Mode) fits same. elim (end_cases t.0 t.1.link t.1.strict) [
  | inl e ↦ not_plain a b t fits same e
  | inr e ↦ none-some t.1 (none.only t.1 e.1 (parts_same a b t lacks fits same e).1)
])

-- the words of a mode that has some
words_end : (n : ℕ) (mode : Mode) → HasWords mode → HasEnd n mode
words_end n mode has = elim (end_cases n mode.link mode.strict) [
  | inl e ↦ absurd (elim has [ inl f ↦ (cc) | inr f ↦ (cc) ])
  | inr e ↦ e
]

pub worded_read : (a b : List ℕ) (n : ℕ) (mode : Mode) → Lacks 32 a → Reads IsWord decimal a (Some n) → Reads HasWords mode_words b (Some mode) → Reads IsSizeEnd size_end_text (a ␣ b) (Some (n, mode))
worded_read a b n mode lacks one words =
    let is : a ␣ b ≡ size_end_text (n, mode) = ap₂ (λ (x y : List ℕ). x ␣ y) one.found.1 words.found.1 ∙ sym (words_end n mode words.found.0).0 in
    just (n, mode) one.found.0 is (λ (t : ℕ × Mode) fits same. elim (end_cases t.0 t.1.link t.1.strict) [
      | inl e ↦ absurd (not_plain a b t fits (is ∙ same) e)
      | inr e ↦ let parts = parts_same a b t lacks fits (is ∙ same) e in
          pair_same n t.0 mode t.1 (same_Some n t.0 (one.only t.0 fits parts.0)) (same_Some mode t.1 (words.only t.1 e.1 parts.1))
    ])

-- the line
size_rest : (line rest : List ℕ) (m : MachineSize) → line ≡ codes "# machine " ++ rest → line ≡ size_text m → rest ≡ decimal m.ram ␣ size_end_text (m.processors, m.mode)
size_rest line rest m is same = append_cancel_left (codes "# machine ") rest (decimal m.ram ␣ size_end_text (m.processors, m.mode)) (sym is ∙ same)

pub no_size : (line rest : List ℕ) → line ≡ codes "# machine " ++ rest → ReadsBoth IsWord IsSizeEnd decimal size_end_text rest None → Reads IsMachineSize size_text line None
no_size line rest is none = nothing (λ m fits same. none-some (m.ram, (m.processors, m.mode)) (none.only (m.ram, (m.processors, m.mode)) (fits.ram, fits.processors) (size_rest line rest m is same)))

made_of : Option (ℕ × (ℕ × Mode)) → Option MachineSize
made_of None = None
made_of (Some t) = Some (record { ram = t.0; processors = t.1.0; mode = t.1.1 })

pub size_read : (line rest : List ℕ) (ram processors : ℕ) (mode : Mode) → line ≡ codes "# machine " ++ rest → ReadsBoth IsWord IsSizeEnd decimal size_end_text rest (Some (ram, (processors, mode)))
    → Reads IsMachineSize size_text line (Some (record { ram = ram; processors = processors; mode = mode }))
unfolding made_of
size_read line rest ram processors mode is one = record {
  found = (record { ram = one.found.0.0; processors = one.found.0.1 }, is ∙ ap (λ r. codes "# machine " ++ r) one.found.1);
  only = λ m fits same. ap made_of (one.only (m.ram, (m.processors, m.mode)) (fits.ram, fits.processors) (size_rest line rest m is same));
}

-- no empty text is a machine's
pub no_line : (text : List ℕ) → text ≡ [] → Reads IsMachineSize size_text (first_line text) None
no_line text is = nothing (λ m fits same. omega (arith, ap length (sym (ap first_line is) ∙ same), length-append (codes "# machine") (32 ∷ (decimal m.ram ␣ size_end_text (m.processors, m.mode)))))

-- a schedule behind the line
link_lacks : (link : LinkUnit) → Lacks 10 (link_words link)
link_lacks units.Word = lacks_nil 10
link_lacks units.Line = search (rules, lacks_cons, lacks_nil)

strict_lacks : (strict : Bool) → Lacks 10 (strict_words strict)
strict_lacks false = lacks_nil 10
strict_lacks true = search (rules, lacks_cons, lacks_nil)

size_lacks : (m : MachineSize) → IsMachineSize m → Lacks 10 (size_text m)
size_lacks m fits =
    lacks_append 10 (codes "# machine ") (decimal m.ram ␣ processors_text m) (search (rules, lacks_cons, lacks_nil))
    (lacks_append 10 (decimal m.ram) (32 ∷ processors_text m) (decimal_lacks 10 m.ram (omega arith) (omega (arith, fits.ram)))
    (lacks_cons 10 32 (processors_text m) (omega arith)
    (lacks_append 10 (decimal m.processors) (link_words m.mode.link ++ strict_words m.mode.strict) (decimal_lacks 10 m.processors (omega arith) (omega (arith, fits.processors)))
    (lacks_append 10 (link_words m.mode.link) (strict_words m.mode.strict) (link_lacks m.mode.link) (strict_lacks m.mode.strict)))))

cut : (m : MachineSize) (text : List ℕ) → with_line_end (size_text m) ++ text ≡ size_text m ++ 10 ∷ text
cut m text = append_assoc (size_text m) (10 ∷ []) text

pub size_first : (m : MachineSize) (text : List ℕ) → IsMachineSize m → first_line (with_line_end (size_text m) ++ text) ≡ size_text m
size_first m text fits = ap first_line (cut m text) ∙ first_cut (size_text m) text (size_lacks m fits)

pub size_lines : (m : MachineSize) (text : List ℕ) → IsMachineSize m → lines_of (with_line_end (size_text m) ++ text) ≡ size_text m ∷ lines_of text
size_lines m text fits = ap lines_of (cut m text) ∙ lines_cut (size_text m) text (size_lacks m fits)

pub schedule_behind : (m : MachineSize) (text : List ℕ) (es : List Event) → IsMachineSize m → IsSchedule (lines_of text) es → IsSchedule (lines_of (with_line_end (size_text m) ++ text)) es
schedule_behind m text es fits h = subst (λ ls. IsSchedule ls es) (sym (size_lines m text fits)) (record {
  content = ScheduleLine.Comment (codes " machine" ␣ decimal m.ram ␣ processors_text m) ∷ h.content;
  each = (tt, h.each);
  text = ap (λ ls. size_text m ∷ ls) h.text;
  events = h.events;
  room = h.room;
})
