-- A line of a log.
use Rattle.std.proofs.Common.{◌≡◌, ◌≢◌, inl, inr, Bool, true, false, ℕ, zero, suc, ◌≤◌, List, [], ◌∷◌, ◌++◌, get_or, refl, sym, ap, ◌∙◌, ap₂, arith, Option, Some, None, codes, decimal, rules}
use Rattle.std.proofs.lemmas.Option.{none-some, some_pair_parts}
use Rattle.std.proofs.lemmas.List.{append_cancel_left}
use Rattle.m161_isa.specs.declared.link.LinkUnit.{LinkUnit}
use Rattle.m161_isa.specs.declared.link.LinkUnit.TheVariants as units
use Rattle.m161_machine.specs.declared.event.Event.{Event}
use Rattle.m161_machine.specs.declared.event.Event.TheVariants as events
use Rattle.m161_cpu.specs.declared.processor.Outcome.{Outcome}
use Rattle.m161_cpu.specs.declared.processor.Outcome.TheVariants as outcomes
use Rattle.m161_machine.specs.declared.event.Entry.{Entry}
use Rattle.m161_text.specs.Parts.{◌␣◌, hex_text, Reads, Lacks, IsWord, IsByte}
use Rattle.m161_text.specs.helpers.Parts.{ReadsBoth}
use Rattle.m161_steplog.specs.Text.{event_text, code_text, outcome_text, entry_text, IsEvent, IsStepOutcome, IsProper, IsOutcomeOf}
use Rattle.m161_steplog.specs.declared.mode.Mode.{Mode}
use Rattle.m161_steplog.specs.Log.{unit_text, mode_text, IsHeader}
use Rattle.m161_steplog.specs.Comments.{is_comment}
use Rattle.m161_steplog.specs.helpers.Text.{rows_text, AreRows, IsCode}
use Rattle.m161_cop0.specs.declared.exception.Exception.{Exception}
use Rattle.m161_cop0.specs.Registers.{number_of_exception}
use Rattle.m161_steplog.proofs.Codes.{code_small}
use Rattle.m161_text.proofs.Reading.{nothing}
use Rattle.m161_text.proofs.Parts.{cut_same, has_space, not_spaced, rest_lacks, one_lacks}
use Rattle.m161_text.proofs.Hex.{hex_lacks, hex_lacks_space}
use Rattle.m161_text.proofs.Decimal.{decimal_lacks}

-- what lacks a byte
pub lacks_nil : (c : ℕ) → Lacks c []
lacks_nil c i lt = absurd (omega arith)

pub lacks_cons : (c b : ℕ) (bs : List ℕ) → b ≢ c → Lacks c bs → Lacks c (b ∷ bs)
lacks_cons c b bs other lacks zero lt e = other e
lacks_cons c b bs other lacks (suc i) lt e = lacks i (omega arith) e

pub lacks_append : (c : ℕ) (a b : List ℕ) → Lacks c a → Lacks c b → Lacks c (a ++ b)
lacks_append c [] b first second = second
lacks_append c (x ∷ a) b first second = lacks_cons c x (a ++ b) (first 0 (omega arith)) (lacks_append c a b (rest_lacks c x a first) second)

-- the first part of a line decides its event
abbrev Kind : List ℕ → List ℕ → Event → Outcome → Type 0
Kind kind rest (events.Step p) o = (kind ≡ codes "s") × (rest ≡ decimal p ␣ outcome_text o)
Kind kind rest (events.Key b) o = (kind ≡ codes "k") × (rest ≡ hex_text 2 b ␣ outcome_text o)
Kind kind rest events.Done o = (kind ≡ codes "o") × (rest ≡ outcome_text o)

kind_of : (kind rest : List ℕ) (event : Event) (o : Outcome) → Lacks 32 kind → kind ␣ rest ≡ event_text event ␣ outcome_text o → Kind kind rest event o
kind_of kind rest (events.Step p) o lacks same = cut_same 32 kind (codes "s") rest (decimal p ␣ outcome_text o) lacks (one_lacks 115 (search rules)) same
kind_of kind rest (events.Key b) o lacks same = cut_same 32 kind (codes "k") rest (hex_text 2 b ␣ outcome_text o) lacks (one_lacks 107 (search rules)) same
kind_of kind rest events.Done o lacks same = cut_same 32 kind (codes "o") rest (outcome_text o) lacks (one_lacks 111 (search rules)) same

-- the first part of an outcome's text that has numbers decides it
abbrev Numbered : List ℕ → List ℕ → Outcome → Type 0
Numbered kind rest outcomes.Ran = ⊥
Numbered kind rest (outcomes.Trapped c v) = (kind ≡ codes "trap") × (rest ≡ code_text c ␣ hex_text 8 v)
Numbered kind rest outcomes.Idle = ⊥
Numbered kind rest outcomes.PoweredOff = ⊥
Numbered kind rest (outcomes.Conflict row other) = (kind ≡ codes "conflict") × (rest ≡ rows_text (row, other))
Numbered kind rest outcomes.Taken = ⊥

abbrev IsCut : List ℕ → List ℕ → List ℕ → Type 0
IsCut kind rest text = Lacks 32 kind × (text ≡ kind ␣ rest)

numbered : (kind rest text : List ℕ) (o : Outcome) → IsCut kind rest text → IsStepOutcome o → text ≡ outcome_text o → Numbered kind rest o
numbered kind rest text outcomes.Ran cut fits same = not_spaced (codes "ran") kind rest (search (rules, lacks_cons, lacks_nil)) (sym same ∙ cut.1)
numbered kind rest text (outcomes.Trapped c v) cut fits same = cut_same 32 kind (codes "trap") rest (code_text c ␣ hex_text 8 v) cut.0 (search (rules, lacks_cons, lacks_nil)) (sym cut.1 ∙ same)
numbered kind rest text outcomes.Idle cut fits same = not_spaced (codes "idle") kind rest (search (rules, lacks_cons, lacks_nil)) (sym same ∙ cut.1)
numbered kind rest text outcomes.PoweredOff cut fits same = not_spaced (codes "off") kind rest (search (rules, lacks_cons, lacks_nil)) (sym same ∙ cut.1)
numbered kind rest text (outcomes.Conflict row other) cut fits same = cut_same 32 kind (codes "conflict") rest (rows_text (row, other)) cut.0 (search (rules, lacks_cons, lacks_nil)) (sym cut.1 ∙ same)
numbered kind rest text outcomes.Taken cut fits same = fits

-- an outcome without numbers is one word
pub no_word : (text : List ℕ) → Lacks 32 text → text ≢ codes "ran" → text ≢ codes "idle" → text ≢ codes "off" → Reads IsStepOutcome outcome_text text None
no_word text lacks not_ran not_idle not_off = nothing (λ o fits same. by_outcome o fits same)
  where
    by_outcome : (o : Outcome) → IsStepOutcome o → text ≡ outcome_text o → ⊥
    by_outcome outcomes.Ran fits same = not_ran same
    by_outcome (outcomes.Trapped c v) fits same = not_spaced text (codes "trap") (code_text c ␣ hex_text 8 v) lacks same
    by_outcome outcomes.Idle fits same = not_idle same
    by_outcome outcomes.PoweredOff fits same = not_off same
    by_outcome (outcomes.Conflict row other) fits same = not_spaced text (codes "conflict") (rows_text (row, other)) lacks same
    by_outcome outcomes.Taken fits same = fits

pub no_outcome : (kind rest text : List ℕ) → IsCut kind rest text → kind ≢ codes "trap" → kind ≢ codes "conflict" → Reads IsStepOutcome outcome_text text None
no_outcome kind rest text cut not_trap not_conflict = nothing (λ o fits same. by_outcome o (numbered kind rest text o cut fits same))
  where
    by_outcome : (o : Outcome) → Numbered kind rest o → ⊥
    by_outcome outcomes.Ran it = it
    by_outcome (outcomes.Trapped c v) it = not_trap it.0
    by_outcome outcomes.Idle it = it
    by_outcome outcomes.PoweredOff it = it
    by_outcome (outcomes.Conflict row other) it = not_conflict it.0
    by_outcome outcomes.Taken it = it

-- a trap's outcome
abbrev Trap : List ℕ → Option (Exception × ℕ) → Type 0
Trap text r = ReadsBoth IsCode IsWord code_text (hex_text 8) text r

trap_rest : (kind rest : List ℕ) (o : Outcome) → kind ≡ codes "trap" → IsStepOutcome o → Numbered kind rest o → (t : Exception × ℕ) × (o ≡ outcomes.Trapped t.0 t.1) × IsWord t.1 × (rest ≡ code_text t.0 ␣ hex_text 8 t.1)
trap_rest kind rest outcomes.Ran is fits it = absurd it
trap_rest kind rest (outcomes.Trapped c v) is fits it = ((c, v), refl, fits, it.1)
trap_rest kind rest outcomes.Idle is fits it = absurd it
trap_rest kind rest outcomes.PoweredOff is fits it = absurd it
trap_rest kind rest (outcomes.Conflict row other) is fits it = absurd (omega (arith, ap (λ ds. get_or ds 0 0) (sym is ∙ it.0)))
trap_rest kind rest outcomes.Taken is fits it = absurd it

pub no_trap : (kind rest text : List ℕ) → IsCut kind rest text → kind ≡ codes "trap" → Trap rest None → Reads IsStepOutcome outcome_text text None
no_trap kind rest text cut is none = nothing (λ o fits same. let t = trap_rest kind rest o is fits (numbered kind rest text o cut fits same) in none-some t.0 (none.only t.0 (tt, t.2) t.3))

pub trap : (kind rest text : List ℕ) (c : Exception) (v : ℕ) → IsCut kind rest text → kind ≡ codes "trap" → Trap rest (Some (c, v)) → Reads IsStepOutcome outcome_text text (Some (outcomes.Trapped c v))
trap kind rest text c v cut is one = record {
  found = (one.found.0.1, cut.1 ∙ ap₂ (λ (k r : List ℕ). k ␣ r) is one.found.1);
  only = λ o fits same.
      let t = trap_rest kind rest o is fits (numbered kind rest text o cut fits same) in
      let parts = some_pair_parts c t.0.0 v t.0.1 (one.only t.0 (tt, t.2) t.3) in
      ap₂ (λ m n. Some (outcomes.Trapped m n)) parts.0 parts.1 ∙ ap (λ x. Some x) (sym t.1);
}

-- a conflict's outcome
abbrev Conflicting : List ℕ → Option (ℕ × ℕ) → Type 0
Conflicting text r = Reads AreRows rows_text text r

conflict_rest : (kind rest : List ℕ) (o : Outcome) → kind ≡ codes "conflict" → IsStepOutcome o → Numbered kind rest o → (t : ℕ × ℕ) × (o ≡ outcomes.Conflict t.0 t.1) × AreRows t × (rest ≡ rows_text t)
conflict_rest kind rest outcomes.Ran is fits it = absurd it
conflict_rest kind rest (outcomes.Trapped c v) is fits it = absurd (omega (arith, ap (λ ds. get_or ds 0 0) (sym is ∙ it.0)))
conflict_rest kind rest outcomes.Idle is fits it = absurd it
conflict_rest kind rest outcomes.PoweredOff is fits it = absurd it
conflict_rest kind rest (outcomes.Conflict row other) is fits it = ((row, other), refl, fits, it.1)
conflict_rest kind rest outcomes.Taken is fits it = absurd it

pub no_conflict : (kind rest text : List ℕ) → IsCut kind rest text → kind ≡ codes "conflict" → Conflicting rest None → Reads IsStepOutcome outcome_text text None
no_conflict kind rest text cut is none = nothing (λ o fits same. let t = conflict_rest kind rest o is fits (numbered kind rest text o cut fits same) in none-some t.0 (none.only t.0 t.2 t.3))

pub conflict : (kind rest text : List ℕ) (row other : ℕ) → IsCut kind rest text → kind ≡ codes "conflict" → Conflicting rest (Some (row, other)) → Reads IsStepOutcome outcome_text text (Some (outcomes.Conflict row other))
conflict kind rest text row other cut is one = record {
  found = (one.found.0, cut.1 ∙ ap₂ (λ (k r : List ℕ). k ␣ r) is one.found.1);
  only = λ o fits same.
      let t = conflict_rest kind rest o is fits (numbered kind rest text o cut fits same) in
      let parts = some_pair_parts row t.0.0 other t.0.1 (one.only t.0 t.2 t.3) in
      ap₂ (λ m n. Some (outcomes.Conflict m n)) parts.0 parts.1 ∙ ap (λ x. Some x) (sym t.1);
}

-- a line by its first part
pub no_kind : (kind rest line : List ℕ) → Lacks 32 kind × (line ≡ kind ␣ rest) → kind ≢ codes "s" → kind ≢ codes "k" → (kind ≡ codes "o" → rest ≢ codes "taken") → Reads IsProper entry_text line None
no_kind kind rest line cut not_s not_k not_o = nothing (λ e proper same. by_event e.event e.outcome proper.outcome (kind_of kind rest e.event e.outcome cut.0 (sym cut.1 ∙ same)))
  where
    by_event : (event : Event) (o : Outcome) → IsOutcomeOf event o → Kind kind rest event o → ⊥
    by_event (events.Step p) o outcome it = not_s it.0
    by_event (events.Key b) o outcome it = not_k it.0
    by_event events.Done o outcome it = not_o it.0 (it.1 ∙ ap outcome_text outcome)

pub no_step : (kind rest line : List ℕ) → Lacks 32 kind × (line ≡ kind ␣ rest) → kind ≡ codes "s" → ReadsBoth IsWord IsStepOutcome decimal outcome_text rest None → Reads IsProper entry_text line None
no_step kind rest line cut is none = nothing (λ e proper same. by_event e.event e.outcome proper.event proper.outcome (kind_of kind rest e.event e.outcome cut.0 (sym cut.1 ∙ same)))
  where
    by_event : (event : Event) (o : Outcome) → IsEvent event → IsOutcomeOf event o → Kind kind rest event o → ⊥
    by_event (events.Step p) o fits outcome it = none-some (p, o) (none.only (p, o) (fits, outcome) it.1)
    by_event (events.Key b) o fits outcome it = omega (arith, ap (λ ds. get_or ds 0 0) (sym is ∙ it.0))
    by_event events.Done o fits outcome it = omega (arith, ap (λ ds. get_or ds 0 0) (sym is ∙ it.0))

pub step : (kind rest line : List ℕ) (p : ℕ) (o : Outcome) → Lacks 32 kind × (line ≡ kind ␣ rest) → kind ≡ codes "s" → ReadsBoth IsWord IsStepOutcome decimal outcome_text rest (Some (p, o))
    → Reads IsProper entry_text line (Some (record { event = events.Step p; outcome = o }))
step kind rest line p o cut is one = record {
  found = (record { event = one.found.0.0; outcome = one.found.0.1 }, cut.1 ∙ rw (is, one.found.1) refl);
  only = λ e proper same. by_event e.event e.outcome proper.event proper.outcome (kind_of kind rest e.event e.outcome cut.0 (sym cut.1 ∙ same));
}
  where
    by_event : (event : Event) (outcome : Outcome) → IsEvent event → IsOutcomeOf event outcome → Kind kind rest event outcome
        → ◌≡◌ {A = Option Entry} (Some (record { event = events.Step p; outcome = o })) (Some (record { event = event; outcome = outcome }))
    by_event (events.Step q) other fits proper it =
        let parts = some_pair_parts p q o other (one.only (q, other) (fits, proper) it.1) in
        ap₂ (λ m n. Some (record { event = events.Step m; outcome = n })) parts.0 parts.1
    by_event (events.Key b) other fits proper it = absurd (omega (arith, ap (λ ds. get_or ds 0 0) (sym is ∙ it.0)))
    by_event events.Done other fits proper it = absurd (omega (arith, ap (λ ds. get_or ds 0 0) (sym is ∙ it.0)))

-- the byte of an accepted key
pub not_taken : (byte outcome text : List ℕ) → Lacks 32 byte × (text ≡ byte ␣ outcome) → outcome ≢ codes "taken" → Reads IsByte (λ b. hex_text 2 b ␣ codes "taken") text None
not_taken byte outcome text cut other = nothing (λ b fits same. other (cut_same 32 byte (hex_text 2 b) outcome (codes "taken") cut.0 (hex_lacks_space 2 b) (sym cut.1 ∙ same)).1)

pub taken : (byte outcome text : List ℕ) (r : Option ℕ) → Lacks 32 byte × (text ≡ byte ␣ outcome) → outcome ≡ codes "taken" → Reads IsByte (hex_text 2) byte r → Reads IsByte (λ b. hex_text 2 b ␣ codes "taken") text r
taken byte outcome text None cut is none = nothing (λ b fits same. none-some b (none.only b fits (cut_same 32 byte (hex_text 2 b) outcome (codes "taken") cut.0 (hex_lacks_space 2 b) (sym cut.1 ∙ same)).0))
taken byte outcome text (Some x) cut is one = record {
  found = (one.found.0, cut.1 ∙ rw (is, one.found.1) refl);
  only = λ b fits same. one.only b fits (cut_same 32 byte (hex_text 2 b) outcome (codes "taken") cut.0 (hex_lacks_space 2 b) (sym cut.1 ∙ same)).0;
}

pub no_space : (line : List ℕ) → Lacks 32 line → Reads IsProper entry_text line None
no_space line lacks = nothing (λ e proper same. has_space (event_text e.event) (outcome_text e.outcome) (rw (← same) lacks))

-- No line has a line feed.
unit_lacks_feed : (unit : LinkUnit) → Lacks 10 (unit_text unit)
unit_lacks_feed units.Word = search (rules, lacks_cons, lacks_nil)
unit_lacks_feed units.Line = search (rules, lacks_cons, lacks_nil)

mode_of : Bool → LinkUnit → Mode
mode_of strict unit = record { link = unit; strict = strict }

mode_lacks_feed : (strict : Bool) (unit : LinkUnit) → Lacks 10 (mode_text (mode_of strict unit))
unfolding mode_of
mode_lacks_feed true unit = lacks_append 10 (codes "3 ") (unit_text unit ␣ codes "strict") (search (rules, lacks_cons, lacks_nil)) (lacks_append 10 (unit_text unit) (codes " strict") (unit_lacks_feed unit) (search (rules, lacks_cons, lacks_nil)))
mode_lacks_feed false unit = lacks_append 10 (codes "2 ") (unit_text unit) (search (rules, lacks_cons, lacks_nil)) (unit_lacks_feed unit)

pub header_lacks_feed : (mode : Mode) (header : List ℕ) → IsHeader mode header → Lacks 10 header
unfolding mode_of
header_lacks_feed mode header (inl is) = rw is (lacks_append 10 (codes "m161 log ") (mode_text mode) (search (rules, lacks_cons, lacks_nil)) (mode_lacks_feed mode.strict mode.link))
header_lacks_feed mode header (inr is) = rw is.0 (search (rules, lacks_cons, lacks_nil))

-- no other mode has a first line
unit_lacks_space : (unit : LinkUnit) → Lacks 32 (unit_text unit)
unit_lacks_space units.Word = search (rules, lacks_cons, lacks_nil)
unit_lacks_space units.Line = search (rules, lacks_cons, lacks_nil)

unit_same : (u v : LinkUnit) → unit_text u ≡ unit_text v → u ≡ v
unit_same units.Word units.Word same = refl
unit_same units.Word units.Line same = absurd (omega (arith, ap (λ ds. get_or ds 0 0) same))
unit_same units.Line units.Word same = absurd (omega (arith, ap (λ ds. get_or ds 0 0) same))
unit_same units.Line units.Line same = refl

text_same : (s t : Bool) (u v : LinkUnit) → mode_text (mode_of s u) ≡ mode_text (mode_of t v) → mode_of s u ≡ mode_of t v
unfolding mode_of
text_same true true u v same =
    let cut = cut_same 32 (unit_text u) (unit_text v) (codes "strict") (codes "strict") (unit_lacks_space u) (unit_lacks_space v) (append_cancel_left (codes "3 ") (unit_text u ␣ codes "strict") (unit_text v ␣ codes "strict") same) in
    ap (mode_of true) (unit_same u v cut.0)
text_same true false u v same = absurd (omega (arith, ap (λ ds. get_or ds 0 0) same))
text_same false true u v same = absurd (omega (arith, ap (λ ds. get_or ds 0 0) same))
text_same false false u v same = ap (mode_of false) (unit_same u v (append_cancel_left (codes "2 ") (unit_text u) (unit_text v) same))

-- no mode is written in format 1
number_of : (strict : Bool) (unit : LinkUnit) → 50 ≤ get_or (mode_text (mode_of strict unit)) 0 0
unfolding mode_of
number_of true unit = omega arith
number_of false unit = omega arith

pub mode_same : (m n : Mode) (header : List ℕ) → IsHeader m header → IsHeader n header → m ≡ n
unfolding mode_of
mode_same m n header (inl a) (inl b) = text_same m.strict n.strict m.link n.link (append_cancel_left (codes "m161 log ") (mode_text m) (mode_text n) (sym a ∙ b))
mode_same m n header (inl a) (inr b) = absurd (omega (arith, ap (λ ds. get_or ds 9 0) (sym a ∙ b.0), number_of m.strict m.link))
mode_same m n header (inr a) (inl b) = absurd (omega (arith, ap (λ ds. get_or ds 9 0) (sym b ∙ a.0), number_of n.strict n.link))
mode_same m n header (inr a) (inr b) = a.1 ∙ sym b.1

-- a first line is no comment
pub header_first : (mode : Mode) (header : List ℕ) → IsHeader mode header → is_comment header ≡ false
header_first mode header (inl is) = ap is_comment is
header_first mode header (inr is) = ap is_comment is.0

pub event_lacks_feed : (event : Event) → IsEvent event → Lacks 10 (event_text event)
event_lacks_feed (events.Step p) fits = lacks_append 10 (codes "s ") (decimal p) (search (rules, lacks_cons, lacks_nil)) (decimal_lacks 10 p (omega arith) (omega arith))
event_lacks_feed (events.Key b) fits = lacks_append 10 (codes "k ") (hex_text 2 b) (search (rules, lacks_cons, lacks_nil)) (hex_lacks 10 2 b (omega arith))
event_lacks_feed events.Done fits = search (rules, lacks_cons, lacks_nil)

outcome_lacks_feed : (o : Outcome) → IsStepOutcome o → Lacks 10 (outcome_text o)
outcome_lacks_feed outcomes.Ran fits = search (rules, lacks_cons, lacks_nil)
outcome_lacks_feed (outcomes.Trapped c v) fits = lacks_append 10 (codes "trap ") (code_text c ␣ hex_text 8 v) (search (rules, lacks_cons, lacks_nil))
    (lacks_append 10 (code_text c) (32 ∷ hex_text 8 v) (decimal_lacks 10 (number_of_exception c) (omega arith) (omega (arith, code_small c))) (lacks_cons 10 32 (hex_text 8 v) (omega arith) (hex_lacks 10 8 v (omega arith))))
outcome_lacks_feed outcomes.Idle fits = search (rules, lacks_cons, lacks_nil)
outcome_lacks_feed outcomes.PoweredOff fits = search (rules, lacks_cons, lacks_nil)
outcome_lacks_feed (outcomes.Conflict row other) fits = lacks_append 10 (codes "conflict ") (rows_text (row, other)) (search (rules, lacks_cons, lacks_nil))
    (lacks_append 10 (decimal row) (32 ∷ decimal other) (decimal_lacks 10 row (omega arith) (omega (arith, fits.0))) (lacks_cons 10 32 (decimal other) (omega arith) (decimal_lacks 10 other (omega arith) (omega (arith, fits.1)))))
outcome_lacks_feed outcomes.Taken fits = absurd fits

taken_lacks_feed : Lacks 10 (codes "taken")
taken_lacks_feed = search (rules, lacks_cons, lacks_nil)

pub entry_lacks_feed : (e : Entry) → IsProper e → Lacks 10 (entry_text e)
entry_lacks_feed e proper = lacks_append 10 (event_text e.event) (32 ∷ outcome_text e.outcome) (event_lacks_feed e.event proper.event) (lacks_cons 10 32 (outcome_text e.outcome) (omega arith) (by_event e.event e.outcome proper.outcome))
  where
    by_event : (event : Event) (o : Outcome) → IsOutcomeOf event o → Lacks 10 (outcome_text o)
    by_event (events.Step p) o fits = outcome_lacks_feed o fits
    by_event (events.Key b) o fits = rw fits taken_lacks_feed
    by_event events.Done o fits = rw fits taken_lacks_feed
