use Rattle.std.proofs.Common.{◌≡◌, ◌∙◌, refl, ap, sym, subst, ℕ, zero, suc, ◌+◌, ◌*◌, ◌%◌, ◌^◌, ◌<◌, arith, true, false, List, [], ◌∷◌, ◌++◌, get_or, length, take, drop, Some, inl, inr}
use Rattle.std.specs.Prelude.{◌==◌}
use Rattle.std.proofs.Math.Nat.{zero-div}
use Rattle.std.specs.List.{Contains}
use Rattle.std.specs.List.Sorted.{IsStrictlyIncreasing}
use Rattle.std.proofs.lemmas.List.{get_or_default}
use Rattle.std.proofs.lemmas.List.Elements.{Contains-push_cases}
use Rattle.std.proofs.lemmas.List.Kept.{AllPairs-from_increasing}
use Rattle.m161_cpu.specs.Processor.{Processor, stopped_processor}
use Rattle.m161_machine.specs.State.{processor_at}
use Rattle.m161_alike.specs.declared.known.Known.{Known}
use Rattle.m161_alike.specs.View.{count_in, known_of, processor_view}
use Rattle.m161_alike.specs.Words.{HasSizes}
use Rattle.m161_alike.specs.WordsLaw.{words_at}
use Rattle.m161_alike.proofs.Written.{same_processor}
use Rattle.m161_explore.specs.Answers.{IsAny}
use Rattle.m161_explore.specs.Lists.{CanEnd, Leads}
use Rattle.m161_explore.specs.Views.{AreDifferent, view_at}
use Rattle.m161_states.specs.Question.{Question, processors_of}
use Rattle.m161_states.specs.System.{Explored, next}
use Rattle.m161_states.specs.Verdicts.{is_end}
use Rattle.m161_states.specs.Views.{view}
use Rattle.m161_reach.specs.From.{IsFreeFrom, IsLearntFrom, no_time, rules_from, with_known}
use Rattle.m161_reach.specs.Reach.{IsMet, rules_of}
use Rattle.m161_reach.specs.helpers.Advance.{unmade}
use Rattle.m161_reach.specs.helpers.MetFrom.{next_met}
use Rattle.m161_reach.specs.helpers.Path.{IsMarkFrom, IsPath, mark_of, mark_upto, mixed, with_registers}
use Rattle.m161_reach.proofs.Splitting.{piece_there, processor_size}
use Rattle.m161_reach.proofs.Behind.{end_same, leads_append, leads_to, next_same}

-- Paths, and the marks of the states along them.

-- states with one view have one mark

-- processors that a mark can't tell apart
record LookSame (p q : Processor) : Type 0 where
  pc : p.pc ≡ q.pc
  count : count_in false p.control ≡ count_in false q.control
  registers : p.registers ≡ q.registers

same_upto : (ps qs : List Processor) (n : ℕ) → ((p : ℕ) → p < n → LookSame (processor_at p ps) (processor_at p qs)) → mark_upto ps n ≡ mark_upto qs n
same_upto ps qs zero same = refl
same_upto ps qs (suc n) same =
    let before = same_upto ps qs n (λ p below. same p (omega (arith, below))) in
    let one = same n (omega arith) in
    λ i. with_registers (mixed (mixed (before i) (one.pc i)) (one.count i)) (one.registers i) 32

no_random : (p : ℕ) → (known_of no_time p).random ≡ false
no_random p = ap (λ n. n % 2 ^ 1 == 1) (zero-div (2 ^ p))

no_count : (p : ℕ) → (known_of no_time p).count ≡ false
no_count p = ap (λ n. n % 2 ^ 1 == 1) (zero-div (2 ^ p))

look_same : (p : ℕ) (a b : Processor) → processor_view (known_of no_time p) a ≡ processor_view (known_of no_time p) b → LookSame a b
look_same p a b same = record {
  pc = ap (λ (u : Processor). u.pc) same;
  count = subst (λ known. count_in known a.control ≡ count_in known b.control) (no_count p) (ap (λ (u : Processor). u.control.count) same);
  registers = ap (λ (u : Processor). u.registers) same;
}

-- the words of a processor, among those of a view
words_there : (q : Question) (x : Explored) (p : ℕ) → p < processors_of q → take 245 (drop (245 * p) (view q x)) ≡ words_at q.known x.state p
words_there q x p below =
    let here : 0 + p ≡ p = omega arith in
    piece_there (words_at q.known x.state) (λ n. processor_size (processor_view (known_of q.known n) (processor_at n x.state.processors))) 0 (processors_of q) p _ below
    ∙ ap (words_at q.known x.state) here

sizes_at : (q : Question) (x : Explored) (p : ℕ) → IsMet q x → p < processors_of q → HasSizes (processor_at p x.state.processors)
sizes_at q x p h below =
    let size = h.valid.shape.size_is in
    let number : processors_of q ≡ x.state.board.processors = h.valid.one.processors in
    h.valid.shape.processors p stopped_processor (omega (arith, size, number, below))

known_met : (q : Question) (k : Known) (x : Explored) → IsMet q x → IsMet (with_known k q) x
known_met q k x h = record {
  valid = record { shape = h.valid.shape; one = h.valid.one };
  kept = h.kept;
}

one_size : (q : Question) (x : Explored) → IsMet q x → length x.state.processors ≡ processors_of q
one_size q x h =
    let number : processors_of q ≡ x.state.board.processors = h.valid.one.processors in h.valid.shape.size_is ∙ sym number

same_mark : (q : Question) (x y : Explored) → IsMet q x → IsMet q y → view (with_known no_time q) x ≡ view (with_known no_time q) y →
    mark_of x.state ≡ mark_of y.state
same_mark q x y h g is =
    let r = with_known no_time q in
    let same : (p : ℕ) → p < processors_of q → LookSame (processor_at p x.state.processors) (processor_at p y.state.processors) = λ p below.
    look_same p (processor_at p x.state.processors) (processor_at p y.state.processors)
    (same_processor (processor_view (known_of no_time p) (processor_at p x.state.processors))
    (processor_view (known_of no_time p) (processor_at p y.state.processors)) (sizes_at q x p h below) (sizes_at q y p g below) refl refl
    (sym (words_there r x p below) ∙ ap (λ v. take 245 (drop (245 * p) v)) is ∙ words_there r y p below)) in
    ap (mark_upto x.state.processors) (one_size q x h) ∙ same_upto x.state.processors y.state.processors (processors_of q) same
    ∙ ap (mark_upto y.state.processors) (sym (one_size q y g))

-- the states to which lists lead are met

met_along : (q : Question) (x y : Explored) (es : List ℕ) → IsMet q x → Leads (rules_of q) x es y → IsMet q y
unfolding rules_of
met_along q x y [] met h = subst (IsMet q) (sym h) met
met_along q x y (e ∷ es) met h = met_along q h.0 y es (next_met q x h.0 e met h.2) h.3

-- a path

pub path_here : (q : Question) (x : Explored) → IsPath q x x []
unfolding rules_of
path_here q x = record {
  events = [];
  last = x;
  leads = refl;
  same = refl;
  marks = λ mark has. absurd (let within = has.1 in let bad : ⊥ = omega (arith, within) in bad);
}

path_step : (q : Question) (x t u : Explored) (n : ℕ) (marks : List ℕ) → (h : IsPath q x t marks) → n < processors_of q + 2 → next q t n ≡ Some u →
    Leads (rules_of q) x (h.events ++ n ∷ []) u
unfolding rules_of
path_step q x t u n marks h below is =
    let step : next q h.last n ≡ Some u = sym (next_same q h.last n) ∙ ap (λ y. next q y n) (sym h.same) ∙ next_same q t n ∙ is in
    leads_append q x h.last u h.events (n ∷ []) h.leads (u, below, step, refl)

pub path_more : (q : Question) (x t u new : Explored) (n mark : ℕ) (marks : List ℕ) → IsPath q x t marks → n < processors_of q + 2 → next q t n ≡ Some u →
    new ≡ unmade u → mark ≡ mark_of new.state → IsPath q x new (marks ++ mark ∷ [])
path_more q x t u new n mark marks h below is at marked =
    let leads = path_step q x t u n marks h below is in
    record {
      events = h.events ++ n ∷ [];
      last = u;
      leads = leads;
      same = ap unmade at;
      marks = λ m has. elim (Contains-push_cases marks mark m has) [
        | inl old ↦ h.marks m old
        | inr last ↦ (h.events ++ n ∷ [], u, leads, ap (λ (y : Explored). mark_of y.state) (sym at) ∙ sym marked ∙ last)
      ];
    }

pub path_stays : (q : Question) (x t new : Explored) (marks : List ℕ) → IsPath q x t marks → new ≡ t → IsPath q x new marks
path_stays q x t new marks h at = subst (λ y. IsPath q x y marks) (sym at) h

pub path_once : (q : Question) (x t : Explored) (marks once : List ℕ) → IsPath q x t marks → ((mark : ℕ) → Contains once mark → Contains marks mark) → IsPath q x t once
path_once q x t marks once h adds_none = record {
  events = h.events;
  last = h.last;
  leads = h.leads;
  same = h.same;
  marks = λ mark has. h.marks mark (adds_none mark has);
}

-- a path to an end

pub path_ends : (q : Question) (x t : Explored) (marks : List ℕ) → IsPath q x t marks → is_end q t ≡ true → CanEnd (rules_of q) x
unfolding rules_of
path_ends q x t marks h end =
    (h.events, h.last, h.leads, sym (end_same q h.last) ∙ ap (is_end q) (sym h.same) ∙ end_same q t ∙ end)

-- a path with many marks

abbrev ViewHas : Question → Explored → ℕ → List ℕ → Type 0
ViewHas q x mark words =
    (events : List ℕ) × (y : Explored) × Leads (rules_of q) x events y × (mark_of y.state ≡ mark) × (view (with_known no_time q) y ≡ words)

abbrev ViewsHave : Question → Explored → List ℕ → List (List ℕ) → Type 0
ViewsHave q x marks views =
    (length views ≡ length marks) × ((j : ℕ) → j < length marks → ViewHas q x (get_or marks j 0) (view_at views j))

shown_more : (q : Question) (x : Explored) (m : ℕ) (ms : List ℕ) (words : List ℕ) (views : List (List ℕ)) → ViewHas q x m words →
    ((j : ℕ) → j < length ms → ViewHas q x (get_or ms j 0) (view_at views j)) →
    (j : ℕ) → j < length (m ∷ ms) → ViewHas q x (get_or (m ∷ ms) j 0) (view_at (words ∷ views) j)
shown_more q x m ms words views first rest zero below = first
shown_more q x m ms words views first rest (suc k) below = rest k (omega (arith, below))

views_of : (q : Question) (x : Explored) (marks : List ℕ) → ((j : ℕ) → j < length marks → IsMarkFrom q x (get_or marks j 0)) →
    (views : List (List ℕ)) × ViewsHave q x marks views
views_of q x [] h = ([], (refl, λ j below. absurd (let bad : ⊥ = omega (arith, below) in bad)))
views_of q x (m ∷ ms) h =
    let first = h 0 (omega arith) in
    let rest = views_of q x ms (λ j below. h (suc j) (omega (arith, below))) in
    let words = view (with_known no_time q) first.1 in
    let one : ViewHas q x m words = (first.0, first.1, first.2, first.3, refl) in
    (words ∷ rest.0, (ap (λ n. suc n) rest.1.0, shown_more q x m ms words rest.0 one rest.1.1))

no_time_learnt : (q : Question) (x : Explored) → IsLearntFrom (with_known no_time q) x
no_time_learnt q x = record {
  random = λ p below on. absurd (let bad : false ≡ true = sym (no_random p) ∙ on in cc);
  count = λ p below on. absurd (let bad : false ≡ true = sym (no_count p) ∙ on in cc);
}

pub path_free : (q : Question) (x t : Explored) (marks : List ℕ) (limit : ℕ) → IsMet q x → IsPath q x t marks → IsStrictlyIncreasing marks → limit < length marks →
    IsFreeFrom q limit x
unfolding rules_from
path_free q x t marks limit met h rises many =
    let found = views_of q x marks (λ j below. h.marks (get_or marks j 0) (j, below, get_or_default marks j (get_or marks j 0) 0 below)) in
    let size = found.1.0 in
    let have : AreDifferent (rules_from (with_known no_time q) x) IsAny found.0 = record {
      each = λ j below.
          let one = found.1.1 j (omega (arith, below, size)) in (one.0, one.1, leads_to q no_time x x one.1 one.0 one.2, tt, one.4);
      different = λ j k less below same.
          let one = found.1.1 j (omega (arith, less, below, size)) in
          let other = found.1.1 k (omega (arith, below, size)) in
          let both = same_mark q one.1 other.1 (met_along q x one.1 one.0 met one.2) (met_along q x other.1 other.0 met other.2)
          (one.4 ∙ same ∙ sym other.4) in
          let equal : get_or marks j 0 ≡ get_or marks k 0 = sym one.3 ∙ both ∙ other.3 in
          let apart = AllPairs-from_increasing marks rises j k 0 less (omega (arith, below, size)) in
          let bad : ⊥ = omega (arith, equal, apart) in bad;
    } in
    inr (no_time, no_time_learnt q x, (found.0, have, omega (arith, many, size)))
