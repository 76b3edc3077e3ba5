use Rattle.std.proofs.Common.{◌≡◌, ◌∙◌, refl, ap, sym, ℕ, zero, suc, ◌+◌, arith, Bool, true, false, List, [], ◌∷◌, ◌++◌, length, drop, get_or, append_assoc}
use Rattle.std.specs.Prelude.{◌||◌, ◌==◌, not, flat_map, if◌then◌else◌}
use Rattle.std.specs.List.{range_with_len}
use Rattle.m161_cop0.specs.Control.{control_at_start}
use Rattle.m161_cpu.specs.Processor.{Processor, stopped_processor}
use Rattle.m161_machine.specs.State.{State, processor_at}
use Rattle.m161_alike.specs.declared.known.Known.{Known}
use Rattle.m161_alike.specs.declared.reads.Reads.{Reads}
use Rattle.m161_alike.specs.View.{AreAlike, known_of, processor_view, processors_view}
use Rattle.m161_alike.specs.Words.{board_words, memory_words, optional, processor_words}
use Rattle.m161_alike.specs.WordsLaw.{AreOfOneConf, HasShape, ViewLaw, words_at}
use Rattle.m161_states.specs.Question.{Question, booted, processors_of}
use Rattle.m161_states.specs.System.{Explored, start}
use Rattle.m161_states.specs.Shape.{IsShaped}
use Rattle.m161_states.specs.Views.{counted, flag_words, view}
use Rattle.m161_states.specs.Laws.{IsValid}
use Rattle.m161_states.proofs.Memory.{memory_told}
use Rattle.m161_states.proofs.Apart.{counted_apart, optional_apart, piece, pieces_size, same_flags, split}

-- What states with one view share.

pub record Same (q : Question) (x y : Explored) : Type 0 where
  pub alike : AreAlike q.known x.state y.state
  pub typed : x.typed ≡ y.typed
  pub flags : x.flags ≡ y.flags
  pub agreed : x.agreed ≡ y.agreed

-- processors of a view

pub same_number : (known : Known) (c : ℕ) (ps : List Processor) → length (processors_view known c ps) ≡ length ps
same_number known c [] = refl
same_number known c (p ∷ ps) = ap (λ n. suc n) (same_number known (c + 1) ps)

same_either : (test : Bool) (x : ℕ) → (if test then x else x) ≡ x
same_either true x = refl
same_either false x = refl

-- one that was never started has no time
stopped_still : (k : Reads) → stopped_processor ≡ processor_view k stopped_processor
stopped_still k = λ i. record stopped_processor {
  control = record control_at_start {
    random = sym (same_either k.random 63) i;
    count = sym (same_either (k.count || not (0 == 0)) 0) i;
  };
}

at_view : (known : Known) (c : ℕ) (ps : List Processor) (p : ℕ) →
    get_or (processors_view known c ps) p stopped_processor ≡ processor_view (known_of known (c + p)) (get_or ps p stopped_processor)
at_view known c [] p = stopped_still (known_of known (c + p))
at_view known c (q ∷ ps) zero =
    let here : c ≡ c + 0 = omega arith in ap (λ n. processor_view (known_of known n) q) here
at_view known c (q ∷ ps) (suc p) =
    let there : c + 1 + p ≡ c + suc p = omega arith in
    at_view known (c + 1) ps p ∙ ap (λ n. processor_view (known_of known n) (get_or ps p stopped_processor)) there

viewed : (known : Known) (ps : List Processor) (p : ℕ) →
    processor_at p (processors_view known 0 ps) ≡ processor_view (known_of known p) (processor_at p ps)
viewed known ps p =
    let here : 0 + p ≡ p = omega arith in
    at_view known 0 ps p ∙ ap (λ n. processor_view (known_of known n) (get_or ps p stopped_processor)) here

-- a processor of two states that are alike
pub same_processor : (known : Known) (s t : State) → AreAlike known s t → (p : ℕ) →
    processor_view (known_of known p) (processor_at p s.processors) ≡ processor_view (known_of known p) (processor_at p t.processors)
same_processor known s t alike p =
    sym (viewed known s.processors p) ∙ ap (λ (u : State). processor_at p u.processors) alike ∙ viewed known t.processors p

pub same_size : (known : Known) (s t : State) → AreAlike known s t → length s.processors ≡ length t.processors
same_size known s t alike =
    sym (same_number known 0 s.processors) ∙ ap (λ (u : State). length u.processors) alike ∙ same_number known 0 t.processors

-- what is the same has one view

all_pieces : (f g : ℕ → List ℕ) → ((p : ℕ) → f p ≡ g p) → (l : List ℕ) → flat_map f l ≡ flat_map g l
all_pieces f g same l = λ i. flat_map (λ p. same p i) l

pub shown : (q : Question) (x y : Explored) → Same q x y → view q x ≡ view q y
shown q x y same =
    let words : (p : ℕ) → words_at q.known x.state p ≡ words_at q.known y.state p =
    λ p. ap processor_words (same_processor q.known x.state y.state same.alike p) in
    let processors = all_pieces (words_at q.known x.state) (words_at q.known y.state) words (range_with_len 0 (processors_of q)) in
    let board : board_words x.state ≡ board_words y.state = ap board_words same.alike in
    let memory : x.state.memory ≡ y.state.memory = ap (λ (u : State). u.memory) same.alike in
    λ i. processors i
    ++ ((same.typed i ∷ (optional (same.agreed i) ++ counted (flat_map flag_words (same.flags i))))
    ++ (counted (board i) ++ memory_words (booted q).bytes (memory i)))

-- what has one view is the same

one_conf : (q : Question) (s t : State) → AreOfOneConf (start q).state s → AreOfOneConf (start q).state t → AreOfOneConf s t
one_conf q s t a b = record {
  conf = sym a.conf ∙ b.conf;
  ram = sym a.ram ∙ b.ram;
  processors = sym a.processors ∙ b.processors;
  unit = sym a.unit ∙ b.unit;
  memory = sym a.memory ∙ b.memory;
}

-- all of a state but its memory
abbrev bare : State → State
bare s = record s { memory = [] }

bare_shape : (s : State) → IsShaped s → HasShape (bare s)
bare_shape s a = record {
  processors = a.processors;
  size_is = a.size_is;
  places = a.places;
  crams = a.crams;
  other_places = a.other_places;
  links = a.links;
  other_links = a.other_links;
  memory = (λ k d below. absurd (let bad : ⊥ = omega (arith, below) in bad), refl);
}

bare_conf : (s t : State) → AreOfOneConf s t → AreOfOneConf (bare s) (bare t)
bare_conf s t a = record { conf = a.conf; ram = a.ram; processors = a.processors; unit = a.unit; memory = refl }

with_memory : (known : Known) (s t : State) → AreAlike known (bare s) (bare t) → s.memory ≡ t.memory → AreAlike known s t
with_memory known s t alike memory = λ i. record (alike i) { memory = memory i }

pub told : ViewLaw → (q : Question) (x y : Explored) → IsValid q x → IsValid q y → view q x ≡ view q y → Same q x y
told law q x y a b e =
    let n = processors_of q in
    let f = words_at q.known x.state in
    let g = words_at q.known y.state in
    let sizes : (p : ℕ) → length (f p) ≡ length (g p) = λ p. refl in
    let first = split (flat_map f (range_with_len 0 n)) (flat_map g (range_with_len 0 n)) _ _ (pieces_size f g sizes 0 n) e in
    let second : x.typed ∷ ((optional x.agreed ++ counted (flat_map flag_words x.flags)) ++ (counted (board_words x.state) ++ memory_words (booted q).bytes x.state.memory))
    ≡ y.typed ∷ ((optional y.agreed ++ counted (flat_map flag_words y.flags)) ++ (counted (board_words y.state) ++ memory_words (booted q).bytes y.state.memory)) = first.1 in
    let third = ap (λ l. drop 1 l) second in
    let fourth = optional_apart x.agreed y.agreed _ _
    (sym (append_assoc (optional x.agreed) (counted (flat_map flag_words x.flags)) _) ∙ third ∙ append_assoc (optional y.agreed) (counted (flat_map flag_words y.flags)) _) in
    let fifth = counted_apart (flat_map flag_words x.flags) (flat_map flag_words y.flags) _ _ fourth.1 in
    let sixth = counted_apart (board_words x.state) (board_words y.state) _ _ fifth.1 in
    let number : n ≡ x.state.board.processors = a.one.processors in
    let one = one_conf q x.state y.state a.one b.one in
    let others = law q.known [] (bare x.state) (bare y.state) (bare_shape x.state a.shape) (bare_shape y.state b.shape) (bare_conf x.state y.state one) (record {
      processors = λ p below. piece f g sizes n p (omega (arith, below, number)) first.0;
      board = sixth.0;
      memory = refl;
    }) in
    record {
      alike = with_memory q.known x.state y.state others
          (memory_told (booted q).bytes x.state.memory y.state.memory a.shape.bytes b.shape.bytes a.shape.whole one.memory sixth.1);
      typed = ap (λ l. get_or l 0 0) second;
      flags = same_flags x.flags y.flags fifth.0;
      agreed = fourth.0;
    }
