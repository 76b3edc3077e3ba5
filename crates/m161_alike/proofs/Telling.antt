use Rattle.std.proofs.Common.{◌≡◌, ◌∙◌, refl, ap, sym, subst, ℕ, zero, suc, ◌+◌, ◌*◌, ◌<◌, ◌≤◌, arith, Bool, true, false, List, [], ◌++◌, length, drop, get_or, ext_get_or, Option, None, Some}
use Rattle.std.specs.Prelude.{flat_map, nat_lt, if◌then◌else◌}
use Rattle.std.specs.List.{range_with_len}
use Rattle.std.proofs.lemmas.List.{length-append}
use Rattle.std.proofs.lemmas.Bool.Decides.{nat_tests}
use Rattle.m161_bus.specs.declared.irq.IrqBits.{IrqBits}
use Rattle.m161_bus.specs.Console.{irq_word, read_irq}
use Rattle.m161_bus.specs.Board.{PlaceState, place_at_boot, place_of}
use Rattle.m161_cpu.specs.Processor.{stopped_processor}
use Rattle.m161_machine.specs.declared.event.Conflict.{Conflict}
use Rattle.m161_machine.specs.State.{State, processor_at}
use Rattle.m161_alike.specs.declared.known.Known.{Known}
use Rattle.m161_alike.specs.View.{AreAlike, known_of, processor_view, processors_view}
use Rattle.m161_alike.specs.Words.{board_words, conflict_words, cram_words, flag, memory_words, optional, part_words, processor_words, register_board_words}
use Rattle.m161_alike.specs.WordsLaw.{AreOfOneConf, HasShape, HaveSameWords, ViewLaw, WordsLaw}
use Rattle.m161_alike.proofs.Memory.{memory_law}
use Rattle.m161_alike.proofs.Viewed.{processor_viewed, same_number}
use Rattle.m161_alike.proofs.Written.{same_flag, same_picked, same_pieces, same_processor, small_flag, split}

-- A state is told by its words.

-- values by their words

same_optional : (a b : Option ℕ) → optional a ≡ optional b → a ≡ b
same_optional None None e = refl
same_optional (Some n) (Some m) e = ap (λ l. Some (get_or l 1 0)) e
same_optional None (Some m) e = absurd (let bad : 0 ≡ 1 = ap (λ l. get_or l 0 0) e in cc)
same_optional (Some n) None e = absurd (let bad : 1 ≡ 0 = ap (λ l. get_or l 0 0) e in cc)

optional_size : (a : Option ℕ) → length (optional a) ≡ 2
optional_size None = refl
optional_size (Some n) = refl

same_conflict : (a b : Option Conflict) → conflict_words a ≡ conflict_words b → a ≡ b
same_conflict None None e = refl
same_conflict (Some c) (Some d) e = λ i. Some (record {
  processor = ap (λ l. get_or l 1 0) e i;
  row = ap (λ l. get_or l 2 0) e i;
  other = ap (λ l. get_or l 3 0) e i;
})
same_conflict None (Some d) e = absurd (let bad : 0 ≡ 1 = ap (λ l. get_or l 0 0) e in cc)
same_conflict (Some c) None e = absurd (let bad : 1 ≡ 0 = ap (λ l. get_or l 0 0) e in cc)

conflict_size : (a : Option Conflict) → length (conflict_words a) ≡ 4
conflict_size None = refl
conflict_size (Some c) = refl

by_flags : (a b c : Bool) → (if a then 1 else 0) + (if b then 2 else 0) + (if c then 4 else 0) ≡ flag a + 2 * flag b + 4 * flag c
by_flags true true true = refl
by_flags true true false = refl
by_flags true false true = refl
by_flags true false false = refl
by_flags false true true = refl
by_flags false true false = refl
by_flags false false true = refl
by_flags false false false = refl

bits_of_three : (a b c d e f : ℕ) → a ≤ 1 → b ≤ 1 → c ≤ 1 → d ≤ 1 → e ≤ 1 → f ≤ 1 → a + 2 * b + 4 * c ≡ d + 2 * e + 4 * f →
    (a ≡ d) × (b ≡ e) × (c ≡ f)
bits_of_three a b c d e f pa pb pc pd pe pf is = (
  omega (arith, pa, pb, pc, pd, pe, pf, is),
  omega (arith, pa, pb, pc, pd, pe, pf, is),
  omega (arith, pa, pb, pc, pd, pe, pf, is),
)

same_irq : (a b : IrqBits) → irq_word a ≡ irq_word b → a ≡ b
same_irq a b e =
    let bits = bits_of_three (flag a.enable) (flag a.active) (flag a.force) (flag b.enable) (flag b.active) (flag b.force)
    (small_flag a.enable) (small_flag a.active) (small_flag a.force) (small_flag b.enable) (small_flag b.active) (small_flag b.force)
    (sym (by_flags a.enable a.active a.force) ∙ e ∙ by_flags b.enable b.active b.force) in
    λ i. record {
      enable = same_flag a.enable b.enable bits.0 i;
      active = same_flag a.active b.active bits.1 i;
      force = same_flag a.force b.force bits.2 i;
    }

-- the parts of the processors

pub part_size : (s : State) (p : ℕ) → length (part_words s p) ≡ 68
part_size s p =
    let link = optional (get_or s.links.live p None) in
    let long : length (link ++ cram_words (place_of p s.board)) ≡ 66 =
    length-append link (cram_words (place_of p s.board)) ∙ ap (λ n. n + 64) (optional_size (get_or s.links.live p None)) in
    ap (λ n. suc (suc n)) long

parts_size : (f g : ℕ → List ℕ) → ((i : ℕ) → length (f i) ≡ length (g i)) → (a n : ℕ) →
    length (flat_map f (range_with_len a n)) ≡ length (flat_map g (range_with_len a n))
parts_size f g size a zero = refl
parts_size f g size a (suc n) =
    let first = size a in
    let rest = parts_size f g size (a + 1) n in
    length-append (f a) (flat_map f (range_with_len (a + 1) n))
    ∙ (λ i. first i + rest i)
    ∙ sym (length-append (g a) (flat_map g (range_with_len (a + 1) n)))

abbrev SamePart : State → State → ℕ → Type 0
SamePart s t p =
    ((place_of p s.board).cirqe ≡ (place_of p t.board).cirqe) × ((place_of p s.board).cipi ≡ (place_of p t.board).cipi)
    × (get_or s.links.live p None ≡ get_or t.links.live p None) × (cram_words (place_of p s.board) ≡ cram_words (place_of p t.board))

same_part : (s t : State) (p : ℕ) → part_words s p ≡ part_words t p → SamePart s t p
same_part s t p e =
    let rest : optional (get_or s.links.live p None) ++ cram_words (place_of p s.board) ≡ optional (get_or t.links.live p None) ++ cram_words (place_of p t.board) = ap (λ l. drop 2 l) e in
    let parts = split (optional (get_or s.links.live p None)) (optional (get_or t.links.live p None)) _ _ (optional_size (get_or s.links.live p None) ∙ sym (optional_size (get_or t.links.live p None))) rest in (
      ap (λ l. get_or l 0 0) e,
      same_flag (place_of p s.board).cipi (place_of p t.board).cipi (ap (λ l. get_or l 1 0) e),
      same_optional (get_or s.links.live p None) (get_or t.links.live p None) parts.0,
      parts.1,
    )

-- what belongs to one of 32 processors, whether it exists or not
by_place : {A : Type 0} (f g : ℕ → A) (d : A) (n k : ℕ) → (k < n → f k ≡ g k) → (n ≤ k → f k ≡ d) → (n ≤ k → g k ≡ d) → (test : Bool) → nat_lt k n ≡ test → f k ≡ g k
by_place f g d n k here one other true h = here (grind (arith, nat_tests, h))
by_place f g d n k here one other false h =
    let past : n ≤ k = grind (arith, nat_tests, h) in one past ∙ sym (other past)

same_place : (p q : PlaceState) → p.cirqe ≡ q.cirqe → p.cipi ≡ q.cipi → length p.cram ≡ 64 → length q.cram ≡ 64 → cram_words p ≡ cram_words q → p ≡ q
same_place p q cirqe cipi a b words = λ i. record {
  cirqe = cirqe i;
  cipi = cipi i;
  cram = same_picked p.cram q.cram 64 a b words i;
}

module _ (known : Known) (boot : List ℕ) (s t : State) (a : HasShape s) (b : HasShape t) (one : AreOfOneConf s t) (same : HaveSameWords known boot s t) where
  -- the board's words, apart
  registers_and_rest : (register_board_words s.board ≡ register_board_words t.board) × (optional s.board.console.latch ++ (conflict_words s.conflict ++ (flat_map (part_words s) (range_with_len 0 s.board.processors) ++ s.board.console.waiting))
      ≡ optional t.board.console.latch ++ (conflict_words t.conflict ++ (flat_map (part_words t) (range_with_len 0 t.board.processors) ++ t.board.console.waiting)))
  registers_and_rest = split (register_board_words s.board) (register_board_words t.board) _ _ refl same.board

  latch_and_rest : (optional s.board.console.latch ≡ optional t.board.console.latch) × (conflict_words s.conflict ++ (flat_map (part_words s) (range_with_len 0 s.board.processors) ++ s.board.console.waiting)
      ≡ conflict_words t.conflict ++ (flat_map (part_words t) (range_with_len 0 t.board.processors) ++ t.board.console.waiting))
  latch_and_rest = split (optional s.board.console.latch) (optional t.board.console.latch) _ _ (optional_size s.board.console.latch ∙ sym (optional_size t.board.console.latch)) registers_and_rest.1

  conflict_and_rest : (conflict_words s.conflict ≡ conflict_words t.conflict) × (flat_map (part_words s) (range_with_len 0 s.board.processors) ++ s.board.console.waiting
      ≡ flat_map (part_words t) (range_with_len 0 t.board.processors) ++ t.board.console.waiting)
  conflict_and_rest = split (conflict_words s.conflict) (conflict_words t.conflict) _ _ (conflict_size s.conflict ∙ sym (conflict_size t.conflict)) latch_and_rest.1

  as_many : flat_map (part_words s) (range_with_len 0 s.board.processors) ++ s.board.console.waiting
      ≡ flat_map (part_words t) (range_with_len 0 s.board.processors) ++ t.board.console.waiting
  as_many = conflict_and_rest.1 ∙ ap (λ n. flat_map (part_words t) (range_with_len 0 n) ++ t.board.console.waiting) (sym one.processors)

  parts_and_waiting : (flat_map (part_words s) (range_with_len 0 s.board.processors) ≡ flat_map (part_words t) (range_with_len 0 s.board.processors)) × (s.board.console.waiting ≡ t.board.console.waiting)
  parts_and_waiting =
      split (flat_map (part_words s) (range_with_len 0 s.board.processors)) (flat_map (part_words t) (range_with_len 0 s.board.processors)) _ _
      (parts_size (part_words s) (part_words t) (λ i. part_size s i ∙ sym (part_size t i)) 0 s.board.processors) as_many

  part : (k : ℕ) → k < s.board.processors → SamePart s t k
  part k below =
      let here : 0 + k ≡ k = omega arith in
      same_part s t k (subst (λ j. part_words s j ≡ part_words t j) here
      (same_pieces (part_words s) (part_words t) (λ i. part_size s i ∙ sym (part_size t i)) 0 s.board.processors k below parts_and_waiting.0))

  past : (k : ℕ) → s.board.processors ≤ k → t.board.processors ≤ k
  past k h = let n = one.processors in omega (arith, h, n)

  place_same : (k : ℕ) → k < 32 → place_of k s.board ≡ place_of k t.board
  place_same k small =
      by_place (λ j. place_of j s.board) (λ j. place_of j t.board) (place_at_boot 0) s.board.processors k
      (λ below. let p = part k below in same_place (place_of k s.board) (place_of k t.board) p.0 p.1 (a.crams k small) (b.crams k small) p.3)
      (λ h. a.other_places k h) (λ h. b.other_places k (past k h)) (nat_lt k s.board.processors) refl

  places_same : s.board.places ≡ t.board.places
  places_same = ext_get_or (place_at_boot 0) s.board.places t.board.places (a.places ∙ sym b.places) (λ k below.
      let size = a.places in place_same k (omega (arith, below, size)))

  link_same : (k : ℕ) → get_or s.links.live k None ≡ get_or t.links.live k None
  link_same k =
      by_place (λ j. get_or s.links.live j None) (λ j. get_or t.links.live j None) None s.board.processors k
      (λ below. (part k below).2) (λ h. a.other_links k h) (λ h. b.other_links k (past k h)) (nat_lt k s.board.processors) refl

  links_same : s.links.live ≡ t.links.live
  links_same = ext_get_or None s.links.live t.links.live (a.links ∙ sym b.links) (λ k below. link_same k)

  processors_same : processors_view known 0 s.processors ≡ processors_view known 0 t.processors
  processors_same =
      let size_s = same_number known 0 s.processors in
      let size_t = same_number known 0 t.processors in
      let in_s = a.size_is in
      let in_t = b.size_is in
      let equal = one.processors in
      ext_get_or stopped_processor (processors_view known 0 s.processors) (processors_view known 0 t.processors)
      (omega (arith, size_s, size_t, in_s, in_t, equal))
      (λ k below.
      let here : k < length s.processors = omega (arith, below, size_s) in
      let there : k < length t.processors = omega (arith, below, size_s, in_s, in_t, equal) in
      let exists : k < s.board.processors = omega (arith, below, size_s, in_s) in
      processor_viewed known s.processors k
      ∙ same_processor (processor_view (known_of known k) (processor_at k s.processors)) (processor_view (known_of known k) (processor_at k t.processors))
      (a.processors k stopped_processor here) (b.processors k stopped_processor there) refl refl (same.processors k exists)
      ∙ sym (processor_viewed known t.processors k))

  told : AreAlike known s t
  told =
      let r = registers_and_rest.0 in
      let write = same_irq s.board.console.write_irq t.board.console.write_irq (ap (λ l. get_or l 3 0) r) in
      let read = same_irq (read_irq s.board.console) (read_irq t.board.console) (ap (λ l. get_or l 4 0) r) in
      let memory = memory_law boot s.memory t.memory a.memory b.memory one.memory same.memory in
      λ i. record {
        conf = one.conf i;
        processors = processors_same i;
        memory = memory i;
        board = record {
          ram = one.ram i;
          processors = one.processors i;
          irqe = ap (λ l. get_or l 0 0) r i;
          started = ap (λ l. get_or l 1 0) r i;
          off = same_flag s.board.off t.board.off (ap (λ l. get_or l 2 0) r) i;
          places = places_same i;
          console = record {
            waiting = parts_and_waiting.1 i;
            latch = same_optional s.board.console.latch t.board.console.latch latch_and_rest.0 i;
            output = [];
            write_irq = write i;
            read_enable = ap (λ (x : IrqBits). x.enable) read i;
            read_force = ap (λ (x : IrqBits). x.force) read i;
          };
        };
        links = record { unit = one.unit i; live = links_same i };
        made = 0;
        conflict = same_conflict s.conflict t.conflict conflict_and_rest.0 i;
      }

pub view_law : ViewLaw
view_law known boot s t a b one same = told known boot s t a b one same

pub words_law : WordsLaw
words_law known boot s t alike = record {
  processors = λ p below.
      ap processor_words
      (sym (processor_viewed known s.processors p) ∙ ap (λ (u : State). processor_at p u.processors) alike ∙ processor_viewed known t.processors p);
  board = ap board_words alike;
  memory = ap (λ (u : State). memory_words boot u.memory) alike;
}
