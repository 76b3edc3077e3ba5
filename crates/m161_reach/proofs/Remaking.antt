use Rattle.std.proofs.Common.{◌≡◌, ◌∙◌, refl, ap, sym, subst, ℕ, zero, suc, ◌+◌, ◌<◌, arith, Bool, true, false, List, [], ◌∷◌, ◌++◌, length, get_or}
use Rattle.std.specs.Prelude.{◌==◌, ◌||◌, not, flat_map, if◌then◌else◌}
use Rattle.std.specs.List.{range_with_len}
use Rattle.m161_cpu.specs.Processor.{Processor, stopped_processor}
use Rattle.m161_machine.specs.State.{State, processor_at}
use Rattle.m161_alike.specs.declared.known.Known.{Known}
use Rattle.m161_alike.specs.declared.reads.Reads.{Reads}
use Rattle.m161_alike.specs.Restored.{with_ticks}
use Rattle.m161_alike.specs.RestoredBoard.{HasParts, with_board_of}
use Rattle.m161_alike.specs.View.{known_of, processor_view}
use Rattle.m161_alike.specs.Words.{HasSizes, board_words, memory_words, processor_words}
use Rattle.m161_machine.specs.Restore.{with_made, with_memory}
use Rattle.m161_alike.specs.WordsLaw.{AreOfOneConf, words_at}
use Rattle.m161_states.specs.Shape.{IsShaped}
use Rattle.m161_states.specs.Question.{Question, booted, processors_of}
use Rattle.m161_states.specs.System.{Explored, fresh}
use Rattle.m161_states.specs.Views.{beside_words, counted, view}
use Rattle.m161_reach.specs.Reach.{IsMet}
use Rattle.m161_reach.specs.helpers.Restore.{AreAsIn, AreKeptFrom, AreOfOneBoard, again, state_with, with_processors}

-- A state that is made anew has the view that it is made from.

random_twice : (known : Bool) (x : ℕ) → (if known then (if known then x else 63) else 63) ≡ (if known then x else 63)
random_twice true x = refl
random_twice false x = refl

count_twice : (kept : Bool) (x : ℕ) → (if kept then (if kept then x else 0) else 0) ≡ (if kept then x else 0)
count_twice true x = refl
count_twice false x = refl

pub viewed_again : (known : Reads) (p : Processor) → processor_view known (processor_view known p) ≡ processor_view known p
viewed_again known p =
    let random = random_twice known.random p.control.random in
    let count = count_twice (known.count || not (p.control.compare == 0)) p.control.count in
    λ i. record p { control = record p.control { random = random i; count = count i; age = 0 }; count = 0 }

pub ticks_viewed : (known : Reads) (p : Processor) → processor_view known (with_ticks (processor_view known p)) ≡ processor_view known p
ticks_viewed known p =
    let random = random_twice known.random p.control.random in
    let count = count_twice (known.count || not (p.control.compare == 0)) p.control.count in
    λ i. record p { control = record p.control { random = random i; count = count i; age = 0 }; count = 0 }

same_pieces : (f g : ℕ → List ℕ) (a n : ℕ) → ((k : ℕ) → k < a + n → f k ≡ g k) → flat_map f (range_with_len a n) ≡ flat_map g (range_with_len a n)
same_pieces f g a zero same = refl
same_pieces f g a (suc n) same =
    let first = same a (omega arith) in
    let rest = same_pieces f g (a + 1) n (λ k below. same k (omega (arith, below))) in
    λ i. first i ++ rest i

any_default : (ps : List Processor) (k : ℕ) (d e : Processor) → k < length ps → get_or ps k d ≡ get_or ps k e
any_default [] k d e below = absurd (let bad : ⊥ = omega (arith, below) in bad)
any_default (p ∷ ps) zero d e below = refl
any_default (p ∷ ps) (suc k) d e below = any_default ps k d e (omega (arith, below))

shaped_with : (known : Known) (s : State) (ps : List Processor) → AreAsIn known s ps → IsShaped s → IsShaped (state_with ps s)
shaped_with known s ps alike h = record {
  processors = λ k d below.
      (let size = alike.size in
      subst HasSizes (any_default ps k stopped_processor d below) (alike.sizes k (omega (arith, below, size))));
  size_is = alike.size ∙ h.size_is;
  places = h.places;
  crams = h.crams;
  other_places = h.other_places;
  links = h.links;
  other_links = h.other_links;
  whole = h.whole;
  bytes = h.bytes;
}

pub again_met : (q : Question) (x : Explored) (ps : List Processor) → AreAsIn q.known x.state ps → IsMet q x → IsMet q (again ps x)
again_met q x ps alike h = record {
  valid = record {
    shape = shaped_with q.known x.state ps alike h.valid.shape;
    one = record {
      conf = h.valid.one.conf;
      ram = h.valid.one.ram;
      processors = h.valid.one.processors;
      unit = h.valid.one.unit;
      memory = h.valid.one.memory;
    };
  };
  kept = h.kept;
}

pub number_is : (q : Question) (x : Explored) → IsMet q x → processors_of q ≡ length x.state.processors
number_is q x h = h.valid.one.processors ∙ sym h.valid.shape.size_is

pub again_view : (q : Question) (x : Explored) (ps : List Processor) → AreAsIn q.known x.state ps → IsMet q x → view q (again ps x) ≡ view q x
again_view q x ps alike h =
    let number = number_is q x h in
    let rest = beside_words x ++ (counted (board_words x.state) ++ memory_words (booted q).bytes x.state.memory) in
    ap (λ l. l ++ rest)
    (same_pieces (words_at q.known (state_with ps x.state)) (words_at q.known x.state) 0 (processors_of q)
    (λ k below. alike.words k (omega (arith, below, number))))

has_parts : (s : State) → IsShaped s → HasParts s
has_parts s h = record {
  size_is = h.size_is;
  places = h.places;
  crams = h.crams;
  other_places = h.other_places;
  links = h.links;
  other_links = h.other_links;
}

pub one_board : (ps : List Processor) (made : ℕ) (memory : List ℕ) (old s t : State) → length ps ≡ length old.processors → IsShaped old → IsShaped s →
    AreOfOneConf old s → t ≡ with_processors ps (with_made made (with_memory memory old)) → AreOfOneBoard s t
one_board ps made memory old s t size g h one is = subst (AreOfOneBoard s) (sym is) (record {
  parts = has_parts s h;
  other_parts = record {
    size_is = size ∙ g.size_is;
    places = g.places;
    crams = g.crams;
    other_places = g.other_places;
    links = g.links;
    other_links = g.other_links;
  };
  ram = sym one.ram;
  processors = sym one.processors;
  unit = sym one.unit;
})

pub remade_is : (ps : List Processor) (made : ℕ) (old s : State) → AreOfOneConf old s →
    fresh (with_board_of s (with_processors ps (with_made made (with_memory s.memory old)))) ≡ state_with ps s
remade_is ps made old s one = let conf = one.conf in λ i. record (state_with ps s) { conf = conf i }

pub kept_same : (known : Known) (s t : State) (kept : List ℕ) → t.processors ≡ s.processors → AreKeptFrom known s kept → AreKeptFrom known t kept
kept_same known s t kept same h = λ p below inside.
    let size = ap length same in
    h p (omega (arith, below, size)) inside
    ∙ ap (λ (ps : List Processor). processor_words (processor_view (known_of known p) (processor_at p ps))) (sym same)
