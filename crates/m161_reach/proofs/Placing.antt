use Rattle.std.proofs.Common.{◌≡◌, ◌∙◌, refl, ap, sym, subst, ℕ, ◌+◌, ◌*◌, ◌<◌, ◌≤◌, arith, List, [], ◌∷◌, ◌++◌, length, take, drop, Option, None, Some}
use Rattle.std.specs.Prelude.{flat_map, slice_index}
use Rattle.std.specs.List.{range_with_len}
use Rattle.std.proofs.lemmas.List.{append-nil, length-append}
use Rattle.m161_alike.specs.View.{known_of, processor_view}
use Rattle.m161_alike.specs.Words.{board_words, memory_words, optional}
use Rattle.m161_alike.specs.WordsLaw.{words_at}
use Rattle.m161_cpu.specs.Processor.{Processor}
use Rattle.m161_machine.specs.State.{State, processor_at}
use Rattle.m161_states.specs.Question.{Question, booted, processors_of}
use Rattle.m161_states.specs.System.{Explored, fresh}
use Rattle.m161_states.specs.Views.{beside_words, counted, flag_words, view}
use Rattle.m161_reach.specs.Reach.{IsMet}
use Rattle.m161_reach.specs.helpers.Restore.{AreAsIn, AreKeptFrom, AreWordsFrom, again, agreed_in}
use Rattle.m161_reach.proofs.Encoding.{board_size, flags_size}
use Rattle.m161_reach.proofs.Remaking.{again_met, again_view, number_is}
use Rattle.m161_reach.proofs.Splitting.{piece_there, pieces_size, processor_size}

-- The words of a state that is met, each part in its place.

abbrev pub first_words : Question → Explored → List ℕ
first_words q x = flat_map (words_at q.known x.state) (range_with_len 0 (processors_of q))

abbrev pub board_part : Explored → List ℕ
board_part x = board_words x.state

abbrev pub memory_part : Question → Explored → List ℕ
memory_part q x = memory_words (booted q).bytes x.state.memory

pub first_size : (q : Question) (x : Explored) → length (first_words q x) ≡ 245 * processors_of q
first_size q x =
    pieces_size (words_at q.known x.state) 245 (λ p. processor_size (processor_view (known_of q.known p) (processor_at p x.state.processors))) 0 (processors_of q)

beside_by : (typed : ℕ) (agreed : Option ℕ) (words : List ℕ) → length (typed ∷ (optional agreed ++ counted words)) ≡ 4 + length words
beside_by typed None words = omega arith
beside_by typed (Some n) words = omega arith

pub beside_size : (q : Question) (x : Explored) → IsMet q x → length (beside_words x) ≡ 4 + 2 * length q.goal.watches
beside_size q x h =
    beside_by x.typed x.agreed (flat_map flag_words x.flags) ∙ ap (λ n. 4 + n) (flags_size x.flags) ∙ ap (λ n. 4 + 2 * n) h.kept

pub agreed_there : (typed : ℕ) (agreed : Option ℕ) (rest : List ℕ) →
    agreed_in (slice_index (typed ∷ (optional agreed ++ rest)) 1) (slice_index (typed ∷ (optional agreed ++ rest)) 2) ≡ agreed
agreed_there typed None rest = refl
agreed_there typed (Some n) rest = refl

pub kept_there : (typed : ℕ) (agreed : Option ℕ) (words : List ℕ) → drop 4 (typed ∷ (optional agreed ++ counted words)) ≡ words
kept_there typed None words = refl
kept_there typed (Some n) words = refl

pub words_from : (q : Question) (x : Explored) → IsMet q x → AreWordsFrom q.known x.state (first_words q x)
words_from q x h = λ p below.
    let number = number_is q x h in
    let inside : p < processors_of q = omega (arith, below, number) in
    let here : 0 + p ≡ p = omega arith in
    ap (λ l. take 245 (drop (245 * p) l)) (sym (append-nil (first_words q x)))
    ∙ piece_there (words_at q.known x.state) (λ i. processor_size (processor_view (known_of q.known i) (processor_at i x.state.processors))) 0 (processors_of q) p [] inside
    ∙ ap (words_at q.known x.state) here

pub rest_size : (q : Question) (x : Explored) (words : List ℕ) → view q x ≡ words → IsMet q x →
    length words ≡ 245 * processors_of q + (4 + 2 * length q.goal.watches + (1 + length (board_part x) + length (memory_part q x)))
rest_size q x words is h =
    let first = first_size q x in
    let beside = beside_size q x h in
    let one = length-append (first_words q x) (beside_words x ++ (counted (board_part x) ++ memory_part q x)) in
    let two = length-append (beside_words x) (counted (board_part x) ++ memory_part q x) in
    let three = length-append (counted (board_part x)) (memory_part q x) in
    let all = ap length is in
    omega (arith, first, beside, one, two, three, all)

pub board_long : (q : Question) (x : Explored) → IsMet q x → 11 + 68 * processors_of q ≤ length (board_part x)
board_long q x h =
    let size = board_size x.state in
    let number = h.valid.one.processors in
    omega (arith, size, number)

pub placed : (q : Question) (x y : Explored) (ps : List Processor) (words : List ℕ) → AreAsIn q.known x.state ps → IsMet q x → view q x ≡ words →
    y ≡ again ps x → IsMet q y × (view q y ≡ words)
placed q x y ps words alike h is same =
    (subst (IsMet q) (sym same) (again_met q x ps alike h), ap (view q) same ∙ again_view q x ps alike h ∙ is)

-- the words of a view begin with those of its processors

pub kept_from : (q : Question) (x : Explored) (s : State) (kept : List ℕ) → IsMet q x → x.state ≡ fresh s → (0 < length kept → kept ≡ view q x) →
    AreKeptFrom q.known s kept
kept_from q x s kept h state_is is = λ p below inside.
    let same = is (omega (arith, inside)) in
    let number = number_is q x h in
    let size = ap (λ (t : State). length t.processors) state_is in
    let there : p < processors_of q = omega (arith, below, number, size) in
    let here : 0 + p ≡ p = omega arith in
    let rest = beside_words x ++ (counted (board_part x) ++ memory_part q x) in
    ap (λ l. take 245 (drop (245 * p) l)) same
    ∙ piece_there (words_at q.known x.state) (λ i. processor_size (processor_view (known_of q.known i) (processor_at i x.state.processors))) 0 (processors_of q) p rest there
    ∙ ap (words_at q.known x.state) here
    ∙ ap (λ (t : State). words_at q.known t p) state_is
