use Rattle.std.proofs.Common.{◌≡◌, ◌∙◌, refl, ap, sym, inl, inr, ℕ, zero, suc, ◌+◌, ◌-◌, ◌*◌, ◌%◌, ◌^◌, ◌<◌, ◌≤◌, arith, Bool, true, false, List, [], ◌∷◌, ◌++◌, length, take, drop, map, min, get_or, set, append_assoc, ext_get_or, Option, None, Some}
use Rattle.std.specs.Prelude.{◌≢◌, ◌==◌, All, IfSome, flat_map, if◌then◌else◌, slice_index}
use Rattle.std.specs.List.{range_with_len}
use Rattle.std.proofs.lemmas.Bool.{cases_lt}
use Rattle.std.proofs.lemmas.List.{drop-drop, drop_at, get_or-drop, get_or-set_other, get_or-set_same, length-drop, length-set, length-take-le, take_all, take_at, take_min}
use Rattle.std.proofs.lemmas.List.FromFn.{fill_by_all}
use Rattle.m161_bus.specs.declared.irq.IrqBits.{IrqBits}
use Rattle.m161_bus.specs.declared.board.restore.BoardParts.{BoardParts}
use Rattle.m161_bus.specs.Console.{irq_bits, irq_word, read_irq}
use Rattle.m161_bus.specs.Board.{BoardState, PlaceState, place_at_boot, place_of}
use Rattle.m161_bus.specs.Restore.{restored_place}
use Rattle.m161_machine.specs.declared.event.Conflict.{Conflict}
use Rattle.m161_machine.specs.State.{State}
use Rattle.m161_machine.specs.Restore.{with_board_parts, with_place_and_link}
use Rattle.m161_alike.specs.Words.{board_words, conflict_words, cram_words, flag, optional, part_words, register_board_words}
use Rattle.m161_alike.specs.RestoredBoard.{AreWordsOfBoard, HasBytes, HasParts, board_in, conflict_in, link_in, part_at, place_in, restored_board, waiting_in, with_board_of, with_places}
use Rattle.m161_alike.proofs.Restoring.{flag_back, small_byte}
use Rattle.m161_alike.proofs.Telling.{part_size}

-- The board and the links that are made anew from their words.

-- values by their words

irq_by : (enable active force : Bool) → irq_bits (irq_word (record { enable = enable; active = active; force = force })) ≡ record { enable = enable; active = active; force = force }
irq_by true true true = refl
irq_by true true false = refl
irq_by true false true = refl
irq_by true false false = refl
irq_by false true true = refl
irq_by false true false = refl
irq_by false false true = refl
irq_by false false false = refl

irq_back : (x : IrqBits) → irq_bits (irq_word x) ≡ x
irq_back x = irq_by x.enable x.active x.force

bytes_back : (xs : List ℕ) → All (λ byte. byte < 2 ^ 8) xs → map (λ word. word % 2 ^ 8) xs ≡ xs
bytes_back [] h = refl
bytes_back (x ∷ xs) h =
    let first = small_byte x (h 0 0 (omega arith)) in
    let rest = bytes_back xs (λ k d below. h (suc k) d (omega (arith, below))) in
    λ i. first i ∷ rest i

-- the words before the processors' parts

abbrev pub head : BoardState → Option ℕ → Option Conflict → List ℕ → List ℕ
head b latch conflict rest = register_board_words b ++ (optional latch ++ (conflict_words conflict ++ rest))

abbrev parts_of : BoardState → Option ℕ → BoardParts
parts_of b latch = record {
  irqe = b.irqe;
  started = b.started;
  off = b.off;
  console = record {
    latch = latch;
    write_irq = b.console.write_irq;
    read_enable = b.console.read_enable;
    read_force = b.console.read_force;
  };
}

board_back : (b : BoardState) (latch : Option ℕ) (conflict : Option Conflict) (rest : List ℕ) → IfSome latch (λ byte. byte < 2 ^ 8) →
    board_in (head b latch conflict rest) ≡ parts_of b latch
board_back b None conflict rest small =
    let off = flag_back b.off in
    let write = irq_back b.console.write_irq in
    let read = irq_back (read_irq b.console) in
    λ i. record {
      irqe = b.irqe;
      started = b.started;
      off = off i;
      console = record { latch = None; write_irq = write i; read_enable = (read i).enable; read_force = (read i).force };
    }
board_back b (Some byte) conflict rest small =
    let off = flag_back b.off in
    let write = irq_back b.console.write_irq in
    let read = irq_back (read_irq b.console) in
    let byte_is = small_byte byte small in
    λ i. record {
      irqe = b.irqe;
      started = b.started;
      off = off i;
      console = record { latch = Some (byte_is i); write_irq = write i; read_enable = (read i).enable; read_force = (read i).force };
    }

conflict_back : (b : BoardState) (latch : Option ℕ) (conflict : Option Conflict) (rest : List ℕ) → IfSome conflict (λ c. (c.row < 2 ^ 8) × (c.other < 2 ^ 8)) →
    conflict_in (head b latch conflict rest) ≡ conflict
conflict_back b None None rest small = refl
conflict_back b (Some byte) None rest small = refl
conflict_back b None (Some c) rest small =
    let row = small_byte c.row small.0 in
    let other = small_byte c.other small.1 in
    λ i. Some (record { processor = c.processor; row = row i; other = other i })
conflict_back b (Some byte) (Some c) rest small =
    let row = small_byte c.row small.0 in
    let other = small_byte c.other small.1 in
    λ i. Some (record { processor = c.processor; row = row i; other = other i })

-- behind them

drop_past : (p q : List ℕ) (n m : ℕ) → length p ≡ n → drop (n + m) (p ++ q) ≡ drop m q
drop_past p q n m size = sym (drop-drop m n (p ++ q)) ∙ ap (drop m) (drop_at p q n size)

after_head : (b : BoardState) (latch : Option ℕ) (conflict : Option Conflict) (rest : List ℕ) (m : ℕ) → drop (11 + m) (head b latch conflict rest) ≡ drop m rest
after_head b None None rest m = drop_past (register_board_words b ++ (optional None ++ conflict_words None)) rest 11 m refl
after_head b None (Some c) rest m = drop_past (register_board_words b ++ (optional None ++ conflict_words (Some c))) rest 11 m refl
after_head b (Some byte) None rest m = drop_past (register_board_words b ++ (optional (Some byte) ++ conflict_words None)) rest 11 m refl
after_head b (Some byte) (Some c) rest m = drop_past (register_board_words b ++ (optional (Some byte) ++ conflict_words (Some c))) rest 11 m refl

-- pieces of 68 words, one behind the other
abbrev pieces : (ℕ → List ℕ) → ℕ → ℕ → List ℕ
pieces f a n = flat_map f (range_with_len a n)

drop_pieces : (f : ℕ → List ℕ) → ((i : ℕ) → length (f i) ≡ 68) → (a n k : ℕ) (rest : List ℕ) → k ≤ n →
    drop (68 * k) (pieces f a n ++ rest) ≡ pieces f (a + k) (n - k) ++ rest
drop_pieces f size a n zero rest below =
    let here : a ≡ a + 0 = omega arith in
    let all : n ≡ n - 0 = omega arith in
    λ i. pieces f (here i) (all i) ++ rest
drop_pieces f size a zero (suc k) rest below = absurd (let bad : ⊥ = omega (arith, below) in bad)
drop_pieces f size a (suc n) (suc k) rest below =
    let first : 68 * suc k ≡ 68 + 68 * k = omega arith in
    let there : a + 1 + k ≡ a + suc k = omega arith in
    let left : n - k ≡ suc n - suc k = omega arith in
    ap (λ m. drop m ((f a ++ pieces f (a + 1) n) ++ rest)) first
    ∙ ap (drop (68 + 68 * k)) (append_assoc (f a) (pieces f (a + 1) n) rest)
    ∙ drop_past (f a) (pieces f (a + 1) n ++ rest) 68 (68 * k) (size a)
    ∙ drop_pieces f size (a + 1) n k rest (omega (arith, below))
    ∙ (λ i. pieces f (there i) (left i) ++ rest)

behind : (s : State) (k : ℕ) → k ≤ s.board.processors →
    drop (part_at k) (board_words s) ≡ pieces (part_words s) k (s.board.processors - k) ++ s.board.console.waiting
behind s k below =
    let here : 0 + k ≡ k = omega arith in
    after_head s.board s.board.console.latch s.conflict (pieces (part_words s) 0 s.board.processors ++ s.board.console.waiting) (68 * k)
    ∙ drop_pieces (part_words s) (part_size s) 0 s.board.processors k s.board.console.waiting below
    ∙ ap (λ m. pieces (part_words s) m (s.board.processors - k) ++ s.board.console.waiting) here

-- the words from a processor's part on
record BeginsWithPart (words : List ℕ) (s : State) (k : ℕ) : Type 0 where
  rest : List ℕ
  is : drop (part_at k) words ≡ part_words s k ++ rest

begins : (s : State) (k : ℕ) → k < s.board.processors → BeginsWithPart (board_words s) s k
begins s k below =
    let left : s.board.processors - k ≡ suc (s.board.processors - k - 1) = omega (arith, below) in
    record {
      rest = pieces (part_words s) (k + 1) (s.board.processors - k - 1) ++ s.board.console.waiting;
      is = behind s k (omega (arith, below))
          ∙ ap (λ m. pieces (part_words s) k m ++ s.board.console.waiting) left
          ∙ append_assoc (part_words s k) (pieces (part_words s) (k + 1) (s.board.processors - k - 1)) s.board.console.waiting;
    }

-- a processor's part

word_of_part : (words : List ℕ) (s : State) (k j : ℕ) (h : BeginsWithPart words s k) →
    slice_index words (part_at k + j) ≡ slice_index (part_words s k ++ h.rest) j
word_of_part words s k j h = sym (get_or-drop (part_at k) words j 0) ∙ ap (λ l. get_or l j 0) h.is

link_by : (link : Option ℕ) (a b : ℕ) (xs rest : List ℕ) →
    (if slice_index ((a ∷ b ∷ (optional link ++ xs)) ++ rest) 2 == 1 then Some (slice_index ((a ∷ b ∷ (optional link ++ xs)) ++ rest) 3) else None) ≡ link
link_by None a b xs rest = refl
link_by (Some at) a b xs rest = refl

link_back : (words : List ℕ) (s : State) (k : ℕ) → BeginsWithPart words s k → link_in words k ≡ get_or s.links.live k None
link_back words s k h =
    let test = word_of_part words s k 2 h in
    let at = word_of_part words s k 3 h in
    (λ i. if test i == 1 then Some (at i) else None)
    ∙ link_by (get_or s.links.live k None) (place_of k s.board).cirqe (flag (place_of k s.board).cipi) (cram_words (place_of k s.board)) h.rest

cram_by : (link : Option ℕ) (a b : ℕ) (xs rest : List ℕ) → length xs ≡ 64 → take 64 (drop 4 ((a ∷ b ∷ (optional link ++ xs)) ++ rest)) ≡ xs
cram_by None a b xs rest size = take_at xs rest 64 size
cram_by (Some at) a b xs rest size = take_at xs rest 64 size

cram_back : (words : List ℕ) (s : State) (k : ℕ) → length (place_of k s.board).cram ≡ 64 → BeginsWithPart words s k →
    take 64 (drop (part_at k + 4) words) ≡ (place_of k s.board).cram
cram_back words s k size h =
    ap (take 64) (sym (drop-drop 4 (part_at k) words))
    ∙ ap (λ l. take 64 (drop 4 l)) h.is
    ∙ cram_by (get_or s.links.live k None) (place_of k s.board).cirqe (flag (place_of k s.board).cipi) (cram_words (place_of k s.board)) h.rest refl
    ∙ sym (fill_by_all (slice_index (place_of k s.board).cram) (place_of k s.board).cram 64 0 size (λ j below. refl))

first_of_part : (words : List ℕ) (s : State) (k : ℕ) (h : BeginsWithPart words s k) → slice_index words (part_at k) ≡ (place_of k s.board).cirqe
first_of_part words s k h =
    let here : part_at k ≡ part_at k + 0 = omega arith in ap (slice_index words) here ∙ word_of_part words s k 0 h

place_back : (words : List ℕ) (s : State) (k : ℕ) → length (place_of k s.board).cram ≡ 64 → BeginsWithPart words s k →
    restored_place (place_in words k) ≡ place_of k s.board
place_back words s k size h =
    let cirqe_is = first_of_part words s k h in
    let cipi_is = ap (λ n. n == 1) (word_of_part words s k 1 h) ∙ flag_back (place_of k s.board).cipi in
    let cram_is = cram_back words s k size h in
    λ i. record { cirqe = cirqe_is i; cipi = cipi_is i; cram = cram_is i }

-- the waiting bytes

pub rest_back : (s : State) → drop (part_at s.board.processors) (board_words s) ≡ s.board.console.waiting
rest_back s =
    let none : s.board.processors - s.board.processors ≡ 0 = omega arith in
    behind s s.board.processors (omega arith) ∙ ap (λ n. pieces (part_words s) s.board.processors n ++ s.board.console.waiting) none

waiting_back : (s : State) → HasBytes s → waiting_in (take 256 (drop (part_at s.board.processors) (board_words s))) ≡ s.board.console.waiting
waiting_back s h =
    ap (λ l. waiting_in (take 256 l)) (rest_back s)
    ∙ ap waiting_in (take_all 256 s.board.console.waiting h.few)
    ∙ bytes_back s.board.console.waiting h.waiting

-- the bytes that are typed: of the words from a place on, the first 256
pub waiting_put : (words bytes : List ℕ) (first number : ℕ) → first ≤ length words → number ≡ min (length words - first) 256 →
    take (length (take (first + number - first) (drop first words))) bytes ≡ waiting_in (take (first + number - first) (drop first words)) →
    take number bytes ≡ waiting_in (take 256 (drop first words))
waiting_put words bytes first number inside is put =
    let left = length-drop first words in
    let all : first + number - first ≡ number = omega arith in
    let least : number ≡ min 256 (length (drop first words)) = omega (arith, is, left) in
    let size : length (take number (drop first words)) ≡ number = length-take-le number (drop first words) (omega (arith, is, left)) in
    ap (λ m. take m bytes) (sym (ap (λ m. length (take m (drop first words))) all ∙ size))
    ∙ put
    ∙ ap waiting_in (ap (λ m. take m (drop first words)) (all ∙ least) ∙ take_min 256 (drop first words))

-- the places and the links, one after the other

abbrev with_lists : List PlaceState → List (Option ℕ) → State → State
with_lists places live s = record s {
  board = record s.board { places = places };
  links = record s.links { live = live };
}

-- the first m of a state, and the others of another one
record ArePlaced (s base now : State) (m : ℕ) : Type 0 where
  is : now ≡ with_lists now.board.places now.links.live base
  places : length now.board.places ≡ 32
  live : length now.links.live ≡ 32
  place : (k : ℕ) → k < m → place_of k now.board ≡ place_of k s.board
  link : (k : ℕ) → k < m → get_or now.links.live k None ≡ get_or s.links.live k None
  other_place : (k : ℕ) → m ≤ k → place_of k now.board ≡ place_of k base.board
  other_link : (k : ℕ) → m ≤ k → get_or now.links.live k None ≡ get_or base.links.live k None

less : (m k : ℕ) → k < m → k ≢ m
less m k h e = omega (arith, h, e)

more : (m k : ℕ) → suc m ≤ k → k ≢ m
more m k h e = omega (arith, h, e)

one_more : (words : List ℕ) (s base now : State) (m : ℕ) → m < 32 → restored_place (place_in words m) ≡ place_of m s.board → link_in words m ≡ get_or s.links.live m None →
    ArePlaced s base now m → ArePlaced s base (with_place_and_link m (place_in words m) (link_in words m) now) (suc m)
one_more words s base now m small place_is link_is h =
    let places = now.board.places in
    let live = now.links.live in
    let new_place = restored_place (place_in words m) in
    let new_link = link_in words m in
    let places_size = h.places in
    let live_size = h.live in
    record {
      is = ap (with_place_and_link m (place_in words m) (link_in words m)) h.is;
      places = length-set places m new_place ∙ h.places;
      live = length-set live m new_link ∙ h.live;
      place = λ k below. elim (cases_lt k m) [
        | inl before ↦ get_or-set_other places m k new_place (place_at_boot 0) (less m k before) ∙ h.place k before
        | inr behind_it ↦
            let same : k ≡ m = omega (arith, below, behind_it) in
            ap (λ j. get_or (set places m new_place) j (place_at_boot 0)) same
            ∙ get_or-set_same places m new_place (place_at_boot 0) (omega (arith, small, places_size))
            ∙ place_is
            ∙ ap (λ j. place_of j s.board) (sym same)
      ];
      link = λ k below. elim (cases_lt k m) [
        | inl before ↦ get_or-set_other live m k new_link None (less m k before) ∙ h.link k before
        | inr behind_it ↦
            let same : k ≡ m = omega (arith, below, behind_it) in
            ap (λ j. get_or (set live m new_link) j None) same
            ∙ get_or-set_same live m new_link None (omega (arith, small, live_size))
            ∙ link_is
            ∙ ap (λ j. get_or s.links.live j None) (sym same)
      ];
      other_place = λ k past. get_or-set_other places m k new_place (place_at_boot 0) (more m k past) ∙ h.other_place k (omega (arith, past));
      other_link = λ k past. get_or-set_other live m k new_link None (more m k past) ∙ h.other_link k (omega (arith, past));
    }

placed : (words : List ℕ) (s base : State) (n : ℕ) → length base.board.places ≡ 32 → length base.links.live ≡ 32 → n ≤ 32 →
    ((k : ℕ) → k < n → restored_place (place_in words k) ≡ place_of k s.board) → ((k : ℕ) → k < n → link_in words k ≡ get_or s.links.live k None) →
    (m : ℕ) → m ≤ n → ArePlaced s base (with_places m words base) m
placed words s base n places live few place_is link_is zero below = record {
  is = refl;
  places = places;
  live = live;
  place = λ k none. absurd (let bad : ⊥ = omega (arith, none) in bad);
  link = λ k none. absurd (let bad : ⊥ = omega (arith, none) in bad);
  other_place = λ k all. refl;
  other_link = λ k all. refl;
}
placed words s base n places live few place_is link_is (suc m) below =
    one_more words s base (with_places m words base) m (omega (arith, below, few)) (place_is m (omega (arith, below))) (link_is m (omega (arith, below)))
    (placed words s base n places live few place_is link_is m (omega (arith, below)))

-- two states have the same place, or link, of each processor

same_by : {A : Type 0} (d e : A) (now wanted other : List A) (n : ℕ) → length now ≡ 32 → length wanted ≡ 32 →
    ((k : ℕ) → k < n → get_or now k d ≡ get_or wanted k d) → ((k : ℕ) → n ≤ k → get_or now k d ≡ get_or other k d) →
    ((k : ℕ) → n ≤ k → get_or other k d ≡ e) → ((k : ℕ) → n ≤ k → get_or wanted k d ≡ e) → now ≡ wanted
same_by d e now wanted other n size wanted_size below above others wanted_others =
    ext_get_or d now wanted (size ∙ sym wanted_size) (λ k inside. elim (cases_lt k n) [
      | inl before ↦ below k before
      | inr behind_it ↦ above k behind_it ∙ others k behind_it ∙ sym (wanted_others k behind_it)
    ])

-- the places and the links leave the processors
pub places_size : (m : ℕ) (words : List ℕ) (s : State) → length (with_places m words s).processors ≡ length s.processors
places_size zero words s = refl
places_size (suc m) words s = places_size m words s

-- a state with the registers and the waiting bytes that words hold
abbrev pub based : List ℕ → State → State
based words t =
    with_board_parts (board_in words) (waiting_in (take 256 (drop (part_at (length t.processors)) words))) (conflict_in words) t

all_back : (s t : State) → HasParts s → HasParts t → HasBytes s → s.board.ram ≡ t.board.ram → s.board.processors ≡ t.board.processors → s.links.unit ≡ t.links.unit →
    length t.processors ≤ 32 → restored_board (board_words s) t ≡ with_board_of s t
all_back s t p o b ram number unit few =
    let words = board_words s in
    let n = length t.processors in
    let size = o.size_is in
    let n_is : n ≡ s.board.processors = size ∙ sym number in
    let rest = pieces (part_words s) 0 s.board.processors ++ s.board.console.waiting in
    let a : ArePlaced s (based words t) (with_places n words (based words t)) n =
    placed words s (based words t) n o.places o.links few
    (λ k below. place_back words s k (p.crams k (omega (arith, below, few))) (begins s k (omega (arith, below, n_is))))
    (λ k below. link_back words s k (begins s k (omega (arith, below, n_is)))) n (omega arith) in
    let now = with_places n words (based words t) in
    let places_are : now.board.places ≡ s.board.places =
    same_by (place_at_boot 0) (place_at_boot 0) now.board.places s.board.places t.board.places n a.places p.places a.place a.other_place
    (λ k past. o.other_places k (omega (arith, past, size))) (λ k past. p.other_places k (omega (arith, past, n_is))) in
    let live_are : now.links.live ≡ s.links.live =
    same_by None None now.links.live s.links.live t.links.live n a.live p.links a.link a.other_link
    (λ k past. o.other_links k (omega (arith, past, size))) (λ k past. p.other_links k (omega (arith, past, n_is))) in
    let board_is : board_in words ≡ parts_of s.board s.board.console.latch = board_back s.board s.board.console.latch s.conflict rest b.latch in
    let conflict_is : conflict_in words ≡ s.conflict = conflict_back s.board s.board.console.latch s.conflict rest b.conflict in
    let waiting_is : waiting_in (take 256 (drop (part_at n) words)) ≡ s.board.console.waiting =
    ap (λ m. waiting_in (take 256 (drop (part_at m) words))) n_is ∙ waiting_back s b in
    a.is
    ∙ (λ i. record t {
      board = record {
        ram = sym ram i;
        processors = sym number i;
        irqe = (board_is i).irqe;
        started = (board_is i).started;
        off = (board_is i).off;
        places = places_are i;
        console = record {
          waiting = waiting_is i;
          latch = (board_is i).console.latch;
          output = [];
          write_irq = (board_is i).console.write_irq;
          read_enable = (board_is i).console.read_enable;
          read_force = (board_is i).console.read_force;
        };
      };
      links = record { unit = sym unit i; live = live_are i };
      conflict = conflict_is i;
    })

pub board_is : (words : List ℕ) (s t : State) → length t.processors ≤ 32 → AreWordsOfBoard words s t → restored_board words t ≡ with_board_of s t
board_is words s t few h =
    ap (λ l. restored_board l t) h.words_are ∙ all_back s t h.parts h.other_parts h.bytes h.ram h.processors h.unit few
