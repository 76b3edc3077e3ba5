use Rattle.std.proofs.Common.{◌≡◌, ◌∙◌, refl, ap, sym, subst, ℕ, zero, suc, ◌+◌, ◌*◌, ◌<◌, ◌≤◌, arith, Bool, true, false, List, [], ◌∷◌, ◌++◌, length, take, drop, map, get_or, ext_get_or, append_assoc, length-set}
use Rattle.std.specs.Prelude.{OnErr, flat_map, slice_get, slice_index, slice_set, Option, None, Some, Result, Ok, Err}
use Rattle.std.specs.List.{range_with_len}
use Rattle.std.proofs.lemmas.List.{flat_map_more, length-append, take-take, take_all}
use Rattle.std.proofs.lemmas.Grind.{take-set_at}
use Rattle.std.proofs.lemmas.List.FromFn.{get_or-map-range_with_len, map-range_with_len_more}
use Rattle.std.proofs.Math.Seq.{take-append_seam}
use Rattle.m161_tlb.specs.declared.row.Row.{Row as TlbRow}
use Rattle.m161_tlb.specs.Rows.{blank_row}
use Rattle.m161_cop0.specs.Control.{Control}
use Rattle.m161_cpu.specs.declared.processor.ProcessorState.{ProcessorState}
use Rattle.m161_cpu.specs.declared.processor.ProcessorState.TheVariants.{Stopped, Running, Waiting}
use Rattle.m161_cpu.specs.Processor.{Processor}
use Rattle.m161_alike.specs.Words.{HasSizes, control_words, flag, number_of_state, place_words, processor_words, register_words, row_words}
use Rattle.m161_alike.specs.helpers.Words.{Begins}

-- Words that are written one behind the other.

-- what begins with more begins with less
pub begins_more : (old mid new xs : List ℕ) → mid ≡ old ++ xs → Begins mid new → Begins old new
begins_more old mid new xs is h =
    let long : length mid ≡ length old + length xs = ap length is ∙ length-append old xs in
    let less : length old ≤ length mid = omega (arith, long) in
    sym (take-take (length old) (length mid) new less) ∙ ap (take (length old)) (h ∙ is) ∙ take-append_seam old xs

pub begins_with : (old new xs : List ℕ) → new ≡ old ++ xs → Begins old new
begins_with old new xs is = ap (take (length old)) is ∙ take-append_seam old xs

-- one place more
range_more : (a n : ℕ) → range_with_len a (n + 1) ≡ range_with_len a n ++ (a + n) ∷ []
range_more a zero = let here : a ≡ a + 0 = omega arith in ap (λ x. x ∷ []) here
range_more a (suc n) =
    let there : a + 1 + n ≡ a + suc n = omega arith in
    let one : suc n + 1 ≡ suc (n + 1) = omega arith in
    ap (range_with_len a) one
    ∙ ap (λ l. a ∷ l) (range_more (a + 1) n ∙ ap (λ x. range_with_len (a + 1) n ++ x ∷ []) there)

pub pieces_more : (f : ℕ → List ℕ) (before now new : List ℕ) (n : ℕ) → now ≡ before ++ flat_map f (range_with_len 0 n) →
    new ≡ now ++ f n → new ≡ before ++ flat_map f (range_with_len 0 (n + 1))
pieces_more f before now new n so_far is =
    let here : 0 + n ≡ n = omega arith in
    is ∙ ap (λ l. l ++ f n) so_far
    ∙ flat_map_more f before (range_with_len 0 n) n
    ∙ ap (λ l. before ++ flat_map f l) (sym (range_more 0 n ∙ ap (λ x. range_with_len 0 n ++ x ∷ []) here))

pub numbers_more : (f : ℕ → ℕ) (before now new : List ℕ) (n x : ℕ) → now ≡ before ++ map f (range_with_len 0 n) →
    x ≡ f n → new ≡ now ++ x ∷ [] → new ≡ before ++ map f (range_with_len 0 (n + 1))
numbers_more f before now new n x so_far here is =
    is ∙ ap (λ l. l ++ x ∷ []) so_far ∙ append_assoc before (map f (range_with_len 0 n)) (x ∷ [])
    ∙ ap (λ y. before ++ (map f (range_with_len 0 n) ++ y ∷ [])) here
    ∙ ap (λ l. before ++ l) (sym (map-range_with_len_more f 0 n n (omega arith)))

-- a list that was filled from its begin
pub numbers_whole : (f : ℕ → ℕ) (xs : List ℕ) (i n : ℕ) → i ≡ n → length xs ≡ n → take i xs ≡ map f (range_with_len 0 i) → xs ≡ map f (range_with_len 0 n)
numbers_whole f xs i n end size so_far =
    let P : ℕ → Type 0 = λ k. xs ≡ map f (range_with_len 0 k) in
    subst P end (sym (take_all i xs (omega (arith, end, size))) ∙ so_far)

pub pieces_whole : (f : ℕ → List ℕ) (xs : List ℕ) (i n : ℕ) → i ≡ n → length xs ≡ 3 * n → take (3 * i) xs ≡ flat_map f (range_with_len 0 i) → xs ≡ flat_map f (range_with_len 0 n)
pieces_whole f xs i n end size so_far =
    let P : ℕ → Type 0 = λ k. xs ≡ flat_map f (range_with_len 0 k) in
    subst P end (sym (take_all (3 * i) xs (omega (arith, end, size))) ∙ so_far)

-- three more words of it
pub take_three : (xs : List ℕ) (n a b c : ℕ) → n + 3 ≤ length xs →
    take (n + 3) (slice_set (slice_set (slice_set xs n a) (n + 1) b) (n + 2) c) ≡ take n xs ++ a ∷ b ∷ c ∷ []
take_three xs n a b c room =
    let ys : List ℕ = slice_set xs n a in
    let zs : List ℕ = slice_set ys (n + 1) b in
    let one : length ys ≡ length xs = length-set xs n a in
    let two : length zs ≡ length ys = length-set ys (n + 1) b in
    take-set_at zs (n + 2) (n + 3) c (omega arith) (omega (arith, room, one, two))
    ∙ ap (λ l. l ++ c ∷ []) (take-set_at ys (n + 1) (n + 2) b (omega arith) (omega (arith, room, one)))
    ∙ ap (λ l. (l ++ b ∷ []) ++ c ∷ []) (take-set_at xs n (n + 1) a (omega arith) (omega (arith, room)))
    ∙ ap (λ l. l ++ c ∷ []) (append_assoc (take n xs) (a ∷ []) (b ∷ []))
    ∙ append_assoc (take n xs) (a ∷ b ∷ []) (c ∷ [])

pub joined : (old mid new xs ys : List ℕ) → mid ≡ old ++ xs → new ≡ mid ++ ys → new ≡ old ++ (xs ++ ys)
joined old mid new xs ys first second = second ∙ ap (λ l. l ++ ys) first ∙ append_assoc old xs ys

pub at_err : {T E : Type 0} {P : Type 0} (r : Result T E) → P → OnErr r P
at_err (Ok x) h = tt
at_err (Err e) h = h

-- a row that is there
pub got : (rs : List TlbRow) (i : ℕ) (r : TlbRow) → slice_get rs i ≡ Some r → r ≡ get_or rs i blank_row
got [] i r e = absurd (let bad : ◌≡◌ {A = Option TlbRow} None (Some r) = e in cc)
got (q ∷ rs) zero r e = let same : q ≡ r = cc in sym same
got (q ∷ rs) (suc i) r e = got rs i r e

-- lists that are equal, by their parts
pub split : (xs ys r q : List ℕ) → length xs ≡ length ys → xs ++ r ≡ ys ++ q → (xs ≡ ys) × (r ≡ q)
split [] [] r q size e = (refl, e)
split (x ∷ xs) (y ∷ ys) r q size e =
    let first : x ≡ y = ap (λ l. get_or l 0 0) e in
    let rest : xs ++ r ≡ ys ++ q = ap (λ l. drop 1 l) e in
    let shorter : length xs ≡ length ys = omega (arith, size) in
    let both = split xs ys r q shorter rest in
    (λ i. first i ∷ both.0 i, both.1)
split [] (y ∷ ys) r q size e = absurd (let bad : ⊥ = omega (arith, size) in bad)
split (x ∷ xs) [] r q size e = absurd (let bad : ⊥ = omega (arith, size) in bad)

-- so many numbers of a list
pub picked : (xs : List ℕ) (n k : ℕ) → k < n → get_or (map (slice_index xs) (range_with_len 0 n)) k 0 ≡ get_or xs k 0
picked xs n k below = get_or-map-range_with_len (slice_index xs) 0 n k k 0 below (omega arith)

pub same_picked : (xs ys : List ℕ) (n : ℕ) → length xs ≡ n → length ys ≡ n →
    map (slice_index xs) (range_with_len 0 n) ≡ map (slice_index ys) (range_with_len 0 n) → xs ≡ ys
same_picked xs ys n a b e = ext_get_or 0 xs ys (a ∙ sym b) (λ k below.
    let inside : k < n = omega (arith, below, a) in
    sym (picked xs n k inside) ∙ ap (λ l. get_or l k 0) e ∙ picked ys n k inside)

-- pieces of one size, one behind the other
pub same_pieces : (f g : ℕ → List ℕ) → ((i : ℕ) → length (f i) ≡ length (g i)) → (a n k : ℕ) → k < n →
    flat_map f (range_with_len a n) ≡ flat_map g (range_with_len a n) → f (a + k) ≡ g (a + k)
same_pieces f g size a zero k below e = absurd (let bad : ⊥ = omega (arith, below) in bad)
same_pieces f g size a (suc n) zero below e =
    let here : a ≡ a + 0 = omega arith in
    subst (λ i. f i ≡ g i) here (split (f a) (g a) (flat_map f (range_with_len (a + 1) n)) (flat_map g (range_with_len (a + 1) n)) (size a) e).0
same_pieces f g size a (suc n) (suc k) below e =
    let there : a + 1 + k ≡ a + suc k = omega arith in
    let left : k < n = omega (arith, below) in
    subst (λ i. f i ≡ g i) there
    (same_pieces f g size (a + 1) n k left (split (f a) (g a) (flat_map f (range_with_len (a + 1) n)) (flat_map g (range_with_len (a + 1) n)) (size a) e).1)

-- values by their words
pub same_flag : (a b : Bool) → flag a ≡ flag b → a ≡ b
same_flag true true e = refl
same_flag false false e = refl
same_flag true false e = absurd (let bad : ⊥ = omega (arith, e) in bad)
same_flag false true e = absurd (let bad : ⊥ = omega (arith, e) in bad)

pub small_flag : (a : Bool) → flag a ≤ 1
small_flag true = omega arith
small_flag false = omega arith

pub same_state : (a b : ProcessorState) → number_of_state a ≡ number_of_state b → a ≡ b
same_state Stopped Stopped e = refl
same_state Running Running e = refl
same_state Waiting Waiting e = refl
same_state Stopped Running e = absurd (let bad : ⊥ = omega (arith, e) in bad)
same_state Stopped Waiting e = absurd (let bad : ⊥ = omega (arith, e) in bad)
same_state Running Stopped e = absurd (let bad : ⊥ = omega (arith, e) in bad)
same_state Running Waiting e = absurd (let bad : ⊥ = omega (arith, e) in bad)
same_state Waiting Stopped e = absurd (let bad : ⊥ = omega (arith, e) in bad)
same_state Waiting Running e = absurd (let bad : ⊥ = omega (arith, e) in bad)

digits : (x y a b c d e f g h : ℕ) → a ≤ 1 → b ≤ 1 → c ≤ 1 → d ≤ 1 → e ≤ 1 → f ≤ 1 → g ≤ 1 → h ≤ 1 →
    x * 16 + (a * 8 + b * 4 + c * 2 + d) ≡ y * 16 + (e * 8 + f * 4 + g * 2 + h) →
    (x ≡ y) × (a ≡ e) × (b ≡ f) × (c ≡ g) × (d ≡ h)
digits x y a b c d e f g h pa pb pc pd pe pf pg ph is = (
  omega (arith, pa, pb, pc, pd, pe, pf, pg, ph, is),
  omega (arith, pa, pb, pc, pd, pe, pf, pg, ph, is),
  omega (arith, pa, pb, pc, pd, pe, pf, pg, ph, is),
  omega (arith, pa, pb, pc, pd, pe, pf, pg, ph, is),
  omega (arith, pa, pb, pc, pd, pe, pf, pg, ph, is),
)

same_row : (r q : TlbRow) → row_words r ≡ row_words q → r ≡ q
same_row r q e =
    let flags = digits r.id q.id (flag r.n) (flag r.d) (flag r.v) (flag r.g) (flag q.n) (flag q.d) (flag q.v) (flag q.g)
    (small_flag r.n) (small_flag r.d) (small_flag r.v) (small_flag r.g) (small_flag q.n) (small_flag q.d) (small_flag q.v) (small_flag q.g)
    (ap (λ l. get_or l 2 0) e) in
    λ i. record {
      page = ap (λ l. get_or l 0 0) e i;
      id = flags.0 i;
      frame = ap (λ l. get_or l 1 0) e i;
      n = same_flag r.n q.n flags.1 i;
      d = same_flag r.d q.d flags.2 i;
      v = same_flag r.v q.v flags.3 i;
      g = same_flag r.g q.g flags.4 i;
    }

same_rows : (rs qs : List TlbRow) → length rs ≡ 64 → length qs ≡ 64 →
    flat_map (λ i. row_words (get_or rs i blank_row)) (range_with_len 0 64) ≡ flat_map (λ i. row_words (get_or qs i blank_row)) (range_with_len 0 64) →
    rs ≡ qs
same_rows rs qs a b e = ext_get_or blank_row rs qs (a ∙ sym b) (λ k below.
    let inside : k < 64 = omega (arith, below, a) in
    let here : 0 + k ≡ k = omega arith in
    subst (λ j. get_or rs j blank_row ≡ get_or qs j blank_row) here
    (same_row (get_or rs (0 + k) blank_row) (get_or qs (0 + k) blank_row)
    (same_pieces (λ i. row_words (get_or rs i blank_row)) (λ i. row_words (get_or qs i blank_row)) (λ i. refl) 0 64 k inside e)))

same_control : (c d : Control) → c.age ≡ d.age → control_words c ≡ control_words d → c ≡ d
same_control c d age e = λ i. record {
  index = ap (λ l. get_or l 0 0) e i;
  random = ap (λ l. get_or l 1 0) e i;
  entry_lo = ap (λ l. get_or l 2 0) e i;
  context = ap (λ l. get_or l 3 0) e i;
  bad_vaddr = ap (λ l. get_or l 4 0) e i;
  count = ap (λ l. get_or l 5 0) e i;
  entry_hi = ap (λ l. get_or l 6 0) e i;
  compare = ap (λ l. get_or l 7 0) e i;
  status = ap (λ l. get_or l 8 0) e i;
  epc = ap (λ l. get_or l 9 0) e i;
  branch_delay = same_flag c.branch_delay d.branch_delay (ap (λ l. get_or l 10 0) e) i;
  unit = ap (λ l. get_or l 11 0) e i;
  code = ap (λ l. get_or l 12 0) e i;
  timer = same_flag c.timer d.timer (ap (λ l. get_or l 13 0) e) i;
  software = ap (λ l. get_or l 14 0) e i;
  age = age i;
}

pub same_processor : (p q : Processor) → HasSizes p → HasSizes q → p.count ≡ q.count → p.control.age ≡ q.control.age →
    processor_words p ≡ processor_words q → p ≡ q
same_processor p q a b count age e =
    let first = split (register_words p) (register_words q) _ _ refl e in
    let second = split (place_words p) (place_words q) _ _ refl first.1 in
    let third = split (control_words p.control) (control_words q.control) _ _ refl second.1 in
    let place = second.0 in
    λ i. record {
      registers = same_picked p.registers q.registers 32 a.0 b.0 first.0 i;
      hi = ap (λ l. get_or l 0 0) place i;
      lo = ap (λ l. get_or l 1 0) place i;
      pc = ap (λ l. get_or l 2 0) place i;
      following = ap (λ l. get_or l 3 0) place i;
      slot = same_flag p.slot q.slot (ap (λ l. get_or l 4 0) place) i;
      control = same_control p.control q.control age third.0 i;
      rows = same_rows p.rows q.rows a.1 b.1 third.1 i;
      state = same_state p.state q.state (ap (λ l. get_or l 5 0) place) i;
      count = count i;
    }
