use Rattle.std.proofs.Common.{◌≡◌, ◌∙◌, refl, ap, sym, subst, ℕ, zero, suc, ◌+◌, ◌-◌, ◌%◌, ◌<◌, ◌≤◌, arith, Bool, true, false, List, [], ◌∷◌, length, get_or, map, replicate, set, Option, None, Some, Result, Ok, Err, ◌⊎◌, inl, inr}
use Rattle.std.specs.Prelude.{◌==◌, ◌&&◌, ◌||◌, not, All, nat_le}
use Rattle.std.specs.List.{list_any}
use Rattle.std.proofs.lemmas.Bool.Decides.{nat_tests}
use Rattle.m161_isa.specs.Bits.{has_bit}
use Rattle.m161_isa.specs.Choice.{first_answer}
use Rattle.m161_bus.specs.declared.console.DoneError.{DoneError}
use Rattle.m161_bus.specs.declared.console.KeyFull.{KeyFull}
use Rattle.m161_bus.specs.Console.{ConsoleState, done_of, with_key}
use Rattle.m161_bus.specs.Board.{BoardState, PlaceState, place_at_boot, start_words, with_console}
use Rattle.m161_cpu.specs.declared.processor.Outcome.{Outcome}
use Rattle.m161_cpu.specs.declared.processor.Outcome.TheVariants.{Taken}
use Rattle.m161_cpu.specs.Links.{End, Keep, LinkAct, LinkState, LinkTo, after_act, after_store, links_after, unless_to}
use Rattle.m161_cpu.specs.Processor.{Processor, started_processor, stopped_processor}
use Rattle.m161_cpu.specs.Scene.{Scene, around, scene}
use Rattle.m161_cpu.specs.Step.{Stepped, step_of}
use Rattle.m161_cpu.proofs.Laws.{step_links}
use Rattle.m161_cpu.proofs.Units.{step_keeps as unit_keeps}
use Rattle.m161_machine.specs.declared.event.Event.{Event}
use Rattle.m161_machine.specs.declared.event.Event.TheVariants.{Done, Key, Step}
use Rattle.m161_machine.specs.declared.event.Refusal.{Refusal}
use Rattle.m161_machine.specs.declared.event.Refusal.TheVariants.{BadProcessor, KeyFull as KeyFullRefusal, Off, Worn}
use Rattle.m161_machine.specs.History.{Start, boot_state}
use Rattle.m161_machine.specs.State.{State, answered_done, answered_key, is_worn, next as result_of, processor_at, refusal_of_done, started_by, step_result, unless, with_board, with_starts, with_step}
use Rattle.m161_alike.specs.Words.{HasSizes}
use Rattle.m161_alike.specs.WordsLaw.{AreOfOneConf}
use Rattle.m161_states.specs.Question.{Question, are_bytes, booted, can_start, least}
use Rattle.m161_states.specs.Shape.{IsShaped}
use Rattle.m161_states.specs.System.{Explored, accepted, behind, event_of, fresh, next_by, start}
use Rattle.m161_states.specs.Laws.{IsValid, ValidNext, ValidStart}
use Rattle.m161_states.proofs.Lists.{all_set, either, either_if, map_size, set_get, set_size}
use Rattle.m161_states.proofs.Steps.{KeepsScene, step_keeps}

-- The states of a machine keep their shape.

-- processors

cons_at : {A : Type 0} (P : A → Type 0) (x : A) (xs : List A) → P x → All P xs → (k : ℕ) (d : A) → k < length (x ∷ xs) → P (get_or (x ∷ xs) k d)
cons_at P x xs one rest zero d below = one
cons_at P x xs one rest (suc k) d below = rest k d (omega (arith, below))

starts_size : (before : ℕ) (board : BoardState) (c : ℕ) (ps : List Processor) → length (with_starts before board c ps) ≡ length ps
starts_size before board c [] = refl
starts_size before board c (p ∷ ps) = ap (λ n. suc n) (starts_size before board (c + 1) ps)

starts_sizes : (before : ℕ) (board : BoardState) (c : ℕ) (ps : List Processor) → All HasSizes ps → All HasSizes (with_starts before board c ps)
starts_sizes before board c [] h = λ k d below. absurd (let bad : ⊥ = omega (arith, below) in bad)
starts_sizes before board c (p ∷ ps) h =
    let words = start_words c board in
    cons_at HasSizes (started_by before board c p) (with_starts before board (c + 1) ps)
    (either HasSizes (has_bit board.started c && not (has_bit before c)) (started_processor words.pc words.r4 words.r29 p.count) p (refl, refl) (h 0 p (omega arith)))
    (starts_sizes before board (c + 1) ps (λ k d below. h (suc k) d (omega (arith, below))))

-- links

store_size : (stored : Option ℕ) (l : LinkState) → length (after_store stored l).live ≡ length l.live
store_size None l = refl
store_size (Some at) l = map_size (unless_to l.unit at) l.live

act_size : (c : ℕ) (act : LinkAct) (l : LinkState) → length (after_act c act l).live ≡ length l.live
act_size c Keep l = refl
act_size c (LinkTo at) l = set_size l.live c _
act_size c End l = set_size l.live c None

mapped_none : (f : Option ℕ → Option ℕ) → f None ≡ None → (live : List (Option ℕ)) (k : ℕ) → get_or live k None ≡ None → get_or (map f live) k None ≡ None
mapped_none f none [] k h = refl
mapped_none f none (x ∷ xs) zero h = ap f h ∙ none
mapped_none f none (x ∷ xs) (suc k) h = mapped_none f none xs k h

store_none : (stored : Option ℕ) (l : LinkState) (k : ℕ) → get_or l.live k None ≡ None → get_or (after_store stored l).live k None ≡ None
store_none None l k h = h
store_none (Some at) l k h = mapped_none (unless_to l.unit at) refl l.live k h

set_none_by : (live : List (Option ℕ)) (c k : ℕ) (link : Option ℕ) → c < k → get_or live k None ≡ None →
    ((get_or (set live c link) k None ≡ link) × (k ≡ c)) ⊎ (get_or (set live c link) k None ≡ get_or live k None) → get_or (set live c link) k None ≡ None
set_none_by live c k link past h (inl e) = let same = e.1 in absurd (let bad : ⊥ = omega (arith, past, same) in bad)
set_none_by live c k link past h (inr e) = e ∙ h

act_none : (c : ℕ) (act : LinkAct) (l : LinkState) (k : ℕ) → c < k → get_or l.live k None ≡ None → get_or (after_act c act l).live k None ≡ None
act_none c Keep l k past h = h
act_none c (LinkTo at) l k past h = set_none_by l.live c k _ past h (set_get l.live c k _ None)
act_none c End l k past h = set_none_by l.live c k None past h (set_get l.live c k None None)

-- a Step

abbrev scene_in : ℕ → State → Scene
scene_in p s = scene (processor_at p s.processors) (around p s.memory s.board s.links s.conf.strict)

abbrev AreLinks : ℕ → State → Stepped → Type 0
AreLinks p s x = x.after.around.links ≡ links_after p x.link x.stored s.links

step_shaped : (p : ℕ) (s : State) (x : Stepped) → p < length s.processors → IsShaped s → KeepsScene (scene_in p s) x → AreLinks p s x → IsShaped (with_step p x s)
step_shaped p s x below a k links =
    let n = k.board.processors in
    let size = a.size_is in
    let one = k.sizes (a.processors p stopped_processor below) in
    record {
      processors = starts_sizes s.board.started x.after.around.board 0 (set s.processors p x.after.processor) (all_set HasSizes s.processors p x.after.processor a.processors one);
      size_is = starts_size s.board.started x.after.around.board 0 (set s.processors p x.after.processor) ∙ set_size s.processors p x.after.processor ∙ size ∙ sym n;
      places = k.board.places ∙ a.places;
      crams = λ q small. k.board.crams q ∙ a.crams q small;
      other_places = λ q past.
          let before : s.board.processors ≤ q = omega (arith, past, n) in k.board.others q before ∙ a.other_places q before;
      links = ap (λ (l : LinkState). length l.live) links ∙ act_size p x.link (after_store x.stored s.links) ∙ store_size x.stored s.links ∙ a.links;
      other_links = λ q past.
          let before : s.board.processors ≤ q = omega (arith, past, n) in
          let behind_it : p < q = omega (arith, below, size, before) in
          ap (λ (l : LinkState). get_or l.live q None) links
          ∙ act_none p x.link (after_store x.stored s.links) q behind_it (store_none x.stored s.links q (a.other_links q before));
      whole = ap (λ m. m % 4) k.memory.0 ∙ a.whole;
      bytes = k.memory.1 a.bytes;
    }

step_conf : (u : State) (p : ℕ) (s : State) (x : Stepped) → AreOfOneConf u s → KeepsScene (scene_in p s) x → x.after.around.links.unit ≡ s.links.unit → AreOfOneConf u (with_step p x s)
step_conf u p s x h k unit = record {
  conf = h.conf;
  ram = h.ram ∙ sym k.board.ram;
  processors = h.processors ∙ sym k.board.processors;
  unit = h.unit ∙ sym unit;
  memory = h.memory ∙ sym k.memory.0;
}

-- both, of a state and one state of its machine
abbrev Stays : State → State → Type 0
Stays u t = IsShaped t × AreOfOneConf u t

step_stays : (u : State) (p : ℕ) (s : State) → p < length s.processors → Stays u s → Stays u (with_step p (step_result p s) s)
unfolding step_result
step_stays u p s below a = (
  step_shaped p s (step_of (scene_in p s)) below a.0 (step_keeps (scene_in p s)) (step_links (scene_in p s)),
  step_conf u p s (step_of (scene_in p s)) a.1 (step_keeps (scene_in p s)) (unit_keeps (scene_in p s)),
)

-- an input

abbrev with_console_of : ConsoleState → State → State
with_console_of c s = with_board (record s.board { console = c }) s

input_stays : (u s : State) (c : ConsoleState) → Stays u s → Stays u (with_console_of c s)
input_stays u s c (a, h) = (
  record {
    processors = a.processors;
    size_is = a.size_is;
    places = a.places;
    crams = a.crams;
    other_places = a.other_places;
    links = a.links;
    other_links = a.other_links;
    whole = a.whole;
    bytes = a.bytes;
  },
  record { conf = h.conf; ram = h.ram; processors = h.processors; unit = h.unit; memory = h.memory },
)

state_behind : (t : State) (o : Outcome) (x : Outcome × State) → ◌≡◌ {A = Result (Outcome × State) Refusal} (Ok x) (Ok (o, t)) → x.1 ≡ t
state_behind t o x h = let pair : x ≡ (o, t) = cc in ap (λ (y : Outcome × State). y.1) pair

key_stays : (u s t : State) (o : Outcome) (r : Result ConsoleState KeyFull) → Stays u s → answered_key s (with_console r s.board) ≡ Ok (o, t) → Stays u t
key_stays u s t o (Ok c) a h = subst (Stays u) (state_behind t o (Taken, with_console_of c s) h) (input_stays u s c a)
key_stays u s t o (Err e) a h = absurd (let bad : ◌≡◌ {A = Result (Outcome × State) Refusal} (Err KeyFullRefusal) (Ok (o, t)) = h in cc)

done_stays : (u s t : State) (o : Outcome) (r : Result ConsoleState DoneError) → Stays u s → answered_done s (with_console r s.board) ≡ Ok (o, t) → Stays u t
done_stays u s t o (Ok c) a h = subst (Stays u) (state_behind t o (Taken, with_console_of c s) h) (input_stays u s c a)
done_stays u s t o (Err e) a h = absurd (let bad : ◌≡◌ {A = Result (Outcome × State) Refusal} (Err (refusal_of_done e)) (Ok (o, t)) = h in cc)

-- an event

step_passed : (a b c : Bool) (x : Result (Outcome × State) Refusal) (r : Outcome × State) →
    unless (first_answer ((a, BadProcessor) ∷ (b, Off) ∷ (c, Worn) ∷ [])) x ≡ Ok r → (a ≡ false) × (x ≡ Ok r)
step_passed true b c x r h = absurd (let bad : ◌≡◌ {A = Result (Outcome × State) Refusal} (Err BadProcessor) (Ok r) = h in cc)
step_passed false true c x r h = absurd (let bad : ◌≡◌ {A = Result (Outcome × State) Refusal} (Err Off) (Ok r) = h in cc)
step_passed false false true x r h = absurd (let bad : ◌≡◌ {A = Result (Outcome × State) Refusal} (Err Worn) (Ok r) = h in cc)
step_passed false false false x r h = (refl, h)

input_passed : (b c : Bool) (x : Result (Outcome × State) Refusal) (r : Outcome × State) → unless (first_answer ((b, Off) ∷ (c, Worn) ∷ [])) x ≡ Ok r → x ≡ Ok r
input_passed true c x r h = absurd (let bad : ◌≡◌ {A = Result (Outcome × State) Refusal} (Err Off) (Ok r) = h in cc)
input_passed false true x r h = absurd (let bad : ◌≡◌ {A = Result (Outcome × State) Refusal} (Err Worn) (Ok r) = h in cc)
input_passed false false x r h = h

event_stays : (u s t : State) (e : Event) (o : Outcome) → Stays u s → result_of s e ≡ Ok (o, t) → Stays u t
unfolding result_of
event_stays u s t (Step p) o a h =
    let tests = step_passed (nat_le (length s.processors) p) s.board.off (is_worn s.made) _ (o, t) h in
    let exists = tests.0 in
    let below : p < length s.processors = grind (arith, nat_tests, exists) in
    subst (Stays u) (state_behind t o ((step_result p s).outcome, with_step p (step_result p s) s) tests.1) (step_stays u p s below a)
event_stays u s t (Key byte) o a h = key_stays u s t o (with_key byte s.board.console) a (input_passed s.board.off (is_worn s.made) _ (o, t) h)
event_stays u s t Done o a h = done_stays u s t o (done_of s.board.console) a (input_passed s.board.off (is_worn s.made) _ (o, t) h)

fresh_stays : (u s : State) → Stays u s → Stays u (fresh s)
fresh_stays u s (a, h) = (
  record {
    processors = a.processors;
    size_is = a.size_is;
    places = a.places;
    crams = a.crams;
    other_places = a.other_places;
    links = a.links;
    other_links = a.other_links;
    whole = a.whole;
    bytes = a.bytes;
  },
  record { conf = h.conf; ram = h.ram; processors = h.processors; unit = h.unit; memory = h.memory },
)

same_some : (u v : Explored) → ◌≡◌ {A = Option Explored} (Some u) (Some v) → u ≡ v
same_some u v h = cc

valid_by : (q : Question) (x y : Explored) (e : Event) (r : Result (Outcome × State) Refusal) → IsValid q x → result_of (fresh x.state) e ≡ r →
    accepted q.goal x e r ≡ Some y → IsValid q y
valid_by q x y e (Ok given) v is h =
    let one = event_stays (start q).state (fresh x.state) given.1 e given.0 (fresh_stays (start q).state x.state (v.shape, v.one)) is in
    subst (IsValid q) (same_some (behind q.goal x e given.1) y h) (record { shape = one.0; one = one.1 })
valid_by q x y e (Err refused) v is h = absurd (let bad : ◌≡◌ {A = Option Explored} None (Some y) = h in cc)

valid_event : (q : Question) (x y : Explored) (e : Option Event) → IsValid q x → next_by q.goal x e ≡ Some y → IsValid q y
valid_event q x y None v h = absurd (let bad : ◌≡◌ {A = Option Explored} None (Some y) = h in cc)
valid_event q x y (Some e) v h = valid_by q x y e (result_of (fresh x.state) e) v refl h

pub valid_next : ValidNext
valid_next q x y n v h = valid_event q x y (event_of q x n) v h

-- at boot

repeated : {A : Type 0} (n : ℕ) (x d : A) (k : ℕ) → get_or (replicate n x) k x ≡ x
repeated zero x d k = refl
repeated (suc n) x d zero = refl
repeated (suc n) x d (suc k) = repeated n x d k

repeated_size : {A : Type 0} (n : ℕ) (x : A) → length (replicate n x) ≡ n
repeated_size zero x = refl
repeated_size (suc n) x = ap (λ m. suc m) (repeated_size n x)

all_stopped : (n : ℕ) → All HasSizes (replicate n stopped_processor)
all_stopped zero = λ k d below. absurd (let bad : ⊥ = omega (arith, below) in bad)
all_stopped (suc n) = cons_at HasSizes stopped_processor (replicate n stopped_processor) (refl, refl) (all_stopped n)

both_true : (a b : Bool) → (a && b) ≡ true → (a ≡ true) × (b ≡ true)
both_true true b h = (refl, h)
both_true false b h = absurd (let bad : false ≡ true = h in cc)

not_true : (a : Bool) → not a ≡ true → a ≡ false
not_true false h = refl
not_true true h = absurd (let bad : false ≡ true = h in cc)

neither : (a b : Bool) → (a || b) ≡ false → (a ≡ false) × (b ≡ false)
neither false b h = (refl, h)
neither true b h = absurd (let bad : true ≡ false = h in cc)

none_large : (bytes : List ℕ) → list_any (nat_le 256) bytes ≡ false → (i : ℕ) → get_or bytes i 0 < 256
none_large [] h i = omega arith
none_large (b ∷ bs) h zero = let first = (neither (nat_le 256 b) (list_any (nat_le 256) bs) h).0 in grind (arith, nat_tests, first)
none_large (b ∷ bs) h (suc i) = none_large bs (neither (nat_le 256 b) (list_any (nat_le 256) bs) h).1 i

first_place : PlaceState
first_place = place_at_boot 0xffffffff

abbrev places_at_boot : List PlaceState
places_at_boot = set (replicate 32 (place_at_boot 0)) 0 (place_at_boot 0xffffffff)

boot_cram : (p : ℕ) → ((get_or places_at_boot p (place_at_boot 0) ≡ place_at_boot 0xffffffff) × (p ≡ 0)) ⊎ (get_or places_at_boot p (place_at_boot 0) ≡ get_or (replicate 32 (place_at_boot 0)) p (place_at_boot 0)) →
    length (get_or places_at_boot p (place_at_boot 0)).cram ≡ 64
boot_cram p (inl h) = ap (λ (x : PlaceState). length x.cram) h.0
boot_cram p (inr h) = ap (λ (x : PlaceState). length x.cram) (h ∙ repeated 32 (place_at_boot 0) (place_at_boot 0) p)

boot_other : (p : ℕ) → 1 ≤ p → ((get_or places_at_boot p (place_at_boot 0) ≡ place_at_boot 0xffffffff) × (p ≡ 0)) ⊎ (get_or places_at_boot p (place_at_boot 0) ≡ get_or (replicate 32 (place_at_boot 0)) p (place_at_boot 0)) →
    get_or places_at_boot p (place_at_boot 0) ≡ place_at_boot 0
boot_other p past (inl h) = let same = h.1 in absurd (let bad : ⊥ = omega (arith, past, same) in bad)
boot_other p past (inr h) = h ∙ repeated 32 (place_at_boot 0) (place_at_boot 0) p

boot_shaped : (s : Start) → can_start s ≡ true → IsShaped (boot_state s)
boot_shaped s can =
    let n = s.conf.processors in
    let both = both_true (nat_le 1 n) (are_bytes s.bytes) can in
    let some = both.0 in
    let one : 1 ≤ n = grind (arith, nat_tests, some) in
    let bytes = both_true (not (list_any (nat_le 256) s.bytes)) (length s.bytes % 4 == 0) both.1 in
    let none = none_large s.bytes (not_true (list_any (nat_le 256) s.bytes) bytes.0) in
    let rest = bytes.1 in
    let stopped = repeated_size (n - 1) stopped_processor in
    record {
      processors = cons_at HasSizes (started_processor s.entry 0 0 0) (replicate (n - 1) stopped_processor) (refl, refl) (all_stopped (n - 1));
      size_is = omega (arith, one, stopped);
      places = refl;
      crams = λ p small. boot_cram p (set_get (replicate 32 (place_at_boot 0)) 0 p (place_at_boot 0xffffffff) (place_at_boot 0));
      other_places = λ p past. boot_other p (omega (arith, past, one)) (set_get (replicate 32 (place_at_boot 0)) 0 p (place_at_boot 0xffffffff) (place_at_boot 0));
      links = refl;
      other_links = λ p past. repeated 32 None None p;
      whole = grind (arith, nat_tests, rest);
      bytes = λ i inside. none i;
    }

booted_can : (q : Question) → can_start (booted q) ≡ true
booted_can q = either_if (λ s. can_start s ≡ true) (can_start q.start) q.start least (λ h. h) (λ h. refl)

pub valid_start : ValidStart
valid_start q = record {
  shape = boot_shaped (booted q) (booted_can q);
  one = record { conf = refl; ram = refl; processors = refl; unit = refl; memory = refl };
}
