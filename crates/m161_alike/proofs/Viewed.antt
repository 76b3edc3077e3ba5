use Rattle.std.proofs.Common.{◌≡◌, ◌∙◌, refl, ap, sym, ℕ, zero, suc, ◌+◌, arith, Bool, true, false, List, [], ◌∷◌, length, get_or, set}
use Rattle.std.specs.Prelude.{◌&&◌, ◌||◌, ◌==◌, not, if◌then◌else◌}
use Rattle.m161_isa.specs.Bits.{has_bit}
use Rattle.m161_bus.specs.Board.{BoardState, start_words}
use Rattle.m161_cop0.specs.Control.{control_at_start}
use Rattle.m161_cpu.specs.Processor.{Processor, started_processor, stopped_processor}
use Rattle.m161_cpu.specs.Scene.{Scene, around, scene}
use Rattle.m161_cpu.specs.Step.{Stepped, step_of}
use Rattle.m161_machine.specs.State.{State, conflict_after, processor_at, started_by, step_result, with_starts, with_step}
use Rattle.m161_alike.specs.declared.known.Known.{Known}
use Rattle.m161_alike.specs.declared.reads.Reads.{Reads}
use Rattle.m161_alike.specs.Reads.{AreWithin, reads_in}
use Rattle.m161_alike.specs.View.{known_of, processor_view, processors_view, with_output}
use Rattle.m161_alike.proofs.HeardStep.{heard_stepped, step_heard}
use Rattle.m161_alike.proofs.Timeless.{timeless}
use Rattle.m161_alike.proofs.TimelessStep.{seen_twice, step_timeless, timeless_stepped}

-- A Step of a state and of its view.

-- a state whose console has sent these bytes, and one without time
abbrev pub hearing : List ℕ → State → State
hearing sent s = record s { board = with_output sent s.board }

abbrev pub still : Known → State → State
still known s = record s { processors = processors_view known 0 s.processors; made = 0 }

-- processors

pub same_number : (known : Known) (c : ℕ) (ps : List Processor) → length (processors_view known c ps) ≡ length ps
same_number known c [] = refl
same_number known c (p ∷ ps) = ap (λ n. suc n) (same_number known (c + 1) ps)

same_either : (test : Bool) (x : ℕ) → (if test then x else x) ≡ x
same_either true x = refl
same_either false x = refl

-- one that was never started has no time
stopped_still : (k : Reads) → stopped_processor ≡ processor_view k stopped_processor
stopped_still k = λ i. record stopped_processor {
  control = record control_at_start {
    random = sym (same_either k.random 63) i;
    count = sym (same_either (k.count || not (0 == 0)) 0) i;
  };
}

at_view : (known : Known) (c : ℕ) (ps : List Processor) (p : ℕ) →
    get_or (processors_view known c ps) p stopped_processor ≡ processor_view (known_of known (c + p)) (get_or ps p stopped_processor)
at_view known c [] p = stopped_still (known_of known (c + p))
at_view known c (q ∷ ps) zero =
    let here : c ≡ c + 0 = omega arith in ap (λ n. processor_view (known_of known n) q) here
at_view known c (q ∷ ps) (suc p) =
    let there : c + 1 + p ≡ c + suc p = omega arith in
    at_view known (c + 1) ps p ∙ ap (λ n. processor_view (known_of known n) (get_or ps p stopped_processor)) there

pub processor_viewed : (known : Known) (ps : List Processor) (p : ℕ) →
    processor_at p (processors_view known 0 ps) ≡ processor_view (known_of known p) (processor_at p ps)
processor_viewed known ps p =
    let here : 0 + p ≡ p = omega arith in
    at_view known 0 ps p ∙ ap (λ n. processor_view (known_of known n) (get_or ps p stopped_processor)) here

set_view : (known : Known) (c : ℕ) (ps : List Processor) (p : ℕ) (q : Processor) →
    processors_view known c (set ps p q) ≡ set (processors_view known c ps) p (processor_view (known_of known (c + p)) q)
set_view known c [] p q = refl
set_view known c (r ∷ ps) zero q =
    let here : c ≡ c + 0 = omega arith in ap (λ n. processor_view (known_of known n) q ∷ processors_view known (c + 1) ps) here
set_view known c (r ∷ ps) (suc p) q =
    let there : c + 1 + p ≡ c + suc p = omega arith in
    ap (λ l. processor_view (known_of known c) r ∷ l)
    (set_view known (c + 1) ps p q ∙ ap (λ n. set (processors_view known (c + 1) ps) p (processor_view (known_of known n) q)) there)

pub set_viewed : (known : Known) (ps : List Processor) (p : ℕ) (q : Processor) →
    processors_view known 0 (set ps p q) ≡ set (processors_view known 0 ps) p (processor_view (known_of known p) q)
set_viewed known ps p q =
    let here : 0 + p ≡ p = omega arith in
    set_view known 0 ps p q ∙ ap (λ n. set (processors_view known 0 ps) p (processor_view (known_of known n) q)) here

pub viewed_twice : (known : Known) (c : ℕ) (ps : List Processor) → processors_view known c (processors_view known c ps) ≡ processors_view known c ps
viewed_twice known c [] = refl
viewed_twice known c (p ∷ ps) = λ i. seen_twice (known_of known c) p i ∷ viewed_twice known (c + 1) ps i

-- those that CPUE starts

start_view : (k : Reads) (start : Bool) (pc r4 r29 : ℕ) (p : Processor) →
    processor_view k (if start then started_processor pc r4 r29 0 else processor_view k p)
    ≡ processor_view k (if start then started_processor pc r4 r29 p.count else p)
start_view k true pc r4 r29 p = refl
start_view k false pc r4 r29 p = seen_twice k p

starts_view : (known : Known) (before : ℕ) (board : BoardState) (c : ℕ) (ps : List Processor) →
    processors_view known c (with_starts before board c (processors_view known c ps)) ≡ processors_view known c (with_starts before board c ps)
starts_view known before board c [] = refl
starts_view known before board c (p ∷ ps) =
    let words = start_words c board in
    let first = start_view (known_of known c) (has_bit board.started c && not (has_bit before c)) words.pc words.r4 words.r29 p in
    λ i. first i ∷ starts_view known before board (c + 1) ps i

starts_heard : (sent : List ℕ) (before : ℕ) (board : BoardState) (c : ℕ) (ps : List Processor) →
    with_starts before (with_output sent board) c ps ≡ with_starts before board c ps
starts_heard sent before board c [] = refl
starts_heard sent before board c (p ∷ ps) = ap (λ l. started_by before board c p ∷ l) (starts_heard sent before board (c + 1) ps)

-- the Step of a processor

abbrev pub scene_in : ℕ → State → Scene
scene_in p s = scene (processor_at p s.processors) (around p s.memory s.board s.links s.conf.strict)

pub scene_still : (known : Known) (p : ℕ) (s : State) → scene_in p (still known s) ≡ timeless (known_of known p) (scene_in p s)
scene_still known p s = ap (λ q. scene q (around p s.memory s.board s.links s.conf.strict)) (processor_viewed known s.processors p)

pub step_hearing : (sent : List ℕ) (p : ℕ) (s : State) → step_result p (hearing sent s) ≡ heard_stepped sent (step_result p s)
unfolding step_result
step_hearing sent p s = step_heard sent (scene_in p s)

pub step_still : (known : Known) (p : ℕ) (s : State) → AreWithin (reads_in p s) (known_of known p) →
    timeless_stepped (known_of known p) (step_result p (still known s)) ≡ timeless_stepped (known_of known p) (step_result p s)
unfolding step_result reads_in
step_still known p s within =
    ap (λ x. timeless_stepped (known_of known p) (step_of x)) (scene_still known p s)
    ∙ step_timeless (known_of known p) (scene_in p s) within

-- and the state behind it

pub after_hearing : (sent : List ℕ) (p : ℕ) (x : Stepped) (s : State) →
    with_step p (heard_stepped sent x) (hearing sent s) ≡ hearing sent (with_step p x s)
after_hearing sent p x s = λ i. record (hearing sent (with_step p x s)) {
  processors = starts_heard sent s.board.started x.after.around.board 0 (set s.processors p x.after.processor) i;
}

-- a state behind a Step without time, from the view of the processors before it
abbrev built : Known → ℕ → State → List Processor → Stepped → State
built known p s ps x = record s {
  processors = processors_view known 0 (with_starts s.board.started x.after.around.board 0 (set ps p x.after.processor));
  memory = x.after.around.memory;
  board = x.after.around.board;
  links = x.after.around.links;
  made = 0;
  conflict = conflict_after p x.outcome s.conflict;
}

from_view : (known : Known) (p : ℕ) (x : Stepped) (s : State) →
    still known (with_step p x s) ≡ built known p s (processors_view known 0 s.processors) (timeless_stepped (known_of known p) x)
from_view known p x s =
    let board = x.after.around.board in
    let same : processors_view known 0 (with_starts s.board.started board 0 (set s.processors p x.after.processor))
    ≡ processors_view known 0 (with_starts s.board.started board 0 (set (processors_view known 0 s.processors) p (processor_view (known_of known p) x.after.processor))) =
    sym (starts_view known s.board.started board 0 (set s.processors p x.after.processor))
    ∙ ap (λ l. processors_view known 0 (with_starts s.board.started board 0 l)) (set_viewed known s.processors p x.after.processor) in
    λ i. record (still known (with_step p x s)) { processors = same i }

pub after_still : (known : Known) (p : ℕ) (x y : Stepped) (s : State) →
    timeless_stepped (known_of known p) x ≡ timeless_stepped (known_of known p) y →
    still known (with_step p x (still known s)) ≡ still known (with_step p y s)
after_still known p x y s same =
    from_view known p x (still known s)
    ∙ (λ i. built known p s (viewed_twice known 0 s.processors i) (same i))
    ∙ sym (from_view known p y s)
