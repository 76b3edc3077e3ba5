use Rattle.std.proofs.Common.{Bool, ◌≡◌, ◌∙◌, refl, ap, ℕ, List, Option, None, Some, Ok, Err}
use Rattle.std.specs.Prelude.{◌&&◌, not, if◌then◌else◌}
use Rattle.m161_isa.specs.declared.table.Row.{Row}
use Rattle.m161_isa.specs.Table.{table, row_that_fits, numbers_of}
use Rattle.m161_cop0.specs.Control.{expects_timer, is_interrupted, is_pending, is_user}
use Rattle.m161_bus.specs.Board.{interrupt_lines}
use Rattle.m161_cpu.specs.declared.processor.ProcessorState.{ProcessorState}
use Rattle.m161_cpu.specs.declared.processor.ProcessorState.TheVariants.{Stopped, Running, Waiting}
use Rattle.m161_cpu.specs.Processor.{Processor}
use Rattle.m161_cpu.specs.Fetch.{fetched_word}
use Rattle.m161_cpu.specs.Resting.{is_resting, is_ticking}
use Rattle.m161_cpu.specs.Scene.{Scene}
use Rattle.m161_cpu.specs.Translation.{is_misaddressed, physical_at}
use Rattle.m161_cpu.specs.Effect.{with_three}
use Rattle.m161_cpu.specs.Step.{executable_word, lines_in}
use Rattle.m161_cpu.specs.Resting.{rests_in}
use Rattle.m161_cpu.specs.Uses.{fetch_of, fetches, reference_after, reference_by_row, reference_of, reference_of_step, uses_of, via_of, via_reference}
use Rattle.m161_alike.specs.declared.reads.Reads.{Reads}
use Rattle.m161_alike.specs.Reads.{AreWithin, no_reads, reads_after, reads_of_step}
use Rattle.m161_alike.specs.View.{processor_view}
use Rattle.m161_alike.proofs.Heard.{heard}
use Rattle.m161_alike.proofs.HeardStep.{step_heard}
use Rattle.m161_alike.proofs.Timeless.{timeless}
use Rattle.m161_alike.proofs.TimelessStep.{same_arguments, same_reads, same_word, step_timeless}

-- What a Step would fetch, use and read is the same whatever time it is, and whatever the console has
-- sent.

abbrev is_pending_in : Scene → Bool
is_pending_in s = is_pending (lines_in s) s.processor.control

rests_heard : (sent : List ℕ) (st : ProcessorState) (s : Scene) → rests_in st (is_pending_in (heard sent s)) ≡ rests_in st (is_pending_in s)
unfolding interrupt_lines
rests_heard sent Stopped s = refl
rests_heard sent Running s = refl
rests_heard sent Waiting s = refl

rests_timeless : (k : Reads) (st : ProcessorState) (s : Scene) → rests_in st (is_pending_in (timeless k s)) ≡ rests_in st (is_pending_in s)
unfolding is_pending
rests_timeless k Stopped s = refl
rests_timeless k Running s = refl
rests_timeless k Waiting s = refl

fetches_heard : (sent : List ℕ) (s : Scene) → fetches (heard sent s) ≡ fetches s
unfolding interrupt_lines
fetches_heard sent s = ap (λ r. not r && not (is_interrupted (lines_in s) s.processor.control)) (rests_heard sent s.processor.state s)

fetches_timeless : (k : Reads) (s : Scene) → fetches (timeless k s) ≡ fetches s
unfolding is_interrupted is_pending
fetches_timeless k s = ap (λ r. not r && not (is_interrupted (lines_in s) s.processor.control)) (rests_timeless k s.processor.state s)

-- reads
pub reads_heard : (sent : List ℕ) (s : Scene) → reads_of_step (heard sent s) ≡ reads_of_step s
unfolding reads_of_step
reads_heard sent s =
    ap (λ f. if f then reads_after s.processor (executable_word s.around.memory s.processor) else no_reads) (fetches_heard sent s)

pub reads_timeless : (k : Reads) (s : Scene) → reads_of_step (timeless k s) ≡ reads_of_step s
unfolding reads_of_step
reads_timeless k s =
    let after : reads_after (processor_view k s.processor) (executable_word s.around.memory (processor_view k s.processor)) ≡ reads_after s.processor (executable_word s.around.memory s.processor) =
    ap (reads_after (processor_view k s.processor)) (same_word k s.around.memory s.processor)
    ∙ same_reads s.processor (processor_view k s.processor) refl refl (executable_word s.around.memory s.processor) in
    λ i. if fetches_timeless k s i then after i else no_reads

-- uses
same_row_reference : (p q : Processor) → q.registers ≡ p.registers → q.pc ≡ p.pc → (word : ℕ) (o : Option Row) → reference_by_row q word o ≡ reference_by_row p word o
same_row_reference p q registers pc word None = refl
same_row_reference p q registers pc word (Some r) =
    ap (with_three (reference_of (table r).effect)) (same_arguments p q registers pc (table r).operands (numbers_of word (Some r)))

same_reference : (p q : Processor) → q.registers ≡ p.registers → q.pc ≡ p.pc → (w : _) → reference_after q w ≡ reference_after p w
same_reference p q registers pc (Ok word) = same_row_reference p q registers pc word (row_that_fits word)
same_reference p q registers pc (Err f) = refl

same_via : (k : Reads) (p : Processor) (r : _) → via_of (processor_view k p) r ≡ via_of p r
unfolding via_of is_misaddressed is_user
same_via k p r = refl

same_via_some : (k : Reads) (p : Processor) (o : _) → via_reference (processor_view k p) o ≡ via_reference p o
same_via_some k p None = refl
same_via_some k p (Some r) = same_via k p r

reference_timeless : (k : Reads) (s : Scene) → reference_of_step (timeless k s) ≡ reference_of_step s
reference_timeless k s =
    let after : reference_after (processor_view k s.processor) (executable_word s.around.memory (processor_view k s.processor)) ≡ reference_after s.processor (executable_word s.around.memory s.processor) =
    ap (reference_after (processor_view k s.processor)) (same_word k s.around.memory s.processor)
    ∙ same_reference s.processor (processor_view k s.processor) refl refl (executable_word s.around.memory s.processor) in
    λ i. if fetches_timeless k s i then after i else None

pub uses_heard : (sent : List ℕ) (s : Scene) → uses_of (heard sent s) ≡ uses_of s
unfolding uses_of
uses_heard sent s = λ i. record {
  fetch = if fetches_heard sent s i then via_of s.processor (fetch_of s.processor) else None;
  access = via_reference s.processor (if fetches_heard sent s i then reference_after s.processor (executable_word s.around.memory s.processor) else None);
  stored = (step_heard sent s i).stored;
}

pub uses_timeless : (k : Reads) (s : Scene) → AreWithin (reads_of_step s) k → uses_of (timeless k s) ≡ uses_of s
unfolding uses_of
uses_timeless k s within = λ i. record {
  fetch = if fetches_timeless k s i then same_via k s.processor (fetch_of s.processor) i else None;
  access = (same_via_some k s.processor (reference_of_step (timeless k s)) ∙ ap (via_reference s.processor) (reference_timeless k s)) i;
  stored = (step_timeless k s within i).stored;
}

-- the fetch, and rest
pub fetched_timeless : (k : Reads) (memory : List ℕ) (address : ℕ) (p : Processor) → fetched_word memory address (processor_view k p) ≡ fetched_word memory address p
unfolding fetched_word physical_at is_misaddressed is_user
fetched_timeless k memory address p = refl

pub resting_timeless : (k : Reads) (lines : ℕ) (p : Processor) → is_resting lines (processor_view k p) ≡ is_resting lines p
unfolding is_resting is_pending
resting_timeless k lines p = refl

pub ticking_timeless : (k : Reads) (lines : ℕ) (p : Processor) → is_ticking lines (processor_view k p) ≡ is_ticking lines p
unfolding is_ticking is_pending expects_timer
ticking_timeless k lines p = refl
