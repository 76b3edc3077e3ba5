use Rattle.std.proofs.Common.{◌≡◌, ◌∙◌, refl, sym, ap, subst, ℕ, ◌+◌, ◌*◌, ◌/◌, ◌%◌, ◌^◌, inl, inr, Bool, true, false, List, length, Option, None, Some, Result, Ok, Err, slice_get}
use Rattle.std.specs.Prelude.{if◌then◌else◌, not, ◌&&◌}
use Rattle.m161_isa.specs.Address.{unmapped}
use Rattle.m161_isa.specs.declared.instr.Instr.{Instr}
use Rattle.m161_isa.specs.declared.instr.Instr.TheVariants as instrs
use Rattle.m161_isa.specs.declared.instr.LoadOp.{LoadOp}
use Rattle.m161_isa.specs.declared.instr.LoadOp.TheVariants as load
use Rattle.m161_isa.specs.declared.table.Row.{Row}
use Rattle.m161_isa.specs.Instr.{row_of_instr, numbers_of_instr}
use Rattle.m161_isa.specs.Table.{row_that_fits, numbers_of}
use Rattle.m161_tlb.specs.declared.row.Row.{Row as TlbRow}
use Rattle.m161_tlb.specs.Rows.{find_row}
use Rattle.m161_ram.specs.Word.{word_at}
use Rattle.m161_cop0.specs.Control.{Control, identifier_of}
use Rattle.m161_cpu.specs.declared.processor.Outcome.TheVariants.{Ran}
use Rattle.m161_cpu.specs.declared.uses.Uses.{Uses}
use Rattle.m161_cpu.specs.declared.uses.Via.{Via}
use Rattle.m161_cpu.specs.Fetch.{fetched_word, word_found}
use Rattle.m161_cpu.specs.Processor.{Processor}
use Rattle.m161_cpu.specs.Scene.{Scene, and_then, around, result_map, scene}
use Rattle.m161_cpu.specs.Step.{Stepped, is_unusable, step_of, step_of_fault, usable}
use Rattle.m161_cpu.specs.Translation.{by_row, by_segment, in_ram, is_misaddressed, is_store, physical, physical_at, through_row}
use Rattle.m161_cpu.specs.Uses.{Reference, fetch_of, fetches, reference_in, reference_by_row, reference_of_row, translated, uses_of, via_row}
use Rattle.m161_cpu.specs.UsesLaw.{AccessesBy, ExecutesBy, FetchesBy, RefersBy, StepUses, UsesBy, UsesNothing, awake, word_from}
use Rattle.m161_cpu.specs.helpers.Uses.{address_by, reference_by, reference_by_some}
use Rattle.m161_machine.specs.State.{State, processor_at, step_result}
use Rattle.m161_machine.specs.Uses.{uses_in}
use Rattle.m161_trace.specs.Loads.{loads_from}
use Rattle.m161_trace.specs.helpers.Loads.{IsLoadFrom, IsReached, Locates, Reaches}

-- The load of a Step that ran.

-- a trap is no run
no_trap : (s : Scene) (f : _) → step_of s ≡ step_of_fault (awake s) f → (step_of s).outcome ≡ Ran → ⊥
no_trap s f is ran =
    let bad : (step_of_fault (awake s) f).outcome ≡ Ran = ap (λ (x : Stepped). x.outcome) (sym is) ∙ ran in
    absurd (cc)

-- the word that is executed is the one that is fetched

by_usable : {F : Type 0} (t : Bool) (w word other : ℕ) (f : F) → ◌≡◌ {A = Result ℕ F} (if t then Err f else Ok w) (Ok other) → w ≡ word → other ≡ word
by_usable true w word other f h is = absurd (cc)
by_usable false w word other f h is = cc

same_word : (memory : List ℕ) (c : Control) (x : Result ℕ _) (word other : ℕ) →
    and_then (result_map (word_at memory) x) (usable c) ≡ Ok other → word_found (result_map (word_at memory) x) ≡ Some word → other ≡ word
same_word memory c (Err f) word other h is = absurd (let bad : ◌≡◌ {A = Option ℕ} None (Some word) = is in cc)
same_word memory c (Ok at) word other h is =
    let e : ◌≡◌ {A = Option ℕ} (Some (word_at memory at)) (Some word) = is in
    by_usable (is_unusable c (word_at memory at)) (word_at memory at) word other _ h (cc)

fetched_is : (memory : List ℕ) (p : Processor) (to : _) (word : ℕ) → translated p (fetch_of p) ≡ Ok to → fetched_word memory p.pc p ≡ Some word →
    word_found (result_map (word_at memory) (in_ram (fetch_of p).access 4 (length memory) to.at)) ≡ Some word
unfolding fetched_word physical_at
fetched_is memory p to word h is =
    let e : fetched_word memory p.pc p ≡ word_found (result_map (word_at memory) (in_ram (fetch_of p).access 4 (length memory) to.at)) = rw h refl in
    sym e ∙ is

-- where a translation leads

by_flags : {F : Type 0} (p : Processor) (r : Reference) (i : ℕ) (row : TlbRow) (v st d : Bool) (e f : F) (to : _) →
    ◌≡◌ {A = Result _ F} (if not v then Err e else if st && not d then Err f else Ok (physical (row.frame * 2 ^ 12 + r.address % 2 ^ 12) (Some i))) (Ok to) →
    slice_get p.rows i ≡ Some row → st ≡ false → Locates p r.address to.at (via_row p r.address to.row)
by_flags p r i row false st d e f to h is loads = absurd (cc)
by_flags p r i row true true d e f to h is loads = absurd (cc)
by_flags p r i row true false d e f to h is loads =
    let k : physical (row.frame * 2 ^ 12 + r.address % 2 ^ 12) (Some i) ≡ to = cc in
    subst (λ t. Locates p r.address t.at (via_row p r.address t.row)) k (row, is, refl)

by_entry : (p : Processor) (r : Reference) (i : ℕ) (here : Option TlbRow) (to : _) → through_row r.access r.address i here ≡ Ok to → slice_get p.rows i ≡ here → is_store r.access ≡ false →
    Locates p r.address to.at (via_row p r.address to.row)
by_entry p r i None to h is loads = absurd (cc)
by_entry p r i (Some row) to h is loads = by_flags p r i row row.v (is_store r.access) row.d _ _ to h is loads

by_find : (p : Processor) (r : Reference) (found : Option ℕ) (to : _) → by_row r.access r.address p.rows found ≡ Ok to → is_store r.access ≡ false →
    Locates p r.address to.at (via_row p r.address to.row)
by_find p r None to h loads = absurd (cc)
by_find p r (Some i) to h loads = by_entry p r i (slice_get p.rows i) to h refl loads

by_test : (p : Processor) (r : Reference) (wrong : Bool) (direct : Option ℕ) (e : _) (to : _) → (if wrong then Err e else by_segment r.access r.address p direct) ≡ Ok to →
    unmapped r.address ≡ direct → is_store r.access ≡ false → Locates p r.address to.at (via_row p r.address to.row)
by_test p r true direct e to h is loads = absurd (cc)
by_test p r false (Some at) e to h is loads =
    let k : physical at None ≡ to = cc in
    subst (λ t. Locates p r.address t.at (via_row p r.address t.row)) k is
by_test p r false None e to h is loads =
    by_find p r (find_row p.rows (r.address / 2 ^ 12) (identifier_of p.control)) to h loads

located : (p : Processor) (r : Reference) (to : _) → translated p r ≡ Ok to → is_store r.access ≡ false → Locates p r.address to.at (via_row p r.address to.row)
located p r to h loads = by_test p r (is_misaddressed r.width r.address p) (unmapped r.address) _ to h refl loads

-- the reference of a Step that ran is reached

by_access : (s : Scene) (fetch : Option Via) (word : ℕ) (r : Reference) (x : Result _ _) → translated s.processor r ≡ x → AccessesBy s fetch word r x → (step_of s).outcome ≡ Ran →
    IsReached s.processor r (uses_of s).access
unfolding physical_at
by_access s fetch word r (Err f) is h ran = absurd (no_trap s f h.0 ran)
by_access s fetch word r (Ok to) is h ran =
    let via : (uses_of s).access ≡ via_row s.processor r.address to.row = ap (λ (u : Uses). u.access) h.1 in
    record {
      at = to.at;
      address_is = rw is refl;
      locates = λ loads. subst (Locates s.processor r.address to.at) (sym via) (located s.processor r to is loads);
    }

by_word : (s : Scene) (fetch : Option Via) (word : ℕ) (r : Reference) (x : Result ℕ _) → ((other : ℕ) → x ≡ Ok other → other ≡ word) → reference_in s.processor word ≡ Some r →
    ExecutesBy s fetch x → (step_of s).outcome ≡ Ran → IsReached s.processor r (uses_of s).access
by_word s fetch word r (Err f) same is h ran = absurd (no_trap s f h.0 ran)
by_word s fetch word r (Ok other) same is h ran =
    let here : reference_in s.processor other ≡ Some r = ap (reference_in s.processor) (same other refl) ∙ is in
    by_access s fetch other r (translated s.processor r) refl (subst (RefersBy s fetch other) here h) ran

by_fetch : (s : Scene) (word : ℕ) (r : Reference) (x : Result _ _) → translated s.processor (fetch_of s.processor) ≡ x → fetched_word s.around.memory s.processor.pc s.processor ≡ Some word →
    reference_in s.processor word ≡ Some r → FetchesBy s x → (step_of s).outcome ≡ Ran → IsReached s.processor r (uses_of s).access
by_fetch s word r (Err f) at fetched is h ran = absurd (no_trap s f h.0 ran)
by_fetch s word r (Ok to) at fetched is h ran =
    by_word s _ word r (word_from s.around.memory to.at s.processor)
    (λ other made. same_word s.around.memory s.processor.control (in_ram (fetch_of s.processor).access 4 (length s.around.memory) to.at) word other made
    (fetched_is s.around.memory s.processor to word at fetched)) is h ran

rests : (s : Scene) → UsesNothing s → (step_of s).outcome ≡ Ran → ⊥
rests s (inl idle, uses) ran = absurd (cc)
rests s (inr trap, uses) ran =
    let bad = sym (ap (λ (x : Stepped). x.outcome) trap) ∙ ran in
    absurd (cc)

by_uses : (s : Scene) (word : ℕ) (r : Reference) (t : Bool) → UsesBy s t → fetched_word s.around.memory s.processor.pc s.processor ≡ Some word →
    reference_in s.processor word ≡ Some r → (step_of s).outcome ≡ Ran → IsReached s.processor r (uses_of s).access
by_uses s word r false h fetched is ran = absurd (rests s h ran)
by_uses s word r true h fetched is ran =
    by_fetch s word r (translated s.processor (fetch_of s.processor)) refl fetched is h ran

pub reaches : (p : ℕ) (s : State) (word : ℕ) (via : Option Via) → StepUses → (step_result p s).outcome ≡ Ran →
    fetched_word s.memory (processor_at p s.processors).pc (processor_at p s.processors) ≡ Some word → via ≡ (uses_in p s).access →
    Reaches (processor_at p s.processors) word via
unfolding step_result uses_in
reaches p s word via law ran fetched is =
    let here = scene (processor_at p s.processors) (around p s.memory s.board s.links s.conf.strict) in
    λ r refers. subst (IsReached (processor_at p s.processors) r) (sym is) (by_uses here word r (fetches here) (law here) fetched refers ran)

-- a load's physical address

pub through_none : (p : Processor) (r : Reference) (address : ℕ) (via : Option Via) (reached : IsReached p r via) → via ≡ None → IsLoadFrom address r → unmapped address ≡ Some reached.at
through_none p r address via reached none load =
    let h : Locates p r.address reached.at None = subst (Locates p r.address reached.at) none (reached.locates load.loads) in
    ap unmapped (sym load.address_is) ∙ h

same_row : (a b : TlbRow) (o : Option TlbRow) → o ≡ Some a → o ≡ Some b → a ≡ b
same_row a b o x y = let e : ◌≡◌ {A = Option TlbRow} (Some a) (Some b) = sym x ∙ y in cc

pub through_some : (p : Processor) (r : Reference) (address : ℕ) (via : Option Via) (v : Via) (row : TlbRow) (reached : IsReached p r via) → via ≡ Some v → slice_get p.rows v.row ≡ Some row →
    IsLoadFrom address r → row.frame * 2 ^ 12 + address % 2 ^ 12 ≡ reached.at
through_some p r address via v row reached some here load =
    let h : Locates p r.address reached.at (Some v) = subst (Locates p r.address reached.at) some (reached.locates load.loads) in
    ap (λ (x : TlbRow). x.frame * 2 ^ 12 + address % 2 ^ 12) (same_row row h.0 (slice_get p.rows v.row) here h.1)
    ∙ ap (λ a. h.0.frame * 2 ^ 12 + a % 2 ^ 12) (sym load.address_is) ∙ sym h.2

-- the reference of a load

pub load_refers : (p : Processor) (op : LoadOp) (rt o b : ℕ) → (r : Reference) × (reference_by p (instrs.Load op rt o b) ≡ Some r) × IsLoadFrom (address_by p o b) r
unfolding reference_by
load_refers p load.Byte rt o b = (_, refl, record { loads = refl; address_is = refl })
load_refers p load.ByteUnsigned rt o b = (_, refl, record { loads = refl; address_is = refl })
load_refers p load.Half rt o b = (_, refl, record { loads = refl; address_is = refl })
load_refers p load.HalfUnsigned rt o b = (_, refl, record { loads = refl; address_is = refl })
load_refers p load.Word rt o b = (_, refl, record { loads = refl; address_is = refl })
load_refers p load.WordLeft rt o b = (_, refl, record { loads = refl; address_is = refl })
load_refers p load.WordRight rt o b = (_, refl, record { loads = refl; address_is = refl })
load_refers p load.Linked rt o b = (_, refl, record { loads = refl; address_is = refl })

referred : (p : Processor) (word : ℕ) (i : Instr) (o : Option Row) → numbers_of_instr i ≡ numbers_of word o → reference_by_some p i o ≡ reference_by_row p word o
referred p word i (Some r) numbers = ap (reference_of_row p r) numbers
referred p word i None numbers = refl

pub word_refers : (p : Processor) (word : ℕ) (i : Instr) → row_of_instr i ≡ row_that_fits word → numbers_of_instr i ≡ numbers_of word (row_that_fits word) →
    reference_by p i ≡ reference_in p word
unfolding reference_by
word_refers p word i row numbers =
    ap (reference_by_some p i) row ∙ referred p word i (row_that_fits word) numbers

pub load_found : (p : Processor) (r : Reference) (address : ℕ) (via : Option Via) (found : Option ℕ) (reached : IsReached p r via) → IsLoadFrom address r →
    found ≡ Some reached.at → found ≡ loads_from p r
load_found p r address via found reached load is =
    is ∙ sym (rw (load.loads, reached.address_is) refl)
