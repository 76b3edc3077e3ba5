use Rattle.std.proofs.Common.{◌≡◌, ◌∙◌, refl, sym, ap, subst, ℕ, ◌+◌, ◌*◌, ◌/◌, ◌%◌, ◌^◌, Bool, true, false, length, Option, None, Some, Result, Ok, Err, slice_get}
use Rattle.std.specs.Prelude.{if◌then◌else◌, not, ◌&&◌, option_and_then}
use Rattle.m161_isa.specs.Address.{unmapped}
use Rattle.m161_isa.specs.declared.instr.Instr.TheVariants as instrs
use Rattle.m161_isa.specs.declared.instr.LoadOp.{LoadOp}
use Rattle.m161_isa.specs.declared.instr.LoadOp.TheVariants as load
use Rattle.m161_tlb.specs.declared.row.Row.{Row as TlbRow}
use Rattle.m161_tlb.specs.Rows.{find_row}
use Rattle.m161_cop0.specs.declared.register.Register.TheVariants as registers
use Rattle.m161_cop0.specs.Registers.{number_of_register}
use Rattle.m161_cop0.specs.Control.{Control, identifier_of, read_of}
use Rattle.m161_cpu.specs.declared.uses.Via.{Via}
use Rattle.m161_cpu.specs.Fetch.{fetched_word, word_found}
use Rattle.m161_cpu.specs.Processor.{Processor}
use Rattle.m161_cpu.specs.Scene.{Scene, and_then}
use Rattle.m161_cpu.specs.Step.{executable_word, is_unusable, usable, word_at_pc}
use Rattle.m161_cpu.specs.Translation.{by_row, by_segment, is_misaddressed, is_store, physical, physical_at, through_row}
use Rattle.m161_cpu.specs.Uses.{Reference, fetches, reference_after, reference_in, reference_of_step, translated, uses_of, via_in, via_of, via_reference, via_row}
use Rattle.m161_cpu.specs.UsesLaw.{address_of}
use Rattle.m161_cpu.specs.helpers.Uses.{address_by, reference_by, width_of_load}
use Rattle.m161_machine.specs.State.{State, processor_at}
use Rattle.m161_machine.specs.Uses.{uses_in}
use Rattle.m161_trace.specs.Loads.{loads_by, loads_from, physical_if, word_around}
use Rattle.m161_trace.specs.helpers.Loads.{IsLoadFrom, IsReached, Locates}
use Rattle.m161_replay.specs.Seen.{fetched_next, loaded_next, scene_in}
use Rattle.m161_replay.specs.helpers.Loads.{IsLoad, direct}

-- The load of a Step, before it is made.

-- where a translation leads

by_flags : {F : Type 0} (p : Processor) (r : Reference) (i : ℕ) (row : TlbRow) (v st d : Bool) (e f : F) (to : _) →
    ◌≡◌ {A = Result _ F} (if not v then Err e else if st && not d then Err f else Ok (physical (row.frame * 2 ^ 12 + r.address % 2 ^ 12) (Some i))) (Ok to) →
    slice_get p.rows i ≡ Some row → st ≡ false → Locates p r.address to.at (via_row p r.address to.row)
by_flags p r i row false st d e f to h is loads = absurd (cc)
by_flags p r i row true true d e f to h is loads = absurd (cc)
by_flags p r i row true false d e f to h is loads =
    let k : physical (row.frame * 2 ^ 12 + r.address % 2 ^ 12) (Some i) ≡ to = cc in
    subst (λ t. Locates p r.address t.at (via_row p r.address t.row)) k (row, is, refl)

by_entry : (p : Processor) (r : Reference) (i : ℕ) (here : Option TlbRow) (to : _) → through_row r.access r.address i here ≡ Ok to → slice_get p.rows i ≡ here → is_store r.access ≡ false →
    Locates p r.address to.at (via_row p r.address to.row)
by_entry p r i None to h is loads = absurd (cc)
by_entry p r i (Some row) to h is loads = by_flags p r i row row.v (is_store r.access) row.d _ _ to h is loads

by_find : (p : Processor) (r : Reference) (found : Option ℕ) (to : _) → by_row r.access r.address p.rows found ≡ Ok to → is_store r.access ≡ false →
    Locates p r.address to.at (via_row p r.address to.row)
by_find p r None to h loads = absurd (cc)
by_find p r (Some i) to h loads = by_entry p r i (slice_get p.rows i) to h refl loads

by_test : (p : Processor) (r : Reference) (wrong : Bool) (direct : Option ℕ) (e : _) (to : _) → (if wrong then Err e else by_segment r.access r.address p direct) ≡ Ok to →
    unmapped r.address ≡ direct → is_store r.access ≡ false → Locates p r.address to.at (via_row p r.address to.row)
by_test p r true direct e to h is loads = absurd (cc)
by_test p r false (Some at) e to h is loads =
    let k : physical at None ≡ to = cc in
    subst (λ t. Locates p r.address t.at (via_row p r.address t.row)) k is
by_test p r false None e to h is loads =
    by_find p r (find_row p.rows (r.address / 2 ^ 12) (identifier_of p.control)) to h loads

located : (p : Processor) (r : Reference) (to : _) → translated p r ≡ Ok to → is_store r.access ≡ false → Locates p r.address to.at (via_row p r.address to.row)
located p r to h loads = by_test p r (is_misaddressed r.width r.address p) (unmapped r.address) _ to h refl loads

-- through a row

reached_by : (p : Processor) (r : Reference) (v : Via) (x : Result _ _) → translated p r ≡ x → Some v ≡ via_in p r.address x → IsReached p r (Some v)
unfolding physical_at
reached_by p r v (Err f) at is = absurd (let bad : ◌≡◌ {A = Option Via} (Some v) None = is in cc)
reached_by p r v (Ok to) at is = record {
  at = to.at;
  address_is = rw at refl;
  locates = λ loads. subst (Locates p r.address to.at) (sym is) (located p r to at loads);
}

pub reached : (p : Processor) (r : Reference) (v : Via) → Some v ≡ via_of p r → IsReached p r (Some v)
unfolding via_of
reached p r v is = reached_by p r v (translated p r) refl is

pub from_load : (width address : ℕ) (r : Reference) → IsLoad width address r → IsLoadFrom address r
from_load width address r load = record { loads = load.loads; address_is = load.address_is }

-- through none

direct_err : (p : Processor) (r : Reference) (wrong : Bool) (at : Option ℕ) (e f : _) → (if wrong then Err e else by_segment r.access r.address p at) ≡ Err f →
    ◌≡◌ {A = Option ℕ} (if wrong then None else at) None
direct_err p r true at e f h = refl
direct_err p r false (Some at) e f h = absurd (cc)
direct_err p r false None e f h = refl

direct_ok : (p : Processor) (r : Reference) (wrong : Bool) (e : _) (to : _) → (if wrong then Err e else by_segment r.access r.address p (unmapped r.address)) ≡ Ok to →
    unmapped r.address ≡ Some to.at → (if wrong then None else unmapped r.address) ≡ Some to.at
direct_ok p r true e to h is = absurd (cc)
direct_ok p r false e to h is = is

direct_by : (p : Processor) (r : Reference) (x : Result _ _) → translated p r ≡ x → is_store r.access ≡ false → None ≡ via_in p r.address x →
    direct r.width r.address p ≡ physical_if (address_of p r)
unfolding physical_at
direct_by p r (Err f) is loads h =
    let none : physical_if (address_of p r) ≡ None = rw is refl in
    direct_err p r (is_misaddressed r.width r.address p) (unmapped r.address) _ f is ∙ sym none
direct_by p r (Ok to) is loads h =
    let at : unmapped r.address ≡ Some to.at = subst (Locates p r.address to.at) (sym h) (located p r to is loads) in
    let some : physical_if (address_of p r) ≡ Some to.at = rw is refl in
    direct_ok p r (is_misaddressed r.width r.address p) _ to is at ∙ sym some

pub direct_is : (p : Processor) (width address : ℕ) (r : Reference) → IsLoad width address r → None ≡ via_of p r → direct width address p ≡ physical_if (address_of p r)
unfolding via_of
direct_is p width address r load h =
    (λ i. direct (sym load.width_is i) (sym load.address_is i) p) ∙ direct_by p r (translated p r) refl load.loads h

-- the reference of a load

pub load_refers : (p : Processor) (op : LoadOp) (rt o b : ℕ) →
    (r : Reference) × (reference_by p (instrs.Load op rt o b) ≡ Some r) × IsLoad (width_of_load op) (address_by p o b) r
unfolding reference_by
load_refers p load.Byte rt o b = (_, refl, record { loads = refl; width_is = refl; address_is = refl })
load_refers p load.ByteUnsigned rt o b = (_, refl, record { loads = refl; width_is = refl; address_is = refl })
load_refers p load.Half rt o b = (_, refl, record { loads = refl; width_is = refl; address_is = refl })
load_refers p load.HalfUnsigned rt o b = (_, refl, record { loads = refl; width_is = refl; address_is = refl })
load_refers p load.Word rt o b = (_, refl, record { loads = refl; width_is = refl; address_is = refl })
load_refers p load.WordLeft rt o b = (_, refl, record { loads = refl; width_is = refl; address_is = refl })
load_refers p load.WordRight rt o b = (_, refl, record { loads = refl; width_is = refl; address_is = refl })
load_refers p load.Linked rt o b = (_, refl, record { loads = refl; width_is = refl; address_is = refl })

pub load_found : (p : Processor) (r : Reference) (width address : ℕ) (o : Option ℕ) (whole : Option Reference) → IsLoad width address r → o ≡ physical_if (address_of p r) → whole ≡ Some r →
    o ≡ option_and_then (loads_from p) whole
load_found p r width address o whole load is found =
    let plain : loads_from p r ≡ physical_if (address_of p r) = rw (load.loads) refl in
    is ∙ sym plain ∙ sym (ap (option_and_then (loads_from p)) found)

-- the reference of a Step, by the word that it fetches

pub refers_if : (s : Scene) (t : Bool) → fetches s ≡ t → reference_of_step s ≡ (if t then reference_after s.processor (executable_word s.around.memory s.processor) else None)
refers_if s t h = ap (λ (x : Bool). if x then reference_after s.processor (executable_word s.around.memory s.processor) else None) h

found : (p : Processor) (w : _) (word : ℕ) → word_found w ≡ Some word → reference_after p (and_then w (usable p.control)) ≡ reference_after p (usable p.control word)
found p (Ok other) word h = let same : other ≡ word = cc in ap (λ x. reference_after p (usable p.control x)) same
found p (Err f) word h = absurd (let bad : ◌≡◌ {A = Option ℕ} None (Some word) = h in cc)

lost : (p : Processor) (w : _) → word_found w ≡ None → reference_after p (and_then w (usable p.control)) ≡ None
lost p (Ok other) h = absurd (let bad : ◌≡◌ {A = Option ℕ} (Some other) None = h in cc)
lost p (Err f) h = refl

used : (p : Processor) (word : ℕ) (bad : Bool) → is_unusable p.control word ≡ bad → reference_after p (usable p.control word) ≡ (if bad then None else reference_in p word)
used p word true h = rw h refl
used p word false h = rw h refl

none_refers : (s : Scene) (t : Bool) → fetches s ≡ t → (if t then fetched_word s.around.memory s.processor.pc s.processor else None) ≡ None → reference_of_step s ≡ None
unfolding fetched_word
none_refers s false h is = refers_if s false h
none_refers s true h is = refers_if s true h ∙ lost s.processor (word_at_pc s.around.memory s.processor) is

some_refers : (s : Scene) (t : Bool) (word : ℕ) (bad : Bool) → fetches s ≡ t → (if t then fetched_word s.around.memory s.processor.pc s.processor else None) ≡ Some word →
    is_unusable s.processor.control word ≡ bad → reference_of_step s ≡ (if bad then None else reference_in s.processor word)
unfolding fetched_word
some_refers s false word bad h is unusable = absurd (let no : ◌≡◌ {A = Option ℕ} None (Some word) = is in cc)
some_refers s true word bad h is unusable =
    refers_if s true h ∙ found s.processor (word_at_pc s.around.memory s.processor) word is ∙ used s.processor word bad unusable

-- the same of a state

pub no_word : (p : ℕ) (s : State) → fetched_next p s ≡ None → None ≡ loaded_next p s
unfolding fetched_next loaded_next
no_word p s is =
    sym (ap (λ r. option_and_then (word_around (length s.memory)) (option_and_then (loads_from (processor_at p s.processors)) r))
    (none_refers (scene_in p s) (fetches (scene_in p s)) refl is))

pub no_use : (p : ℕ) (s : State) (word : ℕ) → fetched_next p s ≡ Some word → is_unusable (processor_at p s.processors).control word ≡ true → None ≡ loaded_next p s
unfolding fetched_next loaded_next
no_use p s word is unusable =
    sym (ap (λ r. option_and_then (word_around (length s.memory)) (option_and_then (loads_from (processor_at p s.processors)) r))
    (some_refers (scene_in p s) (fetches (scene_in p s)) word true refl is unusable))

pub word_loads : (p : ℕ) (s : State) (word : ℕ) (at : Option ℕ) → fetched_next p s ≡ Some word → is_unusable (processor_at p s.processors).control word ≡ false →
    at ≡ loads_by (processor_at p s.processors) word → option_and_then (word_around (length s.memory)) at ≡ loaded_next p s
unfolding fetched_next loaded_next
word_loads p s word at is may at_is =
    ap (option_and_then (word_around (length s.memory))) at_is
    ∙ sym (ap (λ r. option_and_then (word_around (length s.memory)) (option_and_then (loads_from (processor_at p s.processors)) r))
    (some_refers (scene_in p s) (fetches (scene_in p s)) word false refl is may))

pub word_accesses : (p : ℕ) (s : State) (word : ℕ) (via : Option Via) → fetched_next p s ≡ Some word → is_unusable (processor_at p s.processors).control word ≡ false →
    via ≡ (uses_in p s).access → via ≡ via_reference (processor_at p s.processors) (reference_in (processor_at p s.processors) word)
unfolding fetched_next uses_in uses_of
word_accesses p s word via is may via_is =
    via_is ∙ ap (via_reference (processor_at p s.processors)) (some_refers (scene_in p s) (fetches (scene_in p s)) word false refl is may)

pub status_read : (lines : ℕ) (c : Control) → read_of (number_of_register registers.Status) lines c ≡ c.status
unfolding read_of
status_read lines c = refl
