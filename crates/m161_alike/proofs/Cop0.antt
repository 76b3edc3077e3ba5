use Rattle.std.proofs.Common.{◌≡◌, ◌∙◌, refl, sym, ℕ, ◌+◌, ◌^◌, Bool, true, false, Option, None, Some}
use Rattle.std.specs.Prelude.{◌-◌, ◌%◌, ◌==◌, ◌&&◌, ◌||◌, not, if◌then◌else◌}
use Rattle.m161_cop0.specs.declared.register.Register.{Register}
use Rattle.m161_cop0.specs.declared.register.Register.TheVariants as register
use Rattle.m161_cop0.specs.declared.exception.Exception.{Exception}
use Rattle.m161_cop0.specs.declared.exception.Exception.TheVariants as exception
use Rattle.m161_cop0.specs.declared.trap.Trap.{Trap}
use Rattle.m161_cop0.specs.Registers.{register_with, number_of_exception}
use Rattle.m161_cop0.specs.Control.{Control, after_write, read_of, register_word_or_zero, with_probe, with_register_word, with_some_register_word, with_tlb_row}
use Rattle.m161_cop0.specs.Clock.{after_tick}
use Rattle.m161_cop0.specs.Trap.{after_rfe, after_trap, epc_of, push_modes, unit_of, with_address}
use Rattle.m161_alike.specs.declared.reads.Reads.{Reads}
use Rattle.m161_alike.specs.Reads.{AreWithin, reads_of_register}
use Rattle.m161_alike.specs.View.{control_view}

-- The registers of coprocessor 0: an operation that doesn't read time has the same view behind it,
-- whether time was left out before it or not.

-- what is left out twice
pub twice : (known : Bool) (x y : ℕ) → (if known then (if known then x else y) else y) ≡ (if known then x else y)
twice true x y = refl
twice false x y = refl

-- registers with this time
abbrev timed : ℕ → ℕ → ℕ → Control → Control
timed random count age c = record c { random = random; count = count; age = age }

-- an operation that leaves Compare and time as they are
same_time : (k : Reads) (random count age : ℕ) (c : Control) →
    control_view k
    (timed (if k.random then random else 63) (if k.count || not (c.compare == 0) then count else 0) 0 c)
    ≡ control_view k (timed random count age c)
same_time k random count age c = λ i. record c {
  random = twice k.random random 63 i;
  count = twice (k.count || not (c.compare == 0)) count 0 i;
  age = 0;
}

-- one that puts a word into Count
same_random : (k : Reads) (random count age : ℕ) (c : Control) →
    control_view k (timed (if k.random then random else 63) count 0 c)
    ≡ control_view k (timed random count age c)
same_random k random count age c = λ i. record c {
  random = twice k.random random 63 i;
  count = if k.count || not (c.compare == 0) then count else 0;
  age = 0;
}

pub again : (k : Reads) (c : Control) → control_view k (control_view k c) ≡ control_view k c
again k c = same_time k c.random c.count c.age c

-- `mtc0`
written_register : (k : Reads) (r : Register) (word : ℕ) (c : Control) →
    control_view k (with_register_word r word (control_view k c)) ≡ control_view k (with_register_word r word c)
written_register k register.Index word c = same_time k c.random c.count c.age (with_register_word register.Index word c)
written_register k register.Random word c = again k c
written_register k register.EntryLo word c = same_time k c.random c.count c.age (with_register_word register.EntryLo word c)
written_register k register.Context word c = same_time k c.random c.count c.age (with_register_word register.Context word c)
written_register k register.BadVaddr word c = again k c
written_register k register.Count word c = same_random k c.random word c.age (with_register_word register.Count word c)
written_register k register.EntryHi word c = same_time k c.random c.count c.age (with_register_word register.EntryHi word c)
written_register k register.Compare word c = same_random k c.random 0 c.age (with_register_word register.Compare word c)
written_register k register.Status word c = same_time k c.random c.count c.age (with_register_word register.Status word c)
written_register k register.Cause word c = same_time k c.random c.count c.age (with_register_word register.Cause word c)
written_register k register.Epc word c = again k c
written_register k register.Prid word c = again k c

written_some : (k : Reads) (o : Option Register) (word : ℕ) (c : Control) →
    control_view k (with_some_register_word o word (control_view k c)) ≡ control_view k (with_some_register_word o word c)
written_some k None word c = again k c
written_some k (Some r) word c = written_register k r word c

pub written : (k : Reads) (number word : ℕ) (c : Control) →
    control_view k (after_write number word (control_view k c)) ≡ control_view k (after_write number word c)
unfolding after_write
written k number word c = written_some k (register_with number) word c

-- `mfc0`
read_some : (k : Reads) (o : Option Register) (lines : ℕ) (c : Control) → AreWithin (reads_of_register o) k →
    register_word_or_zero o lines (control_view k c) ≡ register_word_or_zero o lines c
read_some k None lines c h = refl
read_some k (Some register.Index) lines c h = refl
read_some k (Some register.Random) lines c h = rw (h.0 refl) refl
read_some k (Some register.EntryLo) lines c h = refl
read_some k (Some register.Context) lines c h = refl
read_some k (Some register.BadVaddr) lines c h = refl
read_some k (Some register.Count) lines c h = rw (h.1 refl) refl
read_some k (Some register.EntryHi) lines c h = refl
read_some k (Some register.Compare) lines c h = refl
read_some k (Some register.Status) lines c h = refl
read_some k (Some register.Cause) lines c h = refl
read_some k (Some register.Epc) lines c h = refl
read_some k (Some register.Prid) lines c h = refl

pub read : (k : Reads) (number lines : ℕ) (c : Control) → AreWithin (reads_of_register (register_with number)) k →
    read_of number lines (control_view k c) ≡ read_of number lines c
unfolding read_of
read k number lines c h = read_some k (register_with number) lines c h

-- `tlbr`, `tlbp` and `rfe`
pub row_put : (k : Reads) (hi lo : ℕ) (c : Control) →
    control_view k (with_tlb_row hi lo (control_view k c)) ≡ control_view k (with_tlb_row hi lo c)
row_put k hi lo c = same_time k c.random c.count c.age (with_tlb_row hi lo c)

pub probed : (k : Reads) (row : Option ℕ) (c : Control) →
    control_view k (with_probe row (control_view k c)) ≡ control_view k (with_probe row c)
probed k None c = same_time k c.random c.count c.age (with_probe None c)
probed k (Some row) c = same_time k c.random c.count c.age (with_probe (Some row) c)

pub returned : (k : Reads) (c : Control) → control_view k (after_rfe (control_view k c)) ≡ control_view k (after_rfe c)
returned k c = same_time k c.random c.count c.age (after_rfe c)

-- a trap
noted : (k : Reads) (e : Exception) (address : ℕ) (c : Control) →
    control_view k (with_address e address (control_view k c)) ≡ control_view k (with_address e address c)
noted k exception.Interrupt address c = again k c
noted k exception.TlbModified address c = same_time k c.random c.count c.age (with_address exception.TlbModified address c)
noted k exception.TlbLoad address c = same_time k c.random c.count c.age (with_address exception.TlbLoad address c)
noted k exception.TlbStore address c = same_time k c.random c.count c.age (with_address exception.TlbStore address c)
noted k exception.AddressErrorLoad address c = same_time k c.random c.count c.age (with_address exception.AddressErrorLoad address c)
noted k exception.AddressErrorStore address c = same_time k c.random c.count c.age (with_address exception.AddressErrorStore address c)
noted k exception.BusErrorFetch address c = again k c
noted k exception.BusErrorData address c = again k c
noted k exception.SystemCall address c = again k c
noted k exception.Breakpoint address c = again k c
noted k exception.ReservedInstruction address c = again k c
noted k exception.CoprocessorUnusable address c = again k c
noted k exception.Overflow address c = again k c

pub trapped : (k : Reads) (trap : Trap) (c : Control) →
    control_view k (after_trap trap (control_view k c)) ≡ control_view k (after_trap trap c)
unfolding after_trap
trapped k trap c = noted k trap.code trap.address (record c {
  status = push_modes c.status;
  epc = epc_of trap;
  branch_delay = trap.slot;
  unit = unit_of trap;
  code = number_of_exception trap.code;
})

-- a tick: without a timer, Count raises nothing

tick_random : (known : Bool) (r : ℕ) →
    (if known then (if (if known then r else 63) == 8 then 63 else (if known then r else 63) - 1) else 63)
    ≡ (if known then (if r == 8 then 63 else r - 1) else 63)
tick_random true r = refl
tick_random false r = refl

never : (test : Bool) → (test && false) ≡ false
never true = refl
never false = refl

tick_due : (known zero : Bool) (n m : ℕ) →
    (((((if known || not zero then n else 0) + 1) % 2 ^ 32 == m) && not zero) ≡ (((n + 1) % 2 ^ 32 == m) && not zero))
tick_due true zero n m = refl
tick_due false true n m = never (((0 + 1) % 2 ^ 32) == m) ∙ sym (never (((n + 1) % 2 ^ 32) == m))
tick_due false false n m = refl

tick_count : (known zero : Bool) (n m : ℕ) →
    (if known || not zero
    then (if ((((if known || not zero then n else 0) + 1) % 2 ^ 32 == m) && not zero) then 0 else ((if known || not zero then n else 0) + 1) % 2 ^ 32)
    else 0)
    ≡ (if known || not zero then (if (((n + 1) % 2 ^ 32 == m) && not zero) then 0 else (n + 1) % 2 ^ 32) else 0)
tick_count true zero n m = refl
tick_count false true n m = refl
tick_count false false n m = refl

pub ticked : (k : Reads) (c : Control) → control_view k (after_tick (control_view k c)) ≡ control_view k (after_tick c)
unfolding after_tick
ticked k c = λ i. record c {
  random = tick_random k.random c.random i;
  count = tick_count k.count (c.compare == 0) c.count c.compare i;
  timer = c.timer || tick_due k.count (c.compare == 0) c.count c.compare i;
  age = 0;
}
