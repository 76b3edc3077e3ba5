use Rattle.std.proofs.Common.{◌≡◌, ap, refl, subst, sym, ℕ, zero, suc, ◌-◌, ◌^◌, ◌≤◌, true, List, [], ◌∷◌, length, Option, None, Some, Ok, arith, rules}
use Rattle.std.specs.Prelude.{replicate}
use Rattle.std.proofs.lemmas.List.Elements.{All-cons, All-nil}
use Rattle.std.proofs.lemmas.List.{length-replicate}
use Rattle.m161_elf.specs.declared.image.Image.{Image}
use Rattle.m161_elf.specs.declared.image.LoadError.{LoadError}
use Rattle.m161_elf.specs.Image.{first_fault, Loads, IsImage}
use Rattle.m161_tlb.proofs.Apart.{start_apart}
use Rattle.m161_bus.specs.Board.{BoardState}
use Rattle.m161_cpu.specs.Links.{LinkState}
use Rattle.m161_cpu.specs.Processor.{Processor, started_processor, stopped_processor}
use Rattle.m161_machine.specs.declared.conf.Conf.{Conf}
use Rattle.m161_machine.specs.declared.event.Entry.{Entry}
use Rattle.m161_machine.specs.Conf.{is_within_limits}
use Rattle.m161_machine.specs.State.{CoreValue, State, AreAllApart, CountUpTo, state_of}
use Rattle.m161_machine.specs.History.{BootsState, Start, IsLoaded, boot_fault, boot_state}
use Rattle.m161_machine.specs.helpers.History.{start_of}
use Rattle.m161_machine.specs.Sound.{IsLawful, IsSound}
use Rattle.m161_machine.proofs.Starting.{apart_at_boot}

-- what a load answers with an image says of the file

loaded_of : (file : List ℕ) (ram : ℕ) (fault : Option LoadError) (image : Image) →
    Loads file ram fault (Ok image) → (fault ≡ None) × IsImage file ram image.entry image.bytes.items
loaded_of file ram None image h = (refl, h)
loaded_of file ram (Some first) image h = absurd h

pub loaded : (file : List ℕ) (conf : Conf) (image : Image) →
    Loads file conf.ram (first_fault file conf.ram) (Ok image) →
    IsLoaded (record { bytes = image.bytes.items; entry = image.entry; conf = conf })
loaded file conf image h =
    let left = loaded_of file conf.ram (first_fault file conf.ram) image h in (file, left.0, left.1)

-- a state that was just booted
pub boots_state : (file : List ℕ) (conf : Conf) (image : Image) (core : CoreValue) → is_within_limits conf ≡ true →
    Loads file conf.ram (first_fault file conf.ram) (Ok image) →
    core.state ≡ boot_state (start_of image.bytes.items image.entry conf) → BootsState file conf (boot_fault file conf) (Ok core)
boots_state file conf image core within h state_is =
    let left = loaded_of file conf.ram (first_fault file conf.ram) image h in
    rw (within, left.0) record {
      start = start_of image.bytes.items image.entry conf;
      conf_is = refl;
      image = left.1;
      state_is = state_is;
    }

-- a machine that was just booted
pub lawful_at_boot : (start : Start) (base state : State) (log : List Entry) → IsLoaded start → is_within_limits start.conf ≡ true →
    base ≡ boot_state start → state ≡ boot_state start → log ≡ [] →
    IsLawful (record { start = start; base = base; log = log; state = state })
lawful_at_boot start base state log from_file within base_is state_is empty =
    let one : 1 ≤ start.conf.processors = search rules in
    let others = length-replicate (start.conf.processors - 1) stopped_processor in
    rw (base_is, state_is, empty) record {
      replay = refl;
      reached = ([], refl);
      is_loaded = from_file;
      limits_hold = within;
      conf_is = refl;
      log_is_last = omega arith;
      ram_is = from_file.2.size_is;
      size_is = omega (arith, one, others);
    }

-- and so are its processors

none_counted : (n : ℕ) → CountUpTo 0 (replicate n stopped_processor)
none_counted zero = All-nil (λ (p : Processor). p.count ≤ 0)
none_counted (suc n) = All-cons (λ (p : Processor). p.count ≤ 0) stopped_processor (replicate n stopped_processor) (omega arith) (none_counted n)

pub sound_at_boot : (start : Start) (processors : List Processor) (memory : List ℕ) (board : BoardState) (links : LinkState) →
    is_within_limits start.conf ≡ true → length memory ≡ start.conf.ram → board.processors ≡ start.conf.processors →
    links.unit ≡ start.conf.link →
    processors ≡ started_processor start.entry 0 0 0 ∷ replicate (start.conf.processors - 1) stopped_processor →
    IsSound (state_of start.conf processors memory board links 0 None)
sound_at_boot start processors memory board links within size number unit processors_are =
    let one : 1 ≤ start.conf.processors = search rules in
    let few : start.conf.processors ≤ 32 = search rules in
    let ram : start.conf.ram ≤ 2 ^ 24 = search rules in
    let others = length-replicate (start.conf.processors - 1) stopped_processor in
    let first : Processor = started_processor start.entry 0 0 0 in
    let rest : List Processor = replicate (start.conf.processors - 1) stopped_processor in
    let long : length processors ≡ suc (length rest) = ap length processors_are in
    record {
      size_is = omega (arith, one, others, number, long);
      few = omega (arith, few, number);
      small = omega (arith, ram, size);
      limits_hold = within;
      counts = subst (CountUpTo 0) (sym processors_are) (All-cons (λ (p : Processor). p.count ≤ 0) first rest (omega arith) (none_counted (start.conf.processors - 1)));
      apart = λ strict. subst AreAllApart (sym processors_are) (apart_at_boot first (start.conf.processors - 1) start_apart);
      unit_is = unit;
    }
