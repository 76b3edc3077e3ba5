use Rattle.std.proofs.Common.{◌≡◌, ◌⊎◌, ◌∙◌, ℕ, zero, suc, List, [], ◌∷◌, ◌++◌, ◌<◌, ◌≤◌, ◌+◌, arith, get_or, length, map, take, Option, None, Some, Ok, Err, Bor, ap, inl, inr, refl, sym, subst}
use Rattle.std.specs.Prelude.{IfErr, IfOk, Result, option_map, slice_get}
use Rattle.std.proofs.lemmas.List.{length-map, take_all}
use Rattle.std.proofs.lemmas.Option.{slice_get-get_or}
use Rattle.m161_audit.specs.declared.finding.AuditError.{AuditError}
use Rattle.m161_audit.specs.declared.finding.AuditError.TheVariants as audit
use Rattle.m161_audit.specs.declared.watch.Watch.{Watch as WatchOf}
use Rattle.m161_audit.specs.Watch.{AreGood}
use Rattle.m161_debug.specs.Commands.{IsPlace}
use Rattle.m161_judge.specs.declared.verdict.Judged.{Judged}
use Rattle.m161_judge.specs.Judge.{BootsState, IsUnjudged, Judges}
use Rattle.m161_machine.specs.declared.event.Event.{Event}
use Rattle.m161_machine.specs.State.{State}
use Rattle.m161_machine.specs.declared.event.Refusal.{Refusal}
use Rattle.m161_machine.specs.declared.event.Refusal.TheVariants as refusal
use Rattle.s161_base.specs.Faults.{BootsIn, fault_of_first}
use Rattle.s161_run.specs.Behind.{RefusesFirst}
use Rattle.m161_machine.specs.declared.conf.BootError.{BootError}
use Rattle.m161_machine.specs.declared.conf.Conf.{Conf as ConfValue}
use Rattle.m161_machine.specs.History.{boot_fault}
use Rattle.s161_search.specs.Audits.{fault_of_audit}
use Rattle.s161_base.proofs.Failing.{boot_failed, refused}
use Rattle.s161_base.specs.Faults.{fault_of_boot}
use Rattle.s161_base.specs.declared.fault.Fault.{Fault}
use Rattle.s161_base.specs.declared.fault.Fault.TheVariants.{After, Conf, File, Image, Input, Log, LogImage, LogMachine, Memory, Never, Output, Schedule, Source, Threads, Touches, Watch, Watches, Word}
use Rattle.s161_command.specs.declared.task.SearchTask.{SearchTask}
use Rattle.s161_base.specs.declared.finished.Finished.{Finished}
use Rattle.s161_search.specs.Given.{Given, IsRead, criteria_of}
use Rattle.s161_search.specs.Never.{AreAddresses, symbols_in}
use Rattle.s161_search.specs.declared.inputs.Inputs.{Inputs}
use Rattle.s161_search.specs.helpers.Inputs.{given_of}
use Rattle.s161_search.specs.helpers.Begun.{IsBareFault, IsFirstFault}
use Rattle.s161_search.specs.helpers.Delayed.{IsNoMemory}
use Rattle.s161_search.specs.helpers.Never.{HasNever, IsNeverFault, IsNoAddress, IsWordFault, PrintsFor, with_addresses}
use Rattle.s161_search.specs.Searches.{IsSearchFault, IsSearched, Prints}
use Rattle.s161_search.specs.Runs.{IsRunFault}

-- Why a search ends early.

-- a boot's answer
bare_failed : (given : Given) (x : BootError) → (boot_fault given.file given.conf ≡ Some x) ⊎ (x ≡ BootError.NoMemory) →
    IsBareFault given (fault_of_boot given.file given.conf.ram x)
bare_failed given x h =
    boot_failed (IsBareFault given) given.file given.conf (fault_of_boot given.file given.conf.ram x) (λ outside. outside) (λ why is. is) tt
    (refused given.file given.conf x h)

-- a machine that isn't booted
pub unbooted : (given : Given) (fault : Option BootError) (e : AuditError) →
    boot_fault given.file given.conf ≡ fault → BootsState given.file given.conf fault (Err e) → IsBareFault given (fault_of_audit given.file given.conf.ram e)
unbooted given (Some first) (audit.Boot x) has h =
    let same : first ≡ x = cc in
    bare_failed given x (inl (has ∙ ap (λ e. Some e) same))
unbooted given (Some first) (audit.BadWatch k) has h = absurd cc
unbooted given None (audit.Boot x) has h = let same : x ≡ BootError.NoMemory = cc in bare_failed given x (inr same)
unbooted given None (audit.BadWatch k) has h = absurd cc

-- a run of which nothing can be kept
pub unkept : (given : Given) (s : State) (fault : Option BootError) (watches : List WatchOf) (e : AuditError) →
    watches ≡ given.watches → boot_fault given.file given.conf ≡ fault → BootsState given.file given.conf fault (Ok s) →
    IsUnjudged s.conf watches e → IsBareFault given (fault_of_audit given.file given.conf.ram e)
unkept given s (Some first) watches e same has boots h = absurd boots
unkept given s None watches (audit.Boot x) same has boots h = bare_failed given x (inr h)
unkept given s None watches (audit.BadWatch k) same has boots h =
    let conf : s.conf ≡ given.conf = ap (λ (x : State). x.conf) boots.state_is ∙ boots.conf_is in
    let bad = subst (λ ws. IsUnjudged given.conf ws (audit.BadWatch k)) same
    (subst (λ (c : ConfValue). IsUnjudged c watches (audit.BadWatch k)) conf h) in
    (has, bad.0, bad.1)

-- of what was read alone
pub judge_failed : (given : Given) (events : List Event) (fault : Option BootError) (e : AuditError) →
    boot_fault given.file given.conf ≡ fault → Judges given.file given.conf fault events (criteria_of given) (Err e) →
    IsBareFault given (fault_of_audit given.file given.conf.ram e)
judge_failed given events (Some first) (audit.Boot x) has h =
    let same : first ≡ x = cc in
    bare_failed given x (inl (has ∙ ap (λ e. Some e) same))
judge_failed given events (Some first) (audit.BadWatch k) has h = absurd cc
judge_failed given events None (audit.Boot x) has h = bare_failed given x (inr h)
judge_failed given events None (audit.BadWatch k) has h = (has, h.0, h.1)

pub judged_good : (given : Given) (events : List Event) (fault : Option BootError) (judged : Option Judged) →
    Judges given.file given.conf fault events (criteria_of given) (Ok judged) → (k : ℕ) → AreGood given.conf.ram given.watches k
judged_good given events (Some first) judged h = absurd cc
judged_good given events None judged h = h.0

-- a fault of a run is one of the words too
pub run_is_never : (task : SearchTask) (words : List (List ℕ)) (given : Given) (addresses : List ℕ) (fault : Fault) → AreAddresses (symbols_in task given) words addresses →
    IsRunFault given fault → IsNeverFault task words given fault
run_is_never task words given addresses Conf are h = h
run_is_never task words given addresses (Image e) are h = h
run_is_never task words given addresses (Watch k) are h = h
run_is_never task words given addresses (After k why) are h = (addresses, are, h)
run_is_never task words given addresses Memory are h = tt
run_is_never task words given addresses (Never word) are h = absurd h
run_is_never task words given addresses (Touches word) are h = absurd h
run_is_never task words given addresses (File name why) are h = absurd h
run_is_never task words given addresses (Schedule n) are h = absurd h
run_is_never task words given addresses (Log n) are h = absurd h
run_is_never task words given addresses (Watches n) are h = absurd h
run_is_never task words given addresses (Threads cause) are h = absurd h
run_is_never task words given addresses (Input why) are h = absurd h
run_is_never task words given addresses Word are h = absurd h
run_is_never task words given addresses LogMachine are h = absurd h
run_is_never task words given addresses LogImage are h = absurd h
run_is_never task words given addresses Output are h = absurd h
run_is_never task words given addresses (Source e) are h = absurd h

-- with other addresses a run has the same faults
same_fault : (given : Given) (addresses : List ℕ) (fault : Fault) → IsRunFault (with_addresses given addresses) fault → IsRunFault given fault
same_fault given addresses Conf h = h
same_fault given addresses (Image e) h = h
same_fault given addresses (Watch k) h = h
same_fault given addresses (After k why) h = h
same_fault given addresses Memory h = h
same_fault given addresses (Never word) h = absurd h
same_fault given addresses (Touches word) h = absurd h
same_fault given addresses (File name why) h = absurd h
same_fault given addresses (Schedule n) h = absurd h
same_fault given addresses (Log n) h = absurd h
same_fault given addresses (Watches n) h = absurd h
same_fault given addresses (Threads cause) h = absurd h
same_fault given addresses (Input why) h = absurd h
same_fault given addresses Word h = absurd h
same_fault given addresses LogMachine h = absurd h
same_fault given addresses LogImage h = absurd h
same_fault given addresses Output h = absurd h
same_fault given addresses (Source e) h = absurd h

pub other_fault : (task : SearchTask) (words : List (List ℕ)) (given other : Given) (addresses : List ℕ) (fault : Fault) → other ≡ with_addresses given addresses →
    AreAddresses (symbols_in task given) words addresses → IsRunFault other fault → IsNeverFault task words given fault
other_fault task words given other addresses fault same are h =
    run_is_never task words given addresses fault are (same_fault given addresses fault (subst (λ g. IsRunFault g fault) same h))

-- before the words are looked at, the same, but for an event that comes first

pub bare_is_run : (given : Given) (fault : Fault) → IsBareFault given fault → IsRunFault given fault
bare_is_run given Conf h = h
bare_is_run given (Image e) h = h
bare_is_run given (Watch k) h = h
bare_is_run given Memory h = h
bare_is_run given (After k why) h = absurd h
bare_is_run given (Never word) h = absurd h
bare_is_run given (Touches word) h = absurd h
bare_is_run given (File name why) h = absurd h
bare_is_run given (Schedule n) h = absurd h
bare_is_run given (Log n) h = absurd h
bare_is_run given (Watches n) h = absurd h
bare_is_run given (Threads cause) h = absurd h
bare_is_run given (Input why) h = absurd h
bare_is_run given Word h = absurd h
bare_is_run given LogMachine h = absurd h
bare_is_run given LogImage h = absurd h
bare_is_run given Output h = absurd h
bare_is_run given (Source e) h = absurd h

pub bare_is_never : (task : SearchTask) (words : List (List ℕ)) (given : Given) (fault : Fault) → IsBareFault given fault → IsNeverFault task words given fault
bare_is_never task words given Conf h = h
bare_is_never task words given (Image e) h = h
bare_is_never task words given (Watch k) h = h
bare_is_never task words given Memory h = h
bare_is_never task words given (After k why) h = absurd h
bare_is_never task words given (Never word) h = absurd h
bare_is_never task words given (Touches word) h = absurd h
bare_is_never task words given (File name why) h = absurd h
bare_is_never task words given (Schedule n) h = absurd h
bare_is_never task words given (Log n) h = absurd h
bare_is_never task words given (Watches n) h = absurd h
bare_is_never task words given (Threads cause) h = absurd h
bare_is_never task words given (Input why) h = absurd h
bare_is_never task words given Word h = absurd h
bare_is_never task words given LogMachine h = absurd h
bare_is_never task words given LogImage h = absurd h
bare_is_never task words given Output h = absurd h
bare_is_never task words given (Source e) h = absurd h

-- memory was refused
pub memory_is_run : (given : Given) (fault : Fault) → IsNoMemory fault → IsRunFault given fault
memory_is_run given fault h = subst (IsRunFault given) (sym h) tt

-- the image can be booted
pub boots_none : (given : Given) (s : State) (fault : Option BootError) → boot_fault given.file given.conf ≡ fault →
    BootsState given.file given.conf fault (Ok s) → boot_fault given.file given.conf ≡ None
boots_none given s (Some first) has h = absurd h
boots_none given s None has h = has

-- an event of the first ones is refused
refused_first : (given : Given) (s : State) (k : ℕ) (why : Refusal) → ((j : ℕ) → AreGood given.conf.ram given.watches j) → BootsIn given.file given.conf s →
    RefusesFirst s given.first k why → IsRunFault given (fault_of_first k why)
refused_first given s k refusal.NoMemory good boots h = tt
refused_first given s k refusal.BadProcessor good boots h = (good, record { booted = s; boots = boots; refuses = h; not_memory = λ same. absurd (cc) })
refused_first given s k refusal.Off good boots h = (good, record { booted = s; boots = boots; refuses = h; not_memory = λ same. absurd (cc) })
refused_first given s k refusal.Worn good boots h = (good, record { booted = s; boots = boots; refuses = h; not_memory = λ same. absurd (cc) })
refused_first given s k refusal.KeyFull good boots h = (good, record { booted = s; boots = boots; refuses = h; not_memory = λ same. absurd (cc) })
refused_first given s k refusal.NothingSent good boots h = (good, record { booted = s; boots = boots; refuses = h; not_memory = λ same. absurd (cc) })

pub first_refused : (given : Given) (s : State) (fault : Fault) → ((j : ℕ) → AreGood given.conf.ram given.watches j) → BootsIn given.file given.conf s →
    IsFirstFault given s fault → IsRunFault given fault
first_refused given s fault good boots (inl is) = subst (IsRunFault given) (sym is) tt
first_refused given s fault good boots (inr (k, why, h, is)) = subst (IsRunFault given) (sym is) (refused_first given s k why good boots h)

-- a word stands for no address
pub word_failed : (task : SearchTask) (words : List (List ℕ)) (given : Given) (fault : Fault) → boot_fault given.file given.conf ≡ None →
    ((k : ℕ) → AreGood given.conf.ram given.watches k) → IsWordFault (symbols_in task given) words fault → IsNeverFault task words given fault
word_failed task words given (Never word) boots good h = record { is_unknown = h; boots = boots; good = good }
word_failed task words given (After k why) boots good h = absurd h
word_failed task words given (Touches word) boots good h = absurd h
word_failed task words given Memory boots good h = tt
word_failed task words given Conf boots good h = absurd h
word_failed task words given (Image e) boots good h = absurd h
word_failed task words given (Watch k) boots good h = absurd h
word_failed task words given (File name why) boots good h = absurd h
word_failed task words given (Schedule n) boots good h = absurd h
word_failed task words given (Log n) boots good h = absurd h
word_failed task words given (Watches n) boots good h = absurd h
word_failed task words given (Threads cause) boots good h = absurd h
word_failed task words given (Input why) boots good h = absurd h
word_failed task words given Word boots good h = absurd h
word_failed task words given LogMachine boots good h = absurd h
word_failed task words given LogImage boots good h = absurd h
word_failed task words given Output boots good h = absurd h
word_failed task words given (Source e) boots good h = absurd h

-- what was read, with other addresses
pub read_with : (task : SearchTask) (files : List ℕ → Option (List ℕ)) (image : Option (List ℕ)) (given : Given) (addresses : List ℕ) →
    IsRead task files image given → IsRead task files image (with_addresses given addresses)
read_with task files image given addresses is = record {
  are_inputs = is.are_inputs;
  are_all = is.are_all;
  are_watches = is.are_watches;
  is_output = is.is_output;
}

-- so is the search
pub search_failed : (task : SearchTask) (never : List (List ℕ)) (files : List ℕ → Option (List ℕ)) (image : Option (List ℕ)) (given : Given) (fault : Fault) →
    IsRead task files image given → IsNeverFault task never given fault → IsSearchFault task never files image fault
search_failed task never files image given Conf is h = (given, is, h)
search_failed task never files image given (Image e) is h = (given, is, h)
search_failed task never files image given (Watch k) is h = (given, is, h)
search_failed task never files image given (Never word) is h = (given, is, h)
search_failed task never files image given (After k why) is h = (with_addresses given h.0, (read_with task files image given h.0 is, h.1), h.2)
search_failed task never files image given (Touches word) is h = absurd h
search_failed task never files image given Memory is h = tt
search_failed task never files image given (File name why) is h = absurd h
search_failed task never files image given (Schedule n) is h = absurd h
search_failed task never files image given (Log n) is h = absurd h
search_failed task never files image given (Watches n) is h = absurd h
search_failed task never files image given (Threads cause) is h = absurd h
search_failed task never files image given (Input why) is h = absurd h
search_failed task never files image given Word is h = absurd h
search_failed task never files image given LogMachine is h = absurd h
search_failed task never files image given LogImage is h = absurd h
search_failed task never files image given Output is h = absurd h
search_failed task never files image given (Source e) is h = absurd h

pub searched_so : (task : SearchTask) (never : List (List ℕ)) (files : List ℕ → Option (List ℕ)) (image : Option (List ℕ)) (given : Given) (told : List ℕ) (r : Result Finished Fault) →
    IsRead task files image given → IfOk r (λ done. PrintsFor task never given done.text.items told done.status) →
    IfOk r (λ done. IsSearched task never files image done.text.items told done.status)
searched_so task never files image given told (Ok done) is h =
    (with_addresses given h.0, (read_with task files image given h.0 is, h.1), h.2)
searched_so task never files image given told (Err fault) is h = tt

pub failed_so : (task : SearchTask) (never : List (List ℕ)) (files : List ℕ → Option (List ℕ)) (image : Option (List ℕ)) (given : Given) (r : Result Finished Fault) →
    IsRead task files image given → IfErr r (IsNeverFault task never given) → IfErr r (IsSearchFault task never files image)
failed_so task never files image given (Ok done) is h = tt
failed_so task never files image given (Err fault) is h = search_failed task never files image given fault is h

-- with the addresses of the words

pub printed_for : (task : SearchTask) (words : List (List ℕ)) (given : Given) (inputs : Inputs) (told : List ℕ) (r : Result Finished Fault) → HasNever task words given inputs →
    IfOk r (λ done. Prints task (given_of inputs) task.delays done.text.items told done.status) →
    IfOk r (λ done. PrintsFor task words given done.text.items told done.status)
printed_for task words given inputs told (Ok done) has h =
    (inputs.never.items, has.1, subst (λ g. Prints task g task.delays done.text.items told done.status) has.0 h)
printed_for task words given inputs told (Err fault) has h = tt

pub failed_for : (task : SearchTask) (words : List (List ℕ)) (given : Given) (inputs : Inputs) (r : Result Finished Fault) → HasNever task words given inputs →
    IfErr r (IsRunFault (given_of inputs)) → IfErr r (IsNeverFault task words given)
failed_for task words given inputs (Ok done) has h = tt
failed_for task words given inputs (Err fault) has h =
    other_fault task words given (given_of inputs) inputs.never.items fault has.0 has.1 h

-- the addresses of one word more
pub addresses_more : (symbols : List (List ℕ × ℕ)) (words : List (List ℕ)) (i : ℕ) (addresses : List ℕ) (word : List ℕ) (address : ℕ) →
    AreAddresses symbols (take i words) addresses → slice_get words i ≡ Some word → IsPlace symbols address word →
    AreAddresses symbols (take (suc i) words) (addresses ++ address ∷ [])
addresses_more symbols [] i addresses word address h at place = absurd cc
addresses_more symbols (w ∷ ws) zero addresses word address h at place =
    let same : w ≡ word = cc in
    subst (λ xs. AreAddresses symbols (w ∷ []) (xs ++ address ∷ [])) (sym h) (subst (IsPlace symbols address) (sym same) place, refl)
addresses_more symbols (w ∷ ws) (suc i) [] word address h at place = absurd h
addresses_more symbols (w ∷ ws) (suc i) (a ∷ rest) word address h at place =
    (h.0, addresses_more symbols ws i rest word address h.1 at place)

-- the words, one after the other

map_at : (words : List (Bor (List ℕ))) (i : ℕ) → slice_get (map (λ word. word.now) words) i ≡ option_map (λ (word : Bor (List ℕ)). word.now) (slice_get words i)
map_at [] i = refl
map_at (w ∷ ws) zero = refl
map_at (w ∷ ws) (suc i) = map_at ws i

word_at : (words : List (Bor (List ℕ))) (i : ℕ) (d : Bor (List ℕ)) → i < length words →
    slice_get (map (λ word. word.now) words) i ≡ Some (get_or words i d).now
word_at words i d less = map_at words i ∙ ap (option_map (λ (word : Bor (List ℕ)). word.now)) (slice_get-get_or words i d less)

pub words_more : (symbols : List (List ℕ × ℕ)) (words : List (Bor (List ℕ))) (i : ℕ) (d : Bor (List ℕ)) (old new : List ℕ) (address : ℕ) → i < length words →
    AreAddresses symbols (take i (map (λ word. word.now) words)) old → IsPlace symbols address (get_or words i d).now → new ≡ old ++ address ∷ [] →
    AreAddresses symbols (take (i + 1) (map (λ word. word.now) words)) new
words_more symbols words i d old new address less h place new_is =
    let ws = map (λ word. word.now) words in
    let one : suc i ≡ i + 1 = omega arith in
    subst (λ n. AreAddresses symbols (take n ws) new) one
    (subst (λ xs. AreAddresses symbols (take (suc i) ws) xs) (sym new_is)
    (addresses_more symbols ws i old (get_or words i d).now address h (word_at words i d less) place))

pub words_all : (symbols : List (List ℕ × ℕ)) (words : List (Bor (List ℕ))) (i : ℕ) (addresses : List ℕ) → length words ≤ i →
    AreAddresses symbols (take i (map (λ word. word.now) words)) addresses → AreAddresses symbols (map (λ word. word.now) words) addresses
words_all symbols words i addresses all h =
    let ws = map (λ word. word.now) words in
    let many = length-map words (λ (word : Bor (List ℕ)). word.now) in
    subst (λ xs. AreAddresses symbols xs addresses) (take_all i ws (omega (arith, many, all))) h

pub word_unknown : (symbols : List (List ℕ × ℕ)) (words : List (Bor (List ℕ))) (i : ℕ) (d : Bor (List ℕ)) (addresses : List ℕ) (fault : Fault) → i < length words →
    AreAddresses symbols (take i (map (λ word. word.now) words)) addresses → IsNoAddress symbols (get_or words i d).now fault →
    IsWordFault symbols (map (λ word. word.now) words) fault
word_unknown symbols words i d addresses (Never other) less before h = record {
  place = i;
  word_is = word_at words i d less ∙ ap (λ w. Some w) (sym h.0);
  addresses = addresses;
  before = before;
  unknown = λ address is. h.1 address (subst (IsPlace symbols address) h.0 is);
}
word_unknown symbols words i d addresses (After k why) less before h = absurd h
word_unknown symbols words i d addresses (Touches other) less before h = absurd h
word_unknown symbols words i d addresses Conf less before h = absurd h
word_unknown symbols words i d addresses (Image e) less before h = absurd h
word_unknown symbols words i d addresses (Watch k) less before h = absurd h
word_unknown symbols words i d addresses Memory less before h = absurd h
word_unknown symbols words i d addresses (File name why) less before h = absurd h
word_unknown symbols words i d addresses (Schedule n) less before h = absurd h
word_unknown symbols words i d addresses (Log n) less before h = absurd h
word_unknown symbols words i d addresses (Watches n) less before h = absurd h
word_unknown symbols words i d addresses (Threads cause) less before h = absurd h
word_unknown symbols words i d addresses (Input why) less before h = absurd h
word_unknown symbols words i d addresses Word less before h = absurd h
word_unknown symbols words i d addresses LogMachine less before h = absurd h
word_unknown symbols words i d addresses LogImage less before h = absurd h
word_unknown symbols words i d addresses Output less before h = absurd h
word_unknown symbols words i d addresses (Source e) less before h = absurd h
