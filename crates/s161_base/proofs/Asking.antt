use Rattle.std.proofs.Common.{◌≡◌, ◌⊎◌, ◌∙◌, ℕ, List, [], ◌∷◌, ◌++◌, Bool, true, false, if◌then◌else◌, Option, None, Some, Result, Ok, Err, Bor, ap, append-nil, append_assoc, inl, inr, refl, subst, sym}
use Rattle.std.specs.Prelude.{IfErr, IfSome, bytes_eq, codes, option_map}
use Rattle.std.specs.Result.{IsErrAnd}
use Rattle.m161_machine.specs.declared.conf.BootError.{BootError}
use Rattle.m161_machine.specs.declared.conf.Conf.{Conf as MachineConf}
use Rattle.s161_base.proofs.Failing.{schedule_failed}
use Rattle.s161_base.specs.Asked.{Asks, AsksFor, AsksUntil, EndsAt, EndsBy, IsBeforeInput, file_of, image_files, is_memory}
use Rattle.s161_base.specs.Faults.{fault_of_boot, IsBootFault}
use Rattle.s161_base.specs.Reading.{IsFileUnread, IsInputUnread, IsOfBytes}
use Rattle.s161_base.specs.Samples.{IsFileName}
use Rattle.s161_base.specs.Texts.{IsScheduleFault}
use Rattle.s161_base.specs.declared.fault.Fault.{Fault}
use Rattle.s161_base.specs.declared.fault.Fault.TheVariants.{After, Conf, File, Image, Input, Log, LogImage, LogMachine, Memory, Never, Output, Schedule, Source, Threads, Touches, Watch, Watches, Word}
use Rattle.s161_base.specs.declared.fault.Unread.{Unread}

-- The order in which files are asked for.

-- nothing is asked for
pub asks_none : (a : Option (List (List ℕ))) → Asks [] a a
asks_none None = refl
asks_none (Some x) = ap (λ l. Some l) (sym (append-nil x))

-- some files, and then others
pub asks_both : (xs ys : List (List ℕ)) (a b c : Option (List (List ℕ))) → Asks xs a b → Asks ys b c → Asks (xs ++ ys) a c
asks_both xs ys None b c p q = q ∙ ap (λ o. option_map (λ asked. asked ++ ys) o) p
asks_both xs ys (Some x) b c p q = q ∙ ap (λ o. option_map (λ asked. asked ++ ys) o) p ∙ ap (λ l. Some l) (append_assoc x xs ys)

-- a fault behind others' files ends where it did
ends_behind : (xs : List (List ℕ)) (file : Option (Bor (List ℕ))) (memory : Bool) (first rest : List (List ℕ)) → EndsBy file memory first rest →
    EndsBy file memory (xs ++ first) rest
ends_behind xs (Some name) memory first rest h = (xs ++ h.0, ap (λ l. xs ++ l) h.1 ∙ sym (append_assoc xs h.0 (name.now ∷ [])))
ends_behind xs None true first rest h = tt
ends_behind xs None false first rest h = h

-- the fault comes behind these files
pub later : (xs ys : List (List ℕ)) (a b c : Option (List (List ℕ))) (fault : Fault) → Asks xs a b → AsksUntil ys b c fault → AsksUntil (xs ++ ys) a c fault
later xs ys a b c fault asks until = record {
  first = xs ++ until.first;
  rest = until.rest;
  are_files = ap (λ l. xs ++ l) until.are_files ∙ sym (append_assoc xs until.first until.rest);
  asks = asks_both xs until.first a b c asks until.asks;
  ends = ends_behind xs (file_of fault) (is_memory fault) until.first until.rest until.ends;
}

-- a fault that is none of a file
abbrev pub IsNoFile : Fault → Type 0
IsNoFile fault = IfSome (file_of fault) (λ _. ⊥)

no_file_ends : (files : List (List ℕ)) (file : Option (Bor (List ℕ))) (memory : Bool) → IfSome file (λ _. ⊥) → EndsBy file memory files []
no_file_ends files (Some name) memory h = absurd h
no_file_ends files None true h = tt
no_file_ends files None false h = refl

-- a fault is none of a file where something holds of it that holds of none of a file
pub none_by : (P : Fault → Type 0) → ((name : Bor (List ℕ)) (why : Unread) → P (File name why) → ⊥) → (fault : Fault) → P fault → IsNoFile fault
none_by P not (File name why) h = not name why h
none_by P not Memory h = tt
none_by P not (Schedule n) h = tt
none_by P not (Log n) h = tt
none_by P not LogMachine h = tt
none_by P not LogImage h = tt
none_by P not (Watches n) h = tt
none_by P not (Watch k) h = tt
none_by P not (Never word) h = tt
none_by P not (Touches word) h = tt
none_by P not (After k why) h = tt
none_by P not Conf h = tt
none_by P not (Image e) h = tt
none_by P not (Source e) h = tt
none_by P not (Threads cause) h = tt
none_by P not (Input why) h = tt
none_by P not Word h = tt
none_by P not Output h = tt

-- such a fault comes once all files were asked for
pub after_all : (files : List (List ℕ)) (a b : Option (List (List ℕ))) (fault : Fault) → Asks files a b → IsNoFile fault → AsksUntil files a b fault
after_all files a b fault asks h = record {
  first = files;
  rest = [];
  are_files = sym (append-nil files);
  asks = asks;
  ends = no_file_ends files (file_of fault) (is_memory fault) h;
}

-- this file isn't read, and the rest isn't asked for
unread : (name : Bor (List ℕ)) (IsReason : Unread → Type 0) (rest : List (List ℕ)) (a b : Option (List (List ℕ))) (fault : Fault) → Asks (name.now ∷ []) a b →
    IsFileUnread name IsReason fault → AsksUntil (name.now ∷ rest) a b fault
unread name IsReason rest a b fault asks is = record {
  first = name.now ∷ [];
  rest = rest;
  are_files = refl;
  asks = asks;
  ends = subst (λ f. EndsAt f (name.now ∷ []) rest) (sym is.1) ([], refl);
}

-- memory is refused, and the rest isn't asked for
pub refused : (first rest : List (List ℕ)) (a b : Option (List (List ℕ))) (fault : Fault) → Asks first a b → fault ≡ Memory → AsksUntil (first ++ rest) a b fault
refused first rest a b fault asks is = record {
  first = first;
  rest = rest;
  are_files = refl;
  asks = asks;
  ends = subst (λ f. EndsAt f first rest) (sym is) tt;
}

-- a file of this name, or memory
pub file_unread : (name : Bor (List ℕ)) (IsReason : Unread → Type 0) (rest : List (List ℕ)) (a b : Option (List (List ℕ))) (fault : Fault) →
    Asks (name.now ∷ []) a b → IsFileUnread name IsReason fault ⊎ (fault ≡ Memory) → AsksUntil (name.now ∷ rest) a b fault
file_unread name IsReason rest a b fault asks (inl is) = unread name IsReason rest a b fault asks is
file_unread name IsReason rest a b fault asks (inr is) = refused (name.now ∷ []) rest a b fault asks is

-- the image's file, or memory
image_named : (b : Bool) (name : List ℕ) → b ≡ false → (if b then [] else name ∷ []) ≡ name ∷ []
image_named false name is = refl
image_named true name is = absurd (cc)

is_named : (name : List ℕ) → IsFileName name → image_files name ≡ name ∷ []
unfolding image_files IsFileName
is_named name is = image_named (bytes_eq name (codes "@sample")) name is

pub image_unread : (name : Bor (List ℕ)) (rest : List (List ℕ)) (a b : Option (List (List ℕ))) (fault : Fault) → Asks (image_files name.now) a b →
    (fault ≡ Memory) ⊎ (IsFileUnread name IsOfBytes fault × IsFileName name.now) → AsksUntil (image_files name.now ++ rest) a b fault
image_unread name rest a b fault asks (inl is) = refused (image_files name.now) rest a b fault asks is
image_unread name rest a b fault asks (inr is) =
    let same = is_named name.now is.1 in
    subst (λ files. AsksUntil (files ++ rest) a b fault) (sym same)
    (unread name IsOfBytes rest a b fault (subst (λ files. Asks files a b) same asks) is.0)

-- refused memory
pub memory_is_none : (fault : Fault) → fault ≡ Memory → IsNoFile fault
memory_is_none fault is = subst IsNoFile (sym is) tt

-- a boot's fault
pub boot_error_is_none : (file : List ℕ) (ram : ℕ) (e : BootError) → IsNoFile (fault_of_boot file ram e)
boot_error_is_none file ram BootError.BadConf = tt
boot_error_is_none file ram (BootError.Load x) = tt
boot_error_is_none file ram BootError.NoMemory = tt

pub boot_is_none : (file : List ℕ) (conf : MachineConf) (fault : Fault) → IsBootFault file conf fault → IsNoFile fault
boot_is_none file conf fault h = none_by (IsBootFault file conf) (λ name why bad. bad) fault h

-- that of standard input
pub input_is_none : (known : Option (List ℕ)) (fault : Fault) → IsInputUnread known fault ⊎ (fault ≡ Memory) → IsNoFile fault
input_is_none known fault (inl is) = subst IsNoFile (sym is.1) tt
input_is_none known fault (inr is) = memory_is_none fault is

-- that of a schedule's lines
pub schedule_is_none : (text : List ℕ) (fault : Fault) → IsScheduleFault text fault → IsNoFile fault
schedule_is_none text fault h = schedule_failed IsNoFile text fault (λ n bad. tt) tt h

-- the image's file isn't read, and is the only one
pub alone_unread : (name : Bor (List ℕ)) (a b : Option (List (List ℕ))) (fault : Fault) → Asks (image_files name.now) a b →
    (fault ≡ Memory) ⊎ (IsFileUnread name IsOfBytes fault × IsFileName name.now) → AsksUntil (image_files name.now) a b fault
alone_unread name a b fault asks h =
    subst (λ files. AsksUntil files a b fault) (append-nil (image_files name.now)) (image_unread name [] a b fault asks h)

-- a result whose fault is none of a file
pub result_asks : {A : Type 0} (files : List (List ℕ)) (a b : Option (List (List ℕ))) (result : Result A Fault) → Asks files a b → IfErr result IsNoFile →
    AsksFor files result a b
result_asks files a b (Ok answer) asks h = asks
result_asks files a b (Err fault) asks h = after_all files a b fault asks h

-- the way out of a `?` by a fault
pub asks_err : {A : Type 0} {files : List (List ℕ)} {a b : Option (List (List ℕ))} {fault : Fault} (result : Result A Fault) → IsErrAnd result (λ e. e ≡ fault) →
    AsksUntil files a b fault → AsksFor files result a b
asks_err (Ok answer) is h = absurd is
asks_err {files = files} {a = a} {b = b} (Err e) is h = subst (AsksUntil files a b) (sym is) h

pub says_err : {A : Type 0} {fault : Fault} (P : Fault → Type 0) (result : Result A Fault) → IsErrAnd result (λ e. e ≡ fault) → P fault → IfErr result P
says_err P (Ok answer) is h = tt
says_err P (Err e) is h = subst P (sym is) h

-- standard input is as it was
unmoved : (file : Option (Bor (List ℕ))) (a : Option (List ℕ)) → IfSome file (λ _. a ≡ a)
unmoved (Some name) a = refl
unmoved None a = tt

pub before_input : (fault : Fault) (a : Option (List ℕ)) → IsBeforeInput fault a a
before_input fault a = unmoved (file_of fault) a

-- the fault is none of a file
no_file_before : (file : Option (Bor (List ℕ))) (a b : Option (List ℕ)) → IfSome file (λ _. ⊥) → IfSome file (λ _. b ≡ a)
no_file_before (Some name) a b h = absurd h
no_file_before None a b h = tt

pub none_before : (fault : Fault) (a b : Option (List ℕ)) → IsNoFile fault → IsBeforeInput fault a b
none_before fault a b h = no_file_before (file_of fault) a b h
