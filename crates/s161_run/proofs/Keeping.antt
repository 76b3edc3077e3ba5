use Rattle.std.proofs.Common.{◌≡◌, ◌⊎◌, subst, ℕ, List, [], ◌++◌, Option, None, Some, IfSome, append-nil, inl, inr, refl, sym}
use Rattle.std.proofs.Common.{Bor}
use Rattle.s161_base.proofs.Asking.{IsNoFile, file_unread, refused}
use Rattle.s161_base.proofs.Listing.{unlisted_is_none}
use Rattle.s161_base.specs.Asked.{Asks, AsksUntil, option_files}
use Rattle.s161_base.specs.Known.{OfText}
use Rattle.s161_base.specs.Listed.{IsTextOf, ListsNoFirst}
use Rattle.s161_base.specs.Reading.{IsOfBytes, IsOfText, IsTextUnread}
use Rattle.s161_base.specs.declared.fault.Fault.{Fault}
use Rattle.s161_base.specs.declared.fault.Fault.TheVariants.{File, Memory}
use Rattle.s161_base.specs.declared.fault.Unread.{Unread}
use Rattle.s161_command.specs.declared.task.AskedSize.{AskedSize}
use Rattle.s161_run.specs.Driven.{AreKeys, IsKeysFile}

-- What the files hold, and in which order they are asked for.

-- the keys of a name, over files with the same bytes
pub keys_are : (name : Option (Bor (List ℕ))) (files others : List ℕ → Option (List ℕ)) (keys : List ℕ) →
    ((name : List ℕ) → files name ≡ others name) → AreKeys name files keys → AreKeys name others keys
keys_are None files others keys same h = h
keys_are (Some name) files others keys same h = subst (λ bytes. IfSome bytes (λ known. keys ≡ known)) (same name.now) h

-- the file of the keys isn't read, and the rest isn't asked for
pub keys_unread : (name : Option (Bor (List ℕ))) (rest : List (List ℕ)) (a b : Option (List (List ℕ))) (fault : Fault) → Asks (option_files name) a b →
    IsKeysFile name fault ⊎ (fault ≡ Memory) → AsksUntil (option_files name ++ rest) a b fault
keys_unread None rest a b fault asks (inl is) = absurd is
keys_unread None rest a b fault asks (inr is) = refused [] rest a b fault asks is
keys_unread (Some name) rest a b fault asks h = file_unread name IsOfBytes rest a b fault asks h

-- so of keys that are the last file
pub last_unread : (name : Option (Bor (List ℕ))) (a b : Option (List (List ℕ))) (fault : Fault) → Asks (option_files name) a b →
    IsKeysFile name fault ⊎ (fault ≡ Memory) → AsksUntil (option_files name) a b fault
last_unread name a b fault asks h =
    subst (λ files. AsksUntil files a b fault) (append-nil (option_files name)) (keys_unread name [] a b fault asks h)

-- the text of an option's file, over files with the same bytes
pub text_is : (name : Option (Bor (List ℕ))) (files others : List ℕ → Option (List ℕ)) (text : Option (List ℕ)) →
    ((name : List ℕ) → files name ≡ others name) → IsTextOf name files text → IsTextOf name others text
text_is None files others text same h = h
text_is (Some name) files others text same h = subst (λ known. OfText known (λ bytes. text ≡ Some bytes)) (same name.now) h

-- that file isn't read, and the rest isn't asked for
pub text_unread : (name : Option (Bor (List ℕ))) (files : List ℕ → Option (List ℕ)) (rest : List (List ℕ)) (a b : Option (List (List ℕ))) (fault : Fault) →
    Asks (option_files name) a b → IsTextUnread name files fault ⊎ (fault ≡ Memory) → AsksUntil (option_files name ++ rest) a b fault
text_unread None files rest a b fault asks (inl is) = absurd is
text_unread None files rest a b fault asks (inr is) = refused [] rest a b fault asks is
text_unread (Some name) files rest a b fault asks h = file_unread name (IsOfText (files name.now)) rest a b fault asks h

-- a fault of one of these files: `P` is what is said of it
pub text_failed : (P : Fault → Type 0) (name : Option (Bor (List ℕ))) (files others : List ℕ → Option (List ℕ)) (fault : Fault) →
    ((name : List ℕ) → files name ≡ others name) → ((file : Bor (List ℕ)) (why : Unread) → IsTextUnread name others (File file why) → P (File file why)) → P Memory →
    IsTextUnread name files fault ⊎ (fault ≡ Memory) → P fault
text_failed P name files others fault same file memory (inr is) = subst P (sym is) memory
text_failed P None files others fault same file memory (inl is) = absurd is
text_failed P (Some name) files others fault same file memory (inl is) =
    subst P (sym is.1) (file name is.0 (is.0, refl, subst (λ known. IsOfText known is.0) (same name.now) is.2))

pub keys_failed : (P : Fault → Type 0) (name : Option (Bor (List ℕ))) (fault : Fault) →
    ((file : Bor (List ℕ)) (why : Unread) → IsKeysFile name (File file why) → P (File file why)) → P Memory → IsKeysFile name fault ⊎ (fault ≡ Memory) → P fault
keys_failed P name fault file memory (inr is) = subst P (sym is) memory
keys_failed P None fault file memory (inl is) = absurd is
keys_failed P (Some name) fault file memory (inl is) = subst P (sym is.1) (file name is.0 (is.0, refl, is.2))

-- a text that lists no first events is no file
pub first_is_none : (asked : AskedSize) (file : List ℕ) (text : Option (List ℕ)) (fault : Fault) → ListsNoFirst asked file text fault → IsNoFile fault
first_is_none asked file None fault h = absurd h
first_is_none asked file (Some text) fault h = unlisted_is_none asked file text fault h
