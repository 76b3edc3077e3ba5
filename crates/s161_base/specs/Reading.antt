use Rattle.std.specs.Prelude.{◌≡◌, ℕ, List, Option, None, Some}
use Rattle.std.proofs.Common.{Bor}
use Rattle.s161_base.specs.declared.fault.Fault.{Fault}
use Rattle.s161_base.specs.declared.fault.Fault.TheVariants.{File, Input}
use Rattle.s161_base.specs.declared.fault.Unread.{Unread}
use Rattle.s161_base.specs.declared.fault.Unread.TheVariants.{Failed, NotUtf8, TooLong}
use Rattle.s161_base.specs.Known.{IsText, OfKnown}

-- Why files and standard input aren't read. Nothing is said of a reading that fails or of bytes that
-- are too many.

-- bytes, which needn't be UTF-8, aren't read for this reason
abbrev pub IsOfBytes : Unread → Type 0
IsOfBytes Failed = Unit {0}
IsOfBytes TooLong = Unit {0}
IsOfBytes NotUtf8 = ⊥

-- a text isn't read for this reason; its bytes, as far as they are known, aren't UTF-8 if it says so
abbrev pub IsOfText : Option (List ℕ) → Unread → Type 0
IsOfText known Failed = Unit {0}
IsOfText known TooLong = Unit {0}
IsOfText known NotUtf8 = OfKnown known (λ bytes. ¬ IsText bytes)

-- a fault is that of the file of this name, for such a reason
abbrev pub IsFileUnread : Bor (List ℕ) → (Unread → Type 0) → Fault → Type 0
IsFileUnread name IsReason fault = (why : Unread) × (fault ≡ File name why) × IsReason why

-- a fault is that of standard input, which is a text
abbrev pub IsInputUnread : Option (List ℕ) → Fault → Type 0
IsInputUnread known fault = (why : Unread) × (fault ≡ Input why) × IsOfText known why

-- a fault is that of the file of an option, if it is given, which is a text
abbrev pub IsTextUnread :
    Option (Bor (List ℕ)) → (List ℕ → Option (List ℕ)) → Fault → Type 0
IsTextUnread None files fault = ⊥
IsTextUnread (Some name) files fault = IsFileUnread name (IsOfText (files name.now)) fault
