use Rattle.std.specs.Prelude.{◌≡◌, ℕ, None, Some}
use Rattle.m161_alike.specs.WordsLaw.{AreOfOneConf}
use Rattle.m161_states.specs.Question.{Question}
use Rattle.m161_states.specs.System.{Explored, next, start, stored}
use Rattle.m161_states.specs.Verdicts.{is_end, stop, verdict}
use Rattle.m161_states.specs.Shape.{IsShaped}
use Rattle.m161_states.specs.Views.{view}

-- The laws of the system.

-- the lists of the machine's state have their sizes, and it is of the machine that is booted
pub record IsValid (q : Question) (x : Explored) : Type 0 where
  pub shape : IsShaped x.state
  pub one : AreOfOneConf (start q).state x.state

abbrev pub ValidStart : Type 0
ValidStart = (q : Question) → IsValid q (start q)

abbrev pub ValidNext : Type 0
ValidNext = (q : Question) (x y : Explored) (n : ℕ) → IsValid q x → next q x n ≡ Some y → IsValid q y

abbrev pub AlikeStop : Type 0
AlikeStop =
    (q : Question) (x y : Explored) (n : ℕ) → IsValid q x → IsValid q y → view q x ≡ view q y
    → stop q x n ≡ stop q y n

abbrev pub AlikeNext : Type 0
AlikeNext =
    (q : Question) (x y u : Explored) (n : ℕ) → IsValid q x → IsValid q y → view q x ≡ view q y
    → stop q x n ≡ None → next q x n ≡ Some u
    → (v : Explored) × (next q y n ≡ Some v) × (view q u ≡ view q v)

abbrev pub AlikeVerdict : Type 0
AlikeVerdict =
    (q : Question) (x y : Explored) (n : ℕ) → IsValid q x → IsValid q y → view q x ≡ view q y
    → stop q x n ≡ None → verdict q x n ≡ verdict q y n

abbrev pub AlikeStored : Type 0
AlikeStored =
    (q : Question) (x y : Explored) (n : ℕ) → IsValid q x → IsValid q y → view q x ≡ view q y
    → stop q x n ≡ None → stored q x n ≡ stored q y n

abbrev pub AlikeEnd : Type 0
AlikeEnd =
    (q : Question) (x y : Explored) → IsValid q x → IsValid q y → view q x ≡ view q y
    → is_end q x ≡ is_end q y
