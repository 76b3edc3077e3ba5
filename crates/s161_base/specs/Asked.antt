use Rattle.std.specs.Prelude.{◌≡◌, ℕ, Bool, true, false, IfSome, if◌then◌else◌, bytes_eq, codes, List, [], ◌∷◌, ◌++◌, Option, None, Some, option_map, Result, Ok, Err}
use Rattle.std.proofs.Common.{Bor}
use Rattle.s161_base.specs.declared.fault.Fault.{Fault}
use Rattle.s161_base.specs.declared.fault.Fault.TheVariants.{File, Memory}

-- The files that a command asks for, by their names, in the order in which it reads them.

-- these were asked for behind those before, as far as it is known which these are
abbrev pub Asks : List (List ℕ) → Option (List (List ℕ)) → Option (List (List ℕ)) → Type 0
Asks names before after = after ≡ option_map (λ asked. asked ++ names) before

-- the file of an image; the sample has none
unfoldable pub image_files : List ℕ → List (List ℕ)
image_files name = if bytes_eq name (codes "@sample") then [] else name ∷ []

-- the file of an option, if it is given
abbrev pub option_files : Option (Bor (List ℕ)) → List (List ℕ)
option_files None = []
option_files (Some name) = name.now ∷ []

-- the file that a fault is of, if it is one of a file
abbrev pub file_of : Fault → Option (Bor (List ℕ))
file_of (File name why) = Some name
file_of _ = None

-- a fault of refused memory
abbrev pub is_memory : Fault → Bool
is_memory Memory = true
is_memory _ = false

-- where a fault ends the reading of files, of which the first were asked for and the rest weren't: one
-- of this file at it; of refused memory anywhere; and any other behind the last
abbrev pub EndsBy : Option (Bor (List ℕ)) → Bool → List (List ℕ) → List (List ℕ) → Type 0
EndsBy (Some name) memory first rest = (read : List (List ℕ)) × (first ≡ read ++ name.now ∷ [])
EndsBy None true first rest = Unit {0}
EndsBy None false first rest = rest ≡ []

abbrev pub EndsAt : Fault → List (List ℕ) → List (List ℕ) → Type 0
EndsAt fault first rest = EndsBy (file_of fault) (is_memory fault) first rest

-- files were asked for up to where this fault ended that
pub record AsksUntil
    (files : List (List ℕ)) (before after : Option (List (List ℕ))) (fault : Fault)
    : Type 0 where
  pub first : List (List ℕ)
  pub rest : List (List ℕ)
  pub are_files : files ≡ first ++ rest
  pub asks : Asks first before after
  pub ends : EndsAt fault first rest

-- files were asked for: all of them, or up to the fault
abbrev pub AsksFor :
    {A : Type 0} → List (List ℕ) → Result A Fault → Option (List (List ℕ)) →
    Option (List (List ℕ)) → Type 0
AsksFor files (Ok answer) before after = Asks files before after
AsksFor files (Err fault) before after = AsksUntil files before after fault

-- a fault of a file comes before anything is read of standard input, which has these bytes and then
-- those left
abbrev pub IsBeforeInput : Fault → Option (List ℕ) → Option (List ℕ) → Type 0
IsBeforeInput fault input left = IfSome (file_of fault) (λ _. left ≡ input)
