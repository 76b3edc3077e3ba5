use Rattle.std.specs.Prelude.{◌≡◌, ℕ, ◌==◌, if◌then◌else◌, List, [], ◌∷◌, flat_map, length, codes, decimal}
use Rattle.std.specs.List.{AllByRecursion}
use Rattle.m161_text.specs.Parts.{◌␣◌, hex_text, IsWord, IsByte}
use Rattle.m161_steplog.specs.declared.machine.MachineLine.{MachineLine}

-- The machine line, which may be the first line of a log's text.

-- two digits for each byte
abbrev pub digest_text : List ℕ → List ℕ
digest_text digest = flat_map (hex_text 2) digest

-- the line, without its end
abbrev pub machine_text : MachineLine → List ℕ
machine_text m =
    codes "# machine" ␣ decimal m.ram ␣ decimal m.processors ␣ digest_text m.digest

abbrev pub IsDigest : List ℕ → Type 0
IsDigest digest = AllByRecursion IsByte digest × (length digest ≡ 32)

-- the numbers fit their types
pub record IsMachineLine (m : MachineLine) : Type 0 where
  pub ram : IsWord m.ram
  pub processors : IsWord m.processors
  pub digest : IsDigest m.digest

-- a text's first line, without its end
abbrev pub first_line : List ℕ → List ℕ
first_line [] = []
first_line (b ∷ bs) = if b == 10 then [] else b ∷ first_line bs
