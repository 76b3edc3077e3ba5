use Rattle.std.specs.Prelude.{◌≡◌, ◌⊎◌, ℕ, [], ◌∷◌, ◌++◌, Option}
use Rattle.std.specs.Option.{option_to_list}
use Rattle.m161_gdb.specs.declared.frames.Item.{Item}
use Rattle.m161_gdb.specs.declared.frames.Reader.{Reader}
use Rattle.m161_gdb.specs.Frames.{IsOpening, IsPiece, Nothing, Opening, Piece, Stands, items_in, opening_text, piece_text}

-- One byte more.

-- a beginning becomes this one by a byte
abbrev pub Grows : Opening → ℕ → Opening → Type 0
Grows opening byte next = IsOpening next × (opening_text opening ++ byte ∷ [] ≡ opening_text next)

-- and this piece
abbrev pub Ends : Opening → ℕ → Piece → Type 0
Ends opening byte piece = IsPiece piece × (opening_text opening ++ byte ∷ [] ≡ piece_text piece)

-- a reader that stood behind any beginning stands behind what a byte makes of it, and this is the
-- item of it
unfoldable pub Steps : Reader → ℕ → Reader → Option Item → Type 0
Steps old byte new item =
    (opening : Opening) → IsOpening opening → Stands old opening →
    ((next : Opening) × Grows opening byte next × Stands new next × (option_to_list item ≡ []))
    ⊎ ((piece : Piece) × Ends opening byte piece × Stands new Nothing × (option_to_list item ≡ items_in piece))
