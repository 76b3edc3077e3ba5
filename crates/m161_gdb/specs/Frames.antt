use Rattle.std.specs.Prelude.{◌≡◌, ◌≢◌, ℕ, ◌+◌, ◌-◌, ◌*◌, ◌%◌, ◌≤◌, nat_le, ◌==◌, ◌&&◌, Bool, true, false, if◌then◌else◌, List, [], ◌∷◌, ◌++◌, Option, None, Some, length, sum}
use Rattle.std.specs.List.{flat_map, AllByRecursion}
use Rattle.m161_text.specs.Parts.{hex_text}
use Rattle.m161_gdb.specs.declared.frames.Item.{Item}
use Rattle.m161_gdb.specs.declared.frames.Item.TheVariants as items
use Rattle.m161_gdb.specs.declared.frames.Reader.{Reader}
use Rattle.m161_gdb.specs.declared.frames.Stage.TheVariants as stages

-- Frames, and what stands between them, in the bytes of a stream. 35 is `#`, 36 `$`, 43 `+`, 45 `-`.

-- Hexadecimal digits.

-- the value of a hexadecimal digit of either case
abbrev pub hex_value : ℕ → Option ℕ
hex_value c =
    if nat_le 48 c && nat_le c 57 then Some (c - 48)
    else if nat_le 65 c && nat_le c 70 then Some (c - 55)
    else if nat_le 97 c && nat_le c 102 then Some (c - 87)
    else None

-- the value of two digits
abbrev pub both_digits : Option ℕ → Option ℕ → Option ℕ
both_digits None low = None
both_digits (Some high) None = None
both_digits (Some high) (Some low) = Some (16 * high + low)

abbrev pub byte_value : ℕ → ℕ → Option ℕ
byte_value high low = both_digits (hex_value high) (hex_value low)

abbrev pub has_value : Option ℕ → ℕ → Bool
has_value None n = false
has_value (Some m) n = m == n

-- What the bytes of a stream are.

-- whether a byte is among others
abbrev pub has : ℕ → List ℕ → Bool
has c [] = false
has c (b ∷ bs) = if b == c then true else has c bs

-- a byte between frames, or a frame: what stands between its first `$` and its `#`, and its digits
pub data Piece : Type 0 where
  Single : (byte : ℕ) → Piece
  Whole : (inner : List ℕ) (high low : ℕ) → Piece

abbrev pub IsPiece : Piece → Type 0
IsPiece (Single byte) = byte ≢ 36
IsPiece (Whole inner high low) = has 35 inner ≡ false

abbrev pub piece_text : Piece → List ℕ
piece_text (Single byte) = byte ∷ []
piece_text (Whole inner high low) = 36 ∷ inner ++ 35 ∷ high ∷ low ∷ []

-- the beginning of a frame that isn't whole yet: it has its `$`, its `#` too, one of its digits too
pub data Opening : Type 0 where
  Nothing : Opening
  Begun : (inner : List ℕ) → Opening
  Closed : (inner : List ℕ) → Opening
  Halfway : (inner : List ℕ) (high : ℕ) → Opening

abbrev pub IsOpening : Opening → Type 0
IsOpening Nothing = Unit {0}
IsOpening (Begun inner) = has 35 inner ≡ false
IsOpening (Closed inner) = has 35 inner ≡ false
IsOpening (Halfway inner high) = has 35 inner ≡ false

abbrev pub opening_text : Opening → List ℕ
opening_text Nothing = []
opening_text (Begun inner) = 36 ∷ inner
opening_text (Closed inner) = 36 ∷ inner ++ 35 ∷ []
opening_text (Halfway inner high) = 36 ∷ inner ++ 35 ∷ high ∷ []

-- Their items.

-- the bytes behind the last `$`, all if there is none: a `$` begins a new frame
abbrev pub body_of : List ℕ → List ℕ
body_of [] = []
body_of (b ∷ bs) = if has 36 (b ∷ bs) then body_of bs else b ∷ bs

-- a body that isn't too long
abbrev pub kept : List ℕ → Option (List ℕ)
kept body = if nat_le (length body) 16384 then Some body else None

abbrev pub items_in : Piece → List Item
items_in (Single byte) =
    if byte == 43 then items.Plus ∷ []
    else if byte == 45 then items.Minus ∷ []
    else if byte == 3 then items.Interrupt ∷ []
    else []
items_in (Whole inner high low) =
    items.Frame (kept (body_of inner)) (has_value (byte_value high low) (sum (body_of inner) % 256))
    ∷ []

-- bytes are these pieces, and then this beginning; the items are theirs
pub record IsReading
    (bytes : List ℕ) (found : List Item) (pieces : List Piece) (opening : Opening)
    : Type 0 where
  pub text : bytes ≡ flat_map piece_text pieces ++ opening_text opening
  pub each : AllByRecursion IsPiece pieces
  pub last : IsOpening opening
  pub items : found ≡ flat_map items_in pieces

-- bytes have these items
abbrev pub IsReadAs : List ℕ → List Item → Type 0
IsReadAs bytes found = (pieces : List Piece) × (opening : Opening) × IsReading bytes found pieces opening

-- Readers.

-- a reader has what it needs of the inner part of a frame
abbrev pub Knows : Reader → List ℕ → Type 0
Knows reader inner =
    (reader.body ≡ kept (body_of inner)) × (reader.sum ≡ sum (body_of inner) % 256)

-- a reader stands behind such a beginning
abbrev pub Stands : Reader → Opening → Type 0
Stands reader Nothing = reader.stage ≡ stages.Between
Stands reader (Begun inner) = (reader.stage ≡ stages.InBody) × Knows reader inner
Stands reader (Closed inner) = (reader.stage ≡ stages.AtSum) × Knows reader inner
Stands reader (Halfway inner high) = (reader.stage ≡ stages.InSum high) × Knows reader inner

-- a reader has read these bytes, and they have these items
pub record HasRead (reader : Reader) (bytes : List ℕ) (found : List Item) : Type 0 where
  pub pieces : List Piece
  pub opening : Opening
  pub reading : IsReading bytes found pieces opening
  pub stands : Stands reader opening

-- Frames that are sent.

abbrev pub frame_text : List ℕ → List ℕ
frame_text body = 36 ∷ body ++ 35 ∷ hex_text 2 (sum body % 256)

-- Laws.

abbrev pub HasItems : Type 0
HasItems = (bytes : List ℕ) → (found : List Item) × IsReadAs bytes found

abbrev pub HasOneReading : Type 0
HasOneReading = (bytes : List ℕ) (a b : List Item) → IsReadAs bytes a → IsReadAs bytes b → a ≡ b

abbrev pub ItemsStay : Type 0
ItemsStay =
    (front back : List ℕ) (a b : List Item) → IsReadAs front a → IsReadAs (front ++ back) b →
    (rest : List Item) × (b ≡ a ++ rest)

abbrev pub FramesAreRead : Type 0
FramesAreRead =
    (body : List ℕ) → has 35 body ≡ false → has 36 body ≡ false → length body ≤ 16384 →
    IsReadAs (frame_text body) (items.Frame (Some body) true ∷ [])
