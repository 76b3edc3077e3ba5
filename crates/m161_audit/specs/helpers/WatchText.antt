use Rattle.std.specs.Prelude.{◌≡◌, ℕ, List, [], ◌∷◌, Option, Some, IfSome}
use Rattle.m161_text.specs.Parts.{◌␣◌, IsPage, IsWord, hex_text}
use Rattle.m161_audit.specs.declared.text.Item.{Item}
use Rattle.m161_audit.specs.declared.text.Item.TheVariants as items
use Rattle.m161_audit.specs.declared.watch.Watch.{Watch}
use Rattle.m161_audit.specs.WatchText.{IsLine, WatchLine, line_text, line_watches}

-- How the code reads a line of watches.

-- two words, and a page before them
abbrev pub AreWords : ℕ × ℕ → Type 0
AreWords t = IsWord t.0 × IsWord t.1

abbrev pub words_text : ℕ × ℕ → List ℕ
words_text t = hex_text 8 t.0 ␣ hex_text 8 t.1

abbrev pub IsPlace : ℕ × (ℕ × ℕ) → Type 0
IsPlace t = IsPage t.0 × AreWords t.1

abbrev pub place_text : ℕ × (ℕ × ℕ) → List ℕ
place_text t = hex_text 5 t.0 ␣ words_text t.1

abbrev pub item_watches : Item → List Watch
item_watches items.Nothing = []
item_watches (items.Watched w) = w ∷ []

-- a line is read: the result has its watches, or there is no such line
pub record ReadsLine (text : List ℕ) (result : Option Item) : Type 0 where
  pub found : IfSome result (λ item.
      (line : WatchLine) × IsLine line × (text ≡ line_text line)
      × (line_watches line ≡ item_watches item))
  pub only : (line : WatchLine) → IsLine line → text ≡ line_text line
      → (item : Item) × (result ≡ Some item) × (line_watches line ≡ item_watches item)
