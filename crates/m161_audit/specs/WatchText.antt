use Rattle.std.specs.Prelude.{◌≡◌, ℕ, List, [], ◌∷◌, map, flat_map, codes, decimal}
use Rattle.std.specs.List.{AllByRecursion}
use Rattle.m161_text.specs.Parts.{◌␣◌, IsPage, IsWord, hex_text}
use Rattle.m161_audit.specs.declared.watch.Watch.{Watch}

-- The text of watches, a line for each.

-- the numbers of a watch have a text, whether the watch is bad or not
pub record HasText (w : Watch) : Type 0 where
  pub id : IsWord w.id
  pub page : IsPage w.page
  pub pte : IsWord w.pte
  pub done : IsWord w.done

-- the identifier in decimal without leading zeros, the page in five hexadecimal digits, and the two
-- words in eight
abbrev pub watch_text : Watch → List ℕ
watch_text w =
    codes "w" ␣ decimal w.id ␣ hex_text 5 w.page ␣ hex_text 8 w.pte ␣ hex_text 8 w.done

-- a line
pub data WatchLine : Type 0 where
  Blank : WatchLine
  Comment : (text : List ℕ) → WatchLine
  Watches : (watch : Watch) → WatchLine

-- a comment begins with `#`
abbrev pub line_text : WatchLine → List ℕ
line_text Blank = []
line_text (Comment text) = 35 ∷ text
line_text (Watches w) = watch_text w

abbrev pub line_watches : WatchLine → List Watch
line_watches Blank = []
line_watches (Comment text) = []
line_watches (Watches w) = w ∷ []

abbrev pub IsLine : WatchLine → Type 0
IsLine Blank = Unit {0}
IsLine (Comment text) = Unit {0}
IsLine (Watches w) = HasText w

-- these are the lines of a text of these watches
pub record AreWatches (lines : List (List ℕ)) (watches : List Watch) : Type 0 where
  pub content : List WatchLine
  pub each : AllByRecursion IsLine content
  pub text : lines ≡ map line_text content
  pub watches_are : watches ≡ flat_map line_watches content

-- these are the lines of a text of watches
abbrev pub AreWatchLines : List (List ℕ) → Type 0
AreWatchLines lines = (watches : List Watch) × AreWatches lines watches
