use Rattle.std.proofs.Common.{◌≡◌, ℕ, zero, suc, ◌+◌, ◌≤◌, List, [], ◌∷◌, ◌++◌, length, take, map, flat_map, refl, sym, ap, ap₂, ◌∙◌, arith, Some, None, append_assoc, append-nil}
use Rattle.std.proofs.lemmas.List.{map_push, length_push, flat_map_more, take-append-le, take-map, length-map}
use Rattle.std.proofs.lemmas.Option.{none-some, same_Some}
use Rattle.std.specs.List.{AllByRecursion}
use Rattle.m161_steplog.specs.declared.fault.TextFault.{TextFault}
use Rattle.m161_steplog.specs.declared.fault.TextFault.TheVariants as faults
use Rattle.m161_text.specs.Lines.{lines_of, FirstBad}
use Rattle.m161_audit.specs.declared.text.Item.{Item}
use Rattle.m161_audit.specs.declared.watch.Watch.{Watch}
use Rattle.m161_audit.specs.WatchText.{AreWatchLines, AreWatches, IsLine, WatchLine, line_text, line_watches}
use Rattle.m161_audit.specs.helpers.WatchText.{ReadsLine, item_watches}

-- Watches, read line by line.

-- a line; every line with its text has its watches
pub record IsSure (line : WatchLine) : Type 0 where
  pub proper : IsLine line
  pub alone : (other : WatchLine) → IsLine other → line_text line ≡ line_text other → line_watches line ≡ line_watches other

-- the first n lines were read, and have these watches
pub record SoFar (text rest : List ℕ) (ws : List Watch) (n : ℕ) : Type 0 where
  pub content : List WatchLine
  pub each : AllByRecursion IsSure content
  pub lines : lines_of text ≡ map line_text content ++ lines_of rest
  pub watches : ws ≡ flat_map line_watches content
  pub number : n ≡ length content

all_lines : (content : List WatchLine) → AllByRecursion IsSure content → AllByRecursion IsLine content
all_lines [] each = tt
all_lines (line ∷ content) each = (each.0.proper, all_lines content each.1)

all_take : (j : ℕ) (content : List WatchLine) → AllByRecursion IsLine content → AllByRecursion IsLine (take j content)
all_take zero content each = tt
all_take (suc j) [] each = tt
all_take (suc j) (line ∷ content) each = (each.0, all_take j content each.1)

all_push : (content : List WatchLine) (line : WatchLine) → AllByRecursion IsSure content → IsSure line → AllByRecursion IsSure (content ++ line ∷ [])
all_push [] line each one = (one, tt)
all_push (x ∷ content) line each one = (each.0, all_push content line each.1 one)

watches_same : (a b : List WatchLine) → AllByRecursion IsSure a → AllByRecursion IsLine b → map line_text a ≡ map line_text b → flat_map line_watches a ≡ flat_map line_watches b
watches_same [] [] each proper e = refl
watches_same [] (y ∷ b) each proper e = absurd (omega (arith, ap length e))
watches_same (x ∷ a) [] each proper e = absurd (omega (arith, ap length e))
watches_same (x ∷ a) (y ∷ b) each proper e =
    let head : line_text x ≡ line_text y = cc in
    let rest : map line_text a ≡ map line_text b = cc in
    ap₂ (λ (s t : List Watch). s ++ t) (each.0.alone y proper.0 head) (watches_same a b each.1 proper.1 rest)

fits_take : (lines : List (List ℕ)) (content : List WatchLine) (j : ℕ) → AllByRecursion IsLine content → lines ≡ map line_text content → AreWatchLines (take j lines)
fits_take lines content j each e = (
  flat_map line_watches (take j content),
  record {
    content = take j content;
    each = all_take j content each;
    text = ap (take j) e ∙ take-map line_text j content;
    watches_are = refl;
  },
)

pub start : (text : List ℕ) → SoFar text text [] 0
start text = record { content = []; each = tt; lines = refl; watches = refl; number = refl }

sure_by : (line : List ℕ) (item : Item) (read : ReadsLine line (Some item)) → IsSure read.found.0
sure_by line item read = record {
  proper = read.found.1;
  alone = λ other fits same.
      let it = read.only other fits (read.found.2 ∙ same) in
      read.found.3 ∙ ap item_watches (same_Some item it.0 it.1) ∙ sym it.2;
}

pub more : (text rest line after : List ℕ) (ws vs : List Watch) (n : ℕ) (item : Item) → SoFar text rest ws n → lines_of rest ≡ line ∷ lines_of after → ReadsLine line (Some item) → vs ≡ ws ++ item_watches item → SoFar text after vs (n + 1)
more text rest line after ws vs n item so lines read added =
    let here = read.found.0 in
    record {
      content = so.content ++ here ∷ [];
      each = all_push so.content here so.each (sure_by line item read);
      lines = so.lines ∙ ap (λ ls. map line_text so.content ++ ls) lines ∙ sym (append_assoc (map line_text so.content) (line ∷ []) (lines_of after)) ∙ ap (λ ls. ls ++ lines_of after) (ap (λ l. map line_text so.content ++ l ∷ []) read.found.2 ∙ sym (map_push line_text so.content here));
      watches = added ∙ ap₂ (λ (s t : List Watch). s ++ t) so.watches (sym read.found.3) ∙ flat_map_more line_watches [] so.content here;
      number = omega (arith, so.number, length_push so.content here);
    }

pub end : (text : List ℕ) (ws : List Watch) (n : ℕ) → SoFar text [] ws n → AreWatches (lines_of text) ws
end text ws n so = record { content = so.content; each = all_lines so.content so.each; text = so.lines ∙ append-nil (map line_text so.content); watches_are = so.watches }

-- a text has one list of watches
pub end_only : (text : List ℕ) (ws vs : List Watch) (n : ℕ) → SoFar text [] ws n → AreWatches (lines_of text) vs → ws ≡ vs
end_only text ws vs n so other =
    so.watches ∙ watches_same so.content other.content so.each other.each (sym (append-nil (map line_text so.content)) ∙ sym so.lines ∙ other.text) ∙ sym other.watches_are

pub no_bad : (text : List ℕ) (vs : List Watch) (n : ℕ) → AreWatches (lines_of text) vs → FirstBad AreWatchLines text n → ⊥
no_bad text vs n other fault = fault.bad (fits_take (lines_of text) other.content n other.each other.text)

upto : (content : List WatchLine) (line : List ℕ) (more : List (List ℕ)) → take (suc (length content)) (map line_text content ++ line ∷ more) ≡ map line_text content ++ line ∷ []
upto [] line more = refl
upto (x ∷ content) line more = ap (λ ls. line_text x ∷ ls) (upto content line more)

last_is : (line : List ℕ) (a b : List WatchLine) → AllByRecursion IsLine b → map line_text a ++ line ∷ [] ≡ map line_text b → (x : WatchLine) × IsLine x × (line ≡ line_text x)
last_is line [] [] each e = absurd (omega (arith, ap length e))
last_is line [] (y ∷ b) each e = (y, each.0, (cc))
last_is line (x ∷ a) [] each e = absurd (omega (arith, ap length e))
last_is line (x ∷ a) (y ∷ b) each e = last_is line a b each.1 (cc)

-- a next line that isn't one is the first bad one
pub bad_line : (text rest line after : List ℕ) (ws : List Watch) (n : ℕ) → SoFar text rest ws n → lines_of rest ≡ line ∷ lines_of after → ReadsLine line None → FirstBad AreWatchLines text (n + 1)
bad_line text rest line after ws n so lines read =
    let all : lines_of text ≡ map line_text so.content ++ line ∷ lines_of after = so.lines ∙ ap (λ ls. map line_text so.content ++ ls) lines in
    let count : n + 1 ≡ suc (length so.content) = omega (arith, so.number) in
    record {
      one = omega arith;
      bad = λ fits.
          let front : take (n + 1) (lines_of text) ≡ map line_text so.content ++ line ∷ [] = ap₂ take count all ∙ upto so.content line (lines_of after) in
          let last = last_is line so.content fits.1.content fits.1.each (sym front ∙ fits.1.text) in
          let it = read.only last.0 last.1 last.2 in
          none-some it.0 it.1;
      before = λ k some few.
          let long : k ≤ length (map line_text so.content) = omega (arith, length-map so.content line_text, so.number) in
          let front : take k (lines_of text) ≡ take k (map line_text so.content) = ap (take k) all ∙ take-append-le k (map line_text so.content) (line ∷ lines_of after) long in
          rw front (fits_take (map line_text so.content) so.content k (all_lines so.content so.each) refl);
    }

-- an error that is want of memory is no line
pub not_line : (f : TextFault) (n : ℕ) → f ≡ faults.NoMemory → f ≡ faults.Line n → ⊥
not_line f n e h = let bad : faults.NoMemory ≡ faults.Line n = sym e ∙ h in cc
