-- A schedule, read line by line.
use Rattle.std.proofs.Common.{◌≡◌, ℕ, zero, suc, ◌+◌, ◌<◌, ◌≤◌, List, [], ◌∷◌, ◌++◌, length, take, map, flat_map, refl, sym, ap, ap₂, subst, ◌∙◌, arith, Some, None, Result, Ok, Err, IfOk, IsErrOf, MatchResult, length-append, append_assoc, append-nil}
use Rattle.std.proofs.lemmas.List.{map_push, length_push, flat_map_more, take-append-le, take-map, length-map}
use Rattle.std.proofs.lemmas.Option.{none-some, same_Some}
use Rattle.std.specs.List.{AllByRecursion}
use Rattle.m161_machine.specs.declared.event.Event.{Event}
use Rattle.m161_steplog.specs.declared.schedule.Item.{Item}
use Rattle.m161_steplog.specs.declared.fault.TextFault.{TextFault}
use Rattle.m161_steplog.specs.declared.fault.TextFault.TheVariants as faults
use Rattle.m161_text.specs.Lines.{lines_of, FirstBad}
use Rattle.m161_steplog.specs.Schedule.{ScheduleLine, line_text, line_events, IsLine, IsSchedule, AreScheduleLines}
use Rattle.m161_steplog.specs.helpers.Schedule.{item_events, ReadsLine}

-- a line; every line with its text has its events
pub record IsSure (line : ScheduleLine) : Type 0 where
  pub proper : IsLine line
  pub alone : (other : ScheduleLine) → IsLine other → line_text line ≡ line_text other → line_events line ≡ line_events other

-- the first n lines were read, and have the events es
pub record SoFar (text rest : List ℕ) (es : List Event) (n : ℕ) : Type 0 where
  pub content : List ScheduleLine
  pub each : AllByRecursion IsSure content
  pub lines : lines_of text ≡ map line_text content ++ lines_of rest
  pub events : es ≡ flat_map line_events content
  pub room : length es ≤ 16_777_216
  pub number : n ≡ length content

all_lines : (content : List ScheduleLine) → AllByRecursion IsSure content → AllByRecursion IsLine content
all_lines [] each = tt
all_lines (line ∷ content) each = (each.0.proper, all_lines content each.1)

all_take : (j : ℕ) (content : List ScheduleLine) → AllByRecursion IsLine content → AllByRecursion IsLine (take j content)
all_take zero content each = tt
all_take (suc j) [] each = tt
all_take (suc j) (line ∷ content) each = (each.0, all_take j content each.1)

all_push : (content : List ScheduleLine) (line : ScheduleLine) → AllByRecursion IsSure content → IsSure line → AllByRecursion IsSure (content ++ line ∷ [])
all_push [] line each one = (one, tt)
all_push (x ∷ content) line each one = (each.0, all_push content line each.1 one)

-- lines with the same texts have the same events
events_same : (a b : List ScheduleLine) → AllByRecursion IsSure a → AllByRecursion IsLine b → map line_text a ≡ map line_text b → flat_map line_events a ≡ flat_map line_events b
events_same [] [] each proper e = refl
events_same [] (y ∷ b) each proper e = absurd (omega (arith, ap length e))
events_same (x ∷ a) [] each proper e = absurd (omega (arith, ap length e))
events_same (x ∷ a) (y ∷ b) each proper e =
    let head : line_text x ≡ line_text y = cc in
    let rest : map line_text a ≡ map line_text b = cc in
    ap₂ (λ (s t : List Event). s ++ t) (each.0.alone y proper.0 head) (events_same a b each.1 proper.1 rest)

take_shorter : (j : ℕ) (content : List ScheduleLine) → length (flat_map line_events (take j content)) ≤ length (flat_map line_events content)
take_shorter zero content = omega arith
take_shorter (suc j) [] = omega arith
take_shorter (suc j) (line ∷ content) = simp length-append (omega (arith, take_shorter j content))

-- the first lines of a schedule are a schedule
fits_take : (lines : List (List ℕ)) (content : List ScheduleLine) (j : ℕ) → AllByRecursion IsLine content → lines ≡ map line_text content → length (flat_map line_events content) ≤ 16_777_216 → AreScheduleLines (take j lines)
fits_take lines content j each e room = (
  flat_map line_events (take j content),
  record {
    content = take j content;
    each = all_take j content each;
    text = ap (take j) e ∙ take-map line_text j content;
    events = refl;
    room = omega (arith, room, take_shorter j content);
  },
)

pub start : (text : List ℕ) → SoFar text text [] 0
start text = record { content = []; each = tt; lines = refl; events = refl; room = omega arith; number = refl }

sure_by : (line : List ℕ) (item : Item) (read : ReadsLine line (Some item)) → IsSure read.found.0
sure_by line item read = record {
  proper = read.found.1;
  alone = λ other fits same.
      let it = read.only other fits (read.found.2 ∙ same) in
      read.found.3 ∙ ap item_events (same_Some item it.0 it.1) ∙ sym it.2;
}

pub more : (text rest line after : List ℕ) (es fs : List Event) (n : ℕ) (item : Item) → SoFar text rest es n → lines_of rest ≡ line ∷ lines_of after → ReadsLine line (Some item) → fs ≡ es ++ item_events item → length es + length (item_events item) ≤ 16_777_216
    → SoFar text after fs (n + 1)
more text rest line after es fs n item so lines read added room =
    let here = read.found.0 in
    record {
      content = so.content ++ here ∷ [];
      each = all_push so.content here so.each (sure_by line item read);
      lines = so.lines ∙ ap (λ ls. map line_text so.content ++ ls) lines ∙ sym (append_assoc (map line_text so.content) (line ∷ []) (lines_of after)) ∙ ap (λ ls. ls ++ lines_of after) (ap (λ l. map line_text so.content ++ l ∷ []) read.found.2 ∙ sym (map_push line_text so.content here));
      events = added ∙ ap₂ (λ (s t : List Event). s ++ t) so.events (sym read.found.3) ∙ flat_map_more line_events [] so.content here;
      room = omega (arith, room, ap length added, length-append es (item_events item));
      number = omega (arith, so.number, length_push so.content here);
    }

pub end : (text : List ℕ) (es : List Event) (n : ℕ) → SoFar text [] es n → IsSchedule (lines_of text) es
end text es n so = record { content = so.content; each = all_lines so.content so.each; text = so.lines ∙ append-nil (map line_text so.content); events = so.events; room = so.room }

-- a text has the events of one schedule
pub end_only : (text : List ℕ) (es fs : List Event) (n : ℕ) → SoFar text [] es n → IsSchedule (lines_of text) fs → es ≡ fs
end_only text es fs n so other =
    so.events ∙ events_same so.content other.content so.each other.each (sym (append-nil (map line_text so.content)) ∙ sym so.lines ∙ other.text) ∙ sym other.events

pub no_bad : (text : List ℕ) (fs : List Event) (n : ℕ) → IsSchedule (lines_of text) fs → FirstBad AreScheduleLines text n → ⊥
no_bad text fs n other fault = fault.bad (fits_take (lines_of text) other.content n other.each other.text (omega (arith, other.room, ap length other.events)))

upto : (content : List ScheduleLine) (line : List ℕ) (more : List (List ℕ)) → take (suc (length content)) (map line_text content ++ line ∷ more) ≡ map line_text content ++ line ∷ []
upto [] line more = refl
upto (x ∷ content) line more = ap (λ ls. line_text x ∷ ls) (upto content line more)

-- a next line that no schedule has is the first bad one
bad_next : (text rest line after : List ℕ) (es : List Event) (n : ℕ) (so : SoFar text rest es n) → lines_of rest ≡ line ∷ lines_of after
    → ((content : List ScheduleLine) → AllByRecursion IsLine content → map line_text so.content ++ line ∷ [] ≡ map line_text content → length (flat_map line_events content) ≤ 16_777_216 → ⊥) → FirstBad AreScheduleLines text (n + 1)
bad_next text rest line after es n so lines none =
    let all : lines_of text ≡ map line_text so.content ++ line ∷ lines_of after = so.lines ∙ ap (λ ls. map line_text so.content ++ ls) lines in
    let count : n + 1 ≡ suc (length so.content) = omega (arith, so.number) in
    record {
      one = omega arith;
      bad = λ fits.
          let front : take (n + 1) (lines_of text) ≡ map line_text so.content ++ line ∷ [] = ap₂ take count all ∙ upto so.content line (lines_of after) in
          none fits.1.content fits.1.each (sym front ∙ fits.1.text) (omega (arith, fits.1.room, ap length fits.1.events));
      before = λ k some few.
          let long : k ≤ length (map line_text so.content) = omega (arith, length-map so.content line_text, so.number) in
          let front : take k (lines_of text) ≡ take k (map line_text so.content) = ap (take k) all ∙ take-append-le k (map line_text so.content) (line ∷ lines_of after) long in
          rw front (fits_take (map line_text so.content) so.content k (all_lines so.content so.each) refl (omega (arith, so.room, ap length so.events)));
    }

last_is : (line : List ℕ) (a b : List ScheduleLine) → AllByRecursion IsLine b → map line_text a ++ line ∷ [] ≡ map line_text b → (x : ScheduleLine) × IsLine x × (line ≡ line_text x)
last_is line [] [] each e = absurd (omega (arith, ap length e))
last_is line [] (y ∷ b) each e = (y, each.0, (cc))
last_is line (x ∷ a) [] each e = absurd (omega (arith, ap length e))
last_is line (x ∷ a) (y ∷ b) each e = last_is line a b each.1 (cc)

pub bad_line : (text rest line after : List ℕ) (es : List Event) (n : ℕ) → SoFar text rest es n → lines_of rest ≡ line ∷ lines_of after → ReadsLine line None → FirstBad AreScheduleLines text (n + 1)
bad_line text rest line after es n so lines read = bad_next text rest line after es n so lines (λ content each same room.
    let last = last_is line so.content content each same in
    let it = read.only last.0 last.1 last.2 in
    none-some it.0 it.1)

pub full : (text rest line after : List ℕ) (es : List Event) (n : ℕ) (item : Item) → SoFar text rest es n → lines_of rest ≡ line ∷ lines_of after → ReadsLine line (Some item) → 16_777_216 < length es + length (item_events item) → FirstBad AreScheduleLines text (n + 1)
full text rest line after es n item so lines read over = bad_next text rest line after es n so lines (λ content each same room.
    let here = read.found.0 in
    let whole : map line_text (so.content ++ here ∷ []) ≡ map line_text content = map_push line_text so.content here ∙ ap (λ l. map line_text so.content ++ l ∷ []) (sym read.found.2) ∙ same in
    let same_events : flat_map line_events (so.content ++ here ∷ []) ≡ flat_map line_events content = events_same (so.content ++ here ∷ []) content (all_push so.content here so.each (sure_by line item read)) each whole in
    let added : es ++ item_events item ≡ flat_map line_events (so.content ++ here ∷ []) = ap₂ (λ (s t : List Event). s ++ t) so.events (sym read.found.3) ∙ flat_map_more line_events [] so.content here in
    omega (arith, ap length (added ∙ same_events), length-append es (item_events item)))

pub only_read : (text : List ℕ) (r : Result (List Event) TextFault) → ((fs : List Event) → IsSchedule (lines_of text) fs → IfOk r (λ v. v ≡ fs)) → ((n : ℕ) → IsErrOf r (faults.Line n) → FirstBad AreScheduleLines text n)
    → (fs : List Event) → IsSchedule (lines_of text) fs → MatchResult r (λ v. v ≡ fs) (λ f. f ≡ faults.NoMemory)
only_read text (Ok v) same line fs other = same fs other
only_read text (Err faults.NoMemory) same line fs other = refl
only_read text (Err (faults.Line n)) same line fs other = absurd (no_bad text fs n other (line n refl))

pub err_only : (text : List ℕ) (r : Result (List Event) TextFault) (f : TextFault) → r ≡ Err f → ((n : ℕ) → IsErrOf r (faults.Line n) → FirstBad AreScheduleLines text n)
    → (fs : List Event) → IsSchedule (lines_of text) fs → MatchResult r (λ v. v ≡ fs) (λ g. g ≡ faults.NoMemory)
err_only text r f e line fs other = only_read text r (λ gs same. rw e tt) line fs other

pub overfull : (text rest line after : List ℕ) (es : List Event) (n : ℕ) (item : Item) (r : Result (List Event) TextFault) (f g : TextFault) → SoFar text rest es n → lines_of rest ≡ line ∷ lines_of after → ReadsLine line (Some item) → r ≡ Err g → g ≡ f
    → ((m : ℕ) → IsErrOf {T = Unit {0}} {E = TextFault} (Err f) (faults.Line m) → (m ≡ n + 1) × (16_777_216 < length es + length (item_events item))) → (m : ℕ) → IsErrOf r (faults.Line m) → FirstBad AreScheduleLines text m
overfull text rest line after es n item r f g so lines read e same over m is =
    let line_m : f ≡ faults.Line m = cc in
    let it = over m (ap (λ (x : TextFault). Err x) line_m) in
    subst (FirstBad AreScheduleLines text) (sym it.0) (full text rest line after es n item so lines read it.1)
