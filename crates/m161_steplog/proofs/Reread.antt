-- A written schedule, read again.
use Rattle.std.proofs.Common.{◌≡◌, ℕ, zero, suc, ◌+◌, ◌*◌, ◌/◌, ◌%◌, ◌<◌, ◌≤◌, List, [], ◌∷◌, ◌++◌, Bool, true, false, eqb, eqb-true, map, flat_map, replicate, length, take, take_all, refl, sym, subst, ap, ap₂, ◌∙◌, arith, append-nil, decimal}
use Rattle.std.proofs.lemmas.List.{replicate-append-replicate}
use Rattle.std.proofs.lemmas.List.Concat.{flat_map-append}
use Rattle.std.specs.List.{AllByRecursion}
use Rattle.m161_machine.specs.declared.event.Event.{Event}
use Rattle.m161_machine.specs.declared.event.Event.TheVariants as events
use Rattle.m161_text.specs.Lines.{lines_of}
use Rattle.m161_text.specs.Parts.{Lacks, IsWord}
use Rattle.m161_text.proofs.Decimal.{decimal_lacks}
use Rattle.m161_text.proofs.Feeds.{lines_of-ended}
use Rattle.m161_steplog.specs.Text.{event_text, IsEvent}
use Rattle.m161_steplog.specs.Schedule.{ScheduleLine, line_text, line_events, IsLine, IsCount, IsSchedule}
use Rattle.m161_steplog.specs.Written.{Block, step_before, event_before, blocks, steps_line, block_lines, written_lines, schedule_text}
use Rattle.m161_steplog.proofs.Blocks.{by_test}
use Rattle.m161_steplog.proofs.LogLines.{event_lacks_feed, lacks_append, lacks_cons}

-- a block whose numbers fit
abbrev FitsBlock : Block → Type 0
FitsBlock (Block.Steps p n) = IsWord p
FitsBlock (Block.Other e) = IsEvent e

-- a line that is written
abbrev IsWritten : ScheduleLine → Type 0
IsWritten ScheduleLine.Blank = ⊥
IsWritten (ScheduleLine.Comment text) = ⊥
IsWritten (ScheduleLine.Once e) = IsEvent e
IsWritten (ScheduleLine.Times p n) = IsWord p × IsCount n

all_append : {A : Type 0} (P : A → Type 0) (xs ys : List A) → AllByRecursion P xs → AllByRecursion P ys → AllByRecursion P (xs ++ ys)
all_append P [] ys front back = back
all_append P (x ∷ xs) ys front back = (front.0, all_append P xs ys front.1 back)

all_replicate : {A : Type 0} (P : A → Type 0) (n : ℕ) (x : A) → P x → AllByRecursion P (replicate n x)
all_replicate P zero x one = tt
all_replicate P (suc n) x one = (one, all_replicate P n x one)

-- the numbers of blocks fit
step_fits : (p : ℕ) (bs : List Block) → IsWord p → AllByRecursion FitsBlock bs → AllByRecursion FitsBlock (step_before p bs)
step_fits p [] word each = (word, tt)
step_fits p (Block.Other e ∷ bs) word each = (word, each)
step_fits p (Block.Steps q n ∷ bs) word each = by (eqb p q) refl
  where
    by : (t : Bool) → eqb p q ≡ t → AllByRecursion FitsBlock (step_before p (Block.Steps q n ∷ bs))
    by true e = subst (AllByRecursion FitsBlock) (sym (by_test true p q n bs e)) (each.0, each.1)
    by false e = subst (AllByRecursion FitsBlock) (sym (by_test false p q n bs e)) (word, each)

event_fits : (e : Event) (bs : List Block) → IsEvent e → AllByRecursion FitsBlock bs → AllByRecursion FitsBlock (event_before e bs)
event_fits (events.Step p) bs fits each = step_fits p bs fits each
event_fits (events.Key b) bs fits each = (fits, each)
event_fits events.Done bs fits each = (fits, each)

blocks_fit : (es : List Event) → AllByRecursion IsEvent es → AllByRecursion FitsBlock (blocks es)
blocks_fit [] each = tt
blocks_fit (e ∷ es) each = event_fits e (blocks es) each.0 (blocks_fit es each.1)

-- and so do those of lines
line_fits : (p n : ℕ) → IsWord p → n < 1_000_000 → AllByRecursion IsWritten (steps_line p n)
line_fits p zero word few = tt
line_fits p (suc zero) word few = (word, tt)
line_fits p (suc (suc n)) word few = ((word, (omega arith, omega arith)), tt)

block_fits : (b : Block) → FitsBlock b → AllByRecursion IsWritten (block_lines b)
block_fits (Block.Steps p n) word =
    all_append IsWritten (replicate (n / 1_000_000) (ScheduleLine.Times p 1_000_000)) (steps_line p (n % 1_000_000))
    (all_replicate IsWritten (n / 1_000_000) (ScheduleLine.Times p 1_000_000) (word, (omega arith, omega arith)))
    (line_fits p (n % 1_000_000) word (omega arith))
block_fits (Block.Other e) fits = (fits, tt)

lines_fit : (bs : List Block) → AllByRecursion FitsBlock bs → AllByRecursion IsWritten (flat_map block_lines bs)
lines_fit [] each = tt
lines_fit (b ∷ bs) each = all_append IsWritten (block_lines b) (flat_map block_lines bs) (block_fits b each.0) (lines_fit bs each.1)

is_line : (line : ScheduleLine) → IsWritten line → IsLine line
is_line ScheduleLine.Blank fits = absurd fits
is_line (ScheduleLine.Comment text) fits = absurd fits
is_line (ScheduleLine.Once e) fits = fits
is_line (ScheduleLine.Times p n) fits = fits

are_lines : (lines : List ScheduleLine) → AllByRecursion IsWritten lines → AllByRecursion IsLine lines
are_lines [] each = tt
are_lines (line ∷ lines) each = (is_line line each.0, are_lines lines each.1)

lacks_feed : (line : ScheduleLine) → IsWritten line → Lacks 10 (line_text line)
lacks_feed ScheduleLine.Blank fits = absurd fits
lacks_feed (ScheduleLine.Comment text) fits = absurd fits
lacks_feed (ScheduleLine.Once e) fits = event_lacks_feed e fits
lacks_feed (ScheduleLine.Times p n) fits =
    lacks_append 10 (event_text (events.Step p)) (32 ∷ decimal n) (event_lacks_feed (events.Step p) fits.0) (lacks_cons 10 32 (decimal n) (omega arith) (decimal_lacks 10 n (omega arith) (omega (arith, fits.1.1))))

each_lacks : (lines : List ScheduleLine) → AllByRecursion IsWritten lines → AllByRecursion (Lacks 10) (map line_text lines)
each_lacks [] each = tt
each_lacks (line ∷ lines) each = (lacks_feed line each.0, each_lacks lines each.1)

-- the events of blocks
abbrev block_events : Block → List Event
block_events (Block.Steps p n) = replicate n (events.Step p)
block_events (Block.Other e) = e ∷ []

step_back : (p : ℕ) (bs : List Block) → flat_map block_events (step_before p bs) ≡ events.Step p ∷ flat_map block_events bs
step_back p [] = refl
step_back p (Block.Other e ∷ bs) = refl
step_back p (Block.Steps q n ∷ bs) = by (eqb p q) refl
  where
    by : (t : Bool) → eqb p q ≡ t → flat_map block_events (step_before p (Block.Steps q n ∷ bs)) ≡ events.Step p ∷ flat_map block_events (Block.Steps q n ∷ bs)
    by true e =
        let is : p ≡ q = eqb-true p q e in
        let more : n + 1 ≡ suc n = omega arith in
        ap (flat_map block_events) (by_test true p q n bs e) ∙ ap (λ k. replicate k (events.Step q) ++ flat_map block_events bs) more
        ∙ ap (λ r. events.Step r ∷ replicate n (events.Step q) ++ flat_map block_events bs) (sym is)
    by false e = ap (flat_map block_events) (by_test false p q n bs e)

event_back : (e : Event) (bs : List Block) → flat_map block_events (event_before e bs) ≡ e ∷ flat_map block_events bs
event_back (events.Step p) bs = step_back p bs
event_back (events.Key b) bs = refl
event_back events.Done bs = refl

blocks_back : (es : List Event) → flat_map block_events (blocks es) ≡ es
blocks_back [] = refl
blocks_back (e ∷ es) = event_back e (blocks es) ∙ ap (λ xs. e ∷ xs) (blocks_back es)

-- the events of lines
full_back : (p w k : ℕ) → flat_map line_events (replicate k (ScheduleLine.Times p w)) ≡ replicate (k * w) (events.Step p)
full_back p w zero = let none : 0 ≡ 0 * w = omega arith in ap (λ m. replicate m (events.Step p)) none
full_back p w (suc k) =
    let more : w + k * w ≡ suc k * w = grind arith in
    ap (λ xs. replicate w (events.Step p) ++ xs) (full_back p w k) ∙ replicate-append-replicate w (k * w) (events.Step p) ∙ ap (λ m. replicate m (events.Step p)) more

line_back : (p n : ℕ) → flat_map line_events (steps_line p n) ≡ replicate n (events.Step p)
line_back p zero = refl
line_back p (suc zero) = refl
line_back p (suc (suc n)) = append-nil (replicate (suc (suc n)) (events.Step p))

block_back : (b : Block) → flat_map line_events (block_lines b) ≡ block_events b
block_back (Block.Steps p n) =
    let whole : n / 1_000_000 * 1_000_000 + n % 1_000_000 ≡ n = omega arith in
    flat_map-append line_events (replicate (n / 1_000_000) (ScheduleLine.Times p 1_000_000)) (steps_line p (n % 1_000_000))
    ∙ ap₂ (λ (a b : List Event). a ++ b) (full_back p 1_000_000 (n / 1_000_000)) (line_back p (n % 1_000_000))
    ∙ replicate-append-replicate (n / 1_000_000 * 1_000_000) (n % 1_000_000) (events.Step p)
    ∙ ap (λ m. replicate m (events.Step p)) whole
block_back (Block.Other e) = refl

lines_back : (bs : List Block) → flat_map line_events (flat_map block_lines bs) ≡ flat_map block_events bs
lines_back [] = refl
lines_back (b ∷ bs) = flat_map-append line_events (block_lines b) (flat_map block_lines bs) ∙ ap₂ (λ (x y : List Event). x ++ y) (block_back b) (lines_back bs)

pub reread : (es : List Event) → AllByRecursion IsEvent es → length es ≤ 16_777_216 → IsSchedule (lines_of (schedule_text es)) es
unfolding schedule_text
reread es each few =
    let fit = lines_fit (blocks es) (blocks_fit es each) in
    record {
      content = written_lines es;
      each = are_lines (written_lines es) fit;
      text = lines_of-ended (map line_text (written_lines es)) (each_lacks (written_lines es) fit);
      events = sym (lines_back (blocks es) ∙ blocks_back es);
      room = few;
    }

pub reread_text : (es : List Event) (text : List ℕ) (i : ℕ) → length es ≤ i → AllByRecursion IsEvent (take i es) → text ≡ schedule_text es → length es ≤ 16_777_216 → IsSchedule (lines_of text) es
reread_text es text i all each is few = rw (is) (reread es (rw (take_all i es all) at each) few)
