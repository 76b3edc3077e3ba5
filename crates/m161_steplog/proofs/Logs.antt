-- The lines of a log.
use Rattle.std.proofs.Common.{◌≡◌, ℕ, zero, suc, ◌<◌, ◌≤◌, List, [], ◌∷◌, ◌++◌, None, Some, Err, IsErrOf, length, take, drop, map, get_or, refl, sym, ap, ap₂, subst, ◌+◌, ◌^◌, ◌∙◌, arith, inl, append_assoc, append-nil}
use Rattle.std.proofs.lemmas.List.{take-append-le, take-map, length-map, map_push}
use Rattle.std.proofs.lemmas.Option.{none-some, same_Some}
use Rattle.std.specs.List.{AllByRecursion}
use Rattle.m161_machine.specs.declared.event.Entry.{Entry}
use Rattle.m161_steplog.specs.declared.fault.TextFault.{TextFault}
use Rattle.m161_steplog.specs.declared.fault.TextFault.TheVariants as faults
use Rattle.m161_text.specs.Parts.{Reads, Lacks}
use Rattle.m161_steplog.specs.Text.{entry_text}
use Rattle.m161_text.specs.Lines.{lines_of, FirstBad}
use Rattle.m161_steplog.specs.declared.log.LogText.{LogText}
use Rattle.m161_steplog.specs.declared.mode.Mode.{Mode}
use Rattle.m161_steplog.specs.Log.{header_text, log_text, log_lines, IsEntryOf, IsHeader, IsLog, AreLinesOf, AreLogLines}
use Rattle.m161_steplog.specs.Comments.{comment_count, behind_comments, IsLogFile, IsFirstBadOfLog}
use Rattle.m161_steplog.specs.helpers.Log.{IsDistinct, ReadsHeader, ReadsLines, fault_behind}
use Rattle.m161_steplog.proofs.Passing.{bad_within}
use Rattle.m161_text.proofs.Feeds.{lines_of-ended}
use Rattle.m161_steplog.proofs.LogLines.{entry_lacks_feed, header_lacks_feed, mode_same}

each_lacks : (mode : Mode) (es : List Entry) → AllByRecursion (IsEntryOf mode) es → AllByRecursion (Lacks 10) (map entry_text es)
each_lacks mode [] each = tt
each_lacks mode (e ∷ es) each = (entry_lacks_feed e each.0.proper, each_lacks mode es each.1)

-- an entry that was read is distinct
distinct_by : (mode : Mode) (line : List ℕ) (e : Entry) → Reads (IsEntryOf mode) entry_text line (Some e) → IsDistinct mode e
distinct_by mode line e one = record { fits = one.found.0; alone = λ x fits same. same_Some e x (one.only x fits (one.found.1 ∙ same)) }

all_take : (mode : Mode) (j : ℕ) (es : List Entry) → AllByRecursion (IsEntryOf mode) es → AllByRecursion (IsEntryOf mode) (take j es)
all_take mode zero es each = tt
all_take mode (suc j) [] each = tt
all_take mode (suc j) (e ∷ es) each = (each.0, all_take mode j es each.1)

all_fit : (mode : Mode) (es : List Entry) → AllByRecursion (IsDistinct mode) es → AllByRecursion (IsEntryOf mode) es
all_fit mode [] distinct = tt
all_fit mode (e ∷ es) distinct = (distinct.0.fits, all_fit mode es distinct.1)

all_push : (mode : Mode) (es : List Entry) (e : Entry) → AllByRecursion (IsDistinct mode) es → IsDistinct mode e → AllByRecursion (IsDistinct mode) (es ++ e ∷ [])
all_push mode [] e distinct one = (one, tt)
all_push mode (x ∷ es) e distinct one = (distinct.0, all_push mode es e distinct.1 one)

-- distinct entries with the lines of a log are the log
distinct_same : (mode : Mode) (es fs : List Entry) → AllByRecursion (IsDistinct mode) es → AllByRecursion (IsEntryOf mode) fs → map entry_text es ≡ map entry_text fs → es ≡ fs
distinct_same mode [] [] distinct each e = refl
distinct_same mode [] (f ∷ fs) distinct each e = absurd (omega (arith, ap length e))
distinct_same mode (x ∷ es) [] distinct each e = absurd (omega (arith, ap length e))
distinct_same mode (x ∷ es) (f ∷ fs) distinct each e =
    let head : entry_text x ≡ entry_text f = cc in
    let rest : map entry_text es ≡ map entry_text fs = cc in
    ap₂ (λ (y : Entry) (ys : List Entry). y ∷ ys) (distinct.0.alone f each.0 head) (distinct_same mode es fs distinct.1 each.1 rest)

-- entries of one mode are those of the same mode
of_same : (m n : Mode) (es : List Entry) → m ≡ n → AllByRecursion (IsEntryOf n) es → AllByRecursion (IsEntryOf m) es
of_same m n es same each = subst (λ k. AllByRecursion (IsEntryOf k) es) (sym same) each

-- all lines were read
all_lines : (text : List ℕ) (mode : Mode) (es : List Entry) → (read : ReadsLines text mode es []) → lines_of text ≡ log_lines read.header es
all_lines text mode es read = read.lines ∙ append-nil (log_lines read.header es)

-- a text has one mode and one list of entries
log_same : (text : List ℕ) (m n : Mode) (es fs : List Entry) → ReadsLines text m es [] → IsLog text n fs → (m ≡ n) × (es ≡ fs)
log_same text m n es fs read log =
    let same : log_lines read.header es ≡ log_lines log.header fs = sym (all_lines text m es read) ∙ log.text in
    let header : read.header ≡ log.header = ap (λ ls. get_or ls 0 []) same in
    let rest : map entry_text es ≡ map entry_text fs = ap (drop 1) same in
    let modes : m ≡ n = mode_same m n read.header read.first (subst (IsHeader n) (sym header) log.first) in
    (modes, distinct_same m es fs read.each (of_same m n fs modes log.each) rest)

-- the first lines of a log are those of a log
first_lines : (mode : Mode) (es : List Entry) (lines : List (List ℕ)) (j : ℕ) → AreLinesOf mode es lines → AreLinesOf mode (take j es) (take (suc j) lines)
first_lines mode es lines j log = record {
  header = log.header;
  first = log.first;
  each = all_take mode j es log.each;
  text = ap (take (suc j)) log.text ∙ ap (λ ls. log.header ∷ ls) (take-map entry_text j es);
}

-- a log has no bad line
log_no_bad : (text : List ℕ) (mode : Mode) (es : List Entry) (n : ℕ) → IsLog text mode es → FirstBad AreLogLines text n → ⊥
log_no_bad text mode es zero log fault = absurd (omega (arith, fault.one))
log_no_bad text mode es (suc j) log fault = fault.bad (mode, take j es, first_lines mode es (lines_of text) j log)

-- the text of a log, as it is written
pub written_log : (mode : Mode) (es : List Entry) → AllByRecursion (IsEntryOf mode) es → IsLog (log_text mode es) mode es
written_log mode es each = record {
  header = header_text mode;
  first = inl refl;
  each = each;
  text = lines_of-ended (log_lines (header_text mode) es) (header_lacks_feed mode (header_text mode) (inl refl), each_lacks mode es each);
}

-- a first line that no mode has
pub bad_header : (text header : List ℕ) (more : List (List ℕ)) → lines_of text ≡ header ∷ more → ReadsHeader header None → FirstBad AreLogLines text 1
bad_header text header more lines none = record {
  one = omega arith;
  bad = λ log.
      let same : header ∷ [] ≡ log_lines log.2.header log.1 = sym (ap (take 1) lines) ∙ log.2.text in
      none-some log.0 (none.only log.0 (subst (IsHeader log.0) (sym (ap (λ ls. get_or ls 0 []) same)) log.2.first));
  before = λ k some few. absurd (omega arith);
}

last_is : (mode : Mode) (line : List ℕ) (es fs : List Entry) → AllByRecursion (IsEntryOf mode) fs → map entry_text es ++ line ∷ [] ≡ map entry_text fs → (x : Entry) × IsEntryOf mode x × (line ≡ entry_text x)
last_is mode line [] [] each e = absurd (omega (arith, ap length e))
last_is mode line [] (f ∷ fs) each e = (f, each.0, (cc))
last_is mode line (x ∷ es) [] each e = absurd (omega (arith, ap length e))
last_is mode line (x ∷ es) (f ∷ fs) each e = last_is mode line es fs each.1 (cc)

-- the first line, whatever its mode
pub after_header : (text header : List ℕ) (more : List (List ℕ)) (mode : Mode) (es : List Entry) → es ≡ [] → lines_of text ≡ header ∷ more → ReadsHeader header (Some mode) → ReadsLines text mode es more
after_header text header more mode es none lines one = record { header = header; first = one.found; each = rw none tt; lines = rw none lines }

-- the lines that are left, said in another way
pub lines_left : (text : List ℕ) (mode : Mode) (es : List Entry) (left lines : List (List ℕ)) → left ≡ lines → ReadsLines text mode es left → ReadsLines text mode es lines
lines_left text mode es left lines same read = subst (ReadsLines text mode es) same read

-- one entry more
pub one_more : (text line : List ℕ) (more : List (List ℕ)) (mode : Mode) (es fs : List Entry) (e : Entry) → fs ≡ es ++ e ∷ [] → ReadsLines text mode es (line ∷ more) → Reads (IsEntryOf mode) entry_text line (Some e) → ReadsLines text mode fs more
one_more text line more mode es fs e push read one =
    let front : map entry_text es ++ line ∷ more ≡ (map entry_text es ++ line ∷ []) ++ more = sym (append_assoc (map entry_text es) (line ∷ []) more) in
    let pushed : map entry_text es ++ line ∷ [] ≡ map entry_text fs = rw (one.found.1, push) (sym (map_push entry_text es e)) in
    record {
      header = read.header;
      first = read.first;
      each = rw push (all_push mode es e read.each (distinct_by mode line e one));
      lines = read.lines ∙ ap (λ ls. read.header ∷ ls) (front ∙ ap (λ ls. ls ++ more) pushed);
    }

-- the first bad line after the first
bad_entry : (text line : List ℕ) (more : List (List ℕ)) (mode : Mode) (es : List Entry) → ReadsLines text mode es (line ∷ more) → Reads (IsEntryOf mode) entry_text line None → FirstBad AreLogLines text (suc (suc (length es)))
bad_entry text line more mode es read none = record {
  one = omega arith;
  bad = λ log.
      let lines = sym (ap (take (suc (suc (length es)))) read.lines) ∙ log.2.text in
      let header : read.header ≡ log.2.header = ap (λ ls. get_or ls 0 []) lines in
      let modes : mode ≡ log.0 = mode_same mode log.0 read.header read.first (subst (IsHeader log.0) (sym header) log.2.first) in
      let same : map entry_text es ++ line ∷ [] ≡ map entry_text log.1 = sym (upto es) ∙ ap (drop 1) lines in
      let last = last_is mode line es log.1 (of_same mode log.0 log.1 modes log.2.each) same in
      none-some last.0 (none.only last.0 last.1 last.2);
  before = before;
}
  where
    upto : (xs : List Entry) → take (suc (length xs)) (map entry_text xs ++ line ∷ more) ≡ map entry_text xs ++ line ∷ []
    upto [] = refl
    upto (x ∷ xs) = ap (λ ls. entry_text x ∷ ls) (upto xs)

    before : (k : ℕ) → 1 ≤ k → k < suc (suc (length es)) → AreLogLines (take k (lines_of text))
    before zero some few = absurd (omega arith)
    before (suc j) some few =
        let long : j ≤ length (map entry_text es) = omega (arith, length-map es entry_text) in
        let front : take j (map entry_text es ++ line ∷ more) ≡ map entry_text (take j es) = take-append-le j (map entry_text es) (line ∷ more) long ∙ take-map entry_text j es in (
          mode,
          take j es,
          record {
            header = read.header;
            first = read.first;
            each = all_take mode j es (all_fit mode es read.each);
            text = ap (take (suc j)) read.lines ∙ ap (λ ls. read.header ∷ ls) front;
          },
        )

pub bad_entry_at : (text line : List ℕ) (more : List (List ℕ)) (mode : Mode) (es : List Entry) (n : ℕ) → n ≡ suc (suc (length es)) → ReadsLines text mode es (line ∷ more) → Reads (IsEntryOf mode) entry_text line None → FirstBad AreLogLines text n
bad_entry_at text line more mode es n e read none = rw e (bad_entry text line more mode es read none)

-- the log behind comments
pub file_found : (text rest : List ℕ) (mode : Mode) (es : List Entry) → rest ≡ behind_comments text → ReadsLines rest mode es [] → IsLogFile text mode es
file_found text rest mode es is read = subst (λ t. IsLog t mode es) is (record {
  header = read.header;
  first = read.first;
  each = all_fit mode es read.each;
  text = all_lines rest mode es read;
})

pub file_only : (text rest : List ℕ) (m n : Mode) (es fs : List Entry) → rest ≡ behind_comments text → ReadsLines rest m es [] → IsLogFile text n fs → (m ≡ n) × (es ≡ fs)
file_only text rest m n es fs is read log = log_same rest m n es fs read (subst (λ t. IsLog t n fs) (sym is) log)

file_bad : (text rest : List ℕ) (count n m : ℕ) → rest ≡ behind_comments text → count ≡ comment_count text → FirstBad AreLogLines rest n → m ≡ count + n → IsFirstBadOfLog text m
file_bad text rest count n m is number bad sum = (n, sum ∙ ap (λ c. c + n) number, subst (λ t. FirstBad AreLogLines t n) is bad)

file_no_bad : (text rest : List ℕ) (mode : Mode) (fs : List Entry) (n : ℕ) → rest ≡ behind_comments text → FirstBad AreLogLines rest n → IsLogFile text mode fs → ⊥
file_no_bad text rest mode fs n is bad log = log_no_bad rest mode fs n (subst (λ t. IsLog t mode fs) (sym is) log) bad

-- a fault behind lines
abbrev Faults : List ℕ → TextFault → Type 0
Faults rest f = (n : ℕ) → IsErrOf {T = LogText} {E = TextFault} (Err f) (faults.Line n) → FirstBad AreLogLines rest n

pub fault_fits : (rest : List ℕ) (count total : ℕ) (f : TextFault) → Faults rest f → count + length rest ≤ total → total < 2 ^ 63 → (n : ℕ) → f ≡ faults.Line n → count + n < 2 ^ 64
fault_fits rest count total f line room small n is = omega (arith, bad_within AreLogLines rest n (line n (ap (λ x. Err x) is)))

pub file_line : (text rest : List ℕ) (count : ℕ) (f : TextFault) → rest ≡ behind_comments text → count ≡ comment_count text → Faults rest f
    → (n : ℕ) → IsErrOf {T = LogText} {E = TextFault} (Err (fault_behind count f)) (faults.Line n) → IsFirstBadOfLog text n
file_line text rest count faults.NoMemory is number line n fault = absurd (cc)
file_line text rest count (faults.Line k) is number line n fault =
    let sum : n ≡ count + k = cc in
    file_bad text rest count k n is number (line k refl) sum

pub file_err : (text rest : List ℕ) (count : ℕ) (f : TextFault) → rest ≡ behind_comments text → Faults rest f
    → (mode : Mode) (es : List Entry) → IsLogFile text mode es → fault_behind count f ≡ faults.NoMemory
file_err text rest count faults.NoMemory is line mode es log = refl
file_err text rest count (faults.Line k) is line mode es log = absurd (file_no_bad text rest mode es k is (line k refl) log)
