use Rattle.std.proofs.Common.{◌≡◌, ℕ, zero, suc, ◌≤◌, ◌/◌, ◌%◌, Bool, true, false, ◌&&◌, ◌==◌, if◌then◌else◌, List, [], ◌∷◌, ◌++◌, IfSome, inl, inr, codes, decimal, encode_utf8_all, refl, arith}
use Rattle.std.specs.Fmt.{digit_glyph, digits, digits_onto}
use Rattle.std.specs.List.{list_all}
use Rattle.std.proofs.lemmas.Bool.{cases_lt, le-ltb, lt-ltb, ne_eqb, or_parts}
use Rattle.m161_asm.specs.declared.error.AsmError.{AsmError}
use Rattle.m161_asm.specs.declared.error.ErrorKind.{ErrorKind}
use Rattle.m161_asm.specs.declared.error.ErrorKind.TheVariants as asm
use Rattle.m161_asm.specs.Kinds.{name_of_kind, number_of_kind}
use Rattle.m161_cause.specs.Cause.{name_of_cause}
use Rattle.m161_cause.specs.declared.cause.Cause.{Cause}
use Rattle.m161_cause.specs.declared.cause.Cause.TheVariants as cause
use Rattle.m161_elf.specs.LoadError.{name_of_fault, number_of_fault}
use Rattle.m161_elf.specs.declared.image.LoadError.{LoadError}
use Rattle.m161_elf.specs.declared.image.LoadError.TheVariants as load
use Rattle.m161_elf.specs.declared.outside.OutsideRam.{OutsideRam}
use Rattle.m161_text.specs.Parts.{◌␣◌, hex_digit, hex_text, word_text}
use Rattle.m161_text.proofs.Hex.{hex_digit_above}
use Rattle.m161_machine.specs.declared.event.Refusal.{Refusal}
use Rattle.m161_machine.specs.declared.event.Refusal.TheVariants as refusals
use Rattle.m161_machine.specs.Refusal.{name_of_refusal, number_of_refusal}
use Rattle.s161_base.specs.declared.fault.Fault.{Fault}
use Rattle.s161_base.specs.declared.fault.Fault.TheVariants.{After, Conf, File, Image, Input, Log, LogImage, LogMachine, Memory, Never, Output, Schedule, Source, Threads, Touches, Watch, Watches, Word}
use Rattle.s161_base.specs.declared.fault.Unloaded.{Unloaded}
use Rattle.s161_base.specs.declared.fault.Unloaded.TheVariants as unloaded
use Rattle.s161_base.specs.declared.fault.Unread.{Unread}
use Rattle.s161_base.specs.declared.fault.Unread.TheVariants.{Failed, NotUtf8, TooLong}
use Rattle.s161_base.specs.Excerpts.{characters_of}
use Rattle.s161_base.specs.Explained.{explanation_of, of_cause, of_file, of_image, of_input, of_source, of_unloaded}
use Rattle.s161_base.specs.FaultLines.{detail_of, fault_head, is_marked, is_plain, quoted, segment_text, shown_byte, shown_name, source_text, IsPlain}
use Rattle.s161_base.specs.Faults.{error_of}

-- The lines of faults have no byte that ends a line, and one opening bracket at most.

both : (a b : Bool) → a ≡ true → b ≡ true → (a && b) ≡ true
both a b first second = rw (first, second)

parts : (a b : Bool) → (a && b) ≡ true → (a ≡ true) × (b ≡ true)
parts true b h = (refl, h)
parts false b h = absurd (cc)

front : (a b : List ℕ) → IsPlain a → IsPlain b → IsPlain (a ++ b)
front [] b first second = second
front (x ∷ a) b first second =
    let xs = parts (is_plain x) (list_all is_plain a) first in
    both (is_plain x) (list_all is_plain (a ++ b)) xs.0 (front a b xs.1 second)

spaced : (a b : List ℕ) → IsPlain a → IsPlain b → IsPlain (a ␣ b)
spaced a b first second = front a (32 ∷ b) first second

-- digits and letters
high : (b : ℕ) → 48 ≤ b → is_plain b ≡ true
high b le = rw (le-ltb b 32 (omega arith), ne_eqb b 40 (λ e. omega arith))

glyph_high : (d : ℕ) → 48 ≤ digit_glyph false d
glyph_high d = elim (cases_lt d 10) [
  | inl low ↦ rw (lt-ltb d 10 low) (omega arith)
  | inr not_low ↦ rw (le-ltb d 10 not_low) (omega arith)
]

either : (b : Bool) (x y : List ℕ) → IsPlain x → IsPlain y → IsPlain (if b then x else y)
either true x y first second = first
either false x y first second = second

onto : (k n : ℕ) (after : List ℕ) → IsPlain after → IsPlain (digits_onto k 10 false n after)
onto zero n after plain = plain
onto (suc k) n after plain =
    let digit = digit_glyph false (n % 10) in
    let more : IsPlain (digit ∷ after) = both (is_plain digit) (list_all is_plain after) (high digit (glyph_high (n % 10))) plain in
    either (n / 10 == 0) (digit ∷ after) (digits_onto k 10 false (n / 10) (digit ∷ after)) more (onto k (n / 10) (digit ∷ after) more)

number : (n : ℕ) → IsPlain (decimal n)
unfolding digits
number n = onto 64 n [] refl

hex : (k n : ℕ) → IsPlain (hex_text k n)
hex zero n = refl
hex (suc k) n =
    front (hex_text k (n / 16)) (hex_digit (n % 16) ∷ []) (hex k (n / 16))
    (both (is_plain (hex_digit (n % 16))) true (high (hex_digit (n % 16)) (hex_digit_above (n % 16))) refl)

byte_by : (b : ℕ) (marked : Bool) → is_marked b ≡ marked → IsPlain (if marked then codes "\\x" ++ hex_text 2 b else b ∷ [])
byte_by b true is = front (codes "\\x") (hex_text 2 b) refl (hex 2 b)
byte_by b false is =
    let last = or_parts _ (b == 92) is in
    let bracket = or_parts _ (b == 40) last.0 in
    let low = or_parts _ (b == 127) bracket.0 in
    rw (low.0, bracket.1)

name : (bs : List ℕ) → IsPlain (shown_name bs)
name [] = refl
name (b ∷ bs) = front (shown_byte b) (shown_name bs) (byte_by b (is_marked b) refl) (name bs)

kind : (k : ErrorKind) → IsPlain (name_of_kind k)
kind asm.BadToken = refl
kind asm.UnknownWord = refl
kind asm.BadOperand = refl
kind asm.OutOfRange = refl
kind asm.UnknownLabel = refl
kind asm.DoubleLabel = refl
kind asm.BranchTooFar = refl
kind asm.Overlap = refl
kind asm.NoMemory = refl

image : (e : LoadError) → IsPlain (name_of_fault e)
image load.Truncated = refl
image load.NotElf32Big = refl
image load.NotExecutable = refl
image load.NotMips = refl
image load.BadHeaderTable = refl
image load.SegmentOutsideFile = refl
image load.SegmentOutsideRam = refl
image load.FileLargerThanMemory = refl
image load.BadEntry = refl
image load.NoMemory = refl

threads : (c : Cause) → IsPlain (name_of_cause c)
threads cause.BadQuotas = refl
threads cause.BadBurst = refl
threads cause.NoMemory = refl
threads cause.NoThread = refl
threads (cause.Held p k) = refl
threads cause.Worn = refl
threads cause.Miscount = refl
threads cause.Swapped = refl

source : (e : AsmError) → IsPlain (source_text e)
source e =
    spaced (decimal e.line ++ codes ":" ++ decimal e.column) (decimal (number_of_kind e.kind) ␣ name_of_kind e.kind)
    (front (decimal e.line ++ codes ":") (decimal e.column) (front (decimal e.line) (codes ":") (number e.line) refl) (number e.column))
    (spaced (decimal (number_of_kind e.kind)) (name_of_kind e.kind) (number (number_of_kind e.kind)) (kind e.kind))

refusal : (r : Refusal) → IsPlain (name_of_refusal r)
refusal refusals.BadProcessor = refl
refusal refusals.Off = refl
refusal refusals.Worn = refl
refusal refusals.KeyFull = refl
refusal refusals.NothingSent = refl
refusal refusals.NoMemory = refl

pub head : (fault : Fault) → IsPlain (fault_head fault)
head (File file why) = spaced (codes "s161: file") (shown_name file.now) refl (name file.now)
head (Schedule n) = spaced (codes "s161: schedule line") (decimal n) refl (number n)
head (Log n) = spaced (codes "s161: log line") (decimal n) refl (number n)
head LogMachine = refl
head LogImage = refl
head (Watches n) = spaced (codes "s161: watches line") (decimal n) refl (number n)
head (Watch k) = spaced (codes "s161: watch") (decimal k) refl (number k)
head (Never word) = spaced (codes "s161: never") (shown_name word.now) refl (name word.now)
head (Touches word) = spaced (codes "s161: touches") (shown_name word.now) refl (name word.now)
head (After k r) =
    spaced (codes "s161: after") (decimal k ␣ decimal (number_of_refusal r) ␣ name_of_refusal r) refl
    (spaced (decimal k) (decimal (number_of_refusal r) ␣ name_of_refusal r) (number k)
    (spaced (decimal (number_of_refusal r)) (name_of_refusal r) (number (number_of_refusal r)) (refusal r)))
head Conf = refl
head (Image why) =
    let e = error_of why in
    spaced (codes "s161: image") (decimal (number_of_fault e) ␣ name_of_fault e) refl
    (spaced (decimal (number_of_fault e)) (name_of_fault e) (number (number_of_fault e)) (image e))
head (Source e) = spaced (codes "s161: source") (source_text e.error) refl (source e.error)
head (Threads c) = spaced (codes "s161: threads") (name_of_cause c) refl (threads c)
head Memory = refl
head (Input why) = refl
head Word = refl
head Output = refl

file_why : (why : Unread) → IsPlain (of_file why)
file_why Failed = refl
file_why TooLong = refl
file_why NotUtf8 = refl

input_why : (why : Unread) → IsPlain (of_input why)
input_why Failed = refl
input_why TooLong = refl
input_why NotUtf8 = refl

image_why : (e : LoadError) → IsPlain (of_image e)
image_why load.Truncated = refl
image_why load.NotElf32Big = refl
image_why load.NotExecutable = refl
image_why load.NotMips = refl
image_why load.BadHeaderTable = refl
image_why load.SegmentOutsideFile = refl
image_why load.SegmentOutsideRam = refl
image_why load.FileLargerThanMemory = refl
image_why load.BadEntry = refl
image_why load.NoMemory = refl

unloaded_why : (why : Unloaded) → IsPlain (of_unloaded why)
unloaded_why (unloaded.Load e) = image_why e
unloaded_why (unloaded.Segment s) = refl

source_why : (k : ErrorKind) → IsPlain (of_source k)
source_why asm.BadToken = refl
source_why asm.UnknownWord = refl
source_why asm.BadOperand = refl
source_why asm.OutOfRange = refl
source_why asm.UnknownLabel = refl
source_why asm.DoubleLabel = refl
source_why asm.BranchTooFar = refl
source_why asm.Overlap = refl
source_why asm.NoMemory = refl

threads_why : (c : Cause) → IsPlain (of_cause c)
threads_why cause.BadQuotas = refl
threads_why cause.BadBurst = refl
threads_why cause.NoMemory = refl
threads_why cause.NoThread = refl
threads_why (cause.Held p k) = refl
threads_why cause.Worn = refl
threads_why cause.Miscount = refl
threads_why cause.Swapped = refl

pub why : (fault : Fault) → IfSome (explanation_of fault) IsPlain
why (File file reason) = file_why reason
why (Schedule n) = refl
why (Log n) = refl
why LogMachine = refl
why LogImage = refl
why (Watches n) = refl
why (Watch k) = refl
why (Never word) = refl
why (Touches word) = refl
why (After k r) = refl
why Conf = refl
why (Image reason) = unloaded_why reason
why (Source e) = source_why e.error.kind
why (Threads c) = threads_why c
why Memory = tt
why (Input reason) = input_why reason
why Word = refl
why Output = tt

quoted_plain : (cs : List ℕ) → IsPlain (quoted cs)
quoted_plain [] = refl
quoted_plain (c ∷ cs) =
    let shown = shown_name (encode_utf8_all (c ∷ cs)) in
    front (codes ": \"") (shown ++ codes "\"") refl (front shown (codes "\"") (name (encode_utf8_all (c ∷ cs))) refl)

segment_plain : (s : OutsideRam) → IsPlain (segment_text s)
segment_plain s =
    let last = codes "bytes in kseg0 or kseg1" in
    let ram = decimal s.ram ␣ last in
    let behind = codes "on, not all in RAM of" ␣ ram in
    let memory = word_text s.address ␣ behind in
    let from = codes "bytes from" ␣ memory in
    let size = decimal s.size ␣ from in
    front (decimal s.header) (codes "," ␣ size) (number s.header)
    (spaced (codes ",") size refl
    (spaced (decimal s.size) from (number s.size)
    (spaced (codes "bytes from") memory refl
    (spaced (word_text s.address) behind (hex 8 s.address)
    (spaced (codes "on, not all in RAM of") ram refl (spaced (decimal s.ram) last (number s.ram) refl))))))

pub detail : (fault : Fault) → IsPlain (detail_of fault)
detail (File file reason) = refl
detail (Schedule n) = refl
detail (Log n) = refl
detail LogMachine = refl
detail LogImage = refl
detail (Watches n) = refl
detail (Watch k) = refl
detail (Never word) = refl
detail (Touches word) = refl
detail (After k r) = refl
detail Conf = refl
detail (Image (unloaded.Load e)) = refl
detail (Image (unloaded.Segment s)) = segment_plain s
detail (Source e) = quoted_plain (characters_of e.word)
detail (Threads c) = refl
detail Memory = refl
detail (Input reason) = refl
detail Word = refl
detail Output = refl
