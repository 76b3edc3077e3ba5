use Rattle.std.proofs.Common.{◌≡◌, ℕ, ◌+◌, Bool, true, false, if◌then◌else◌, cond, List, [], ◌∷◌, ◌++◌, map, Option, None, Some, slice_index, refl, sym, ◌∙◌, ap, append-nil, arith}
use Rattle.std.specs.Prelude.{filter, find, reverse, ◌||◌, ◌&&◌}
use Rattle.std.specs.List.{list_any, cons_option}
use Rattle.std.specs.Option.{option_map_or}
use Rattle.std.proofs.lemmas.List.{reverse-append, map-append}
use Rattle.std.proofs.lemmas.List.Elements.{filter-append}
use Rattle.std.proofs.lemmas.List.Folds.{list_any-append}
use Rattle.std.proofs.lemmas.List.FromFn.{filter_of_map_range_with_len_more}
use Rattle.m161_elf.specs.declared.header.ProgramHeader.{ProgramHeader}
use Rattle.m161_elf.specs.declared.span.Span.{Span}
use Rattle.m161_elf.specs.helpers.Copied.{put_byte}
use Rattle.m161_elf.specs.Header.{header, is_load, segments_among}
use Rattle.m161_elf.specs.helpers.Header.{segment_at}
use Rattle.m161_elf.specs.Image.{byte_left, covers, is_larger_in_file, is_outside_file, is_outside_ram, segment_byte}
use Rattle.m161_elf.specs.helpers.Sound.{faults_among}
use Rattle.m161_elf.specs.Span.{has_bytes, span_of, spans_among}
use Rattle.m161_elf.specs.helpers.Span.{span_at}
use Rattle.std.proofs.Math.Bool.{or-false}

-- What one program header more adds.

as_list : {X : Type 0} (test : Bool) (x : X)
    → cond test (x ∷ []) [] ≡ cons_option (if test then Some x else None) []
as_list true x = refl
as_list false x = refl

-- to the segments
pub segments_more : (file : List ℕ) (i : ℕ)
    → segments_among file (i + 1) ≡ segments_among file i ++ cons_option (segment_at file i) []
segments_more file i =
    filter_of_map_range_with_len_more is_load (header file) 0 i i (omega arith)
    ∙ ap (λ more. segments_among file i ++ more) (as_list (is_load (header file i)) (header file i))

pub segments_with : (file : List ℕ) (i : ℕ) (s : ProgramHeader) → Some s ≡ segment_at file i
    → segments_among file (i + 1) ≡ segments_among file i ++ s ∷ []
segments_with file i s found =
    segments_more file i ∙ ap (λ o. segments_among file i ++ cons_option o []) (sym found)

pub segments_without : (file : List ℕ) (i : ℕ) → None ≡ segment_at file i
    → segments_among file (i + 1) ≡ segments_among file i
segments_without file i none =
    segments_more file i ∙ ap (λ o. segments_among file i ++ cons_option o []) (sym none)
    ∙ append-nil (segments_among file i)

-- to the byte at an address
last_or : {X : Type 0} (f : X → ℕ) (x : X) (test : Bool) (rest : Option X) →
    option_map_or f (cond test (Some x) rest) 0 ≡ (if test then f x else option_map_or f rest 0)
last_or f x true rest = refl
last_or f x false rest = refl

byte_left_with : (file : List ℕ) (xs : List ProgramHeader) (s : ProgramHeader) (at : ℕ) →
    byte_left file (xs ++ s ∷ []) at
    ≡ (if covers at s then segment_byte file at s else byte_left file xs at)
byte_left_with file xs s at =
    rw (reverse-append xs (s ∷ []))
    (last_or (segment_byte file at) s (covers at s) (find (covers at) (reverse xs)))

pub byte_put : (file : List ℕ) (i : ℕ) (s : ProgramHeader) (memory after : List ℕ) (at : ℕ)
    → Some s ≡ segment_at file i
    → slice_index memory at ≡ byte_left file (segments_among file i) at
    → slice_index after at ≡ put_byte file s memory at
    → slice_index after at ≡ byte_left file (segments_among file (i + 1)) at
byte_put file i s memory after at found before put =
    rw (segments_with file i s found, byte_left_with file (segments_among file i) s at, ← before)
    put

-- to the faults
any_with : {X : Type 0} (test : X → Bool) (xs : List X) (x : X)
    → list_any test (xs ++ x ∷ []) ≡ (list_any test xs || test x)
any_with test xs x =
    list_any-append test xs (x ∷ []) ∙ ap (λ b. list_any test xs || b) (or-false (test x))

pub faults_with : (file : List ℕ) (ram i : ℕ) (s : ProgramHeader) → Some s ≡ segment_at file i
    → faults_among file ram (i + 1) ≡ record {
      outside_file = (faults_among file ram i).outside_file || is_outside_file file s;
      outside_ram = (faults_among file ram i).outside_ram || is_outside_ram ram s;
      larger_in_file = (faults_among file ram i).larger_in_file || is_larger_in_file s;
    }
faults_with file ram i s found =
    let xs = segments_among file i in
    rw (
      segments_with file i s found,
      any_with (is_outside_file file) xs s,
      any_with
          (is_outside_ram ram) xs s,
      any_with is_larger_in_file xs s,
    ) refl

pub faults_without : (file : List ℕ) (ram i : ℕ) → None ≡ segment_at file i
    → faults_among file ram (i + 1) ≡ faults_among file ram i
faults_without file ram i none = rw (segments_without file i none) refl

-- to the spans
span_as_list : (s : ProgramHeader) (test : Bool)
    → map span_of (cond test (s ∷ []) []) ≡ cons_option (if test then Some (span_of s) else None) []
span_as_list s true = refl
span_as_list s false = refl

spans_of_one : (s : ProgramHeader) (test : Bool) →
    map span_of (filter has_bytes (cons_option (if test then Some s else None) []))
    ≡ cons_option (if test && has_bytes s then Some (span_of s) else None) []
spans_of_one s true = span_as_list s (has_bytes s)
spans_of_one s false = refl

pub spans_more : (file : List ℕ) (i : ℕ)
    → spans_among file (i + 1) ≡ spans_among file i ++ cons_option (span_at file i) []
spans_more file i =
    let xs = segments_among file i in
    let more = cons_option (segment_at file i) [] in
    ap (λ ys. map span_of (filter has_bytes ys)) (segments_more file i)
    ∙ ap (map span_of) (filter-append has_bytes xs more)
    ∙ map-append span_of (filter has_bytes xs) (filter has_bytes more)
    ∙ ap (λ ys. spans_among file i ++ ys) (spans_of_one (header file i) (is_load (header file i)))

pub spans_with : (file : List ℕ) (i : ℕ) (s : Span) → Some s ≡ span_at file i
    → spans_among file (i + 1) ≡ spans_among file i ++ s ∷ []
spans_with file i s found =
    spans_more file i ∙ ap (λ o. spans_among file i ++ cons_option o []) (sym found)

pub spans_without : (file : List ℕ) (i : ℕ) → None ≡ span_at file i
    → spans_among file (i + 1) ≡ spans_among file i
spans_without file i none =
    spans_more file i ∙ ap (λ o. spans_among file i ++ cons_option o []) (sym none)
    ∙ append-nil (spans_among file i)
