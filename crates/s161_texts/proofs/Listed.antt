use Rattle.std.proofs.Common.{◌≡◌, ◌≢◌, ◌∙◌, ℕ, zero, suc, ◌+◌, ◌<◌, ◌≤◌, Bool, true, false, cond, List, [], ◌∷◌, ◌++◌, length, get_or, map, Option, None, Some, Ok, Err, Vec, ap, refl, sym, arith}
use Rattle.std.specs.Prelude.{filter}
use Rattle.std.specs.Global.{Global}
use Rattle.std.specs.List.{range_with_len}
use Rattle.std.proofs.lemmas.Bool.Decides.{nat_tests}
use Rattle.std.proofs.lemmas.List.{flat_map_more}
use Rattle.std.proofs.lemmas.List.FromFn.{map-range_with_len_more}
use Rattle.m161_dis.specs.declared.naming.Style.{Style}
use Rattle.m161_display.specs.Shows.{numbered_lines}
use Rattle.m161_text.specs.Lines.{with_line_end, text_of}
use Rattle.m161_elf.specs.declared.header.ProgramHeader.{ProgramHeader}
use Rattle.m161_elf.specs.declared.image.Image.{Image}
use Rattle.m161_elf.specs.declared.image.LoadError.{LoadError}
use Rattle.m161_elf.specs.declared.image.LoadError.TheVariants as fault
use Rattle.m161_elf.specs.declared.span.Span.{Span}
use Rattle.m161_elf.specs.Header.{e_phnum, header, is_load}
use Rattle.m161_elf.specs.Image.{IsImage, Loads, first_fault, is_in_ram}
use Rattle.m161_elf.specs.helpers.Sound.{IsSoundSegment}
use Rattle.m161_elf.specs.Span.{Lists, has_bytes, span_of, spans}
use Rattle.m161_elf.proofs.Sound.{is_sound}
use Rattle.s161_texts.specs.Listings.{IsListing, IsUnlisted, dis_ram, dis_text}
use Rattle.s161_base.specs.Faults.{fault_of_load}
use Rattle.s161_texts.specs.helpers.Listings.{AreInRam}

-- The listing of a file.

-- Lines: one more of counted lines, and the lines of one more span.
pub counted_more : (line : ℕ → List ℕ) (n : ℕ) → text_of (numbered_lines (n + 1) line) ≡ text_of (numbered_lines n line) ++ with_line_end (line n)
counted_more line n = ap text_of (map-range_with_len_more line 0 n n (omega arith)) ∙ sym (flat_map_more with_line_end [] (numbered_lines n line) (line n))

-- Places: the bytes of an address within a span that is in RAM are RAM.
pub in_ram_within : (ram address size at : ℕ) → is_in_ram ram address size ≡ true → address ≤ at → at + 4 ≤ address + size → is_in_ram ram at 4 ≡ true
in_ram_within ram address size at inside from to = grind (arith, nat_tests)

-- The spans of a file without a fault are in RAM.

-- what a segment without a fault has in the file is in RAM
bytes_in_ram : (file : List ℕ) (ram : ℕ) (s : ProgramHeader) → IsSoundSegment file ram s → has_bytes s ≡ true → is_in_ram ram s.p_vaddr s.p_filesz ≡ true
bytes_in_ram file ram s sound has =
    let inside = sound.in_ram in
    let larger = sound.in_memory in
    grind (arith, nat_tests, inside, larger, has)

-- one segment more
with_bytes : (file : List ℕ) (ram : ℕ) (s : ProgramHeader) (ss : List ProgramHeader) (kept : Bool) → has_bytes s ≡ kept → IsSoundSegment file ram s
    → AreInRam ram (map span_of ss) → AreInRam ram (map span_of (cond kept (s ∷ ss) ss))
with_bytes file ram s ss true is sound rest = (bytes_in_ram file ram s sound is, rest)
with_bytes file ram s ss false is sound rest = rest

-- one program header more
with_header : (file : List ℕ) (ram : ℕ) (s : ProgramHeader) (ss : List ProgramHeader) (kept : Bool) → (kept ≡ true → IsSoundSegment file ram s)
    → AreInRam ram (map span_of (filter has_bytes ss)) → AreInRam ram (map span_of (filter has_bytes (cond kept (s ∷ ss) ss)))
with_header file ram s ss true sound rest = with_bytes file ram s (filter has_bytes ss) (has_bytes s) refl (sound refl) rest
with_header file ram s ss false sound rest = rest

spans_from : (file : List ℕ) (ram from count : ℕ) → ((i : ℕ) → i < from + count → is_load (header file i) ≡ true → IsSoundSegment file ram (header file i))
    → AreInRam ram (map span_of (filter has_bytes (filter is_load (map (header file) (range_with_len from count)))))
spans_from file ram from zero sound = tt
spans_from file ram from (suc n) sound =
    with_header file ram (header file from) (filter is_load (map (header file) (range_with_len (from + 1) n))) (is_load (header file from)) (sound from (omega arith))
    (spans_from file ram (from + 1) n (λ i lt. sound i (omega arith)))

pub spans_in_ram : (file : List ℕ) (ram : ℕ) → first_fault file ram ≡ None → AreInRam ram (spans file)
spans_in_ram file ram none = spans_from file ram 0 (e_phnum file) (λ i lt. (is_sound file ram none).segments_are i (omega arith))

pub span_in_ram : (ram : ℕ) (xs : List Span) (i : ℕ) (d : Span) → AreInRam ram xs → i < length xs → is_in_ram ram (get_or xs i d).address (get_or xs i d).size ≡ true
span_in_ram ram [] i d all lt = absurd (omega arith)
span_in_ram ram (x ∷ xs) zero d all lt = all.0
span_in_ram ram (x ∷ xs) (suc i) d all lt = span_in_ram ram xs i d all.1 (omega arith)

-- What `load` and `loads` answer.

pub loaded : (file : List ℕ) (ram : ℕ) (first : Option LoadError) (image : Image) → Loads file ram first (Ok image) → (first ≡ None) × IsImage file ram image.entry image.bytes.items
loaded file ram (Some e) image h = absurd h
loaded file ram None image h = (refl, h)

pub listed : (file : List ℕ) (first : Option LoadError) (found : Vec Span Global) → Lists file first (Ok found) → found.items ≡ spans file
listed file (Some e) found h = absurd h
listed file None found h = h

pub is_listing : (style : Style) (file text : List ℕ) (image : Image) (found : Vec Span Global) (memory : List ℕ) (spans : List Span)
    → Loads file dis_ram (first_fault file dis_ram) (Ok image) → Lists file (first_fault file dis_ram) (Ok found)
    → memory ≡ image.bytes.items → spans ≡ found.items → text ≡ dis_text style memory spans → IsListing style file text
is_listing style file text image found memory spans loads lists same_memory same_spans is =
    let good = loaded file dis_ram (first_fault file dis_ram) image loads in
    record {
      loads = good.0;
      memory = image.bytes.items;
      is_image = record { entry_is = refl; size_is = good.1.size_is; bytes_are = good.1.bytes_are };
      text_is =
          is ∙ ap (λ bytes. dis_text style bytes spans) same_memory
          ∙ ap (dis_text style image.bytes.items) (same_spans ∙ listed file (first_fault file dis_ram) found lists);
    }

pub found_in_ram : (file : List ℕ) (image : Image) (found : Vec Span Global) → Loads file dis_ram (first_fault file dis_ram) (Ok image)
    → Lists file (first_fault file dis_ram) (Ok found) → AreInRam (length image.bytes.items) found.items
found_in_ram file image found loads lists =
    let good = loaded file dis_ram (first_fault file dis_ram) image loads in
    rw (good.1.size_is, listed file (first_fault file dis_ram) found lists) (spans_in_ram file dis_ram good.0)

-- a file that was loaded has no fault
pub no_fault : (file : List ℕ) (image : Image) → Loads file dis_ram (first_fault file dis_ram) (Ok image) → first_fault file dis_ram ≡ None
no_fault file image loads = (loaded file dis_ram (first_fault file dis_ram) image loads).0

-- a fault other than a want of memory is the first
first_is : (file : List ℕ) (first : Option LoadError) (e : LoadError) → first_fault file dis_ram ≡ first → Loads file dis_ram first (Err e)
    → e ≢ fault.NoMemory → first_fault file dis_ram ≡ Some e
first_is file (Some x) e is h other = is ∙ ap (λ y. Some y) (sym h)
first_is file None e is h other = absurd (other h)

pub unloaded : (file : List ℕ) (e : LoadError) → Loads file dis_ram (first_fault file dis_ram) (Err e) → (e ≡ fault.NoMemory → first_fault file dis_ram ≡ None)
    → IsUnlisted file (fault_of_load e)
unloaded file fault.NoMemory h memory = memory refl
unloaded file fault.Truncated h memory = first_is file (first_fault file dis_ram) fault.Truncated refl h (λ x. (cc))
unloaded file fault.NotElf32Big h memory = first_is file (first_fault file dis_ram) fault.NotElf32Big refl h (λ x. (cc))
unloaded file fault.NotExecutable h memory = first_is file (first_fault file dis_ram) fault.NotExecutable refl h (λ x. (cc))
unloaded file fault.NotMips h memory = first_is file (first_fault file dis_ram) fault.NotMips refl h (λ x. (cc))
unloaded file fault.BadHeaderTable h memory = first_is file (first_fault file dis_ram) fault.BadHeaderTable refl h (λ x. (cc))
unloaded file fault.SegmentOutsideFile h memory = first_is file (first_fault file dis_ram) fault.SegmentOutsideFile refl h (λ x. (cc))
unloaded file fault.SegmentOutsideRam h memory = first_is file (first_fault file dis_ram) fault.SegmentOutsideRam refl h (λ x. (cc))
unloaded file fault.FileLargerThanMemory h memory = first_is file (first_fault file dis_ram) fault.FileLargerThanMemory refl h (λ x. (cc))
unloaded file fault.BadEntry h memory = first_is file (first_fault file dis_ram) fault.BadEntry refl h (λ x. (cc))

-- a file that was loaded has no fault, so that its spans are refused only for want of memory
pub unlisted : (file : List ℕ) (first : Option LoadError) (image : Image) (e : LoadError) → first_fault file dis_ram ≡ first → Loads file dis_ram first (Ok image)
    → Lists file first (Err e) → IsUnlisted file (fault_of_load e)
unlisted file (Some x) image e is loads lists = absurd loads
unlisted file None image e is loads lists = rw lists is
