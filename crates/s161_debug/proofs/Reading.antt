use Rattle.std.proofs.Common.{◌≡◌, ◌≢◌, ◌∙◌, ◌+◌, ◌<◌, ℕ, zero, suc, Bool, true, false, List, [], ◌∷◌, ◌++◌, Option, arith, ap, append-nil, append_assoc, length, length-append, refl, subst, sym}
use Rattle.std.proofs.KnownBytes.{Consumes-nil, Consumes-trans}
use Rattle.std.specs.Io.KnownBytes.{Consumes, IsAtEnd}
use Rattle.m161_text.specs.Parts.{Lacks}
use Rattle.m161_text.proofs.Parts.{rest_lacks}
use Rattle.s161_base.specs.declared.fault.Fault.TheVariants.{Memory}
use Rattle.s161_debug.specs.Blanks.{spaced}
use Rattle.s161_debug.specs.helpers.Blanks.{kept_with}
use Rattle.s161_debug.specs.helpers.Sessions.{IsUnfinished, ReadsBytes}
use Rattle.s161_debug.proofs.Spaces.{kept_is}

-- A line that is read byte by byte.

-- one more byte, which is no line feed
pub lacks_more : (bytes : List ℕ) (byte : ℕ) → Lacks 10 bytes → byte ≢ 10 → Lacks 10 (bytes ++ byte ∷ [])
lacks_more [] byte lacks other zero below e = other e
lacks_more [] byte lacks other (suc i) below e = absurd (omega (arith, below))
lacks_more (b ∷ bytes) byte lacks other zero below e = lacks 0 (omega arith) e
lacks_more (b ∷ bytes) byte lacks other (suc i) below e = lacks_more bytes byte (rest_lacks 10 b bytes lacks) other i (omega (arith, below)) e

-- so many of its bytes were read, and this is kept of them
pub record ReadSome (input now : Option (List ℕ)) (kept : List ℕ) (apart : Bool) (many : ℕ) : Type 0 where
  pub bytes : List ℕ
  pub are_read : Consumes input now bytes
  pub lacks : Lacks 10 bytes
  pub many_are : length bytes ≡ many
  pub keeps : (rest : List ℕ) → kept_with kept apart rest ≡ spaced (bytes ++ rest)

pub none_read : (input : Option (List ℕ)) → ReadSome input input [] false 0
none_read input = record {
  bytes = [];
  are_read = Consumes-nil input;
  lacks = λ i below. absurd (omega (arith, below));
  many_are = refl;
  keeps = kept_is false;
}

module _ (input mid left : Option (List ℕ)) (kept : List ℕ) (apart : Bool) (many : ℕ) (so_far : ReadSome input mid kept apart many) where
  -- all that is kept
  kept_now : kept ≡ spaced so_far.bytes
  kept_now = so_far.keeps [] ∙ ap spaced (append-nil so_far.bytes)

  -- one more byte
  pub read_more : (byte : ℕ) (more : List ℕ) (still : Bool) → Consumes mid left (byte ∷ []) → byte ≢ 10 →
      ((rest : List ℕ) → kept_with more still rest ≡ kept_with kept apart (byte ∷ rest)) → ReadSome input left more still (many + 1)
  read_more byte more still last other keeps = record {
    bytes = so_far.bytes ++ byte ∷ [];
    are_read = Consumes-trans input mid left so_far.bytes (byte ∷ []) so_far.are_read last;
    lacks = lacks_more so_far.bytes byte so_far.lacks other;
    many_are = length-append so_far.bytes (byte ∷ []) ∙ ap (λ n. n + 1) so_far.many_are;
    keeps = λ rest. keeps rest ∙ so_far.keeps (byte ∷ rest) ∙ ap spaced (sym (append_assoc so_far.bytes (byte ∷ []) rest));
  }

  -- its end
  pub read_whole : Consumes mid left (10 ∷ []) → (bytes : List ℕ) × ReadsBytes input true bytes left × (kept ≡ spaced bytes)
  read_whole last =
      (so_far.bytes, (so_far.lacks, Consumes-trans input mid left so_far.bytes (10 ∷ []) so_far.are_read last, λ e. absurd (let bad : true ≡ false = e in cc)), kept_now)

  -- the input's end
  pub read_last : IsAtEnd left → Consumes mid left [] → 0 < many → (bytes : List ℕ) × ReadsBytes input false bytes left × (kept ≡ spaced bytes)
  read_last end last some =
      let all : Consumes input left so_far.bytes = subst (Consumes input left) (append-nil so_far.bytes) (Consumes-trans input mid left so_far.bytes [] so_far.are_read last) in
      let many_are = so_far.many_are in
      (so_far.bytes, (so_far.lacks, all, λ e. (omega (arith, some, many_are), end)), kept_now)

  none_there : (bytes : List ℕ) → length bytes ≡ 0 → bytes ≡ []
  none_there [] none = refl
  none_there (b ∷ bs) none = absurd (omega (arith, none))

  pub read_none : Consumes mid left [] → many ≡ 0 → Consumes input left []
  read_none last none =
      let all : Consumes input left so_far.bytes = subst (Consumes input left) (append-nil so_far.bytes) (Consumes-trans input mid left so_far.bytes [] so_far.are_read last) in
      subst (Consumes input left) (none_there so_far.bytes (so_far.many_are ∙ none)) all

  -- memory is refused for a byte
  pub unkept : (byte : ℕ) → byte ≢ 10 → Consumes mid left (byte ∷ []) → IsUnfinished input left Memory
  unkept byte other last =
      (so_far.bytes ++ byte ∷ [], lacks_more so_far.bytes byte so_far.lacks other, Consumes-trans input mid left so_far.bytes (byte ∷ []) so_far.are_read last, tt)
