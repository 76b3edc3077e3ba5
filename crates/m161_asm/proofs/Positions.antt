use Rattle.std.specs.Prelude.{◌⊎◌, ℕ, ◌+◌, ◌*◌, ◌≤◌, Bool, true, false, ◌||◌, nat_lt, List, ◌∷◌, None, Some}
use Rattle.std.proofs.Common.{◌≡◌, inl, inr, refl, ap, sym, ◌∙◌, arith}
use Rattle.m161_asm.specs.declared.place.Position.{Position}
use Rattle.m161_asm.specs.Lines.{SourceLine, size_of}
use Rattle.m161_asm.specs.Text.{address_below, address_from, has_words_from, new_segments, is_filled, overlap, origin_of}
use Rattle.m161_asm.specs.helpers.Ground.{IsOrdered, meet, meets}
use Rattle.m161_asm.specs.declared.ground.Ground.{Ground}
use Rattle.m161_asm.proofs.Grounds.{grown}
use Rattle.m161_asm.specs.helpers.Passes.{IsPosition, IsBehind, HasRoom, Advances, Moves}

-- Positions, from line to line.

pub moved : (old mid new : Position) (n size : ℕ) → Advances old mid None size → Moves mid new n
    → Advances old new (Some n) size
moved old mid new n size a m =
    record {
      position = m.position;
      address = m.address;
      words = m.words ∙ a.words;
      segments = m.segments ∙ a.segments;
      has_words = m.has_words;
      fills = λ filled f. m.fills _ (a.fills filled f);
    }

-- the position behind a line more
pub behind_line : (old new : Position) (above : List SourceLine) (l : SourceLine)
    → IsBehind old above
    → Advances old new (origin_of l.statement) (size_of l.statement) → IsBehind new (l ∷ above)
unfolding address_below is_filled
behind_line old new above l b a =
    record {
      position = a.position;
      address =
          a.address ∙ ap
          (λ x. address_from (origin_of l.statement) (x + 4 * size_of l.statement)) b.address;
      words = a.words ∙ ap (λ x. size_of l.statement + x) b.words;
      segments = a.segments ∙ rw (b.segments, b.has_words) refl;
      has_words =
          a.has_words ∙ ap
          (λ x. has_words_from (origin_of l.statement) (nat_lt 0 (size_of l.statement) || x))
          b.has_words;
      fills =
          λ x n. ap (λ y. overlap y (size_of l.statement) x n || is_filled above x n)
          (sym b.address) ∙ a.fills (is_filled above) b.fills x n;
    }

-- so many words behind the position
widened : (g : Ground) (address size : ℕ) → IsOrdered g address
    → (size ≡ 0) ⊎ (address + 4 * size ≤ g.limit) → IsOrdered g (address + 4 * size)
widened g address size o f =
    record {
      order = o.order;
      split = o.split;
      limit = o.limit;
      begun = omega (arith, o.begun);
      clear = by f o.clear;
    }
  where
    by : (size ≡ 0) ⊎ (address + 4 * size ≤ g.limit) → (g.start ≡ address) ⊎ (address ≤ g.limit)
        → (g.start ≡ address + 4 * size) ⊎ (address + 4 * size ≤ g.limit)
    by (inr h) c = inr h
    by (inl z) (inl e) = inl (omega (arith, z, e))
    by (inl z) (inr h) = inr (omega (arith, z, h))

or_grouped : (b c d : Bool) → (b || (c || d)) ≡ ((b || c) || d)
or_grouped true c d = refl
or_grouped false c d = refl

pub grew : (old new : Position) (size : ℕ) → IsPosition old → HasRoom old size
    → new.address ≡ old.address + 4 * size → new.words ≡ size + old.words
    → new.segments ≡ old.segments + new_segments size old.has_words
    → new.has_words ≡ (nat_lt 0 size || old.has_words) → new.ground ≡ old.ground
    → Advances old new None size
grew old new size p r a w s h g =
    record {
      position = record {
        address = omega (arith, a, r.address);
        words = omega (arith, w, r.words);
        segments = omega (arith, s, r.segments);
        ordered = rw (g, a) (widened old.ground old.address size p.ordered r.free);
      };
      address = a;
      words = w;
      segments = s;
      has_words = h;
      fills = λ filled f x n. rw (g, a)
          (ap (λ y. overlap old.address size x n || y) (f x n)
          ∙ or_grouped (overlap old.address size x n) (meet old.ground.start old.address x n)
          (meets old.ground.runs.items x n)
          ∙ ap (λ y. y || meets old.ground.runs.items x n)
          (grown old.ground.start old.address size x n p.ordered.begun));
    }
