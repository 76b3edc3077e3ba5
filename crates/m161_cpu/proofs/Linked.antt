use Rattle.std.proofs.Common.{◌≡◌, ◌∙◌, refl, ap, sym, ℕ, ◌-◌, ◌*◌, ◌^◌, ◌%◌, ◌<◌, ⊎_elim, Bool, true, false, if◌then◌else◌, List, length, map, set, get_or, replicate, Option, None, Some, is_some, arith, bit_and, bit_or}
use Rattle.std.specs.Int.{w32, bit_at, trailing_zeros}
use Rattle.std.proofs.lemmas.Bool.{cases_eq}
use Rattle.std.proofs.lemmas.Nat.{and_le_l}
use Rattle.std.proofs.lemmas.Nat.Bits.{bit_at-zero, bit_at_set_other, bit_at_set_same, bit_at_clear_other, bit_at_clear_same, bit_at-trailing_zeros}
use Rattle.std.proofs.lemmas.List.{same_lists, length-set, get_or-set_same, get_or-set_other, get_or_default, get_or-replicate, get_or-map, length-map}
use Rattle.m161_cpu.specs.Links.{HasBits, LinkState, after_store, is_to, unless_to, with_link}
use Rattle.m161_cpu.specs.helpers.Links.{IsWalked}

-- a mask with the bit of processor c, and without it
abbrev pub with_bit : ℕ → ℕ → ℕ
with_bit live c = bit_or live (1 * 2 ^ c % 4294967296)

abbrev pub without_bit : ℕ → ℕ → ℕ
without_bit live c = bit_and live (4294967295 - 1 * 2 ^ c % 4294967296)

-- the bit of a link
abbrev bit_of : Option ℕ → ℕ
bit_of link = if is_some link then 1 else 0

dead : (link : Option ℕ) → bit_of link ≡ 0 → link ≡ None
dead None e = refl
dead (Some word) e = absurd (let bad : ⊥ = omega (arith, e) in bad)

pub no_link : (links : List (Option ℕ)) (live : ℕ) → HasBits links live → (k : ℕ) → k < 32
    → bit_at live k ≡ 0 → get_or links k None ≡ None
no_link links live h k within bit = dead (get_or links k None) (sym (h k within) ∙ bit)

-- no link is live where no bit is set
pub none_live : (links : List (Option ℕ)) → length links ≡ 32 → HasBits links 0 → links ≡ replicate 32 None
none_live links number h =
    same_lists links (replicate 32 None) number (λ k d below.
    let within : k < 32 = omega (arith, below, number) in
    get_or_default links k d None below ∙ no_link links 0 h k within (bit_at-zero k)
    ∙ sym (get_or-replicate 32 k None d within))

-- at the start no link is live
pub none_begins : HasBits (replicate 32 None) 0
none_begins c below = bit_at-zero c ∙ sym (ap bit_of (get_or-replicate 32 c None None below))

module _ (links : List (Option ℕ)) (live c : ℕ) (number : length links ≡ 32) (below : c < 32) where
  inside : c < length links
  inside = omega (arith, below, number)

  -- a link that ends takes its bit away
  pub bits_without : HasBits links live → HasBits (set links c None) (without_bit live c)
  bits_without h k within =
      ⊎_elim
      (λ same. ap (bit_at (without_bit live c)) same ∙ bit_at_clear_same w32 live c below
      ∙ sym (ap (λ j. bit_of (get_or (set links c None) j None)) same
      ∙ ap bit_of (get_or-set_same links c None None inside)))
      (λ other. bit_at_clear_other w32 live c below k within other ∙ h k within
      ∙ sym (ap bit_of (get_or-set_other links c k None None other)))
      (cases_eq k c)

  -- a new link has its bit
  pub bits_with : (word : ℕ) → HasBits links live → HasBits (set links c (Some word)) (with_bit live c)
  bits_with word h k within =
      ⊎_elim
      (λ same. ap (bit_at (with_bit live c)) same ∙ bit_at_set_same w32 live c below
      ∙ sym (ap (λ j. bit_of (get_or (set links c (Some word)) j None)) same
      ∙ ap bit_of (get_or-set_same links c (Some word) None inside)))
      (λ other. bit_at_set_other w32 live c below k other ∙ h k within
      ∙ sym (ap bit_of (get_or-set_other links c k (Some word) None other)))
      (cases_eq k c)

-- the walk over the bits of a mask
abbrev pub last_of : ℕ → ℕ
last_of left = trailing_zeros w32 left

module _ (at : ℕ) (before : LinkState) (number : length before.live ≡ 32) where
  -- before it
  pub walk_begins : (live : ℕ) → HasBits before.live live → IsWalked at before live before
  walk_begins live h = record {
    unit = refl;
    number = number;
    past = λ c below bit.
        let none = no_link before.live live h c below bit in none ∙ sym (ap (unless_to before.unit at) none);
    rest = λ c below bit. refl;
  }

  -- after it
  pub walk_ends : (links : LinkState) → IsWalked at before 0 links → links ≡ after_store (Some at) before
  walk_ends links walked =
      let all : links.live ≡ map (unless_to before.unit at) before.live =
      same_lists links.live (map (unless_to before.unit at) before.live)
      (walked.number ∙ sym (length-map before.live (unless_to before.unit at) ∙ number)) (λ k d below.
      let within : k < 32 = omega (arith, below, walked.number) in
      get_or_default links.live k d None below ∙ walked.past k within (bit_at-zero k)
      ∙ sym (get_or-map (unless_to before.unit at) before.live k None d (omega (arith, within, number))))
      in λ i. record { unit = walked.unit i; live = all i }

  module _ (left : ℕ) (links : LinkState) (walked : IsWalked at before left links)
      (some : 0 < left) (fits : left < 4294967296) where
    abbrev pub c : ℕ
    c = last_of left

    found : (c < 32) × (bit_at left c ≡ 1) × ((i : ℕ) → i < c → bit_at left i ≡ 0)
    found = bit_at-trailing_zeros w32 left some fits

    apart : without_bit left c ≡ left → ⊥
    apart same =
        absurd (omega (arith, bit_at_clear_same w32 left c found.0, ap (λ n. bit_at n c) same, found.1))

    pub fewer : without_bit left c < left
    fewer =
        ⊎_elim (λ same. absurd (apart same))
        (λ other. omega (arith, and_le_l left (4294967295 - 1 * 2 ^ c % 4294967296), other))
        (cases_eq (without_bit left c) left)

    other_bit : (k : ℕ) → k < 32 → (k ≡ c → ⊥) → bit_at (without_bit left c) k ≡ bit_at left k
    other_bit k below other = bit_at_clear_other w32 left c found.0 k below other

    -- this link is ended, if it is to the unit; the others are as they were
    walked_on : (after : LinkState) → after.unit ≡ links.unit → length after.live ≡ 32
        → get_or after.live c None ≡ unless_to before.unit at (get_or links.live c None)
        → ((k : ℕ) → (k ≡ c → ⊥) → get_or after.live k None ≡ get_or links.live k None)
        → IsWalked at before (without_bit left c) after
    walked_on after same_unit long here there = record {
      unit = same_unit ∙ walked.unit;
      number = long;
      past = λ k below bit.
          ⊎_elim
          (λ same. ap (λ j. get_or after.live j None) same ∙ here
          ∙ ap (unless_to before.unit at) (walked.rest c found.0 found.1)
          ∙ ap (λ j. unless_to before.unit at (get_or before.live j None)) (sym same))
          (λ other. there k other ∙ walked.past k below (sym (other_bit k below other) ∙ bit))
          (cases_eq k c);
      rest = λ k below bit.
          ⊎_elim
          (λ same. absurd (omega (
            arith,
            bit,
            bit_at_clear_same w32 left c found.0,
            ap (bit_at (without_bit left c)) same,
          )))
          (λ other. there k other ∙ walked.rest k below (sym (other_bit k below other) ∙ bit))
          (cases_eq k c);
    }

    -- whether a link is to the unit, by the links' own unit
    test_is : (t : Bool) → is_to links.unit at (get_or links.live c None) ≡ t
        → is_to before.unit at (get_or links.live c None) ≡ t
    test_is t h = ap (λ u. is_to u at (get_or links.live c None)) (sym walked.unit) ∙ h

    pub walked_over : is_to links.unit at (get_or links.live c None) ≡ false
        → IsWalked at before (without_bit left c) links
    walked_over other =
        walked_on links refl walked.number
        (sym (ap (λ b. if b then None else get_or links.live c None) (test_is false other)))
        (λ k apart_from. refl)

    pub walked_ending : is_to links.unit at (get_or links.live c None) ≡ true
        → IsWalked at before (without_bit left c) (with_link c None links)
    walked_ending same =
        walked_on (with_link c None links) refl (length-set links.live c None ∙ walked.number)
        (get_or-set_same links.live c None None (omega (arith, found.0, walked.number))
        ∙ sym (ap (λ b. if b then None else get_or links.live c None) (test_is true same)))
        (λ k other. get_or-set_other links.live c k None None other)
