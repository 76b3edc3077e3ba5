use Rattle.std.proofs.Common.{◌≡◌, ◌∙◌, refl, ap, sym, ℕ, zero, suc, ◌+◌, ◌<◌, ◌≤◌, Bool, true, false, List, [], ◌∷◌, ◌++◌, length, take, get_or, Option, None, Some, arith}
use Rattle.std.specs.Prelude.{nat_le, slice_get, if◌then◌else◌}
use Rattle.std.proofs.lemmas.Bool.Decides.{nat_tests}
use Rattle.std.proofs.lemmas.List.{length-take-le, take_more}
use Rattle.std.proofs.lemmas.List.Elements.{All-push}
use Rattle.m161_machine.specs.State.{State}
use Rattle.m161_threads.specs.Shares.{IsLeastMiscount, HasCount, SeatState, new_seat, seats_from}
use Rattle.m161_threads.specs.helpers.Shares.{Miscounts, least_of}

-- The seats of a lock.

-- one seat more
places_push : (k : ℕ) (cs : List ℕ) (at count : ℕ) → at ≡ k + length cs →
    seats_from k (cs ++ count ∷ []) ≡ seats_from k cs ++ new_seat at count ∷ []
places_push k [] at count at_is = let here : k ≡ at = omega (arith, at_is) in ap (λ n. new_seat n count ∷ []) here
places_push k (c ∷ cs) at count at_is =
    ap (λ ps. new_seat k c ∷ ps) (places_push (k + 1) cs at count (omega (arith, at_is)))

pub places_more : (cs : List ℕ) (i count : ℕ) → i < length cs → count ≡ get_or cs i 0 →
    seats_from 0 (take (i + 1) cs) ≡ seats_from 0 (take i cs) ++ new_seat i count ∷ []
places_more cs i count inside count_is =
    let short = length-take-le i cs (omega (arith, inside)) in
    ap (seats_from 0) (take_more cs i 0 inside ∙ ap (λ c. take i cs ++ c ∷ []) (sym count_is))
    ∙ places_push 0 (take i cs) i count (omega (arith, short))

still_there : (xs : List SeatState) (y : SeatState) (k : ℕ) (x : SeatState) → slice_get xs k ≡ Some x →
    slice_get (xs ++ y ∷ []) k ≡ Some x
still_there [] y k x h = absurd (let bad : ◌≡◌ {A = Option SeatState} None (Some x) = h in cc)
still_there (z ∷ zs) y zero x h = h
still_there (z ∷ zs) y (suc k) x h = still_there zs y k x h

last_there : (xs : List SeatState) (y : SeatState) → slice_get (xs ++ y ∷ []) (length xs) ≡ Some y
last_there [] y = refl
last_there (x ∷ xs) y = last_there xs y

-- a seat that matches changes nothing
pub matched_more : (s : State) (seats : List SeatState) (least : Option ℕ) (seat : SeatState) →
    Miscounts s seats least → HasCount s seat → Miscounts s (seats ++ seat ∷ []) least
matched_more s seats None seat h m = All-push (HasCount s) seats seat h m
matched_more s seats (Some p) seat h m = record {
  seat = h.seat;
  at = h.at;
  there = still_there seats seat h.at h.seat h.there;
  its = h.its;
  wrong = h.wrong;
  least = All-push (λ (x : SeatState). (HasCount s x → ⊥) → p ≤ x.processor) seats seat h.least (λ wrong. absurd (wrong m));
}

-- one more, of a lesser processor or not
lesser : (b : Bool) (s : State) (seats : List SeatState) (p : ℕ) (seat : SeatState) → nat_le p seat.processor ≡ b →
    IsLeastMiscount s seats p → (HasCount s seat → ⊥) →
    IsLeastMiscount s (seats ++ seat ∷ []) (if b then p else seat.processor)
lesser true s seats p seat test h wrong = record {
  seat = h.seat;
  at = h.at;
  there = still_there seats seat h.at h.seat h.there;
  its = h.its;
  wrong = h.wrong;
  least = All-push (λ (x : SeatState). (HasCount s x → ⊥) → p ≤ x.processor) seats seat h.least (λ _. grind (arith, nat_tests, test));
}
lesser false s seats p seat test h wrong = record {
  seat = seat;
  at = length seats;
  there = last_there seats seat;
  its = refl;
  wrong = wrong;
  least = All-push (λ (x : SeatState). (HasCount s x → ⊥) → seat.processor ≤ x.processor) seats seat
      (λ k d inside no. let below = h.least k d inside no in grind (arith, nat_tests, test, below)) (λ _. omega arith);
}

-- one more that doesn't match
pub wrong_more : (s : State) (seats : List SeatState) (least : Option ℕ) (seat : SeatState) →
    Miscounts s seats least → (HasCount s seat → ⊥) → Miscounts s (seats ++ seat ∷ []) (Some (least_of least seat.processor))
wrong_more s seats None seat h wrong = record {
  seat = seat;
  at = length seats;
  there = last_there seats seat;
  its = refl;
  wrong = wrong;
  least = All-push (λ (x : SeatState). (HasCount s x → ⊥) → seat.processor ≤ x.processor) seats seat
      (λ k d inside no. absurd (no (h k d inside))) (λ _. omega arith);
}
wrong_more s seats (Some p) seat h wrong = lesser (nat_le p seat.processor) s seats p seat refl h wrong

-- a seat's mark counts in the ledger
pub marked : (noted : Bool) (amount total : ℕ) → amount ≡ (if noted then 1 else 0) → amount ≤ total → noted ≡ true → 0 < total
marked true amount total is bound h = omega (arith, is, bound)
marked false amount total is bound h = absurd (let bad : false ≡ true = h in cc)
