use Rattle.std.proofs.Common.{◌≡◌, ◌∙◌, inr, refl, ap, sym, subst, ℕ, zero, suc, ◌+◌, ◌<◌, ◌≤◌, arith, Bool, true, false, List, [], ◌∷◌, ◌++◌, drop, get_or, length, take, Option, None, Some}
use Rattle.std.specs.Prelude.{MatchOption, nat_lt, ◌==◌, if◌then◌else◌, option_map, slice_get}
use Rattle.std.proofs.lemmas.Bool.{eqb-true}
use Rattle.std.proofs.lemmas.Bool.Decides.{nat_tests}
use Rattle.std.proofs.lemmas.List.{append_assoc, drop_more, length-take-le, take-take}
use Rattle.m161_machine.specs.declared.event.Event.{Event}
use Rattle.m161_machine.specs.declared.event.Event.TheVariants.{Step, Key, Done}
use Rattle.m161_machine.specs.History.{boot_state}
use Rattle.m161_machine.specs.State.{is_worn}
use Rattle.m161_judge.specs.Verdict.{after}
use Rattle.m161_states.specs.Question.{Question, booted, processors_of}
use Rattle.m161_states.specs.System.{event_named, typed_after}
use Rattle.m161_reach.specs.Hangs.{CutKeepsHang, HangFirst, HangingAreMade, HangsNowhere, IsFirstHang, IsFreeAt, IsHungAt, NeverHang}
use Rattle.m161_reach.specs.Named.{NamedAreMade, NumbersName, events_named, number_of, number_of_key, numbers_named, numbers_of, with_event, with_number}
use Rattle.m161_reach.proofs.Walking.{goes_less}

-- The numbers of events.

none_is_some : {A : Type 0} (x : A) → ◌≡◌ {A = Option A} None (Some x) → ⊥
none_is_some x h = absurd (cc)

some_same : {A : Type 0} (x y : A) → ◌≡◌ {A = Option A} (Some x) (Some y) → x ≡ y
some_same x y h = cc

-- the event of an event's number

step_back : (processors : ℕ) (keys : List ℕ) (typed p n : ℕ) (b : Bool) → nat_lt p processors ≡ b → (if b then Some p else None) ≡ Some n →
    event_named processors keys typed n ≡ Some (Step p)
step_back processors keys typed p n false is h = absurd (none_is_some n h)
step_back processors keys typed p n true is h =
    let same : p ≡ n = some_same p n h in
    subst (λ k. event_named processors keys typed k ≡ Some (Step p)) same
    (ap (λ b. if b then Some (Step p) else if p == processors then Some Done else option_map (λ byte. Key byte) (slice_get keys typed)) is)

named_by : (processors : ℕ) (keys : List ℕ) (typed n : ℕ) (b c : Bool) → nat_lt n processors ≡ b → (n == processors) ≡ c →
    event_named processors keys typed n ≡ (if b then Some (Step n) else if c then Some Done else option_map (λ byte. Key byte) (slice_get keys typed))
named_by processors keys typed n b c is at = λ i.
    if is i then Some (Step n) else if at i then Some Done else option_map (λ byte. Key byte) (slice_get keys typed)

key_back : (processors : ℕ) (keys : List ℕ) (typed byte n key : ℕ) (b : Bool) → slice_get keys typed ≡ Some key → (key == byte) ≡ b →
    (if b then Some (processors + 1) else None) ≡ Some n → event_named processors keys typed n ≡ Some (Key byte)
key_back processors keys typed byte n key false at is h = absurd (none_is_some n h)
key_back processors keys typed byte n key true at is h =
    let same : processors + 1 ≡ n = some_same (processors + 1) n h in
    let below : nat_lt (processors + 1) processors ≡ false = grind (arith, nat_tests) in
    let other : (processors + 1 == processors) ≡ false = grind (arith, nat_tests) in
    subst (λ k. event_named processors keys typed k ≡ Some (Key byte)) same
    (named_by processors keys typed (processors + 1) false false below other
    ∙ ap (option_map (λ byte. Key byte)) at ∙ ap (λ k. Some (Key k)) (eqb-true key byte is))

key_back_of : (processors : ℕ) (keys : List ℕ) (typed byte n : ℕ) (found : Option ℕ) → slice_get keys typed ≡ found →
    number_of_key processors found byte ≡ Some n → event_named processors keys typed n ≡ Some (Key byte)
key_back_of processors keys typed byte n None at h = absurd (none_is_some n h)
key_back_of processors keys typed byte n (Some key) at h = key_back processors keys typed byte n key (key == byte) at refl h

number_back : (processors : ℕ) (keys : List ℕ) (typed : ℕ) (e : Event) (n : ℕ) → number_of processors keys typed e ≡ Some n →
    event_named processors keys typed n ≡ Some e
number_back processors keys typed (Step p) n h = step_back processors keys typed p n (nat_lt p processors) refl h
number_back processors keys typed (Key byte) n h = key_back_of processors keys typed byte n (slice_get keys typed) refl h
number_back processors keys typed Done n h =
    let same : processors ≡ n = some_same processors n h in
    let below : nat_lt processors processors ≡ false = grind (arith, nat_tests) in
    let at : (processors == processors) ≡ true = grind (arith, nat_tests) in
    subst (λ k. event_named processors keys typed k ≡ Some Done) same
    (named_by processors keys typed processors false true below at)

-- numbers of several events: those of the first and of the others

record IsFirst (processors : ℕ) (keys : List ℕ) (typed : ℕ) (e : Event) (es : List Event) (numbers : List ℕ) : Type 0 where
  n : ℕ
  is_number : number_of processors keys typed e ≡ Some n
  rest : List ℕ
  is_rest : numbers_named processors keys (typed_after e typed) es ≡ Some rest
  numbers_are : numbers ≡ n ∷ rest

split_with : (processors : ℕ) (keys : List ℕ) (typed : ℕ) (e : Event) (es : List Event) (numbers : List ℕ) (found : Option ℕ) (rest : Option (List ℕ)) →
    number_of processors keys typed e ≡ found → numbers_named processors keys (typed_after e typed) es ≡ rest → with_number found rest ≡ Some numbers →
    IsFirst processors keys typed e es numbers
split_with processors keys typed e es numbers None rest is are h = absurd (none_is_some numbers h)
split_with processors keys typed e es numbers (Some n) None is are h = absurd (none_is_some numbers h)
split_with processors keys typed e es numbers (Some n) (Some ns) is are h = record {
  n = n;
  is_number = is;
  rest = ns;
  is_rest = are;
  numbers_are = sym (some_same (n ∷ ns) numbers h);
}

split : (processors : ℕ) (keys : List ℕ) (typed : ℕ) (e : Event) (es : List Event) (numbers : List ℕ) →
    numbers_named processors keys typed (e ∷ es) ≡ Some numbers → IsFirst processors keys typed e es numbers
split processors keys typed e es numbers h =
    split_with processors keys typed e es numbers (number_of processors keys typed e) (numbers_named processors keys (typed_after e typed) es) refl refl h

-- back to the events

named_back : (processors : ℕ) (keys : List ℕ) (typed : ℕ) (events : List Event) (numbers : List ℕ) →
    numbers_named processors keys typed events ≡ Some numbers → events_named processors keys typed numbers ≡ events
named_back processors keys typed [] numbers h = ap (events_named processors keys typed) (sym (some_same [] numbers h))
named_back processors keys typed (e ∷ es) numbers h =
    let first = split processors keys typed e es numbers h in
    ap (events_named processors keys typed) first.numbers_are
    ∙ ap (λ found. with_event found (λ e. events_named processors keys (typed_after e typed) first.rest)) (number_back processors keys typed e first.n first.is_number)
    ∙ ap (λ rest. e ∷ rest) (named_back processors keys (typed_after e typed) es first.rest first.is_rest)

same_length : (processors : ℕ) (keys : List ℕ) (typed : ℕ) (events : List Event) (numbers : List ℕ) →
    numbers_named processors keys typed events ≡ Some numbers → length numbers ≡ length events
same_length processors keys typed [] numbers h = ap length (sym (some_same [] numbers h))
same_length processors keys typed (e ∷ es) numbers h =
    let first = split processors keys typed e es numbers h in
    ap length first.numbers_are ∙ ap suc (same_length processors keys (typed_after e typed) es first.rest first.is_rest)

-- of the first events

named_first : (processors : ℕ) (keys : List ℕ) (typed : ℕ) (n : ℕ) (events : List Event) (numbers : List ℕ) →
    numbers_named processors keys typed events ≡ Some numbers → numbers_named processors keys typed (take n events) ≡ Some (take n numbers)
named_first processors keys typed zero events numbers h = refl
named_first processors keys typed (suc n) [] numbers h = ap (λ ns. Some (take (suc n) ns)) (some_same [] numbers h)
named_first processors keys typed (suc n) (e ∷ es) numbers h =
    let first = split processors keys typed e es numbers h in
    ap (λ found. with_number found (numbers_named processors keys (typed_after e typed) (take n es))) first.is_number
    ∙ ap (option_map (λ ns. first.n ∷ ns)) (named_first processors keys (typed_after e typed) n es first.rest first.is_rest)
    ∙ ap (λ ns. Some (take (suc n) ns)) (sym first.numbers_are)

-- those of a list

counted_by : (q : Question) (events : List Event) (numbers : List ℕ) (b : Bool) → is_worn (length events) ≡ b →
    (if b then None else numbers_named (processors_of q) q.goal.keys 0 events) ≡ Some numbers →
    (is_worn (length events) ≡ false) × (numbers_named (processors_of q) q.goal.keys 0 events ≡ Some numbers)
counted_by q events numbers true is h = absurd (none_is_some numbers h)
counted_by q events numbers false is h = (is, h)

counted : (q : Question) (events : List Event) (numbers : List ℕ) → numbers_of q events ≡ Some numbers →
    (is_worn (length events) ≡ false) × (numbers_named (processors_of q) q.goal.keys 0 events ≡ Some numbers)
counted q events numbers h = counted_by q events numbers (is_worn (length events)) refl h

pub numbers_when : (q : Question) (events : List Event) (b : Bool) → is_worn (length events) ≡ b →
    numbers_of q events ≡ (if b then None else numbers_named (processors_of q) q.goal.keys 0 events)
numbers_when q events b is = ap (λ b. if b then None else numbers_named (processors_of q) q.goal.keys 0 events) is

pub numbers_name : NumbersName
numbers_name q events numbers h = named_back (processors_of q) q.goal.keys 0 events numbers (counted q events numbers h).1

pub hanging_are_made : NamedAreMade → HangingAreMade
hanging_are_made law q limit events n h =
    let numbers = h.0 in
    let along = h.2.0.accepted in
    let is = counted q events numbers h.1 in
    let few : is_worn (length numbers) ≡ false =
    subst (λ k. is_worn k ≡ false) (sym (same_length (processors_of q) q.goal.keys 0 events numbers is.1)) is.0 in
    let made = law q numbers along.0 few along.1 in
    (made.0, subst (λ es. after (boot_state (booted q)) es ≡ Some made.0) (numbers_name q events numbers h.1) made.1)

fewer_worn : (n m : ℕ) → n ≤ m → is_worn m ≡ false → is_worn n ≡ false
fewer_worn n m few h = grind (arith, nat_tests, few, h)

pub cut_keeps_hang : CutKeepsHang
cut_keeps_hang q limit events n h =
    let numbers = h.0 in
    let is = counted q events numbers h.1 in
    let least = h.2.1 in
    let long : length numbers ≡ length events = same_length (processors_of q) q.goal.keys 0 events numbers is.1 in
    let within : n ≤ length events = let inside = least.within in omega (arith, inside, long) in
    let cut : length (take n events) ≡ n = length-take-le n events within in
    let few : is_worn (length (take n events)) ≡ false = fewer_worn (length (take n events)) (length events) (omega (arith, cut, within)) is.0 in (
      within,
      (
        take n numbers,
        numbers_when q (take n events) false few ∙ named_first (processors_of q) q.goal.keys 0 n events numbers is.1,
        (
          goes_less q numbers n h.2.0,
          record {
            within = (let all = length-take-le n numbers least.within in omega (arith, all));
            hangs = subst (IsHungAt q limit) (sym (take-take n n numbers (omega arith))) least.hangs;
            first = λ k less. subst (IsFreeAt q limit) (sym (take-take k n numbers (omega (arith, less)))) (least.first k less);
          },
        ),
      ),
    )

-- a loop over the events

with_first : (xs : List ℕ) (n : ℕ) (rest : Option (List ℕ)) →
    option_map (λ ns. xs ++ ns) (with_number (Some n) rest) ≡ option_map (λ ns. (xs ++ n ∷ []) ++ ns) rest
with_first xs n None = refl
with_first xs n (Some ns) = ap Some (sym (append_assoc xs (n ∷ []) ns))

found_number : (processors : ℕ) (keys : List ℕ) (typed : ℕ) (e : Event) (n behind : ℕ) (found : Option ℕ) → number_of processors keys typed e ≡ found →
    ◌≡◌ {A = Option (ℕ × ℕ)} (Some (n, behind)) (option_map (λ k. (k, typed_after e typed)) found) →
    (number_of processors keys typed e ≡ Some n) × (typed_after e typed ≡ behind)
found_number processors keys typed e n behind None is h = absurd (none_is_some (n, behind) (sym h))
found_number processors keys typed e n behind (Some k) is h =
    let same : ◌≡◌ {A = ℕ × ℕ} (n, behind) (k, typed_after e typed) = some_same (n, behind) (k, typed_after e typed) h in
    (is ∙ ap Some (sym (ap (λ (x : ℕ × ℕ). x.0) same)), sym (ap (λ (x : ℕ × ℕ). x.1) same))

pub named_more : (processors : ℕ) (keys : List ℕ) (typed n behind i : ℕ) (events : List Event) (d : Event) (xs : List ℕ) (all : Option (List ℕ)) → i < length events →
    ◌≡◌ {A = Option (ℕ × ℕ)} (Some (n, behind)) (option_map (λ k. (k, typed_after (get_or events i d) typed)) (number_of processors keys typed (get_or events i d))) →
    all ≡ option_map (λ ns. xs ++ ns) (numbers_named processors keys typed (drop i events)) →
    all ≡ option_map (λ ns. (xs ++ n ∷ []) ++ ns) (numbers_named processors keys behind (drop (i + 1) events))
named_more processors keys typed n behind i events d xs all inside found h =
    let e = get_or events i d in
    let at = found_number processors keys typed e n behind (number_of processors keys typed e) refl found in
    h
    ∙ ap (λ es. option_map (λ ns. xs ++ ns) (numbers_named processors keys typed es)) (drop_more events i d inside)
    ∙ ap (λ found. option_map (λ ns. xs ++ ns) (with_number found (numbers_named processors keys (typed_after e typed) (drop (i + 1) events)))) at.0
    ∙ ap (λ t. option_map (λ ns. xs ++ ns) (with_number (Some n) (numbers_named processors keys t (drop (i + 1) events)))) at.1
    ∙ with_first xs n (numbers_named processors keys behind (drop (i + 1) events))

-- what was found of the numbers is found of the events

pub hang_found : (q r : Question) (limit : ℕ) (events : List Event) (numbers : List ℕ) (found : Option ℕ) → r ≡ q → numbers_of q events ≡ Some numbers →
    MatchOption found (HangsNowhere r limit numbers) (IsFirstHang r limit numbers) → MatchOption found (NeverHang q limit events) (HangFirst q limit events)
hang_found q r limit events numbers None same is h = inr (numbers, is, subst (λ x. HangsNowhere x limit numbers) same h)
hang_found q r limit events numbers (Some n) same is h = (numbers, is, subst (λ x. IsFirstHang x limit numbers n) same h)
