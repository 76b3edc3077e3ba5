use Rattle.std.proofs.Common.{◌≡◌, ◌∙◌, ◌⊎◌, inl, inr, refl, sym, ap, subst, ℕ, zero, suc, ◌+◌, ◌-◌, ◌*◌, ◌<◌, ◌≤◌, Bool, true, false, List, [], ◌∷◌, length, take, arith}
use Rattle.std.proofs.Math.Nat.{mul-le-mul_right, suc-mul}
use Rattle.std.proofs.lemmas.List.{length-take}
use Rattle.std.specs.Prelude.{Option, None, Some}
use Rattle.std.specs.List.{AllByRecursion}
use Rattle.m161_machine.specs.declared.event.Event.{Event}
use Rattle.m161_shorten.specs.declared.judged.Judgement.{Judgement}
use Rattle.m161_shorten.specs.Blocks.{blocks}
use Rattle.m161_shorten.specs.Trials.{trials}
use Rattle.m161_shorten.specs.Passes.{GoesOn, GoesTo, IsEnd, Place, Shortens, Takes, after_trials, first_place}
use Rattle.m161_shorten.specs.Verdicts.{KeepsCut, Needs, NeedsAll}
use Rattle.m161_shorten.specs.helpers.Tries.{Moves}
use Rattle.m161_shorten.proofs.Fewer.{IsLike, blocks_take, trials_like}
use Rattle.m161_shorten.proofs.Starts.{blocks_few}

-- How the passes go on.

all_front : {X : Type 0} (P : X → Type 0) (n : ℕ) (xs : List X) → AllByRecursion P xs → AllByRecursion P (take n xs)
all_front P zero xs all = tt
all_front P (suc n) [] all = tt
all_front P (suc n) (x ∷ xs) all = (all.0, all_front P n xs all.1)

-- a trial was taken: it is like the list, and is cut behind its verdict
pub record Took (NeedsOf : List Event → ℕ → Type 0) (whole most : ℕ) (fs : List Event) : Type 0 where
  pub trial : List Event
  pub needed : ℕ
  pub needs_are : NeedsOf trial needed
  pub cut : fs ≡ take needed trial
  pub like : IsLike whole most trial

found_trial : {K : Type 0} (is_kind : K → Bool) (judges : List Event → Option (Judgement K) → Type 0) (whole most : ℕ) (ts : List (List Event)) → AllByRecursion (IsLike whole most) ts →
    (fs : List Event) (judged : ℕ) → Takes is_kind judges ts (Some fs) judged → Took (Needs is_kind judges) whole most fs × (1 ≤ judged)
found_trial is_kind judges whole most [] all fs judged (found, none) = absurd cc
found_trial is_kind judges whole most (t ∷ ts) all fs judged (inl (n, needs, found, one)) =
    (record { trial = t; needed = n; needs_are = needs; cut = cc; like = all.0 }, omega (arith, one))
found_trial is_kind judges whole most (t ∷ ts) all fs judged (inr (more, none, later, one)) =
    let rest = found_trial is_kind judges whole most ts all.1 fs more later in
    (rest.0, omega (arith, one))

-- what one place more does
pub record Turns (NeedsOf : List Event → ℕ → Type 0) (s t : Place) : Type 0 where
  pub some : 0 < s.left
  pub how : ((s.block < length (blocks s.events)) × ((fs : List Event) × (j : ℕ) × Took NeedsOf (length s.events) (length (blocks s.events)) fs × (1 ≤ j) × (t ≡ after_trials (Some fs) j s)))
      ⊎ (((s.block < length (blocks s.events)) × ((j : ℕ) × (t ≡ after_trials None j s)))
      ⊎ ((s.taken ≡ true) × (t ≡ record s { block = 0; taken = false })))

at_trials : {K : Type 0} (is_kind : K → Bool) (judges : List Event → Option (Judgement K) → Type 0) (s t : Place) (taken : Option (List Event)) (j : ℕ) → s.block < length (blocks s.events) →
    0 < s.left → Takes is_kind judges (take s.left (trials s.block s.events)) taken j → t ≡ after_trials taken j s → Turns (Needs is_kind judges) s t
at_trials is_kind judges s t None j block some takes is = record { some = some; how = inr (inl (block, (j, is))) }
at_trials is_kind judges s t (Some fs) j block some takes is =
    let like = all_front (IsLike (length s.events) (length (blocks s.events))) s.left (trials s.block s.events) (trials_like s.block s.events) in
    let took = found_trial is_kind judges (length s.events) (length (blocks s.events)) (take s.left (trials s.block s.events)) like fs j takes in
    record { some = some; how = inl (block, (fs, j, took.0, took.1, is)) }

pub turns : {K : Type 0} (is_kind : K → Bool) (judges : List Event → Option (Judgement K) → Type 0) (s t : Place) → GoesTo is_kind judges s t → Turns (Needs is_kind judges) s t
unfolding GoesTo
turns is_kind judges s t (some, inl (block, (taken, j, takes, is))) = at_trials is_kind judges s t taken j block some takes is
turns is_kind judges s t (some, inr (behind, was, is)) = record { some = some; how = inr (inr (was, is)) }

-- a number that falls from place to place
abbrev pub flag : Bool → ℕ
flag true = 1
flag false = 0

pub weight : ℕ → Place → ℕ
weight most s = (s.left + s.left + flag s.taken) * (most + 2) + (most + 1 - s.block)

falls : (x y w r q : ℕ) → x < y → r < w → x * w + r < y * w + q
falls x y w r q less small =
    let more = mul-le-mul_right w less in
    let one = suc-mul x w in
    omega (arith, more, one)

falls_within : (x y w r q : ℕ) → x ≤ y → r < q → x * w + r < y * w + q
falls_within x y w r q less small = let more = mul-le-mul_right w less in omega (arith, more)

after_take : (NeedsOf : List Event → ℕ → Type 0) (most : ℕ) (s : Place) (fs : List Event) (j : ℕ) → length s.events ≤ most → 0 < s.left →
    Took NeedsOf (length s.events) (length (blocks s.events)) fs → 1 ≤ j →
    (length fs ≤ most) × (weight most (after_trials (Some fs) j s) < weight most s)
unfolding weight
after_take NeedsOf most s fs j few some takes one =
    let long = ap length takes.cut ∙ length-take takes.needed takes.trial in
    let same = takes.like.0 in
    (omega (arith, long, same), falls ((s.left - j) + (s.left - j) + 1) (s.left + s.left + flag s.taken) (most + 2) (most + 1 - s.block) (most + 1 - s.block) (omega arith) (omega arith))

after_none : (most : ℕ) (s : Place) (j : ℕ) → length s.events ≤ most → s.block < length (blocks s.events) → weight most (after_trials None j s) < weight most s
unfolding weight
after_none most s j few block =
    let under = blocks_few s.events in
    falls_within ((s.left - j) + (s.left - j) + flag s.taken) (s.left + s.left + flag s.taken) (most + 2) (most + 1 - (s.block + 1)) (most + 1 - s.block) (omega arith) (omega arith)

after_pass : (most : ℕ) (s : Place) → s.taken ≡ true → weight most (record s { block = 0; taken = false }) < weight most s
unfolding weight
after_pass most s taken =
    let one : flag s.taken ≡ 1 = ap flag taken in
    falls (s.left + s.left + 0) (s.left + s.left + flag s.taken) (most + 2) (most + 1 - 0) (most + 1 - s.block) (omega (arith, one)) (omega arith)

pub lighter : (NeedsOf : List Event → ℕ → Type 0) (most : ℕ) (s t : Place) → length s.events ≤ most → Turns NeedsOf s t →
    (length t.events ≤ most) × (weight most t < weight most s)
lighter NeedsOf most s t few turn =
    let Goal : Place → Type 0 = λ u. (length u.events ≤ most) × (weight most u < weight most s) in
    elim turn.how [
      | inl h ↦
          let taken = after_take NeedsOf most s h.1.0 h.1.1 few turn.some h.1.2 h.1.3 in
          subst Goal (sym h.1.4) taken
      | inr h ↦ elim h [
        | inl k ↦ subst Goal (sym k.1.1) (few, after_none most s k.1.0 few k.0)
        | inr k ↦ subst Goal (sym k.1) (few, after_pass most s k.0)
      ]
    ]

-- what the passes keep

pub no_longer : (NeedsOf : List Event → ℕ → Type 0) (s t : Place) → Turns NeedsOf s t → (length t.events ≤ length s.events) × (length (blocks t.events) ≤ length (blocks s.events))
no_longer NeedsOf s t turn =
    let Goal : Place → Type 0 = λ u. (length u.events ≤ length s.events) × (length (blocks u.events) ≤ length (blocks s.events)) in
    elim turn.how [
      | inl h ↦
          let takes = h.1.2 in
          let long = ap length takes.cut ∙ length-take takes.needed takes.trial in
          let cut = ap (λ xs. length (blocks xs)) takes.cut in
          let fewer = blocks_take takes.needed takes.trial in
          let same = takes.like.0 in
          let few = takes.like.1 in
          subst Goal (sym h.1.4) (omega (arith, long, same), omega (arith, cut, fewer, few))
      | inr h ↦ elim h [
        | inl k ↦ subst Goal (sym k.1.1) (omega arith, omega arith)
        | inr k ↦ subst Goal (sym k.1) (omega arith, omega arith)
      ]
    ]

pub still_needed : {K : Type 0} (is_kind : K → Bool) (judges : List Event → Option (Judgement K) → Type 0) (s t : Place) → KeepsCut is_kind judges → NeedsAll is_kind judges s.events →
    Turns (Needs is_kind judges) s t → NeedsAll is_kind judges t.events
still_needed is_kind judges s t keeps all turn =
    let Goal : Place → Type 0 = λ u. NeedsAll is_kind judges u.events in
    elim turn.how [
      | inl h ↦
          let took = h.1.2 in
          subst Goal (sym h.1.4) (subst (NeedsAll is_kind judges) (sym took.cut) (keeps took.trial took.needed took.needs_are))
      | inr h ↦ elim h [
        | inl k ↦ subst Goal (sym k.1.1) all
        | inr k ↦ subst Goal (sym k.1) all
      ]
    ]

-- one place more
pub goes_more : {K : Type 0} (is_kind : K → Bool) (judges : List Event → Option (Judgement K) → Type 0) (n : ℕ) (s t u : Place) → GoesOn is_kind judges n s t → GoesTo is_kind judges t u → GoesOn is_kind judges (suc n) s u
goes_more is_kind judges zero s t u so_far next = (u, subst (λ x. GoesTo is_kind judges x u) so_far next, refl)
goes_more is_kind judges (suc n) s t u so_far next = (so_far.0, so_far.1, goes_more is_kind judges n so_far.0 t u so_far.2 next)

-- along all places
all_needed : {K : Type 0} (is_kind : K → Bool) (judges : List Event → Option (Judgement K) → Type 0) (n : ℕ) (s t : Place) → KeepsCut is_kind judges → NeedsAll is_kind judges s.events → GoesOn is_kind judges n s t → NeedsAll is_kind judges t.events
all_needed is_kind judges zero s t keeps all goes = subst (λ (u : Place). NeedsAll is_kind judges u.events) (sym goes) all
all_needed is_kind judges (suc n) s t keeps all goes =
    all_needed is_kind judges n goes.0 t keeps (still_needed is_kind judges s goes.0 keeps all (turns is_kind judges s goes.0 goes.1)) goes.2

pub end_needed : {K : Type 0} (is_kind : K → Bool) (judges : List Event → Option (Judgement K) → Type 0) (es fs : List Event) → KeepsCut is_kind judges → NeedsAll is_kind judges es → Shortens is_kind judges es fs → NeedsAll is_kind judges fs
end_needed is_kind judges es fs keeps all short =
    subst (NeedsAll is_kind judges) (sym short.events_are) (all_needed is_kind judges short.places (first_place es) short.last keeps all short.goes_on)

-- the list itself, or one that was cut behind what it needs
abbrev pub IsFrom : (List Event → ℕ → Type 0) → List Event → List Event → Type 0
IsFrom NeedsOf es fs = (fs ≡ es) ⊎ ((trial : List Event) × (n : ℕ) × NeedsOf trial n × (fs ≡ take n trial))

pub still_from : (NeedsOf : List Event → ℕ → Type 0) (es : List Event) (s t : Place) → IsFrom NeedsOf es s.events → Turns NeedsOf s t → IsFrom NeedsOf es t.events
still_from NeedsOf es s t was turn =
    let Goal : Place → Type 0 = λ u. IsFrom NeedsOf es u.events in
    elim turn.how [
      | inl h ↦
          let took = h.1.2 in
          subst Goal (sym h.1.4) (inr (took.trial, took.needed, took.needs_are, took.cut))
      | inr h ↦ elim h [
        | inl k ↦ subst Goal (sym k.1.1) was
        | inr k ↦ subst Goal (sym k.1) was
      ]
    ]

-- where the passes go on
pub moved_on : {K : Type 0} (is_kind : K → Bool) (judges : List Event → Option (Judgement K) → Type 0) (s t : Place) (more : Bool) → more ≡ true → Moves is_kind judges s more t → GoesTo is_kind judges s t
moved_on is_kind judges s t more on moves = subst (λ b. Moves is_kind judges s b t) on moves

-- where they end
pub moved_not : {K : Type 0} (is_kind : K → Bool) (judges : List Event → Option (Judgement K) → Type 0) (s t : Place) (more : Bool) → more ≡ false → Moves is_kind judges s more t → IsEnd s × (t ≡ s)
moved_not is_kind judges s t more on moves = subst (λ b. Moves is_kind judges s b t) on moves

pub ended : {K : Type 0} (is_kind : K → Bool) (judges : List Event → Option (Judgement K) → Type 0) (n : ℕ) (es fs : List Event) (s t : Place) → GoesOn is_kind judges n (first_place es) s →
    IsEnd s × (t ≡ s) → fs ≡ t.events → Shortens is_kind judges es fs
ended is_kind judges n es fs s t goes (end, stays) events =
    record { places = n; last = s; goes_on = goes; ends = end; events_are = events ∙ ap (λ (x : Place). x.events) stays }
