use Rattle.std.proofs.Common.{inl, inr, ℕ, zero, suc, Bool, List, [], ◌∷◌, take}
use Rattle.std.specs.Prelude.{Option, None, Some}
use Rattle.m161_machine.specs.declared.event.Event.{Event}
use Rattle.m161_shorten.specs.declared.judged.Judgement.{Judgement}
use Rattle.m161_shorten.specs.declared.trial.Tried.{Tried}
use Rattle.m161_shorten.specs.Passes.{GoesOn, GoesTo, MakesTrials, Place, Shortens, Takes, first_place}
use Rattle.m161_shorten.specs.Trials.{trials}
use Rattle.m161_shorten.specs.Verdicts.{AreSame, Needs, NeedsNone}
use Rattle.m161_shorten.specs.helpers.Tries.{Tries, if_taken}

-- Judges with the same verdicts, and what holds by both.

pub same_after : {K : Type 0} (a b c : List Event → Option (Judgement K) → Type 0) → AreSame a b → AreSame b c → AreSame a c
same_after a b c first second es verdict = ((λ h. (second es verdict).0 ((first es verdict).0 h)), (λ h. (first es verdict).1 ((second es verdict).1 h)))

-- each verdict by the one judge is one by the other
abbrev pub Includes : {K : Type 0} → (judges others : List Event → Option (Judgement K) → Type 0) → Type 0
Includes {K} judges others = (es : List Event) (verdict : Option (Judgement K)) → judges es verdict → others es verdict

pub same_from : {K : Type 0} (a b : List Event → Option (Judgement K) → Type 0) → AreSame a b → Includes b a
same_from a b same es verdict h = (same es verdict).1 h

-- what holds by the one then holds by the other

needs_by : {K : Type 0} (is_kind : K → Bool) (a b : List Event → Option (Judgement K) → Type 0) (es : List Event) (n : ℕ) → Includes a b → Needs is_kind a es n → Needs is_kind b es n
needs_by is_kind a b es n into (kind, judged, same) = (kind, into es (Some (record { kind = kind; needs = n })) judged, same)

none_by : {K : Type 0} (is_kind : K → Bool) (a b : List Event → Option (Judgement K) → Type 0) (es : List Event) → Includes a b → NeedsNone is_kind a es → NeedsNone is_kind b es
none_by is_kind a b es into (inl none) = inl (into es None none)
none_by is_kind a b es into (inr (other, judged, differs)) = inr (other, into es (Some other) judged, differs)

pub takes_by : {K : Type 0} (is_kind : K → Bool) (a b : List Event → Option (Judgement K) → Type 0) (ts : List (List Event)) (taken : Option (List Event)) (judged : ℕ) → Includes a b →
    Takes is_kind a ts taken judged → Takes is_kind b ts taken judged
takes_by is_kind a b [] taken judged into h = h
takes_by is_kind a b (t ∷ ts) taken judged into (inl (n, needs, cut, one)) = inl (n, needs_by is_kind a b t n into needs, cut, one)
takes_by is_kind a b (t ∷ ts) taken judged into (inr (more, none, later, one)) = inr (more, none_by is_kind a b t into none, takes_by is_kind a b ts taken more into later, one)

pub tries_by : {K : Type 0} (is_kind : K → Bool) (a b : List Event → Option (Judgement K) → Type 0) (ts : List (List Event)) (es : List Event) (tried : Tried) (fs : List Event) → Includes a b →
    Tries is_kind a ts es tried fs → Tries is_kind b ts es tried fs
tries_by is_kind a b ts es tried fs into h = record { takes = takes_by is_kind a b ts (if_taken tried.taken fs) tried.judged into h.takes; stays = h.stays }

trials_by : {K : Type 0} (is_kind : K → Bool) (a b : List Event → Option (Judgement K) → Type 0) (s t : Place) → Includes a b → MakesTrials is_kind a s t → MakesTrials is_kind b s t
trials_by is_kind a b s t into h = (h.0, h.1, takes_by is_kind a b (take s.left (trials s.block s.events)) h.0 h.1 into h.2, h.3)

pub goes_by : {K : Type 0} (is_kind : K → Bool) (a b : List Event → Option (Judgement K) → Type 0) (s t : Place) → Includes a b → GoesTo is_kind a s t → GoesTo is_kind b s t
unfolding GoesTo
goes_by is_kind a b s t into (some, inl (block, made)) = (some, inl (block, trials_by is_kind a b s t into made))
goes_by is_kind a b s t into (some, inr h) = (some, inr h)

goes_on_by : {K : Type 0} (is_kind : K → Bool) (a b : List Event → Option (Judgement K) → Type 0) (n : ℕ) (s t : Place) → Includes a b → GoesOn is_kind a n s t → GoesOn is_kind b n s t
goes_on_by is_kind a b zero s t into h = h
goes_on_by is_kind a b (suc n) s t into h = (h.0, goes_by is_kind a b s h.0 into h.1, goes_on_by is_kind a b n h.0 t into h.2)

pub shortens_by : {K : Type 0} (is_kind : K → Bool) (a b : List Event → Option (Judgement K) → Type 0) (es fs : List Event) → Includes a b → Shortens is_kind a es fs → Shortens is_kind b es fs
shortens_by is_kind a b es fs into h =
    record { places = h.places; last = h.last; goes_on = goes_on_by is_kind a b h.places (first_place es) h.last into h.goes_on; ends = h.ends; events_are = h.events_are }
