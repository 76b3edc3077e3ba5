use Rattle.std.proofs.Common.{◌≡◌, ◌∙◌, refl, ap, sym, ℕ, zero, suc, ◌+◌, ◌≤◌, List, [], ◌∷◌, ◌++◌, length, take, drop, replicate, arith}
use Rattle.std.specs.Prelude.{if◌then◌else◌}
use Rattle.std.proofs.Math.Seq.{take-append-add}
use Rattle.std.proofs.lemmas.List.{take-append-drop}
use Rattle.std.proofs.lemmas.List.Sums.{count_by-le-length, sum_by-append, sum_by-cons}
use Rattle.m161_machine.specs.declared.event.Entry.{Entry}
use Rattle.m161_machine.specs.declared.event.Event.{Event}
use Rattle.m161_machine.specs.declared.event.Event.TheVariants.{Step}
use Rattle.m161_machine.specs.History.{events_of}
use Rattle.m161_machine.specs.History.{is_done, transfers_of}

-- How many entries are of Done.

pub transfers_append : (es fs : List Entry) → transfers_of (es ++ fs) ≡ transfers_of es + transfers_of fs
transfers_append es fs = sum_by-append (λ (e : Entry). if is_done e.event then 1 else 0) es fs

pub few_transfers : (es : List Entry) → transfers_of es ≤ length es
few_transfers es = count_by-le-length (λ (e : Entry). is_done e.event) es

-- those of Steps are not
pub no_transfers : (es : List Entry) (n p : ℕ) → events_of es ≡ replicate n (Step p) → transfers_of es ≡ 0
no_transfers [] n p h = refl
no_transfers (e ∷ es) zero p h = absurd (let bad : ◌≡◌ {A = List Event} (e.event ∷ events_of es) [] = h in cc)
no_transfers (e ∷ es) (suc n) p h =
    let pair : ◌≡◌ {A = List Event} (e.event ∷ events_of es) (Step p ∷ replicate n (Step p)) = h in
    let event_is : e.event ≡ Step p = cc in
    let rest_is : events_of es ≡ replicate n (Step p) = cc in
    let rest = no_transfers es n p rest_is in
    let more = sum_by-cons (λ (x : Entry). if is_done x.event then 1 else 0) e es in
    let none : ◌≡◌ {A = ℕ} (if is_done e.event then 1 else 0) 0 = ap (λ (x : Event). if is_done x then 1 else 0) event_is in
    omega (arith, rest, more, none)

-- the first entries, and some of those that follow them
pub taken : (entries front rest : List Entry) (made more : ℕ) → entries ≡ front ++ rest → length front ≡ made →
    take (made + more) entries ≡ front ++ take more rest
taken entries front rest made more whole long =
    ap (take (made + more)) whole ∙ ap (λ n. take (n + more) (front ++ rest)) (sym long) ∙ take-append-add front rest more

-- the first entries, and those after them
pub split_transfers : (es : List Entry) (n : ℕ) → transfers_of es ≡ transfers_of (take n es) + transfers_of (drop n es)
split_transfers es n = ap transfers_of (sym (take-append-drop n es)) ∙ transfers_append (take n es) (drop n es)
