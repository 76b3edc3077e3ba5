use Rattle.std.proofs.Common.{◌≡◌, ◌∙◌, refl, ap, sym, subst, ℕ, ◌+◌, arith, Bool, true, false, List, [], ◌∷◌, ◌++◌, append_assoc, append-nil, length, Option, None, Some}
use Rattle.std.proofs.lemmas.List.{length-append}
use Rattle.std.specs.Prelude.{◌==◌, slice_get, if◌then◌else◌}
use Rattle.m161_states.specs.System.{agreed_after, agreed_behind, agreed_with, is_byte}
use Rattle.m161_states.specs.Verdicts.{has_sent}
use Rattle.m161_states.specs.Run.{AgreedTells}
use Rattle.m161_states.proofs.Told.{equal, same}

-- The number of bytes says whether the output is the one that is asked for.

none_stays : (asked bytes : List ℕ) → agreed_behind asked bytes None ≡ None
none_stays asked [] = refl
none_stays asked (b ∷ bs) = none_stays asked bs

pub behind_append : (asked xs ys : List ℕ) (agreed : Option ℕ) → agreed_behind asked (xs ++ ys) agreed ≡ agreed_behind asked ys (agreed_behind asked xs agreed)
behind_append asked [] ys agreed = refl
behind_append asked (x ∷ xs) ys agreed = behind_append asked xs ys (agreed_with asked x agreed)

pub agreed_append : (output : Option (List ℕ)) (xs ys : List ℕ) (agreed : Option ℕ) → agreed_after output (xs ++ ys) agreed ≡ agreed_after output ys (agreed_after output xs agreed)
agreed_append None xs ys agreed = refl
agreed_append (Some asked) xs ys agreed = behind_append asked xs ys agreed

at_front : (front rest : List ℕ) → slice_get (front ++ rest) (length front) ≡ slice_get rest 0
at_front [] rest = refl
at_front (x ∷ xs) rest = at_front xs rest

one_byte : (asked front rest : List ℕ) (b : ℕ) → asked ≡ front ++ rest →
    agreed_with asked b (Some (length front)) ≡ (if is_byte b (slice_get rest 0) then Some (length front + 1) else None)
one_byte asked front rest b e =
    ap (λ o. if is_byte b o then Some (length front + 1) else None) (ap (λ l. slice_get l (length front)) e ∙ at_front front rest)

longer : (front : List ℕ) (b : ℕ) → length (front ++ b ∷ []) ≡ length front + 1
longer front b = length-append front (b ∷ [])

moved : (asked front : List ℕ) (b : ℕ) (rest : List ℕ) → asked ≡ front ++ b ∷ rest → asked ≡ (front ++ b ∷ []) ++ rest
moved asked front b rest e = e ∙ sym (append_assoc front (b ∷ []) rest)

-- where the rest is what is sent

sent_all : (asked front sent : List ℕ) → asked ≡ front ++ sent → agreed_behind asked sent (Some (length front)) ≡ Some (length asked)
sent_all asked front [] e = ap (λ (l : List ℕ). Some (length l)) (sym (e ∙ append-nil front))
sent_all asked front (b ∷ bs) e =
    let step : agreed_with asked b (Some (length front)) ≡ Some (length (front ++ b ∷ [])) =
    one_byte asked front (b ∷ bs) b e ∙ ap (λ t. if t then Some (length front + 1) else None) (same b) ∙ ap (λ n. Some n) (sym (longer front b)) in
    ap (agreed_behind asked bs) step ∙ sent_all asked (front ++ b ∷ []) bs (moved asked front b bs e)

-- where it isn't

no_more : (rest : List ℕ) → length rest ≡ 0 → rest ≡ []
no_more [] e = refl
no_more (r ∷ rs) e = absurd (let bad : ⊥ = omega (arith, e) in bad)

sent_none : (asked bs : List ℕ) (found : Option ℕ) → found ≡ None → has_sent (Some asked) (agreed_behind asked bs found) ≡ true → ⊥
sent_none asked bs found none h =
    let bad : false ≡ true = sym (ap (has_sent (Some asked)) (ap (agreed_behind asked bs) none ∙ none_stays asked bs)) ∙ h in cc

by_byte : (asked front : List ℕ) (r b : ℕ) (rs bs : List ℕ) (t : Bool) → (r == b) ≡ t → asked ≡ front ++ r ∷ rs →
    (has_sent (Some asked) (agreed_behind asked bs (Some (length (front ++ r ∷ [])))) ≡ true → rs ≡ bs) →
    has_sent (Some asked) (agreed_behind asked bs (agreed_with asked b (Some (length front)))) ≡ true → r ∷ rs ≡ b ∷ bs
by_byte asked front r b rs bs true eq e go h =
    let step : agreed_with asked b (Some (length front)) ≡ Some (length (front ++ r ∷ [])) =
    one_byte asked front (r ∷ rs) b e ∙ ap (λ t. if t then Some (length front + 1) else None) eq ∙ ap (λ n. Some n) (sym (longer front r)) in
    let rest : rs ≡ bs = go (sym (ap (λ o. has_sent (Some asked) (agreed_behind asked bs o)) step) ∙ h) in
    let first = equal r b eq in
    λ i. first i ∷ rest i
by_byte asked front r b rs bs false eq e go h =
    absurd (sent_none asked bs (agreed_with asked b (Some (length front)))
    (one_byte asked front (r ∷ rs) b e ∙ ap (λ t. if t then Some (length front + 1) else None) eq) h)

only_sent : (asked front rest sent : List ℕ) → asked ≡ front ++ rest → has_sent (Some asked) (agreed_behind asked sent (Some (length front))) ≡ true → rest ≡ sent
only_sent asked front rest [] e h =
    let is = equal (length front) (length asked) h in
    let size = ap length e ∙ length-append front rest in
    no_more rest (omega (arith, is, size))
only_sent asked front [] (b ∷ bs) e h = absurd (sent_none asked bs (agreed_with asked b (Some (length front))) (one_byte asked front [] b e) h)
only_sent asked front (r ∷ rs) (b ∷ bs) e h = by_byte asked front r b rs bs (r == b) refl e
    (only_sent asked (front ++ r ∷ []) rs bs (moved asked front r rs e)) h

pub agreed_tells : AgreedTells
agreed_tells None sent = (λ h. absurd (let bad : false ≡ true = h in cc), λ h. absurd (let bad : ◌≡◌ {A = Option (List ℕ)} None (Some sent) = h in cc))
agreed_tells (Some asked) sent = (
  λ h. ap (λ l. Some l) (only_sent asked [] asked sent refl h),
  λ h. let is : asked ≡ sent = let e : ◌≡◌ {A = Option (List ℕ)} (Some asked) (Some sent) = h in cc in
      subst (λ l. has_sent (Some asked) (agreed_behind asked l (Some 0)) ≡ true) is
      (ap (has_sent (Some asked)) (sent_all asked [] asked refl) ∙ same (length asked)),
)
