use Rattle.std.proofs.Common.{◌≡◌, ◌∙◌, ap, sym, ℕ, ◌+◌, ◌<◌, ◌≤◌, arith, List, [], ◌∷◌, ◌++◌, length, take, drop, get_or, set, append_assoc}
use Rattle.std.proofs.lemmas.List.{append-nil, drop-set-lt, drop_all, drop_more, take_all, take_more_set}
use Rattle.m161_audit.specs.declared.watch.Watch.{Watch}
use Rattle.m161_states.specs.System.{Flags, all_after, flags_after, no_flags}

-- What is kept of the watches, one after the other.

pub no_watch : Watch
no_watch = record { id = 0; page = 0; pte = 0; done = 0 }

pub none_kept : Flags
none_kept = no_flags no_watch

one_kept : (word : ℕ) (ws : List Watch) (kept : List Flags) (i : ℕ) (w : Watch) (f : Flags) → i < length ws → i < length kept →
    all_after word (drop i ws) (drop i kept)
    ≡ flags_after word (get_or ws i w) (get_or kept i f) ∷ all_after word (drop (i + 1) ws) (drop (i + 1) kept)
one_kept word ws kept i w f inside within =
    let watches = drop_more ws i w inside in
    let flags = drop_more kept i f within in
    λ j. all_after word (watches j) (flags j)

-- one more is kept
pub kept_more : (word : ℕ) (ws : List Watch) (kept all : List Flags) (i : ℕ) (w : Watch) (f : Flags) → i < length ws → i < length kept →
    take i kept ++ all_after word (drop i ws) (drop i kept) ≡ all →
    take (i + 1) (set kept i (flags_after word (get_or ws i w) (get_or kept i f)))
    ++ all_after word (drop (i + 1) ws) (drop (i + 1) (set kept i (flags_after word (get_or ws i w) (get_or kept i f)))) ≡ all
kept_more word ws kept all i w f inside within h =
    let x = flags_after word (get_or ws i w) (get_or kept i f) in
    let first = take_more_set kept i x within in
    let rest = drop-set-lt (i + 1) kept i x (omega arith) in
    (λ j. first j ++ all_after word (drop (i + 1) ws) (rest j))
    ∙ append_assoc (take i kept) (x ∷ []) (all_after word (drop (i + 1) ws) (drop (i + 1) kept))
    ∙ ap (λ l. take i kept ++ l) (sym (one_kept word ws kept i w f inside within))
    ∙ h

-- all are kept
pub kept_all : (word : ℕ) (ws : List Watch) (kept all : List Flags) (i : ℕ) → length ws ≤ i → length kept ≤ i →
    take i kept ++ all_after word (drop i ws) (drop i kept) ≡ all → kept ≡ all
kept_all word ws kept all i past behind h =
    let first = take_all i kept behind in
    let watches = drop_all i ws past in
    let flags = drop_all i kept behind in
    sym (append-nil kept) ∙ sym (λ j. first j ++ all_after word (watches j) (flags j)) ∙ h
