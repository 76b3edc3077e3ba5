use Rattle.std.proofs.Common.{◌≡◌, ◌∙◌, sym, ap, ap₂, ℕ, suc, ◌+◌, List, [], ◌∷◌, ◌++◌, length, get_or, take, drop, set, replicate, arith, append_assoc}
use Rattle.std.proofs.lemmas.List.{drop_all, flat_map_more, set_split, replicate-append-replicate}
use Rattle.std.proofs.Math.Seq.{split_at}
use Rattle.m161_machine.specs.declared.event.Event.{Event}
use Rattle.m161_machine.specs.Events.{unfolded}

-- Events that are kept as runs.

-- one run more
one_more : (runs : List (Event × ℕ)) (run : Event × ℕ) → unfolded (runs ++ run ∷ []) ≡ unfolded runs ++ replicate run.1 run.0
one_more runs run = sym (flat_map_more (λ (r : Event × ℕ). replicate r.1 r.0) [] runs run)

-- the last run is made longer
pub lengthened : (runs : List (Event × ℕ)) (i : ℕ) (last more longer : Event × ℕ) → length runs ≡ suc i → last ≡ get_or runs i last →
    last.0 ≡ more.0 → longer ≡ (last.0, last.1 + more.1) →
    unfolded (set runs i longer) ≡ unfolded runs ++ replicate more.1 more.0
lengthened runs i last more longer all at same is =
    let front = take i runs in
    let ends : drop (suc i) runs ≡ [] = drop_all (suc i) runs (omega (arith, all)) in
    let whole : runs ≡ front ++ last ∷ [] =
    split_at runs i last (omega (arith, all)) ∙ ap₂ (λ x rest. front ++ x ∷ rest) (sym at) ends in
    ap unfolded (set_split runs i longer (omega (arith, all)) ∙ ap (λ rest. front ++ longer ∷ rest) ends)
    ∙ one_more front longer
    ∙ ap (λ (r : Event × ℕ). unfolded front ++ replicate r.1 r.0) is
    ∙ ap (λ es. unfolded front ++ es) (sym (replicate-append-replicate last.1 more.1 last.0))
    ∙ sym (append_assoc (unfolded front) (replicate last.1 last.0) (replicate more.1 last.0))
    ∙ ap₂ (λ es e. es ++ replicate more.1 e) (sym (ap unfolded whole ∙ one_more front last)) same

-- a run with an event some more times, after some times of it
pub repeated : (before : List Event) (old new : List (Event × ℕ)) (e : Event) (done more : ℕ) → unfolded old ≡ before ++ replicate done e →
    new ≡ old ++ (e, more) ∷ [] → unfolded new ≡ before ++ replicate (done + more) e
repeated before old new e done more first second =
    ap unfolded second
    ∙ one_more old (e, more)
    ∙ ap (λ es. es ++ replicate more e) first
    ∙ append_assoc before (replicate done e) (replicate more e)
    ∙ ap (λ es. before ++ es) (replicate-append-replicate done more e)
