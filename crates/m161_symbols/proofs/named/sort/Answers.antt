use Rattle.std.proofs.Common.{rules}
use Rattle.std.proofs.lemmas.List.Sorted.{answers_always, IsNonDecreasingBy-from_sort}
use Rattle.std.proofs.lemmas.Result.{on_ok_weaker}
use Rattle.m161_symbols.specs.declared.named.Place.{Place}
use Rattle.m161_symbols.proofs.Nearest.{same_filter}
use Rattle.m161_symbols.proofs.named.sort.Goals as goal

pub returns-clause-rising : goal.returns-clause-rising
returns-clause-rising c =
    on_ok_weaker c.sort_by_key.result
    (λ sorted. IsNonDecreasingBy-from_sort (λ (p : Place). p.value) _
    (sorted (λ (p : Place). p.value) (answers_always _ _ _ (λ f a r next called. search rules))))
    c.sort_by_key.ensures.sorted

pub returns-clause-same : goal.returns-clause-same
returns-clause-same c =
    on_ok_weaker c.sort_by_key.result
    (λ sorted value.
    same_filter value _ _
    (c.sort_by_key.ensures.stable (λ (p : Place). p.value)
    (answers_always _ _ _ (λ f a r next called. search rules))
    (record { value = value; number = 0 })))
    c.sort_by_key.ensures.sorted
