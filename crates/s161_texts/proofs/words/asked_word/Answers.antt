use Rattle.std.proofs.Common.{Bor, List, Option, Some, inr, subst, sym, ℕ}
use Rattle.std.proofs.lemmas.Result.{err_from_is_err_and}
use Rattle.s161_texts.specs.Traces.{IsNoWord, IsWordIf, IsWordOf, symbols_of}
use Rattle.s161_texts.proofs.words.asked_word.Goals as goal

pub returns-in_err-word-in-Some-clause-err : goal.returns-in_err-word-in-Some-clause-err
returns-in_err-word-in-Some-clause-err c =
    let made = err_from_is_err_and c.from_residual-in_err-word-in-Some.result c.from_residual-in_err-word-in-Some.ensures.1 in
    let text = c.in-Some.text in
    let P : List (List ℕ × ℕ) → Type 0 = λ symbols. IsNoWord symbols c.args.ram text.now in
    rw (made.1, made.2) (inr (text, c.in-Some.is, subst P c.in_ok-symbols-in-Some.ensures c.in_err-word-in-Some.ensures.none, c.in_err-word-in-Some.ensures.fault))

pub returns-in_ok-word-in-Some-clause-ok : goal.returns-in_ok-word-in-Some-clause-ok
returns-in_ok-word-in-Some-clause-ok c =
    let task = c.args.task.now in
    let word = c.in_ok-word-in-Some.word in
    let P : List (List ℕ × ℕ) → Type 0 = λ symbols. IsWordOf symbols c.args.ram c.in-Some.text.now word in
    let Q : Option (Bor (List ℕ)) → Type 0 = λ asked. IsWordIf asked (symbols_of task c.args.file.now) c.args.ram (Some word) in
    subst Q (sym c.in-Some.is) (subst P c.in_ok-symbols-in-Some.ensures c.in_ok-word-in-Some.ensures.ok)
