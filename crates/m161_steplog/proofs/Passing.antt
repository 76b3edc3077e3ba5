-- The comments before a log.
use Rattle.std.proofs.Common.{◌≡◌, ◌≢◌, inl, inr, ℕ, zero, suc, ◌+◌, ◌<◌, ◌≤◌, List, [], ◌∷◌, ◌++◌, Bool, true, false, cond, eqb, ne_eqb, leb, leb-true, leb-false, length, get_or, take, take_all, refl, sym, subst, ap, ◌∙◌, arith}
use Rattle.std.specs.List.{onto_first}
use Rattle.m161_text.specs.Lines.{lines_of, FirstBad}
use Rattle.m161_text.specs.Parts.{Lacks, IsFirstLine}
use Rattle.m161_text.proofs.Parts.{rest_lacks}
use Rattle.m161_steplog.specs.Comments.{is_comment, comments_of, comment_count, after_line, after_lines, behind_comments}

-- a text without its first line
after_test : (x : ℕ) (bs : List ℕ) → x ≢ 10 → after_line (x ∷ bs) ≡ after_line bs
after_test x bs other = ap (λ (t : Bool). cond t bs (after_line bs)) (ne_eqb x 10 other)

after_cut : (a b : List ℕ) → Lacks 10 a → after_line (a ++ 10 ∷ b) ≡ b
after_cut [] b lacks = refl
after_cut (x ∷ a) b lacks = after_test x (a ++ 10 ∷ b) (lacks 0 (omega arith)) ∙ after_cut a b (rest_lacks 10 x a lacks)

after_last : (a : List ℕ) → Lacks 10 a → after_line a ≡ []
after_last [] lacks = refl
after_last (x ∷ a) lacks = after_test x a (lacks 0 (omega arith)) ∙ after_last a (rest_lacks 10 x a lacks)

after_is : (text line rest : List ℕ) → IsFirstLine text line rest → after_line text ≡ rest
after_is text line rest cut = elim (cut.1) [
  | inl e ↦ ap after_line e ∙ after_cut line rest cut.0
  | inr e ↦ ap after_line e.0 ∙ after_last line cut.0 ∙ sym e.1
]

-- whether a line is a comment, as the code tests it
pub comment_test : (line : List ℕ) → is_comment line ≡ eqb (get_or line 0 0) 35
comment_test [] = refl
comment_test (b ∷ bs) = refl

-- what is left, after so many comments
pub record Passed (text rest : List ℕ) (n : ℕ) : Type 0 where
  pub count : comment_count text ≡ n + comment_count rest
  pub behind : behind_comments text ≡ behind_comments rest

abbrev pub IsPlain : List ℕ → Type 0
IsPlain rest = (comment_count rest ≡ 0) × (behind_comments rest ≡ rest)

pub passed_more : (text rest line more : List ℕ) (n : ℕ) → Passed text rest n → lines_of rest ≡ line ∷ lines_of more → IsFirstLine rest line more → is_comment line ≡ true → Passed text more (n + 1)
unfolding comment_count behind_comments
passed_more text rest line more n so lines cut is =
    let one : comments_of (lines_of rest) ≡ suc (comments_of (lines_of more)) = ap comments_of lines ∙ ap (λ (t : Bool). cond t (suc (comments_of (lines_of more))) 0) is in
    record {
      count = so.count ∙ ap (λ k. n + k) one ∙ omega arith;
      behind = so.behind ∙ ap (λ k. after_lines k rest) one ∙ ap (after_lines (comments_of (lines_of more))) (after_is rest line more cut);
    }

pub plain_line : (rest line : List ℕ) (others : List (List ℕ)) → lines_of rest ≡ line ∷ others → is_comment line ≡ false → IsPlain rest
unfolding comment_count behind_comments
plain_line rest line others lines is =
    let none : comments_of (lines_of rest) ≡ 0 = ap comments_of lines ∙ ap (λ (t : Bool). cond t (suc (comments_of others)) 0) is in
    (none, ap (λ k. after_lines k rest) none)

pub plain_empty : (rest : List ℕ) → rest ≡ [] → IsPlain rest
unfolding comment_count behind_comments
plain_empty rest is = subst IsPlain (sym is) (refl, refl)

pub passed_all : (text rest : List ℕ) (n : ℕ) → Passed text rest n → IsPlain rest → (rest ≡ behind_comments text) × (n ≡ comment_count text)
passed_all text rest n so plain = (sym (so.behind ∙ plain.1), omega (arith, so.count, plain.0))

-- the first bad line is one of the text, or the one after its end
few_more : (b : ℕ) (lines : List (List ℕ)) → length (onto_first b lines) ≤ length lines + 1
few_more b [] = omega arith
few_more b (line ∷ lines) = omega arith

few_lines : (text : List ℕ) → length (lines_of text) ≤ length text
few_lines [] = omega arith
few_lines (b ∷ bs) = by (eqb b 10) refl (few_lines bs)
  where
    by : (t : Bool) → eqb b 10 ≡ t → length (lines_of bs) ≤ length bs → length (lines_of (b ∷ bs)) ≤ suc (length bs)
    by true e few =
        let cut : lines_of (b ∷ bs) ≡ [] ∷ lines_of bs = ap (λ (s : Bool). cond s ([] ∷ lines_of bs) (onto_first b (lines_of bs))) e in
        omega (arith, ap length cut, few)
    by false e few =
        let on : lines_of (b ∷ bs) ≡ onto_first b (lines_of bs) = ap (λ (s : Bool). cond s ([] ∷ lines_of bs) (onto_first b (lines_of bs))) e in
        omega (arith, ap length on, few_more b (lines_of bs), few)

pub bad_within : (Fits : List (List ℕ) → Type 0) (text : List ℕ) (n : ℕ) → FirstBad Fits text n → n ≤ length text + 1
bad_within Fits text zero fault = omega arith
bad_within Fits text (suc zero) fault = omega arith
bad_within Fits text (suc (suc j)) fault = by (leb (suc j) (length (lines_of text))) refl
  where
    by : (t : Bool) → leb (suc j) (length (lines_of text)) ≡ t → suc (suc j) ≤ length text + 1
    by true e = omega (arith, leb-true _ _ e, few_lines text)
    by false e =
        let long : length (lines_of text) < suc j = leb-false _ _ e in
        let same : take (suc j) (lines_of text) ≡ take (suc (suc j)) (lines_of text) = take_all (suc j) (lines_of text) (omega arith) ∙ sym (take_all (suc (suc j)) (lines_of text) (omega arith)) in
        absurd (fault.bad (subst Fits same (fault.before (suc j) (omega arith) (omega arith))))
