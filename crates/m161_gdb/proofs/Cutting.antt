-- Texts cut at a byte.
use Rattle.std.proofs.Common.{◌≡◌, ◌≢◌, ℕ, zero, suc, ◌+◌, ◌-◌, ◌<◌, ◌≤◌, List, [], ◌∷◌, ◌++◌, Bool, true, false, cond, ap₂, append_assoc, eqb, eq-eqb, ne_eqb, length, take, drop, get_or, refl, sym, ap, ◌∙◌, arith, Option, Some, None}
use Rattle.std.proofs.lemmas.List.{take_more}
use Rattle.m161_gdb.specs.Frames.{byte_value, has}
use Rattle.std.proofs.lemmas.Option.{same_Some}
use Rattle.std.specs.List.{onto_first}
use Rattle.m161_gdb.specs.declared.packet.Action.{Action}
use Rattle.m161_gdb.specs.Packets.{action_of, before_too, byte_too, bytes_of, cut_at, first_too, parts, read_actions}
use Rattle.m161_gdb.specs.helpers.Lists.{all_behind}
use Rattle.m161_gdb.proofs.Bytes.{has_more, has_not}

cut_step : (t : Bool) (c b : ℕ) (bs : List ℕ) → eqb b c ≡ t → cut_at c (b ∷ bs) ≡ cond t (Some ([], bs)) (before_too b (cut_at c bs))
cut_step t c b bs e = ap (λ (s : Bool). cond s (Some ([], bs)) (before_too b (cut_at c bs))) e

pub cut_found : (c : ℕ) (text : List ℕ) (i : ℕ) → i < length text → has c (take i text) ≡ false → get_or text i 0 ≡ c → cut_at c text ≡ Some (take i text, drop (i + 1) text)
cut_found c [] i lt none here = absurd (omega arith)
cut_found c (b ∷ bs) zero lt none here = cut_step true c b bs (eq-eqb b c here)
cut_found c (b ∷ bs) (suc i) lt none here =
    let it = has_not c b (take i bs) none in
    let plus : suc i + 1 ≡ suc (i + 1) = omega arith in
    let rest : cut_at c bs ≡ Some (take i bs, drop (i + 1) bs) = cut_found c bs i (omega arith) it.1 here in
    cut_step false c b bs (ne_eqb b c it.0) ∙ ap (before_too b) rest ∙ rw plus refl

pub cut_never : (c : ℕ) (text : List ℕ) (i : ℕ) → length text ≤ i → has c (take i text) ≡ false → cut_at c text ≡ None
cut_never c [] i all none = refl
cut_never c (b ∷ bs) zero all none = absurd (omega arith)
cut_never c (b ∷ bs) (suc i) all none =
    let it = has_not c b (take i bs) none in
    cut_step false c b bs (ne_eqb b c it.0) ∙ ap (before_too b) (cut_never c bs i (omega arith) it.1)

pub not_yet : (c : ℕ) (text : List ℕ) (i : ℕ) → i < length text → has c (take i text) ≡ false → get_or text i 0 ≢ c → has c (take (i + 1) text) ≡ false
not_yet c text i lt none other = ap (has c) (take_more text i 0 lt) ∙ has_more c (get_or text i 0) (take i text) none other

-- Parts between such bytes.

parts_step : (t : Bool) (c b : ℕ) (bs : List ℕ) → eqb b c ≡ t → parts c (b ∷ bs) ≡ cond t ([] ∷ parts c bs) (onto_first b (parts c bs))
parts_step t c b bs e = ap (λ (s : Bool). cond s ([] ∷ parts c bs) (onto_first b (parts c bs))) e

pub parts_cut : (c : ℕ) (text a d : List ℕ) → cut_at c text ≡ Some (a, d) → parts c text ≡ a ∷ parts c d
parts_cut c [] a d e = absurd (cc)
parts_cut c (b ∷ bs) a d e = by (eqb b c) refl (cut_at c bs) refl (λ x y. parts_cut c bs x y)
  where
    by : (t : Bool) → eqb b c ≡ t → (r : Option (List ℕ × List ℕ)) → cut_at c bs ≡ r → ((x y : List ℕ) → cut_at c bs ≡ Some (x, y) → parts c bs ≡ x ∷ parts c y) → parts c (b ∷ bs) ≡ a ∷ parts c d
    by true here r is rest =
        let same : ◌≡◌ {A = Option (List ℕ × List ℕ)} (Some ([], bs)) (Some (a, d)) = sym (cut_step true c b bs here) ∙ e in
        let pair : ◌≡◌ {A = List ℕ × List ℕ} ([], bs) (a, d) = same_Some _ _ same in
        let front : [] ≡ a = ap (λ (t : List ℕ × List ℕ). t.0) pair in
        let back : bs ≡ d = ap (λ (t : List ℕ × List ℕ). t.1) pair in
        parts_step true c b bs here ∙ ap₂ (λ (x y : List ℕ). x ∷ parts c y) front back
    by false here None is rest =
        let wrong : ◌≡◌ {A = Option (List ℕ × List ℕ)} None (Some (a, d)) = sym (ap (before_too b) is) ∙ sym (cut_step false c b bs here) ∙ e in absurd (cc)
    by false here (Some p) is rest =
        let same : ◌≡◌ {A = Option (List ℕ × List ℕ)} (Some (b ∷ p.0, p.1)) (Some (a, d)) = sym (ap (before_too b) is) ∙ sym (cut_step false c b bs here) ∙ e in
        let pair : ◌≡◌ {A = List ℕ × List ℕ} (b ∷ p.0, p.1) (a, d) = same_Some _ _ same in
        let front : b ∷ p.0 ≡ a = ap (λ (t : List ℕ × List ℕ). t.0) pair in
        let back : p.1 ≡ d = ap (λ (t : List ℕ × List ℕ). t.1) pair in
        parts_step false c b bs here ∙ ap (onto_first b) (rest p.0 p.1 is) ∙ ap₂ (λ (x y : List ℕ). x ∷ parts c y) front back

pub parts_last : (c : ℕ) (text : List ℕ) → cut_at c text ≡ None → parts c text ≡ text ∷ []
parts_last c [] e = refl
parts_last c (b ∷ bs) e = by (eqb b c) refl (cut_at c bs) refl (λ none. parts_last c bs none)
  where
    by : (t : Bool) → eqb b c ≡ t → (r : Option (List ℕ × List ℕ)) → cut_at c bs ≡ r → (cut_at c bs ≡ None → parts c bs ≡ bs ∷ []) → parts c (b ∷ bs) ≡ (b ∷ bs) ∷ []
    by true here r is rest =
        let wrong : ◌≡◌ {A = Option (List ℕ × List ℕ)} (Some ([], bs)) None = sym (cut_step true c b bs here) ∙ e in absurd (cc)
    by false here None is rest = parts_step false c b bs here ∙ ap (onto_first b) (rest is)
    by false here (Some p) is rest =
        let wrong : ◌≡◌ {A = Option (List ℕ × List ℕ)} (Some (b ∷ p.0, p.1)) None = sym (ap (before_too b) is) ∙ sym (cut_step false c b bs here) ∙ e in absurd (cc)

-- Actions that are read one after the other.

pub read_more : (text part behind : List ℕ) (front : List Action) (action : Action) (whole : Option (List Action))
    → cut_at 59 text ≡ Some (part, behind) → action_of part ≡ Some action
    → all_behind front (read_actions (parts 59 text)) ≡ whole
    → all_behind (front ++ action ∷ []) (read_actions (parts 59 behind)) ≡ whole
read_more text part behind front action whole is one so_far =
    by (read_actions (parts 59 behind)) refl
  where
    before : all_behind front (first_too (action_of part) (read_actions (parts 59 behind))) ≡ whole
    before = ap (λ ps. all_behind front (read_actions ps)) (sym (parts_cut 59 text part behind is)) ∙ so_far

    by : (r : Option (List Action)) → read_actions (parts 59 behind) ≡ r → all_behind (front ++ action ∷ []) (read_actions (parts 59 behind)) ≡ whole
    by None e = ap (all_behind (front ++ action ∷ [])) e ∙ sym (ap₂ (λ (a : Option Action) (r : Option (List Action)). all_behind front (first_too a r)) one e) ∙ before
    by (Some actions) e =
        ap (all_behind (front ++ action ∷ [])) e ∙ ap (λ xs. Some xs) (append_assoc front (action ∷ []) actions)
        ∙ sym (ap₂ (λ (a : Option Action) (r : Option (List Action)). all_behind front (first_too a r)) one e) ∙ before

-- one that can't be read
pub read_none : (text part behind : List ℕ) (front : List Action) (whole : Option (List Action))
    → cut_at 59 text ≡ Some (part, behind) → action_of part ≡ None
    → all_behind front (read_actions (parts 59 text)) ≡ whole → whole ≡ None
read_none text part behind front whole is none so_far =
    sym so_far ∙ ap (λ ps. all_behind front (read_actions ps)) (parts_cut 59 text part behind is)
    ∙ ap (λ a. all_behind front (first_too a (read_actions (parts 59 behind)))) none

-- the last one

pub read_last : (text : List ℕ) (front : List Action) (action : Action) (whole : Option (List Action))
    → cut_at 59 text ≡ None → action_of text ≡ Some action
    → all_behind front (read_actions (parts 59 text)) ≡ whole → whole ≡ Some (front ++ action ∷ [])
read_last text front action whole is one so_far =
    sym so_far ∙ ap (λ ps. all_behind front (read_actions ps)) (parts_last 59 text is)
    ∙ ap (λ a. all_behind front (first_too a (Some []))) one

pub read_no_last : (text : List ℕ) (front : List Action) (whole : Option (List Action))
    → cut_at 59 text ≡ None → action_of text ≡ None
    → all_behind front (read_actions (parts 59 text)) ≡ whole → whole ≡ None
read_no_last text front whole is none so_far =
    sym so_far ∙ ap (λ ps. all_behind front (read_actions ps)) (parts_last 59 text is)
    ∙ ap (λ a. all_behind front (first_too a (Some []))) none

pub nothing_before : (r : Option (List Action)) → all_behind [] r ≡ r
nothing_before None = refl
nothing_before (Some actions) = refl

-- Bytes of two digits each.

take_all : (n : ℕ) (xs : List ℕ) → length xs ≤ n → take n xs ≡ xs
take_all zero [] all = refl
take_all zero (x ∷ xs) all = absurd (omega arith)
take_all (suc n) [] all = refl
take_all (suc n) (x ∷ xs) all = ap (λ ys. x ∷ ys) (take_all n xs (omega arith))

joins : (line new : List ℕ) (byte : ℕ) (r : Option (List ℕ)) → new ≡ line ++ byte ∷ [] → all_behind line (byte_too (Some byte) r) ≡ all_behind new r
joins line new byte None is = refl
joins line new byte (Some rest) is = ap (λ xs. Some xs) (sym (append_assoc line (byte ∷ []) rest) ∙ ap (λ xs. xs ++ rest) (sym is))

pub bytes_more : (rest line new : List ℕ) (byte : ℕ) (whole : Option (List ℕ))
    → 2 ≤ length rest → byte_value (get_or rest 0 0) (get_or rest 1 0) ≡ Some byte → new ≡ line ++ byte ∷ []
    → all_behind line (bytes_of rest) ≡ whole → all_behind new (bytes_of (take (length rest - 2) (drop 2 rest))) ≡ whole
bytes_more [] line new byte whole long value is so_far = absurd (omega arith)
bytes_more (h ∷ []) line new byte whole long value is so_far = absurd (omega arith)
bytes_more (h ∷ l ∷ rest) line new byte whole long value is so_far =
    ap (λ xs. all_behind new (bytes_of xs)) (take_all (length (h ∷ l ∷ rest) - 2) rest (omega arith))
    ∙ sym (joins line new byte (bytes_of rest) is)
    ∙ ap (λ b. all_behind line (byte_too b (bytes_of rest))) (sym value) ∙ so_far
