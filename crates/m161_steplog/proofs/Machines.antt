-- The machine line.
use Rattle.std.proofs.Common.{◌≡◌, ◌≢◌, inl, inr, ℕ, zero, suc, ◌+◌, ◌<◌, ◌≤◌, List, [], ◌∷◌, ◌++◌, Bool, cond, ne_eqb, length, get_or, take, drop, take_all, set, length-set, Option, None, Some, refl, sym, subst, ap, ap₂, ◌∙◌, arith, codes, decimal, append_assoc, append-nil, IsAscii, IsCharBoundary}
use Rattle.std.proofs.lemmas.Bool.Decides.{nat_tests}
use Rattle.std.proofs.lemmas.List.{append_cancel_left, take-append-drop, take_more_set, drop_more, drop_all, length-take-le, length-append, nil_from_length}
use Rattle.std.proofs.lemmas.List.Concat.{flat_map-append}
use Rattle.std.proofs.lemmas.Option.{none-some}
use Rattle.std.proofs.lemmas.Str.{IsAscii-append, IsCharBoundary-from_ascii}
use Rattle.std.specs.List.{AllByRecursion}
use Rattle.m161_text.specs.Parts.{◌␣◌, hex_digit, hex_text, Reads, Lacks, IsWord, IsByte, IsFirstLine}
use Rattle.m161_text.specs.helpers.Parts.{ReadsBoth}
use Rattle.m161_text.proofs.Hex.{hex_text_same}
use Rattle.m161_text.proofs.Parts.{rest_lacks}
use Rattle.m161_text.proofs.Reading.{nothing, just}
use Rattle.m161_steplog.specs.declared.machine.MachineLine.{MachineLine}
use Rattle.m161_steplog.specs.Machine.{digest_text, machine_text, first_line, IsDigest, IsMachineLine}
use Rattle.m161_steplog.specs.helpers.Machine.{end_text, IsEnd}

-- a text's first line
first_test : (x : ℕ) (bs : List ℕ) → x ≢ 10 → first_line (x ∷ bs) ≡ x ∷ first_line bs
first_test x bs other = ap (λ (t : Bool). cond t [] (x ∷ first_line bs)) (ne_eqb x 10 other)

pub first_cut : (a b : List ℕ) → Lacks 10 a → first_line (a ++ 10 ∷ b) ≡ a
first_cut [] b lacks = refl
first_cut (x ∷ a) b lacks = first_test x (a ++ 10 ∷ b) (lacks 0 (omega arith)) ∙ ap (λ xs. x ∷ xs) (first_cut a b (rest_lacks 10 x a lacks))

first_last : (a : List ℕ) → Lacks 10 a → first_line a ≡ a
first_last [] lacks = refl
first_last (x ∷ a) lacks = first_test x a (lacks 0 (omega arith)) ∙ ap (λ xs. x ∷ xs) (first_last a (rest_lacks 10 x a lacks))

pub first_is : (text line rest : List ℕ) → IsFirstLine text line rest → first_line text ≡ line
first_is text line rest cut = elim (cut.1) [
  | inl e ↦ ap first_line e ∙ first_cut line rest cut.0
  | inr e ↦ ap first_line e.0 ∙ first_last line cut.0
]

-- the digits of a byte, and what follows
byte_same : (x y : ℕ) (a b : List ℕ) → x < 256 → y < 256 → hex_text 2 x ++ a ≡ hex_text 2 y ++ b → (x ≡ y) × (a ≡ b)
byte_same x y a b hx hy e =
    let front : hex_text 2 x ≡ hex_text 2 y = ap (take 2) e in
    (hex_text_same 2 x y hx hy front, ap (drop 2) e)

-- bytes that a digest's text begins with are its first ones
front_same : (a d rest : List ℕ) → AllByRecursion IsByte a → AllByRecursion IsByte d → length a ≤ length d → digest_text a ++ rest ≡ digest_text d → (a ≡ take (length a) d) × (rest ≡ digest_text (drop (length a) d))
front_same [] d rest each all short e = (refl, e)
front_same (x ∷ a) [] rest each all short e = absurd (omega arith)
front_same (x ∷ a) (y ∷ d) rest each all short e =
    let it = byte_same x y (digest_text a ++ rest) (digest_text d) each.0 all.0 e in
    let more = front_same a d rest each.1 all.1 (omega arith) it.1 in
    (ap₂ (λ (b : ℕ) (bs : List ℕ). b ∷ bs) it.0 more.0, more.1)

-- a digest's text is ASCII
digit_ascii : (n : ℕ) → n < 16 → hex_digit n < 128
digit_ascii n small = grind (arith, nat_tests)

byte_ascii : (x : ℕ) → IsAscii (hex_text 2 x)
byte_ascii x zero = digit_ascii _ (omega arith)
byte_ascii x (suc zero) = digit_ascii _ (omega arith)
byte_ascii x (suc (suc i)) = omega arith

digest_ascii : (d : List ℕ) → IsAscii (digest_text d)
digest_ascii [] = λ i. omega arith
digest_ascii (x ∷ d) = IsAscii-append (hex_text 2 x) (digest_text d) (byte_ascii x) (digest_ascii d)

-- the first k bytes were read
pub record ReadTo (text rest digest : List ℕ) (k : ℕ) : Type 0 where
  pub front : text ≡ digest_text (take k digest) ++ rest
  pub each : AllByRecursion IsByte (take k digest)
  pub all : length digest ≡ 32

-- what is left of a digest's text
left_of : (text rest digest d : List ℕ) (k : ℕ) → ReadTo text rest digest k → k ≤ 32 → IsDigest d → text ≡ digest_text d → (take k digest ≡ take k d) × (rest ≡ digest_text (drop k d))
left_of text rest digest d k so few fits same =
    let long : length (take k digest) ≡ k = length-take-le k digest (omega (arith, so.all)) in
    let it = front_same (take k digest) d rest so.each fits.0 (omega (arith, fits.1, long)) (sym so.front ∙ same) in
    (it.0 ∙ ap (λ n. take n d) long, it.1 ∙ ap (λ n. digest_text (drop n d)) long)

next_byte : (text rest digest d : List ℕ) (k : ℕ) → ReadTo text rest digest k → k < 32 → IsDigest d → text ≡ digest_text d → rest ≡ hex_text 2 (get_or d k 0) ++ digest_text (drop (k + 1) d)
next_byte text rest digest d k so few fits same = (left_of text rest digest d k so (omega arith) fits same).1 ∙ ap digest_text (drop_more d k 0 (omega (arith, fits.1)))

byte_at : (d : List ℕ) (k : ℕ) → AllByRecursion IsByte d → k < length d → IsByte (get_or d k 0)
byte_at [] k each lt = absurd (omega arith)
byte_at (x ∷ d) zero each lt = each.0
byte_at (x ∷ d) (suc k) each lt = byte_at d k each.1 (omega arith)

pub no_pair : (text rest digest : List ℕ) (k : ℕ) → ReadTo text rest digest k → k < 32 → (IsCharBoundary rest 2 → ⊥) → Reads IsDigest digest_text text None
no_pair text rest digest k so few none = nothing (λ d fits same.
    let next = next_byte text rest digest d k so few fits same in
    let ascii = subst IsAscii (sym (left_of text rest digest d k so (omega arith) fits same).1) (digest_ascii (drop k d)) in
    none (IsCharBoundary-from_ascii rest 2 ascii (omega (arith, ap length next))))

pub no_byte : (text rest digits digest : List ℕ) (k : ℕ) → ReadTo text rest digest k → k < 32 → digits ≡ take 2 rest → Reads IsByte (hex_text 2) digits None → Reads IsDigest digest_text text None
no_byte text rest digits digest k so few cut none = nothing (λ d fits same.
    let next = next_byte text rest digest d k so few fits same in
    none-some (get_or d k 0) (none.only (get_or d k 0) (byte_at d k fits.0 (omega (arith, fits.1))) (cut ∙ ap (take 2) next)))

all_push : (xs : List ℕ) (b : ℕ) → AllByRecursion IsByte xs → IsByte b → AllByRecursion IsByte (xs ++ b ∷ [])
all_push [] b each one = (one, tt)
all_push (x ∷ xs) b each one = (each.0, all_push xs b each.1 one)

pub read_more : (text rest digits more digest : List ℕ) (k b : ℕ) → ReadTo text rest digest k → k < 32 → digits ≡ take 2 rest → more ≡ drop 2 rest → Reads IsByte (hex_text 2) digits (Some b) → ReadTo text more (set digest k b) (k + 1)
read_more text rest digits more digest k b so few front back one =
    let pushed : take (k + 1) (set digest k b) ≡ take k digest ++ b ∷ [] = take_more_set digest k b (omega (arith, so.all)) in
    let cut : rest ≡ hex_text 2 b ++ more = sym (take-append-drop 2 rest) ∙ ap₂ (λ (x y : List ℕ). x ++ y) (sym front ∙ one.found.1) (sym back) in
    let whole : digest_text (take k digest ++ b ∷ []) ++ more ≡ digest_text (take k digest) ++ (hex_text 2 b ++ more) =
    ap (λ ds. ds ++ more) (flat_map-append (hex_text 2) (take k digest) (b ∷ [])) ∙ append_assoc (digest_text (take k digest)) (hex_text 2 b) more in
    record {
      front = so.front ∙ ap (λ r. digest_text (take k digest) ++ r) cut ∙ sym whole ∙ ap (λ ds. digest_text ds ++ more) (sym pushed);
      each = subst (AllByRecursion IsByte) (sym pushed) (all_push (take k digest) b so.each one.found.0);
      all = length-set digest k b ∙ so.all;
    }

pub read_all : (text rest digest : List ℕ) (k : ℕ) → ReadTo text rest digest k → k ≡ 32 → length rest ≡ 0 → Reads IsDigest digest_text text (Some digest)
read_all text rest digest k so last none =
    let whole : take k digest ≡ digest = take_all k digest (omega (arith, so.all)) in
    let empty : rest ≡ [] = nil_from_length rest none in
    let same : text ≡ digest_text digest = so.front ∙ ap₂ (λ (d r : List ℕ). digest_text d ++ r) whole empty ∙ append-nil (digest_text digest) in
    just digest (subst (AllByRecursion IsByte) whole so.each, so.all) same (λ d fits other.
    sym whole ∙ (left_of text rest digest d k so (omega arith) fits (same ∙ other)).0 ∙ take_all k d (omega (arith, fits.1)))

pub too_long : (text rest digest : List ℕ) (k : ℕ) → ReadTo text rest digest k → k ≡ 32 → length rest ≢ 0 → Reads IsDigest digest_text text None
too_long text rest digest k so last some = nothing (λ d fits same.
    some (ap length ((left_of text rest digest d k so (omega arith) fits same).1 ∙ ap digest_text (drop_all k d (omega (arith, fits.1))))))

-- the line
machine_rest : (line rest : List ℕ) (m : MachineLine) → line ≡ codes "# machine " ++ rest → line ≡ machine_text m → rest ≡ decimal m.ram ␣ end_text (m.processors, m.digest)
machine_rest line rest m is same = append_cancel_left (codes "# machine ") rest (decimal m.ram ␣ end_text (m.processors, m.digest)) (sym is ∙ same)

pub no_machine : (line rest : List ℕ) → line ≡ codes "# machine " ++ rest → ReadsBoth IsWord IsEnd decimal end_text rest None → Reads IsMachineLine machine_text line None
no_machine line rest is none = nothing (λ m fits same. none-some (m.ram, (m.processors, m.digest)) (none.only (m.ram, (m.processors, m.digest)) (fits.ram, (fits.processors, fits.digest)) (machine_rest line rest m is same)))

made_of : Option (ℕ × (ℕ × List ℕ)) → Option MachineLine
made_of None = None
made_of (Some t) = Some (record { ram = t.0; processors = t.1.0; digest = t.1.1 })

pub machine_read : (line rest : List ℕ) (ram processors : ℕ) (digest : List ℕ) → line ≡ codes "# machine " ++ rest → ReadsBoth IsWord IsEnd decimal end_text rest (Some (ram, (processors, digest)))
    → Reads IsMachineLine machine_text line (Some (record { ram = ram; processors = processors; digest = digest }))
unfolding made_of
machine_read line rest ram processors digest is one = record {
  found = (record { ram = one.found.0.0; processors = one.found.0.1.0; digest = one.found.0.1.1 }, is ∙ ap (λ r. codes "# machine " ++ r) one.found.1);
  only = λ m fits same. ap made_of (one.only (m.ram, (m.processors, m.digest)) (fits.ram, (fits.processors, fits.digest)) (machine_rest line rest m is same));
}

-- no empty text is a machine's
pub no_line : (text : List ℕ) → text ≡ [] → Reads IsMachineLine machine_text (first_line text) None
no_line text is = nothing (λ m fits same. omega (arith, ap length (sym (ap first_line is) ∙ same), length-append (codes "# machine") (32 ∷ (decimal m.ram ␣ end_text (m.processors, m.digest)))))
