use Rattle.std.proofs.Common.{◌≡◌, ◌∙◌, sym, ap, List, [], map}
use Rattle.std.proofs.Common.{Bor}
use Rattle.std.specs.Prelude.{Option, None, Some, Result, Ok, Err, IfOk, option_map, unwrap_or}
use Rattle.clap.specs.Words.{Row, Text, all_of}
use Rattle.s161_command.specs.Repeated.{texts_of}

-- The texts of an option that may be given more than once.

abbrev pub as_texts : Option (Bor (List (Bor Text))) → Option (List Text)
as_texts texts = option_map (λ s. map (λ v. v.now) s.now) texts

pub some_texts : (name : Text) (rows : List Row) (found : Option (Bor (List (Bor Text)))) (texts : Bor (List (Bor Text))) →
    as_texts found ≡ all_of name rows → found ≡ Some texts → map (λ v. v.now) texts.now ≡ texts_of name rows
some_texts name rows found texts h is =
    ap (λ o. unwrap_or o []) (sym (ap as_texts is) ∙ h)

pub no_texts : (name : Text) (rows : List Row) (found : Option (Bor (List (Bor Text)))) →
    as_texts found ≡ all_of name rows → found ≡ None → [] ≡ texts_of name rows
no_texts name rows found h is = ap (λ o. unwrap_or o []) (sym (ap as_texts is) ∙ h)

pub if_ok : {A E : Type 0} (P Q : A → Type 0) (r : Result A E) → ((a : A) → P a → Q a) → IfOk r P → IfOk r Q
if_ok P Q (Ok a) f h = f a h
if_ok P Q (Err e) f h = tt
