use Rattle.std.proofs.Common.{◌≡◌, ◌∙◌, ℕ, List, Option, None, Some, Result, Ok, Err, ap, refl}
use Rattle.std.specs.Prelude.{is_some, option_map, unwrap_or}
use Rattle.std.specs.Str.Parse.{ParsesUnsigned}
use Rattle.clap.specs.Words.{ReadsOne}
use Rattle.s161_command.specs.Drives.{IsLongNumberOf}
use Rattle.s161_command.specs.Numbers.{IsNumberIf, IsNumberOf}

-- What clap's getters answer, said of what is asked for.

-- a number that is read as an unsigned one of 32 bits, and else the default
pub number_of : (E : Type 0) (G : List ℕ → Result ℕ E → Type 0) (text : Option (List ℕ)) (read : Option ℕ) (default n : ℕ) →
    (text ≡ None → read ≡ None) → ((t : List ℕ) → text ≡ Some t → ReadsOne G t read) →
    ((t : List ℕ) (x : Result ℕ E) → G t x → ParsesUnsigned 32 10 t x) → n ≡ unwrap_or read default → IsNumberOf default text n
number_of E G None read default n none value parses is = is ∙ ap (λ r. unwrap_or r default) (none refl)
number_of E G (Some t) (Some v) default n none value parses is =
    let parsed = parses t (Ok v) (value t refl) in
    record { number = λ fits. is ∙ parsed.1; other = λ not. absurd (not parsed.0) }
number_of E G (Some t) None default n none value parses is =
    let error = value t refl in
    record { number = λ fits. absurd (parses t (Err error.0) error.1 fits); other = λ not. is }

-- the same of 64 bits
pub long_number_of : (E : Type 0) (G : List ℕ → Result ℕ E → Type 0) (text : Option (List ℕ)) (read : Option ℕ) (default n : ℕ) →
    (text ≡ None → read ≡ None) → ((t : List ℕ) → text ≡ Some t → ReadsOne G t read) →
    ((t : List ℕ) (x : Result ℕ E) → G t x → ParsesUnsigned 64 10 t x) → n ≡ unwrap_or read default → IsLongNumberOf default text n
long_number_of E G None read default n none value parses is = is ∙ ap (λ r. unwrap_or r default) (none refl)
long_number_of E G (Some t) (Some v) default n none value parses is =
    let parsed = parses t (Ok v) (value t refl) in
    record { number = λ fits. is ∙ parsed.1; other = λ not. absurd (not parsed.0) }
long_number_of E G (Some t) None default n none value parses is =
    let error = value t refl in
    record { number = λ fits. absurd (parses t (Err error.0) error.1 fits); other = λ not. is }

-- the number that is read, if there is one
pub number_if : (E : Type 0) (G : List ℕ → Result ℕ E → Type 0) (text : Option (List ℕ)) (read : Option ℕ) →
    (text ≡ None → read ≡ None) → ((t : List ℕ) → text ≡ Some t → ReadsOne G t read) →
    ((t : List ℕ) (x : Result ℕ E) → G t x → ParsesUnsigned 32 10 t x) → IsNumberIf text read
number_if E G None read none value parses = none refl
number_if E G (Some t) (Some v) none value parses = parses t (Ok v) (value t refl)
number_if E G (Some t) None none value parses =
    let error = value t refl in
    parses t (Err error.0) error.1

-- what has a text is given
pub given_as : {A B : Type 0} (f : A → B) (o : Option A) → is_some o ≡ is_some (option_map f o)
given_as f None = refl
given_as f (Some x) = refl
