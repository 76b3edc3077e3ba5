-- The result of a reader, from what is known of the text.
use Rattle.std.proofs.Common.{◌≡◌, ◌∙◌, ap, sym, Some, None}
use Rattle.m161_text.specs.Parts.{Reads}

-- no value has this text
pub nothing : {X T : Type 0} {Valid : X → Type 0} {text_of : X → T} {text : T} → ((x : X) → Valid x → text ≡ text_of x → ⊥) → Reads Valid text_of text None
nothing none = record { found = tt; only = λ x valid same. absurd (none x valid same) }

-- one value alone has it
pub just : {X T : Type 0} {Valid : X → Type 0} {text_of : X → T} {text : T} (x : X) → Valid x → text ≡ text_of x → ((y : X) → Valid y → text_of x ≡ text_of y → x ≡ y) → Reads Valid text_of text (Some x)
just x valid same alone = record { found = (valid, same); only = λ y fits other. ap Some (alone y fits (sym same ∙ other)) }
