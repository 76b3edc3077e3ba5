use Rattle.std.proofs.Common.{◌≡◌, refl, subst, ℕ, Bool, true, false, List, length, Ok, Err}
use Rattle.std.specs.Prelude.{◌&&◌, ◌==◌}
use Rattle.m161_isa.specs.Bits.{bits_of}
use Rattle.m161_ram.specs.Word.{word_at}
use Rattle.m161_cop0.specs.Control.{Control, is_user, may_use_cop0}
use Rattle.m161_cpu.specs.declared.fault.Access.TheVariants.{Fetch}
use Rattle.m161_cpu.specs.declared.fault.FaultKind.TheVariants as kind
use Rattle.m161_cpu.specs.Processor.{Processor}
use Rattle.m161_cpu.specs.Fault.{fault}
use Rattle.m161_cpu.specs.Translation.{reach}
use Rattle.m161_cpu.specs.Step.{executable_word, is_unusable}

-- Whether the word at pc may be executed.

never : (opcode : Bool) → (opcode && false) ≡ false
never true = refl
never false = refl

-- in kernel mode any word may be
pub in_kernel_mode : (c : Control) (word : ℕ) → is_user c ≡ false → is_unusable c word ≡ false
unfolding may_use_cop0
in_kernel_mode c word kernel = rw kernel (never (bits_of word 26 6 == 16))

pub unusable : (memory : List ℕ) (p q : Processor) (at : ℕ) → q ≡ p
    → reach Fetch 4 p.pc (length memory) p ≡ Ok at →
    is_unusable q.control (word_at memory at) ≡ true →
    executable_word memory p ≡ Err (fault kind.Coprocessor0Unusable)
unusable memory p q at same found is =
    let here : is_unusable p.control (word_at memory at) ≡ true =
    subst (λ (r : Processor). is_unusable r.control (word_at memory at) ≡ true) same is in
    rw (found, here) refl
