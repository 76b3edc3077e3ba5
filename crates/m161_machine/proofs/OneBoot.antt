use Rattle.std.proofs.Common.{◌≡◌, ◌∙◌, sym, subst, ℕ, ◌<◌, List}
use Rattle.std.proofs.lemmas.List.{ext_get_or}
use Rattle.m161_elf.specs.Image.{IsImage}
use Rattle.m161_machine.specs.declared.conf.Conf.{Conf}
use Rattle.m161_machine.specs.History.{IsBootState, boot_state}
use Rattle.m161_machine.specs.State.{State}

-- A file and a configuration have one state at boot.

same_bytes : (file : List ℕ) (ram a b : ℕ) (xs ys : List ℕ) → IsImage file ram a xs → IsImage file ram b ys → xs ≡ ys
same_bytes file ram a b xs ys i j =
    ext_get_or 0 xs ys (i.size_is ∙ sym j.size_is)
    (λ at less. let here : at < ram = subst (λ n. at < n) i.size_is less in i.bytes_are at here ∙ sym (j.bytes_are at here))

pub booted_as_one : (file : List ℕ) (conf : Conf) (s t : State) → IsBootState file conf s → IsBootState file conf t → s ≡ t
booted_as_one file conf s t a b =
    let same_conf : a.start.conf ≡ b.start.conf = a.conf_is ∙ sym b.conf_is in
    let same_entry : a.start.entry ≡ b.start.entry = a.image.entry_is ∙ sym b.image.entry_is in
    let same_memory : a.start.bytes ≡ b.start.bytes =
    same_bytes file conf.ram a.start.entry b.start.entry a.start.bytes b.start.bytes a.image b.image in
    a.state_is
    ∙ (λ i. boot_state (record { bytes = same_memory i; entry = same_entry i; conf = same_conf i }))
    ∙ sym b.state_is
