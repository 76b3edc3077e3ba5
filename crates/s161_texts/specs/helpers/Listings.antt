use Rattle.std.specs.Prelude.{◌≡◌, ℕ, true, List}
use Rattle.std.specs.List.{AllByRecursion}
use Rattle.m161_elf.specs.declared.span.Span.{Span}
use Rattle.m161_elf.specs.Image.{is_in_ram}

-- all the bytes of spans are in RAM, by kseg0 or by kseg1
abbrev pub AreInRam : ℕ → List Span → Type 0
AreInRam ram = AllByRecursion (λ span. is_in_ram ram span.address span.size ≡ true)
