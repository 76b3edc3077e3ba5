use Rattle.std.specs.Prelude.{ℕ, ◌<◌}
use Rattle.m161_bus.specs.declared.register.Register.{Register}
use Rattle.m161_bus.specs.declared.register.Register.TheVariants.{Cirqe, Cipi, Cram}

-- the processor of a register exists, and so does the word of its CRAM
abbrev pub IsThere : ℕ → Register → Type 0
IsThere processors (Cirqe p) = p < processors
IsThere processors (Cipi p) = p < processors
IsThere processors (Cram p i) = (p < processors) × (i < 64)
IsThere processors other = Unit {0}
