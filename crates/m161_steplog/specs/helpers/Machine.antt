use Rattle.std.specs.Prelude.{ℕ, List, decimal}
use Rattle.m161_text.specs.Parts.{◌␣◌, IsWord}
use Rattle.m161_steplog.specs.Machine.{digest_text, IsDigest}

-- How the code sees a machine line: the RAM, and then the number of processors and the digest.

abbrev pub IsEnd : ℕ × List ℕ → Type 0
IsEnd t = IsWord t.0 × IsDigest t.1

abbrev pub end_text : ℕ × List ℕ → List ℕ
end_text t = decimal t.0 ␣ digest_text t.1
