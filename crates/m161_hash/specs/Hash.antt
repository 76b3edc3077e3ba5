use Rattle.std.specs.Prelude.{ℕ, List}
use Rattle.std.specs.Hash.DefaultHasher as sip
use Rattle.std.specs.declared.hash.DefaultHasher.{DefaultHasher}
use Rattle.sha2.specs.Sha256.{sha256}

-- Where the hash of a text's names begins.

-- SipHash-1-3 after the digest of a text
abbrev pub after_digest : List ℕ → DefaultHasher
after_digest text = sip.write sip.initial (sha256 text)
