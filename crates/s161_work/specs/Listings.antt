use Rattle.std.specs.Prelude.{◌≡◌, ℕ, List, Option, Some}
use Rattle.m161_elf.specs.Image.{first_fault}
use Rattle.s161_base.specs.declared.fault.Fault.{Fault}
use Rattle.s161_base.specs.declared.fault.Fault.TheVariants.{File, Image, Memory}
use Rattle.s161_base.specs.declared.fault.Unloaded.TheVariants.{Load}
use Rattle.s161_base.specs.Known.{OfKnown}
use Rattle.s161_base.specs.Reading.{IsOfBytes}
use Rattle.s161_base.specs.Samples.{IsFileName}
use Rattle.s161_texts.specs.Listings.{dis_ram}

-- a listing is ended by this fault: of the image's file, or of the image; or memory was refused
abbrev pub IsListingFault : List ℕ → Option (List ℕ) → Fault → Type 0
IsListingFault name image (File failed why) =
    (failed.now ≡ name) × IsFileName name × IsOfBytes why
IsListingFault name image (Image (Load e)) =
    OfKnown image (λ file. first_fault file dis_ram ≡ Some e)
IsListingFault name image Memory = Unit {0}
IsListingFault name image _ = ⊥
