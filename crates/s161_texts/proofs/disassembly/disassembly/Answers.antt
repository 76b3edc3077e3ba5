use Rattle.std.proofs.Common.{List, ℕ, Err, ap, length, refl, string_bytes, subst, sym}
use Rattle.std.proofs.lemmas.Result.{err_from_is_err_and}
use Rattle.m161_elf.specs.Image.{first_fault}
use Rattle.m161_elf.specs.declared.span.Span.{Span}
use Rattle.m161_dis.specs.declared.naming.Style.{Style}
use Rattle.s161_texts.specs.Listings.{IsListing, dis_ram}
use Rattle.s161_texts.specs.helpers.Listings.{AreInRam}
use Rattle.s161_texts.proofs.Listed.{found_in_ram, is_listing, unlisted, unloaded}
use Rattle.s161_texts.proofs.disassembly.disassembly.Goals as goal

pub listing-requires : goal.listing-requires
listing-requires c =
    let P : List Span → Type 0 = λ spans. AreInRam (length c.deref.result.now) spans in
    let Q : List ℕ → Type 0 = λ memory. AreInRam (length memory) c.in_ok-spans.spans.items in
    subst P (sym c.deref-2.ensures.value)
    (subst Q (sym c.deref.ensures.value) (found_in_ram c.args.file.now c.in_ok-image.image c.in_ok-spans.spans c.in_ok-image.ensures.answer c.in_ok-spans.ensures.answer))

pub returns-clause-ok : goal.returns-clause-ok
returns-clause-ok c =
    let P : Style → Type 0 = λ style. IsListing style c.args.file.now (string_bytes c.in_ok-listing.field-0) in
    subst P c.in_ok-style.ensures
    (is_listing c.in_ok-style.style c.args.file.now _ c.in_ok-image.image c.in_ok-spans.spans _ _ c.in_ok-image.ensures.answer c.in_ok-spans.ensures.answer
    c.deref.ensures.value c.deref-2.ensures.value c.in_ok-listing.ensures)

pub returns-in_err-image-clause-fault : goal.returns-in_err-image-clause-fault
returns-in_err-image-clause-fault c =
    let made = err_from_is_err_and c.from_residual.result c.from_residual.ensures.1 in
    rw (made.1, made.2) (unloaded c.args.file.now c.in_err-image.field-0.0 c.in_err-image.ensures.answer (λ is. c.in_err-image.ensures.memory (ap (λ e. Err e) is)))

pub returns-in_err-spans-clause-fault : goal.returns-in_err-spans-clause-fault
returns-in_err-spans-clause-fault c =
    let made = err_from_is_err_and c.from_residual-in_err-spans.result c.from_residual-in_err-spans.ensures.1 in
    rw (made.1, made.2) (unlisted c.args.file.now (first_fault c.args.file.now dis_ram) c.in_ok-image.image c.in_err-spans.field-0.0 refl c.in_ok-image.ensures.answer c.in_err-spans.ensures.answer)
