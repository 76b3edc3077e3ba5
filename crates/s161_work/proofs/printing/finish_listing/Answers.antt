use Rattle.std.proofs.lemmas.Result.{err_from_is_err_and}
use Rattle.s161_base.proofs.Asking.{alone_unread, after_all}
use Rattle.s161_base.specs.Asked.{image_files}
use Rattle.s161_work.proofs.Asking.{listing_is_none}
use Rattle.s161_work.proofs.printing.finish_listing.Goals as goal

pub returns-in_err-file-clause-asks : goal.returns-in_err-file-clause-asks
returns-in_err-file-clause-asks g c =
    let made = err_from_is_err_and c.from_residual.result c.from_residual.ensures.1 in
    rw (made.1, made.2)
    (alone_unread c.args.task.image (g.F.FileSource.asked c.args.files.now) (g.F.FileSource.asked c.read_image.new.files) c.in_err-file.field-0.0 c.in_err-file.ensures.asks
    c.in_err-file.ensures.err)

pub returns-in_err-listing-clause-asks : goal.returns-in_err-listing-clause-asks
returns-in_err-listing-clause-asks g c =
    let made = err_from_is_err_and c.from_residual-in_err-listing.result c.from_residual-in_err-listing.ensures.1 in
    rw (made.1, made.2)
    (after_all (image_files c.args.task.image.now) (g.F.FileSource.asked c.args.files.now) (g.F.FileSource.asked c.read_image.new.files) c.in_err-listing.field-0.0
    c.in_ok-file.ensures.asks (listing_is_none c.deref.result.now c.in_err-listing.field-0.0 c.in_err-listing.ensures.fault))
