-- The document that the closures put.
use Rattle.document.specs.Header.{document_of}
use Rattle.document.specs.contracts.fn.write_document.write_fitting as in_one
use Rattle.document.specs.contracts.fn.write_document.write_whole as in_two
use Rattle.document.proofs.write_document.Given as goal

abbrev pub ghost-write_fitting : goal.ghost-write_fitting
ghost-write_fitting a =
    let k = in_one.captures a.put in
    document_of k.d.now k.h.now

abbrev pub ghost-write_whole : goal.ghost-write_whole
ghost-write_whole a =
    let k = in_two.captures a.put in
    document_of k.d.now k.h.now
