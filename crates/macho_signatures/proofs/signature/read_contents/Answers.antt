-- Each check in its turn.
use Rattle.std.proofs.Common.{refl, ◌∙◌, ap, None, Some, if◌then◌else◌}
use Rattle.std.proofs.lemmas.Result.{err_from_is_err_and}
use Rattle.macho_signatures.specs.declared.fault.SignatureFault.TheVariants.{NoDirectory}
use Rattle.macho_signatures.proofs.SignatureLaws.{contents_tell, directories_fault, inside_blobs, inside_kept, main_fault}
use Rattle.macho_signatures.proofs.signature.read_contents.Goals as goal

pub read_directories-requires : goal.read_directories-requires
read_directories-requires c = inside_kept c.args.signature.now c.args.blobs.now c.in_ok-kept.kept.items c.deref.result.now c.requires.are c.in_ok-kept.ensures c.deref.ensures.value

pub has_message-requires : goal.has_message-requires
has_message-requires c = record { long = c.requires.are.long; inside = inside_blobs c.args.signature.now c.args.blobs.now c.requires.are }

pub returns-then-not-has_main : goal.returns-then-not-has_main
returns-then-not-has_main c = λ _.
    main_fault c.args.start c.args.signature.now c.args.blobs.now c.in_ok-kept.kept.items c.deref.result.now c.has_main.result c.requires.all c.in_ok-kept.ensures c.deref.ensures.value c.in_ok-directories.ensures.0 c.has_main.ensures
    ∙ ap (λ b. if b then None else Some NoDirectory) c.if-not-has_main.true

pub returns : goal.returns
returns c = (
  main_fault c.args.start c.args.signature.now c.args.blobs.now c.in_ok-kept.kept.items c.deref.result.now c.has_main.result c.requires.all c.in_ok-kept.ensures c.deref.ensures.value c.in_ok-directories.ensures.0 c.has_main.ensures
      ∙ ap (λ b. if b then None else Some NoDirectory) c.if-not-has_main.false,
  contents_tell c.args.start c.args.signature.now c.args.blobs.now c.in_ok-kept.kept.items c.deref.result.now _ c.has_message.result c.requires.all c.in_ok-kept.ensures c.deref.ensures.value refl c.in_ok-directories.ensures.1 refl c.has_message.ensures,
)

pub returns-in_err-directories : goal.returns-in_err-directories
returns-in_err-directories c =
    let p = err_from_is_err_and c.from_residual-in_err-directories.result c.from_residual-in_err-directories.ensures.1 in
    rw (p.1, p.2) (λ other. directories_fault c.args.start c.args.signature.now c.args.blobs.now c.in_ok-kept.kept.items c.deref.result.now c.in_err-directories.field-0.0 c.requires.all c.in_ok-kept.ensures c.deref.ensures.value (c.in_err-directories.ensures other))
