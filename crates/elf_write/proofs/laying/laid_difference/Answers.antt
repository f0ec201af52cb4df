-- What the parts of the file ask for, and what is made of the source.
use Rattle.std.proofs.Common.{◌∙◌, ap, sym}
use Rattle.std.proofs.lemmas.List.{length-map}
use Rattle.byte_store.specs.Composed.{made_of}
use Rattle.byte_store.specs.Laid.{patches_of}
use Rattle.patch_bytes.specs.ByteString.{StringValue, bytes_of_each}
use Rattle.elf_write.proofs.LayingWhole.{IsFileOf, all_lie, as_many, headers_fit, made-planned, planned-parts}
use Rattle.elf_write.proofs.laying.laid_difference.Goals as goal

pub spelled_headers-requires : goal.spelled_headers-requires
spelled_headers-requires c = headers_fit c.args.image.now c.args.plan.now c.form-form.result c.args.header c.args.headers.now
    (bytes_of_each c.args.contents.now) c.form-form.ensures c.requires.header c.requires.output

pub pieces-requires-clause-places : goal.pieces-requires-clause-places
pieces-requires-clause-places c =
    (as_many c.args.image.now c.args.plan.now c.args.headers.now (bytes_of_each c.args.contents.now) c.requires.output).0

pub pieces-requires-clause-contents : goal.pieces-requires-clause-contents
pieces-requires-clause-contents c =
    sym (length-map c.args.contents.now (λ (s : StringValue). s.bytes)) ∙ (as_many c.args.image.now c.args.plan.now c.args.headers.now (bytes_of_each c.args.contents.now) c.requires.output).1

pub differing-requires-clause-lie : goal.differing-requires-clause-lie
differing-requires-clause-lie c =
    let of : IsFileOf c.args.image.now c.args.plan.now c.args.headers.now (bytes_of_each c.args.contents.now) c.in_ok-spelled.spelled
    c.form-form.result c.args.header c.in-Some.size (patches_of c.deref.result.now) = record {
      same_form = c.form-form.ensures;
      same_header = c.requires.header;
      are_spelled = c.in_ok-spelled.ensures;
      same_size = c.in-Some.ensures.1;
      are = ap patches_of c.deref.ensures.value ∙ c.in_ok-pieces.ensures;
    } in
    all_lie c.args.image.now c.args.plan.now c.args.headers.now (bytes_of_each c.args.contents.now) c.in_ok-spelled.spelled c.form-form.result
    c.args.header c.in-Some.size (patches_of c.deref.result.now) of c.requires.output

pub returns-clause-makes : goal.returns-clause-makes
returns-clause-makes c =
    let of : IsFileOf c.args.image.now c.args.plan.now c.args.headers.now (bytes_of_each c.args.contents.now) c.in_ok-spelled.spelled
    c.form-form.result c.args.header c.in-Some.size (patches_of c.deref.result.now) = record {
      same_form = c.form-form.ensures;
      same_header = c.requires.header;
      are_spelled = c.in_ok-spelled.ensures;
      same_size = c.in-Some.ensures.1;
      are = ap patches_of c.deref.ensures.value ∙ c.in_ok-pieces.ensures;
    } in
    made-planned c.args.image.now c.args.plan.now c.args.headers.now (bytes_of_each c.args.contents.now) c.in_ok-spelled.spelled c.form-form.result
    c.args.header c.in-Some.size (patches_of c.deref.result.now) of c.requires.output
    (made_of c.args.image.now.source c.in_ok-difference.difference) (λ bytes is. (c.in_ok-difference.ensures.makes bytes is).made)

pub returns-clause-makeable : goal.returns-clause-makeable
returns-clause-makeable c =
    let of : IsFileOf c.args.image.now c.args.plan.now c.args.headers.now (bytes_of_each c.args.contents.now) c.in_ok-spelled.spelled
    c.form-form.result c.args.header c.in-Some.size (patches_of c.deref.result.now) = record {
      same_form = c.form-form.ensures;
      same_header = c.requires.header;
      are_spelled = c.in_ok-spelled.ensures;
      same_size = c.in-Some.ensures.1;
      are = ap patches_of c.deref.ensures.value ∙ c.in_ok-pieces.ensures;
    } in record {
      inside = c.in_ok-difference.ensures.makeable.inside;
      end = c.in_ok-difference.ensures.makeable.end;
      changes = c.in_ok-difference.ensures.makeable.changes;
      parts = planned-parts c.args.image.now c.args.plan.now c.args.headers.now (bytes_of_each c.args.contents.now) c.in_ok-spelled.spelled c.form-form.result
          c.args.header c.in-Some.size (patches_of c.deref.result.now) of c.requires.output
          c.args.image.now.source c.in_ok-difference.difference c.in_ok-difference.ensures.makes;
    }
