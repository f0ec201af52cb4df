-- What the edited front and the signature tell of each file.
use Rattle.std.proofs.Common.{◌∙◌, ◌++◌, List, [], ap, arith, refl, sym}
use Rattle.std.proofs.lemmas.Bool.{not-false, not-true}
use Rattle.macho_signatures.specs.Renewed.{renewed_slots}
use Rattle.macho_signatures.specs.declared.directory.Directory.{Directory}
use Rattle.macho_signing.specs.Thin.{differences}
use Rattle.macho_signing.proofs.FrontLaws.{edits_lie, lie_read, none_lie, signs_adhoc, signs_none}
use Rattle.macho_signing.proofs.front.front_slots.Goals as goal

pub returns-then-not-is_adhoc-clause-signs : goal.returns-then-not-is_adhoc-clause-signs
returns-then-not-is_adhoc-clause-signs c = λ rest has.
    let read = rw c.in-Some.is at c.in_ok-signature.ensures in
    signs_none c.args.old.now c.args.new.now rest c.args.signature.now c.args.place c.in-Some.signature _ c.requires.accepted c.requires.told c.requires.behind read
    (not-false c.in-Some.signature.is_signed (sym c.is_adhoc.ensures ∙ c.if-not-is_adhoc.true)) refl c.new.ensures.items has

pub do_pages_end-requires : goal.do_pages_end-requires
do_pages_end-requires c =
    let read = rw c.in-Some.is at c.in_ok-signature.ensures in
    lie_read c.args.place.dataoff 18446744073709551615 c.args.signature.now c.in-Some.signature c.deref.result.now read (omega arith) c.deref.ensures.value

pub edited_slots-requires-clause-lie : goal.edited_slots-requires-clause-lie
edited_slots-requires-clause-lie c =
    let read = rw c.in-Some.is at c.in_ok-signature.ensures in
    lie_read c.args.place.dataoff 18446744073709551615 c.args.signature.now c.in-Some.signature c.deref-2.result.now read (omega arith) c.deref-2.ensures.value

pub returns-clause-signs : goal.returns-clause-signs
returns-clause-signs c = λ rest has.
    let read = rw c.in-Some.is at c.in_ok-signature.ensures in
    signs_adhoc c.args.old.now c.args.new.now rest c.args.signature.now c.args.place c.in-Some.signature _ c.requires.long c.requires.accepted c.requires.told c.requires.behind read
    (not-true c.in-Some.signature.is_signed (sym c.is_adhoc.ensures ∙ c.if-not-is_adhoc.false)) refl
    (c.in_ok-edited_slots.ensures rest ∙ ap (λ (ds : List Directory). renewed_slots ds (differences (c.args.old.now ++ rest) (c.args.new.now ++ rest)) (c.args.new.now ++ rest)) c.deref-2.ensures.value) has

pub returns-then-not-is_adhoc-clause-lie : goal.returns-then-not-is_adhoc-clause-lie
returns-then-not-is_adhoc-clause-lie c = none_lie _ _ c.new.ensures.items

pub returns-clause-lie : goal.returns-clause-lie
returns-clause-lie c =
    let read = rw c.in-Some.is at c.in_ok-signature.ensures in
    edits_lie c.args.place.dataoff c.args.old.now c.args.new.now c.args.signature.now c.in-Some.signature _ read
    (c.in_ok-edited_slots.ensures [] ∙ ap (λ (ds : List Directory). renewed_slots ds (differences (c.args.old.now ++ []) (c.args.new.now ++ [])) (c.args.new.now ++ [])) c.deref-2.ensures.value)
