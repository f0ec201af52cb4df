-- Of the image that the edits make of what was read.
use Rattle.std.proofs.Common.{◌≡◌, ◌==◌, ◌∙◌, ◌∷◌, [], List, false, length, map, sym}
use Rattle.std.proofs.lemmas.Option.{IfSome_then}
use Rattle.elf_commands.specs.Groups.{group_model}
use Rattle.arwen_cli_faults.proofs.overlap.overlap_text.Goals as goal

none_left : {A B : Type 0} (f : A → B) (items : List A) → (length items == 0) ≡ false → map f items ≡ [] → ⊥
none_left f [] some none = cc
none_left f (first ∷ rest) some none = cc

pub returns-in-Ok : goal.returns-in-Ok
returns-in-Ok c =
    IfSome_then c.text_after.result c.text_after.ensures (λ text told. record {
      image = told.0;
      are_some = none_left group_model c.args.edits.now (sym c.is_empty.ensures ∙ c.if-is_empty.false);
      makes = record { read = c.in-Ok.elf.inner; is_read = c.in-Ok.ensures.reads.0; make = told.1 };
      tells = told.2;
    })
