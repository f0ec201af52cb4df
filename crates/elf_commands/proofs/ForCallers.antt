-- What runs of commands make, leave and tell, for crates that stand on this one.
use Rattle.std.proofs.Common.{◌≡◌, ℕ, Bool, List, Option, true, false, refl, subst, sym}
use Rattle.std.specs.declared.alloc.Global.{Global}
use Rattle.std.specs.declared.vec.Vec.{Vec}
use Rattle.elf_image.specs.ReadImage.{ReadImagesHoldParts}
use Rattle.elf_commands_edits.specs.Groups.{GroupEdit, ListsAreTheirEdits}
use Rattle.elf_commands_lines.specs.ElfAsked.{ElfAsked}
use Rattle.elf_commands.specs.ElfEngine.{IsEditedBy, IsEditedTo, IsElfEdited, LeavesElf, bytes_left}
use Rattle.elf_commands.proofs.ElfOutcomes.{source_is}

-- the bytes that there are after an answer to edits are those that they leave
pub left_after_edits : ListsAreTheirEdits → ReadImagesHoldParts → (edits : List GroupEdit) (file : List ℕ) (answer : Option (Vec ℕ Global)) → IsEditedBy edits file answer → IsEditedTo edits file (bytes_left file answer)
left_after_edits lists hold_parts edits file answer edited = by_mark edited.made.changed refl
  where
    by_mark : (b : Bool) → edited.made.changed ≡ b → IsEditedTo edits file (bytes_left file answer)
    by_mark false same = subst (λ (o : Option (Vec ℕ Global)). IsEditedTo edits file (bytes_left file o)) (sym (edited.unchanged same)) (record {
      made = edited.made;
      makes = edited.makes;
      written = record {
        unchanged = λ _. sym (source_is lists edits file edited.makes.read edited.made edited.makes.is_read edited.makes.make hold_parts);
        edited = λ other. absurd (cc);
      };
      shows = λ other. absurd (cc);
    })
    by_mark true other =
        let (new, is, written, shows) = edited.changed other in
        subst (λ (o : Option (Vec ℕ Global)). IsEditedTo edits file (bytes_left file o)) (sym is) (record {
          made = edited.made;
          makes = edited.makes;
          written = record { unchanged = λ same. absurd (cc); edited = λ _. written };
          shows = λ _. shows;
        })

-- the same of edits that are asked for
pub left_after : ListsAreTheirEdits → ReadImagesHoldParts → (a : ElfAsked) (file : List ℕ) (answer : Option (Vec ℕ Global)) → IsElfEdited a file answer → LeavesElf a file (bytes_left file answer)
left_after lists hold_parts a file answer edited =
    record { edits = edited.edits; are = edited.are; left = left_after_edits lists hold_parts edited.edits file answer edited.edited }
