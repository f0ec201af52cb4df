-- Edits of symbols and sections that were made, or refused.
use Rattle.std.proofs.Common.{◌≡◌, sym, ap, ◌∙◌, subst, Bool, Option, Some, None}
use Rattle.std.specs.Prelude.{Result, Ok, Err}
use Rattle.elf_format.specs.Image.{Image, shown}
use Rattle.elf_image.specs.Edited.{IsEdited}
use Rattle.elf_symbol_edits.specs.declared.cause.Cause.{Cause}
use Rattle.elf_symbol_edits.specs.Cause.{cause, step}
use Rattle.elf_symbol_edits.specs.EditModel.{IsMade}
use Rattle.elf_symbol_edits.specs.Laws.{SymbolEditsShow, shown_after}
use Rattle.elf_symbol_edits.specs.SymbolEdit.{SymbolEdit, edited}
use Rattle.elf_apply.specs.declared.error.ElfError.{ElfError}
use Rattle.elf_apply.specs.SymbolsTaken.{RefusesSymbolEdit}

-- what a cause answers
abbrev decided : Image → Option Cause → Result Image Cause
decided image found = elim found [ None ↦ Ok image | Some reason ↦ Err reason ]

pub made_is : (edit : SymbolEdit) (old new : Image) (touched : Bool) → IsMade edit old new touched → step edit old ≡ Ok new
made_is edit old new touched made = ap (decided (edited edit old)) made.free ∙ ap (λ (i : Image). Ok i) (sym made.made)

pub shows_is : SymbolEditsShow → (edit : SymbolEdit) (old new : Image) (touched : Bool) → IsEdited old → IsMade edit old new touched → shown new ≡ shown_after edit old
shows_is law edit old new touched is made = ap shown made.made ∙ law.shown_after_each edit old is

pub refused_is : (edit : SymbolEdit) (old : Image) (reason : Cause) (e : ElfError) → cause edit old ≡ Some reason → RefusesSymbolEdit e (Err reason) → RefusesSymbolEdit e (step edit old)
refused_is edit old reason e found tells = subst (RefusesSymbolEdit e) (sym (ap (decided (edited edit old)) found)) tells
