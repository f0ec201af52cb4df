-- What edits keep.
use Rattle.std.proofs.Common.{ℕ, Bool, true, false, List, [], ◌∷◌, refl, sym, subst}
use Rattle.std.specs.Prelude.{if◌then◌else◌}
use Rattle.elf_format.specs.Image.{Image}
use Rattle.elf_image.specs.Deleted.{without_sections}
use Rattle.elf_symbol_edits.specs.Laws.{KeepsRest, SymbolEditsKeep}
use Rattle.elf_symbol_edits.specs.Named.{named_sections}
use Rattle.elf_symbol_edits.specs.SymbolEdit.{DeleteSections, SymbolEdit, touches, written}
use Rattle.elf_symbol_edits.proofs.DecidedLaws.{edits_are_decided}

same : (image : Image) → KeepsRest image image
same image = record { source = refl; form = refl; header = refl; definitions = refl; needs = refl; entries = refl; page_size = refl }

kept_if : (b : Bool) (old new : Image) → KeepsRest old new → KeepsRest old (if b then new else old)
kept_if true old new kept = kept
kept_if false old new kept = same old

sections_kept : (gone : List ℕ) (old : Image) → KeepsRest old (without_sections gone old)
sections_kept [] old = same old
sections_kept (n ∷ ns) old = record { source = refl; form = refl; header = refl; definitions = refl; needs = refl; entries = refl; page_size = refl }

rest_kept : (edit : SymbolEdit) (old : Image) → KeepsRest old (written edit old)
rest_kept (DeleteSections names) old = sections_kept (named_sections names old) old
rest_kept _ old = record { source = refl; form = refl; header = refl; definitions = refl; needs = refl; entries = refl; page_size = refl }

pub symbol_edits_keep : SymbolEditsKeep
symbol_edits_keep = record {
  keeps = λ edit old new is. subst (λ (i : Image). KeepsRest old i) (sym (edits_are_decided.made edit old new is)) (kept_if (touches edit old) old (written edit old) (rest_kept edit old));
}
