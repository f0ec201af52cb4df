-- An edit is made, or refused with the first cause.
use Rattle.std.proofs.Common.{◌≡◌, ℕ, Bool, true, false, List, [], ◌∷◌, refl, sym, ap, ◌∙◌, Option, Some, None}
use Rattle.std.specs.Prelude.{◌||◌, Result, Ok, Err, if◌then◌else◌}
use Rattle.elf_format.specs.Image.{Image}
use Rattle.elf_edits.specs.Texts.{has_some}
use Rattle.elf_image.specs.Deleted.{without_sections}
use Rattle.elf_symbol_edits.specs.declared.cause.Cause.{Cause}
use Rattle.elf_symbol_edits.specs.Cause.{cause}
use Rattle.elf_symbol_edits.specs.Laws.{EditsAreDecided}
use Rattle.elf_symbol_edits.specs.Named.{named_sections}
use Rattle.elf_symbol_edits.specs.SymbolEdit.{DeleteAllSymbols, DeleteDynamicSymbols, DeleteSections, DeleteSymbols, RenameAllSymbols, RenameSections, RenameSymbols, SymbolEdit, edited, touches, written}

-- what a cause answers
abbrev decided : Option Cause → Image → Result Image Cause
decided o image = elim o [ None ↦ Ok image | Some reason ↦ Err reason ]

accepted_by : (o : Option Cause) (image new : Image) → decided o image ≡ Ok new → (new ≡ image) × (o ≡ None)
accepted_by None image new h = (sym (cc), refl)
accepted_by (Some reason) image new h = absurd (cc)

refused_by : (o : Option Cause) (image : Image) (reason : Cause) → decided o image ≡ Err reason → o ≡ Some reason
refused_by None image reason h = absurd (cc)
refused_by (Some other) image reason h = cc

or_true : (a : Bool) → (a || true) ≡ true
or_true true = refl
or_true false = refl

or_false : (a : Bool) → (a || false) ≡ a
or_false true = refl
or_false false = refl

marked_if : (b : Bool) (old new : Image) → (b ≡ true → new.changed ≡ true) → (if b then new else old).changed ≡ (old.changed || b)
marked_if true old new marks = marks refl ∙ sym (or_true old.changed)
marked_if false old new marks = sym (or_false old.changed)

sections_marked : (gone : List ℕ) (old : Image) → has_some gone ≡ true → (without_sections gone old).changed ≡ true
sections_marked [] old some = absurd (cc)
sections_marked (n ∷ ns) old some = refl

pub marked : (edit : SymbolEdit) (old : Image) → (edited edit old).changed ≡ (old.changed || touches edit old)
marked (RenameSymbols pairs) old = marked_if (touches (RenameSymbols pairs) old) old (written (RenameSymbols pairs) old) (λ _. refl)
marked (DeleteSymbols names) old = marked_if (touches (DeleteSymbols names) old) old (written (DeleteSymbols names) old) (λ _. refl)
marked (DeleteDynamicSymbols names) old = marked_if (touches (DeleteDynamicSymbols names) old) old (written (DeleteDynamicSymbols names) old) (λ _. refl)
marked (RenameAllSymbols pairs) old = marked_if (touches (RenameAllSymbols pairs) old) old (written (RenameAllSymbols pairs) old) (λ _. refl)
marked (DeleteAllSymbols names) old = marked_if (touches (DeleteAllSymbols names) old) old (written (DeleteAllSymbols names) old) (λ _. refl)
marked (RenameSections pairs) old = marked_if (touches (RenameSections pairs) old) old (written (RenameSections pairs) old) (λ _. refl)
marked (DeleteSections names) old = marked_if (touches (DeleteSections names) old) old (written (DeleteSections names) old) (sections_marked (named_sections names old) old)

pub edits_are_decided : EditsAreDecided
edits_are_decided = record {
  made = λ edit old new h. (accepted_by (cause edit old) (edited edit old) new h).0;
  accepted = λ edit old new h. (accepted_by (cause edit old) (edited edit old) new h).1;
  refused = λ edit old reason h. refused_by (cause edit old) (edited edit old) reason h;
  marks = λ edit old new h. ap (λ (x : Image). x.changed) (accepted_by (cause edit old) (edited edit old) new h).0 ∙ marked edit old;
}
