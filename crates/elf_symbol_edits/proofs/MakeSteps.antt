-- What is known where no cause stands, and what an edit makes then.
use Rattle.std.proofs.Common.{◌≡◌, ℕ, Bool, true, false, List, [], ◌∷◌, refl, sym, ◌∙◌, subst, Option, Some, None}
use Rattle.std.specs.Prelude.{◌==◌, ◌&&◌, if◌then◌else◌, not}
use Rattle.std.specs.List.{list_any}
use Rattle.std.proofs.lemmas.Bool.{or_parts}
use Rattle.std.proofs.lemmas.Option.{none-some}
use Rattle.elf_format.specs.declared.constants.TheConstants.{EM_MIPS, SHT_DYNSYM, SHT_SYMTAB}
use Rattle.elf_format.specs.Image.{Image}
use Rattle.elf_format.specs.Options.{first_there, is_one_of}
use Rattle.elf_edits.specs.Texts.{has_some, holds_nul, is_among}
use Rattle.elf_image.specs.Deleted.{CanDelete, without_sections}
use Rattle.elf_image.specs.Needed.{is_section_used}
use Rattle.elf_image.specs.Relocated.{is_symbol_used}
use Rattle.elf_image.specs.Renumbering.{can_renumber, has_opaque_user}
use Rattle.elf_image.specs.Staying.{staying, table_number}
use Rattle.elf_symbol_edits.specs.declared.cause.Cause.{Cause}
use Rattle.elf_symbol_edits.specs.declared.cause.Cause.TheVariants.{CannotRenumber, MipsImage, NulInText, SymbolInRelocation}
use Rattle.elf_symbol_edits.specs.Cause.{cause, cause_before, cause_if, cause_of_deletion, is_fixed, is_name_fixed, is_named_by_relocation}
use Rattle.elf_symbol_edits.specs.Deletion.{Deletion, deletion_of}
use Rattle.elf_symbol_edits.specs.EditModel.{IsDone}
use Rattle.elf_symbol_edits.specs.Named.{named_dynamic_symbols, named_sections, named_symbols, section_name, symbol_name}
use Rattle.elf_symbol_edits.specs.Steps.{AreSectionsGone}
use Rattle.elf_symbol_edits.specs.SymbolEdit.{DeleteSections, SymbolEdit, texts_of}
use Rattle.elf_symbol_edits.proofs.NumberSteps.{all_there, none_first}

-- ## No cause stands

none_if : (b : Bool) (c : Cause) → cause_if b c ≡ None → b ≡ false
none_if true c h = absurd (none-some c (sym h))
none_if false c h = refl

pub both_none : (o p : Option Cause) → first_there o p ≡ None → (o ≡ None) × (p ≡ None)
both_none None p h = (refl, h)
both_none (Some c) p h = absurd (none-some c (sym h))

-- what stands against an edit where no cause does: nothing
pub record IsFree (edit : SymbolEdit) (image : Image) (d : Deletion) : Type 0 where
  pub whole : list_any holds_nul (texts_of edit) ≡ false
  pub names : is_name_fixed edit image ≡ false
  pub unnamed : is_symbol_used image.form (table_number SHT_SYMTAB image) d.symbols (staying d.sections image) ≡ false
  pub dynamic_unnamed : is_symbol_used image.form (table_number SHT_DYNSYM image) d.dynamic_symbols (staying d.sections image) ≡ false
  pub renumbers : (has_some d.dynamic_symbols && not (can_renumber image)) ≡ false
  pub unused : is_section_used image d.sections ≡ false

pub is_free : (edit : SymbolEdit) (image : Image) → cause edit image ≡ None → IsFree edit image (deletion_of edit image)
is_free edit image h =
    let d : Deletion = deletion_of edit image in
    let (before, after) = both_none (cause_before edit image) (cause_of_deletion d image) h in
    let (machine, behind) = both_none (cause_if (image.header.e_machine == EM_MIPS) MipsImage) _ before in
    let (nul, name) = both_none (cause_if (list_any holds_nul (texts_of edit)) NulInText) (cause_if (is_name_fixed edit image) CannotRenumber) behind in
    let (named, rest) = both_none (cause_if (is_named_by_relocation d image) SymbolInRelocation) _ after in
    let (fixed, used) = both_none (cause_if (is_fixed d image) CannotRenumber) _ rest in
    let unnamed = or_parts (is_symbol_used image.form (table_number SHT_SYMTAB image) d.symbols (staying d.sections image))
    (is_symbol_used image.form (table_number SHT_DYNSYM image) d.dynamic_symbols (staying d.sections image)) (none_if (is_named_by_relocation d image) _ named) in
    let free = or_parts (has_some d.symbols && has_opaque_user (table_number SHT_SYMTAB image) (staying d.sections image))
    (has_some d.dynamic_symbols && not (can_renumber image)) (none_if (is_fixed d image) _ fixed) in
    record {
      whole = none_if (list_any holds_nul (texts_of edit)) _ nul;
      names = none_if (is_name_fixed edit image) _ name;
      unnamed = unnamed.0;
      dynamic_unnamed = unnamed.1;
      renumbers = free.1;
      unused = none_if (is_section_used image d.sections) _ used;
    }

-- sections that can go
pub can_delete : (names : List (List ℕ)) (image : Image) → IsFree (DeleteSections names) image (deletion_of (DeleteSections names) image) → CanDelete image (named_sections names image)
can_delete names image free = record {
  there = all_there (λ s. is_among names (section_name s)) image.section_numbers image.sections;
  unused = free.unused;
  unnamed = free.unnamed;
}

-- the first symbol stays
pub first_static : (names : List (List ℕ)) (image : Image) → is_one_of (named_symbols names image) 0 ≡ false
first_static names image = none_first (λ y. is_among names (symbol_name y)) image.symbol_numbers image.symbols

pub first_dynamic : (names : List (List ℕ)) (image : Image) → is_one_of (named_dynamic_symbols names image) 0 ≡ false
first_dynamic names image = none_first (λ y. is_among names (symbol_name y)) image.dynamic_symbol_numbers image.dynamic_symbols

-- ## What is made

module _ (names : List (List ℕ)) (old new : Image) (gone : List ℕ) (touched : Bool) where
  some_gone : (g : List ℕ) → without_sections g old ≡ (if has_some g then without_sections g old else old)
  some_gone [] = refl
  some_gone (n ∷ ns) = refl

  pub sections_done : gone ≡ named_sections names old → AreSectionsGone gone old new touched → IsDone (DeleteSections names) old new touched
  sections_done is h =
      let all : AreSectionsGone (named_sections names old) old new touched = subst (λ (g : List ℕ). AreSectionsGone g old new touched) is h in
      record { told = all.told; made = all.made ∙ some_gone (named_sections names old) }
