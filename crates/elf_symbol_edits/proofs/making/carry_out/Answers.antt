-- What is known where no cause stands.
use Rattle.std.proofs.Common.{◌≡◌, ℕ, List, None, ap, sym, subst, ◌∙◌}
use Rattle.std.specs.Prelude.{◌&&◌, not}
use Rattle.elf_edits.specs.TextModel.{texts_model}
use Rattle.elf_edits.specs.Texts.{has_some}
use Rattle.elf_format.specs.Image.{Image}
use Rattle.elf_format.specs.Options.{is_one_of}
use Rattle.elf_image.specs.Deleted.{CanDelete}
use Rattle.elf_image.specs.Renumbering.{can_renumber}
use Rattle.elf_symbol_edits.specs.Cause.{cause}
use Rattle.elf_symbol_edits.specs.Deletion.{Deletion, deletion_of}
use Rattle.elf_symbol_edits.specs.EditModel.{edit_model}
use Rattle.elf_symbol_edits.specs.SymbolEdit.{DeleteAllSymbols, DeleteSections}
use Rattle.elf_symbol_edits.proofs.MakeSteps.{can_delete, first_dynamic, first_static, is_free}
use Rattle.elf_symbol_edits.proofs.making.carry_out.Goals as goal

pub delete_symbols-requires-clause-first : goal.delete_symbols-requires-clause-first
delete_symbols-requires-clause-first c =
    let names : List (List ℕ) = texts_model c.in-DeleteSymbols.field-0.now in
    ap (λ (l : List ℕ). is_one_of l 0) (c.deref.ensures.value ∙ ap (λ (d : Deletion). d.symbols) (c.requires.deletion.is ∙ ap (λ e. deletion_of (edit_model e) c.args.image.now) c.in-DeleteSymbols.is))
    ∙ first_static names c.args.image.now

pub delete_dynamic_symbols-requires-clause-first : goal.delete_dynamic_symbols-requires-clause-first
delete_dynamic_symbols-requires-clause-first c =
    let names : List (List ℕ) = texts_model c.in-DeleteDynamicSymbols.field-0.now in
    ap (λ (l : List ℕ). is_one_of l 0)
    (c.deref-in-DeleteDynamicSymbols.ensures.value ∙ ap (λ (d : Deletion). d.dynamic_symbols) (c.requires.deletion.is ∙ ap (λ e. deletion_of (edit_model e) c.args.image.now) c.in-DeleteDynamicSymbols.is))
    ∙ first_dynamic names c.args.image.now

pub delete_all_symbols-requires-clause-first : goal.delete_all_symbols-requires-clause-first
delete_all_symbols-requires-clause-first c =
    let names : List (List ℕ) = texts_model c.in-DeleteAllSymbols.field-0.now in
    ap (λ (l : List ℕ). is_one_of l 0)
    (c.deref-in-DeleteAllSymbols.ensures.value ∙ ap (λ (d : Deletion). d.symbols) (c.requires.deletion.is ∙ ap (λ e. deletion_of (edit_model e) c.args.image.now) c.in-DeleteAllSymbols.is))
    ∙ first_static names c.args.image.now

pub delete_all_symbols-requires-clause-dynamic_first : goal.delete_all_symbols-requires-clause-dynamic_first
delete_all_symbols-requires-clause-dynamic_first c =
    let names : List (List ℕ) = texts_model c.in-DeleteAllSymbols.field-0.now in
    ap (λ (l : List ℕ). is_one_of l 0)
    (c.deref-in-DeleteAllSymbols-2.ensures.value ∙ ap (λ (d : Deletion). d.dynamic_symbols) (c.requires.deletion.is ∙ ap (λ e. deletion_of (edit_model e) c.args.image.now) c.in-DeleteAllSymbols.is))
    ∙ first_dynamic names c.args.image.now

pub delete_all_symbols-requires-clause-tables : goal.delete_all_symbols-requires-clause-tables
delete_all_symbols-requires-clause-tables c =
    let names : List (List ℕ) = texts_model c.in-DeleteAllSymbols.field-0.now in
    let image : Image = c.args.image.now in
    ap (λ (l : List ℕ). has_some l && not (can_renumber image))
    (c.deref-in-DeleteAllSymbols-2.ensures.value ∙ ap (λ (d : Deletion). d.dynamic_symbols) (c.requires.deletion.is ∙ ap (λ e. deletion_of (edit_model e) image) c.in-DeleteAllSymbols.is))
    ∙ (is_free (DeleteAllSymbols names) image (subst (λ e. cause (edit_model e) image ≡ None) c.in-DeleteAllSymbols.is c.requires.free)).renumbers

pub delete_all-requires-clause-sections : goal.delete_all-requires-clause-sections
delete_all-requires-clause-sections c =
    let names : List (List ℕ) = texts_model c.in-DeleteSections.field-0.now in
    let image : Image = c.args.image.now in
    subst (λ (l : List ℕ). CanDelete image l)
    (sym (ap (λ (d : Deletion). d.sections) (c.requires.deletion.is ∙ ap (λ e. deletion_of (edit_model e) image) c.in-DeleteSections.is)))
    (can_delete names image (is_free (DeleteSections names) image (subst (λ e. cause (edit_model e) image ≡ None) c.in-DeleteSections.is c.requires.free)))
