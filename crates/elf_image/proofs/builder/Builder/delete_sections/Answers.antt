-- The image without the sections was read and edited.
use Rattle.std.proofs.Common.{◌≡◌, ◌∙◌, ℕ, Bool, List, None, ap, map, refl, subst, sym}
use Rattle.std.specs.Prelude.{if◌then◌else◌}
use Rattle.elf_format.specs.Image.{Image}
use Rattle.elf_format.specs.Options.{is_one_of, is_some_and}
use Rattle.elf_image_symbols.specs.EditedList.{EditedList, without_numbers}
use Rattle.elf_image.specs.Along.{symbols_along}
use Rattle.elf_image.specs.BuilderModel.{image_model}
use Rattle.elf_image.specs.Deleted.{CanDelete, does_interpreter_go, parts_left, segments_left, without_sections}
use Rattle.elf_image.specs.Edited.{IsEdited}
use Rattle.elf_image.specs.ImageModel.{section_model, segment_model, text_model}
use Rattle.elf_image.specs.Kept.{interpreter_number}
use Rattle.elf_image.specs.SymbolsRead.{AreSymbolsOfFile}
use Rattle.elf_image.proofs.SectionsDeleted.{deleted_is_edited, deleted_some, made_deleted, some_there}
use Rattle.elf_image.proofs.builder.Builder.delete_sections.Goals as goal

pub invariant_of-self : goal.invariant_of-self
invariant_of-self c =
    let inside = c.self.inside in
    let image : Image = image_model inside in
    let gone : List ℕ = c.args.gone.now in
    let along : c.args.symbols.now ≡ symbols_along image gone = c.requires.along ∙ ap (λ (i : Image). symbols_along i gone) (sym c.self.view_is) in
    let segments : map segment_model c.args.segments.items ≡ segments_left gone image = c.requires.segments ∙ ap (segments_left gone) (sym c.self.view_is) in
    let sections : map section_model c.keep_sections.new.sections.items ≡ parts_left gone image.section_numbers image.sections =
    c.keep_sections.ensures ∙ ap (λ (ns : List ℕ). parts_left gone ns image.sections) c.deref.ensures.value in
    let goes : c.does_go-goes.result ≡ does_interpreter_go gone image =
    c.does_go-goes.ensures ∙ ap (is_some_and (is_one_of gone)) (c.interpreter_number.ensures ∙ ap interpreter_number (sym c.self.view_is)) in
    let interpreter : text_model c.clear_interpreter.new.interpreter ≡ (if does_interpreter_go gone image then None else image.interpreter) =
    c.clear_interpreter.ensures ∙ ap (λ (b : Bool). if b then None else image.interpreter) goes in
    let made =
    made_deleted image gone (map segment_model c.args.segments.items) (map section_model c.keep_sections.new.sections.items) c.keep_numbers.new.numbers.items c.delete_all.new.self inside.lists.symbols
    (text_model c.clear_interpreter.new.interpreter) segments sections c.keep_numbers.ensures (c.delete_all.ensures ∙ ap (λ (ns : List ℕ). without_numbers ns inside.lists.symbols) along) refl refl
    interpreter in
    let can : CanDelete image gone = subst (λ (i : Image). CanDelete i gone) (sym c.self.view_is) c.requires.sections in (
      subst (λ (i : Image). IsEdited i) (sym made) (deleted_is_edited image gone c.self.invariant.0 can),
      subst (λ (e : EditedList). AreSymbolsOfFile inside.source.now (record { symbols = e.read; dynamic_symbols = inside.lists.dynamic_symbols.read })) (sym c.delete_all.ensures) c.self.invariant.1,
    )

pub returns : goal.returns
returns c =
    let inside = c.self.inside in
    let image : Image = image_model inside in
    let gone : List ℕ = c.args.gone.now in
    let along : c.args.symbols.now ≡ symbols_along image gone = c.requires.along ∙ ap (λ (i : Image). symbols_along i gone) (sym c.self.view_is) in
    let segments : map segment_model c.args.segments.items ≡ segments_left gone image = c.requires.segments ∙ ap (segments_left gone) (sym c.self.view_is) in
    let sections : map section_model c.keep_sections.new.sections.items ≡ parts_left gone image.section_numbers image.sections =
    c.keep_sections.ensures ∙ ap (λ (ns : List ℕ). parts_left gone ns image.sections) c.deref.ensures.value in
    let goes : c.does_go-goes.result ≡ does_interpreter_go gone image =
    c.does_go-goes.ensures ∙ ap (is_some_and (is_one_of gone)) (c.interpreter_number.ensures ∙ ap interpreter_number (sym c.self.view_is)) in
    let interpreter : text_model c.clear_interpreter.new.interpreter ≡ (if does_interpreter_go gone image then None else image.interpreter) =
    c.clear_interpreter.ensures ∙ ap (λ (b : Bool). if b then None else image.interpreter) goes in
    let made =
    made_deleted image gone (map segment_model c.args.segments.items) (map section_model c.keep_sections.new.sections.items) c.keep_numbers.new.numbers.items c.delete_all.new.self inside.lists.symbols
    (text_model c.clear_interpreter.new.interpreter) segments sections c.keep_numbers.ensures (c.delete_all.ensures ∙ ap (λ (ns : List ℕ). without_numbers ns inside.lists.symbols) along) refl refl
    interpreter in
    made ∙ deleted_some image gone (some_there gone c.is_empty.result c.is_empty.ensures c.if-is_empty.false) ∙ ap (without_sections gone) c.self.view_is
