-- A written file is accepted, and reading it gives the image in its final form, which is shown both ways.
use Rattle.std.proofs.Common.{◌≡◌, ℕ, refl, ap, ◌∙◌, Option, Some, Ok}
use Rattle.elf_format.specs.Image.{Image, image_of, shown}
use Rattle.elf_format.specs.Rules.{IsAcceptedWith, MeetsRules}
use Rattle.elf_format.proofs.ForCallers.ImageShows.{images_show}
use Rattle.elf_image.specs.Kept.{image_at_read}
use Rattle.elf_write_spec.specs.ReadBack.{HasWrittenParts, IsRewrittenImage, rewritten_sections, written_parts}
use Rattle.elf_write_spec.specs.Final.{final, final_view}
use Rattle.elf_write_spec.specs.Laws.{WrittenFilesAreRead, WrittenFilesShow}
use Rattle.elf_write_spec.specs.Output.{IsPlannedOutput, Output, written_bytes}
use Rattle.elf_write_spec.proofs.PartsReadBack.{defined_read, list_read, loaded_symbols_read, name_read, needed_read, symbols_read}
use Rattle.elf_write_spec.proofs.FileParts.{written_files_have_parts}
use Rattle.elf_write_spec.proofs.ImageOfParts.{image_by, image_made, image_read}
use Rattle.elf_write_spec.proofs.RuleDynamic.{dynamic_right, interpreter_right}
use Rattle.elf_write_spec.proofs.RuleKind.{file_kind}
use Rattle.elf_write_spec.proofs.RuleLinked.{linked}
use Rattle.elf_write_spec.proofs.RulePlaced.{placed_read_back}
use Rattle.elf_write_spec.proofs.RuleTables.{tables_right}
use Rattle.elf_write_spec.proofs.RuleTexts.{texts_end}
use Rattle.elf_write_spec.proofs.RuleVersions.{versions_right}
use Rattle.elf_write_spec.proofs.SectionsReadBack.{sections_read}
use Rattle.elf_write_spec.proofs.StackReadBack.{stack_read_back}

-- every rule holds of the parts
pub rules_read_back : (w : Output) → IsPlannedOutput w → HasWrittenParts w → MeetsRules (written_parts w)
rules_read_back w is has =
    let placed = placed_read_back w is has in
    record {
      file_kind = file_kind w is has;
      in_file = placed.in_file;
      fit = placed.fit;
      segments = placed.segments;
      loaded = placed.loaded;
      clear = placed.clear;
      linked = linked w is has;
      dynamic = dynamic_right w is has;
      interpreter = interpreter_right w is has;
      tables = tables_right w is has;
      texts = texts_end w is has;
      versions = versions_right w is has;
      header_table = placed.header_table;
    }

pub accepted_read_back : (w : Output) → IsPlannedOutput w → IsAcceptedWith (written_bytes w) (written_parts w)
accepted_read_back w is =
    let has = written_files_have_parts w is in
    record { magic = has.magic; parts = has.parts; rules = rules_read_back w is has }

-- ## The image

-- the image of the file
unfoldable pub rewritten_image : Output → Image
rewritten_image w =
    let last = final (image_at_read w.image) w.image in
    image_by (written_parts w) (rewritten_sections w.image.sections w.headers w.contents) last.symbols last.dynamic_symbols last.entries
    last.definitions last.needs last.interpreter

pub image_read_back : (w : Output) → IsPlannedOutput w → image_of (written_bytes w) ≡ Ok (rewritten_image w)
unfolding rewritten_image
image_read_back w is =
    let has = written_files_have_parts w is in
    let last = final (image_at_read w.image) w.image in
    image_read (written_bytes w) (written_parts w) (rewritten_image w) (accepted_read_back w is)
    (image_made (written_parts w) (rewritten_sections w.image.sections w.headers w.contents) last.symbols last.dynamic_symbols last.entries
    last.definitions last.needs last.interpreter
    (record {
      sections = sections_read w is has;
      symbols = symbols_read w is has;
      dynamic_symbols = loaded_symbols_read w is has;
      entries = list_read w is has;
      definitions = defined_read w is has;
      needs = needed_read w is has;
      interpreter = name_read w is has;
    }))

pub rewritten_is : (w : Output) → IsRewrittenImage w (rewritten_image w)
unfolding rewritten_image
rewritten_is w = record {
  source = refl;
  changed = refl;
  form = refl;
  header = refl;
  segments = refl;
  sections = refl;
  symbols = refl;
  dynamic_symbols = refl;
  definitions = refl;
  needs = refl;
  entries = refl;
  interpreter = refl;
}

pub written_files_are_read : WrittenFilesAreRead
written_files_are_read w is = record { again = rewritten_image w; is_read = image_read_back w is; is_rewritten_image = rewritten_is w }

-- ## What it shows

shown_read_back : (w : Output) → IsPlannedOutput w → shown (rewritten_image w) ≡ final_view (image_at_read w.image) w.image
unfolding rewritten_image final
shown_read_back w is = ap (λ (flags : Option ℕ). record (final_view (image_at_read w.image) w.image) { stack_flags = flags }) (stack_read_back w is)

pub written_files_show : WrittenFilesShow
written_files_show w is = record {
  by_sections = images_show.by_sections (written_bytes w) (rewritten_image w) (image_read_back w is) ∙ ap Some (shown_read_back w is);
  by_loader = images_show.by_loader (written_bytes w) (rewritten_image w) (image_read_back w is) ∙ ap Some (shown_read_back w is);
}
