-- The header of the source says how many there are.
use Rattle.std.proofs.Common.{ap, ◌∙◌}
use Rattle.patch_bytes.specs.Number.{field}
use Rattle.elf_format.specs.Image.{Image, image_of}
use Rattle.elf_format.specs.declared.records.FileHeader.{FileHeader}
use Rattle.elf_format.specs.Records.{file_header}
use Rattle.elf_image.specs.BuilderModel.{image_model}
use Rattle.elf_image.proofs.LookupSteps.{read_count}
use Rattle.elf_image.proofs.builder.Builder.read_segment_count.Goals as goal

pub returns : goal.returns
returns c read is =
    ap (λ (h : FileHeader). h.e_phnum) (c.read_file_header-header.ensures ∙ ap (file_header c.self.inside.form) (c.part.ensures ∙ ap (λ n. field n 0 c.self.inside.source.now) c.file_header_size-size.ensures))
    ∙ read_count (image_model c.self.inside) c.self.invariant.0 read (ap (λ (i : Image). image_of i.source) c.self.view_is ∙ is)
