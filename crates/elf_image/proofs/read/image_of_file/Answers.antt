-- The refusal of the header tables is the answer, and what their parts give where they are there.
use Rattle.std.proofs.Common.{◌≡◌, ◌∙◌, ℕ, List, Ok, Result, ap, refl, subst, sym}
use Rattle.std.proofs.lemmas.Result.{err_from_is_err_and}
use Rattle.elf_format.specs.declared.fault.ElfFault.{ElfFault}
use Rattle.elf_format.specs.Image.{Image, image_of}
use Rattle.elf_format.specs.Stages.{parts_read}
use Rattle.elf_image_versions.specs.Read.{parts_model}
use Rattle.elf_image.specs.ImageSteps.{image_gathered}
use Rattle.elf_format.specs.File.{Parts}
use Rattle.elf_image.specs.SymbolsRead.{AreSymbolsOfFile, AreSymbolsRead}
use Rattle.elf_image.proofs.SymbolLists.{lists_of_file, of_what_is_there, source_is_file}
use Rattle.elf_image.proofs.EditedLaws.{read_is_edited}
use Rattle.elf_image.proofs.ReadSteps.{open_refused, refused_is}
use Rattle.elf_image.proofs.read.image_of_file.Goals as goal

pub returns-in_err-parts : goal.returns-in_err-parts
returns-in_err-parts c =
    let e = err_from_is_err_and c.from_residual.result c.from_residual.ensures.1 in
    rw (e.1, e.2) (λ other. open_refused c.args.bytes.now c.in_err-parts.field-0.0 (refused_is c.in_err-parts.field-0.0 (parts_read c.args.bytes.now) c.in_err-parts.ensures other))

pub returns-in_err-gathered : goal.returns-in_err-gathered
returns-in_err-gathered c =
    let e = err_from_is_err_and c.from_residual-in_err-gathered.result c.from_residual-in_err-gathered.ensures.1 in
    rw (e.1, e.2) (c.in_err-gathered.ensures.image c.args.bytes.now c.in_ok-parts.ensures)

pub image_of_parts-requires : goal.image_of_parts-requires
image_of_parts-requires c =
    of_what_is_there (λ lists. AreSymbolsOfFile c.args.bytes.now lists.now) (λ lists. AreSymbolsRead (parts_model c.in_ok-parts.parts) lists.now) c.args.known
    (λ lists are. are.by_parts (parts_model c.in_ok-parts.parts) c.in_ok-parts.ensures) c.requires

pub builder-requires : goal.builder-requires
builder-requires c =
    let parts : Parts = parts_model c.in_ok-parts.parts in
    let image : Image = image_gathered parts c.in_ok-gathered.gathered in
    let read : image_of c.args.bytes.now ≡ Ok image = c.in_ok-gathered.ensures.image c.args.bytes.now c.in_ok-parts.ensures in
    record {
      edited = read_is_edited c.args.bytes.now image read;
      known = subst (λ (file : List ℕ). AreSymbolsOfFile file c.in_ok-gathered.gathered.named.lists) (sym (source_is_file c.args.bytes.now image read))
          (lists_of_file c.args.bytes.now parts image c.in_ok-gathered.gathered.named.lists c.in_ok-parts.ensures read c.in_ok-gathered.ensures.lists
          (record { symbols = refl; dynamic_symbols = refl }));
      lists = c.in_ok-lists.ensures;
    }

answer_of : Image → Result Image ElfFault
answer_of i = Ok i

pub returns : goal.returns
unfolding answer_of
returns c =
    let read : image_of c.args.bytes.now ≡ Ok (image_gathered (parts_model c.in_ok-parts.parts) c.in_ok-gathered.gathered) = c.in_ok-gathered.ensures.image c.args.bytes.now c.in_ok-parts.ensures in
    read ∙ ap answer_of (sym c.builder.ensures)
