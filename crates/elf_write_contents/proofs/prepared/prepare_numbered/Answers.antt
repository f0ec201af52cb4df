-- What the steps before made.
use Rattle.std.proofs.Common.{◌≡◌, true, List, subst}
use Rattle.elf_format.specs.declared.records.FileHeader.{FileHeader}
use Rattle.elf_image.specs.Kept.{kept_sections}
use Rattle.elf_layout_plan.specs.Plan.{resized}
use Rattle.elf_write_symbol_tables.specs.Made.{Made}
use Rattle.elf_write_symbol_tables.specs.WrittenStrings.{strings_at}
use Rattle.elf_write_contents.specs.Inner.{AreHeaders, AreRaw}
use Rattle.elf_write_contents.specs.Numbers.{do_records_fit}
use Rattle.elf_write_contents.proofs.PreparedFaults.{symbols_fit}
use Rattle.elf_write_contents.proofs.prepared.prepare_numbered.Goals as goal

pub returns-clause-prepared : goal.returns-clause-prepared
returns-clause-prepared c = record {
  strings = c.requires.strings;
  renumbering = c.requires.renumbering;
  header = c.in_ok-numbers.ensures.header;
  headers = subst (λ (made : List Made). AreHeaders (resized c.args.image.now)
      (strings_at c.args.image.now made c.args.image.now.header.e_shstrndx) (kept_sections c.args.image.now)
      c.args.plan.now.places c.in_ok-numbers.numbers.headers.items) c.deref.ensures.value c.in_ok-numbers.ensures.headers;
  raw = subst (λ (made : List Made). AreRaw (resized c.args.image.now) c.args.plan.now made c.in_ok-numbers.numbers.raw.items)
      c.deref.ensures.value c.in_ok-numbers.ensures.raw;
  fit = subst (λ (h : FileHeader). do_records_fit c.args.image.now.form h c.args.plan.now.segments
      c.in_ok-numbers.numbers.headers.items c.in_ok-numbers.numbers.raw.items ≡ true)
      c.in_ok-numbers.ensures.header c.in_ok-numbers.ensures.fit;
  symbols = symbols_fit c.args.read.now c.args.image.now c.args.renumbering c.requires.renumbering;
  relocations = c.in_ok-numbers.ensures.relocations;
}
