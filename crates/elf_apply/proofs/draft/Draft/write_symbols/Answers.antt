-- Symbols that were made are noted where the edit wrote something.
use Rattle.std.proofs.Common.{subst, sym}
use Rattle.elf_edits.specs.EditModel.{edit_model}
use Rattle.elf_edits.specs.Cause.{facts_of}
use Rattle.elf_edits.proofs.ForCallers.{is_free}
use Rattle.elf_apply.specs.declared.draft.Draft.{Draft}
use Rattle.elf_apply.specs.Drafted.{Writes}
use Rattle.elf_apply.proofs.DraftLaws.{symbols_written}
use Rattle.elf_apply.proofs.draft.Draft.write_symbols.Goals as goal

pub edit_symbols-requires : goal.edit_symbols-requires
edit_symbols-requires c = (is_free (edit_model c.args.edit.now) (facts_of c.args.builder.now) c.requires.free).texts

pub returns : goal.returns
returns c =
    subst (λ (d : Draft). Writes (edit_model c.args.edit.now) c.args.builder.now c.args.self.now d) (sym c.note_symbols.ensures)
    (symbols_written (edit_model c.args.edit.now) c.args.builder.now c.args.self.now c.symbols.result.now c.in_ok-made.made c.requires.symbols (is_free (edit_model c.args.edit.now) (facts_of c.args.builder.now) c.requires.free) c.requires.draft
    c.symbols.ensures.symbols c.symbols.ensures.whole c.in_ok-made.ensures)
