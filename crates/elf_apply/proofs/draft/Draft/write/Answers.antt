-- Each edit writes its part.
use Rattle.std.proofs.Common.{List, ap, rules, subst, sym, ◌∙◌}
use Rattle.std.proofs.lemmas.Nat.{and_le_l}
use Rattle.elf_edits.specs.declared.edit.ElfEdit.{ElfEdit}
use Rattle.elf_edits.specs.Edit.{ReplaceLibrary, SetInterpreter, SetOsAbi, is_of_symbols}
use Rattle.elf_edits.specs.EditModel.{Bytes, edit_model, pairs_model}
use Rattle.elf_apply.specs.declared.draft.Draft.{Draft}
use Rattle.elf_apply.specs.Drafted.{Writes}
use Rattle.elf_apply.proofs.DraftLaws.{cleared_noted, interpreter_noted, os_abi_noted, page_size_noted, set_noted}
use Rattle.elf_apply.proofs.NeedLaws.{leave_noted}
use Rattle.elf_apply.proofs.draft.Draft.write.Goals as goal

pub abi_number-self-requires-text-name : goal.abi_number-self-requires-text-name
abi_number-self-requires-text-name c κs = search rules

pub overflow_sub-self : goal.overflow_sub-self
overflow_sub-self c = and_le_l c.flags-flags.result 1

pub write_list-requires : goal.write_list-requires
write_list-requires c = record { list = search rules; no_symbols = search rules; no_more = search rules; free = c.requires.free; listed = c.requires.listed; draft = c.requires.draft }

pub write_symbols-requires-clause-symbols : goal.write_symbols-requires-clause-symbols
write_symbols-requires-clause-symbols c = ap (λ (e : ElfEdit). is_of_symbols (edit_model e)) c.in-RenameDynamicSymbols.is

pub write_symbols-requires-clause-free : goal.write_symbols-requires-clause-free
write_symbols-requires-clause-free c = c.requires.free

pub write_symbols-requires-clause-draft : goal.write_symbols-requires-clause-draft
write_symbols-requires-clause-draft c = c.requires.draft

pub write_symbols-requires-in-ClearSymbolVersion-clause-symbols : goal.write_symbols-requires-in-ClearSymbolVersion-clause-symbols
write_symbols-requires-in-ClearSymbolVersion-clause-symbols c = ap (λ (e : ElfEdit). is_of_symbols (edit_model e)) c.in-ClearSymbolVersion.is

pub write_symbols-requires-in-ClearSymbolVersion-clause-free : goal.write_symbols-requires-in-ClearSymbolVersion-clause-free
write_symbols-requires-in-ClearSymbolVersion-clause-free c = c.requires.free

pub write_symbols-requires-in-ClearSymbolVersion-clause-draft : goal.write_symbols-requires-in-ClearSymbolVersion-clause-draft
write_symbols-requires-in-ClearSymbolVersion-clause-draft c = c.requires.draft

pub returns-in-RenameDynamicSymbols : goal.returns-in-RenameDynamicSymbols
returns-in-RenameDynamicSymbols c = c.write_symbols.ensures

pub returns-in-ClearSymbolVersion : goal.returns-in-ClearSymbolVersion
returns-in-ClearSymbolVersion c = c.write_symbols-in-ClearSymbolVersion.ensures

pub returns-in-SetInterpreter : goal.returns-in-SetInterpreter
returns-in-SetInterpreter c =
    interpreter_noted c.write_interpreter.result (edit_model c.args.edit.now) c.as_slice.result.now c.args.builder.now c.args.self.now c.write_interpreter.new.self
    (ap edit_model c.in-SetInterpreter.is ∙ ap SetInterpreter (sym c.as_slice.ensures.value)) c.requires.free c.requires.draft c.write_interpreter.ensures

pub returns-in-SetOsAbi : goal.returns-in-SetOsAbi
returns-in-SetOsAbi c =
    os_abi_noted (edit_model c.args.edit.now) c.as_str.result.now c.abi_number-self.result c.args.builder.now c.args.self.now
    (ap edit_model c.in-SetOsAbi.is ∙ ap SetOsAbi (sym c.as_str.ensures.value)) c.requires.free c.requires.draft c.abi_number-self.ensures

pub returns-in-ClearExecStack : goal.returns-in-ClearExecStack
returns-in-ClearExecStack c = cleared_noted (edit_model c.args.edit.now) c.flags-flags.result c.args.builder.now c.args.self.now (ap edit_model c.in-ClearExecStack.is) c.requires.draft c.flags-flags.ensures

pub returns-in-SetExecStack : goal.returns-in-SetExecStack
returns-in-SetExecStack c = set_noted (edit_model c.args.edit.now) c.flags.result c.args.builder.now c.args.self.now (ap edit_model c.in-SetExecStack.is) c.requires.draft c.flags.ensures

pub returns-in-SetPageSize : goal.returns-in-SetPageSize
returns-in-SetPageSize c = page_size_noted (edit_model c.args.edit.now) c.in-SetPageSize.size c.args.builder.now c.args.self.now (ap edit_model c.in-SetPageSize.is) c.requires.draft

pub write_library-requires : goal.write_library-requires
write_library-requires c = record {
  edit = ap edit_model c.in-ReplaceLibrary.is ∙ ap (λ (l : List (Bytes × Bytes)). ReplaceLibrary (pairs_model l)) (sym c.as_slice-in-ReplaceLibrary.ensures.value);
  free = c.requires.free;
  listed = c.requires.listed;
  draft = c.requires.draft;
}

pub returns-in-ReplaceLibrary : goal.returns-in-ReplaceLibrary
returns-in-ReplaceLibrary c = c.write_library.ensures

pub returns-in-AllowDynamicMove : goal.returns-in-AllowDynamicMove
returns-in-AllowDynamicMove c =
    subst (λ (d : Draft). Writes (edit_model c.args.edit.now) c.args.builder.now c.args.self.now d) (sym c.note_leave.ensures)
    (leave_noted (edit_model c.args.edit.now) c.args.builder.now c.args.self.now (ap edit_model c.in-AllowDynamicMove.is) c.requires.draft)

pub returns-in_default : goal.returns-in_default
returns-in_default c = c.write_list.ensures
