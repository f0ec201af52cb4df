-- Part by part, what was written is put in place.
use Rattle.std.proofs.Common.{◌≡◌, ap, subst, sym, ◌∙◌}
use Rattle.std.specs.Prelude.{IsSome}
use Rattle.elf_image.specs.Image.{Image}
use Rattle.elf_image.specs.ImageModel.{text_model}
use Rattle.elf_image.specs.Renumbering.{can_renumber}
use Rattle.elf_apply.specs.Drafted.{with_entries_put, with_flags_put, entries_drafted, with_interpreter_put, with_leave_put, with_needs_put, with_os_abi_put, with_page_size_put, with_symbols_put}
use Rattle.elf_apply.proofs.DraftLaws.{can_put_entries, can_put_interpreter, put_together, symbols_still_for}
use Rattle.elf_apply.proofs.NeedLaws.{can_put_needs, some_first}
use Rattle.elf_apply.proofs.draft.Draft.put_in_place.Goals as goal

pub put_interpreter-requires : goal.put_interpreter-requires
put_interpreter-requires c =
    can_put_interpreter c.args.self c.args.builder.now c.put_os_abi.new.builder c.requires
    (ap (λ (i : Image). i.interpreter) c.put_os_abi.ensures ∙ ap (λ (i : Image). i.interpreter) c.put_page_size.ensures ∙ ap (λ (i : Image). i.interpreter) c.in_ok-put_stack_flags.ensures)

pub put_entries-requires : goal.put_entries-requires
put_entries-requires c =
    can_put_entries c.args.self c.args.builder.now c.put_interpreter.new.builder c.requires
    (ap (λ (i : Image). i.entries) c.put_interpreter.ensures ∙ ap (λ (i : Image). i.entries) c.put_os_abi.ensures ∙ ap (λ (i : Image). i.entries) c.put_page_size.ensures ∙ ap (λ (i : Image). i.entries) c.in_ok-put_stack_flags.ensures)

pub put_symbols-requires : goal.put_symbols-requires
put_symbols-requires c =
    let same : c.put_entries.new.builder ≡ with_entries_put c.args.self.entries (with_interpreter_put (text_model c.args.self.interpreter) (with_os_abi_put c.args.self.os_abi (with_page_size_put c.args.self.page_size (with_flags_put c.args.self.stack_flags c.args.builder.now)))) =
    c.put_entries.ensures
    ∙ ap (with_entries_put c.args.self.entries) (c.put_interpreter.ensures
    ∙ ap (with_interpreter_put (text_model c.args.self.interpreter)) (c.put_os_abi.ensures
    ∙ ap (with_os_abi_put c.args.self.os_abi) (c.put_page_size.ensures
    ∙ ap (with_page_size_put c.args.self.page_size) c.in_ok-put_stack_flags.ensures))) in
    symbols_still_for c.args.builder.now c.put_entries.new.builder c.args.self.symbols c.requires.symbols (ap (λ (i : Image). i.source) same) (ap (λ (i : Image). i.dynamic_symbol_numbers) same)
    (ap (λ (i : Image). i.dynamic_symbols) same) (ap can_renumber same)

pub put_needs-requires : goal.put_needs-requires
put_needs-requires c =
    let same : c.put_symbols.new.builder ≡ with_symbols_put c.args.self.symbols (with_entries_put c.args.self.entries (with_interpreter_put (text_model c.args.self.interpreter) (with_os_abi_put c.args.self.os_abi (with_page_size_put c.args.self.page_size (with_flags_put c.args.self.stack_flags c.args.builder.now))))) =
    c.put_symbols.ensures
    ∙ ap (with_symbols_put c.args.self.symbols) (c.put_entries.ensures
    ∙ ap (with_entries_put c.args.self.entries) (c.put_interpreter.ensures
    ∙ ap (with_interpreter_put (text_model c.args.self.interpreter)) (c.put_os_abi.ensures
    ∙ ap (with_os_abi_put c.args.self.os_abi) (c.put_page_size.ensures
    ∙ ap (with_page_size_put c.args.self.page_size) c.in_ok-put_stack_flags.ensures)))) in
    can_put_needs c.args.self c.args.builder.now c.put_symbols.new.builder c.requires
    (λ there. subst (λ (i : Image). IsSome i.entries) (sym same) (some_first (entries_drafted c.args.self) c.args.builder.now.entries there))
    (ap (λ (i : Image). i.needs) same)

pub returns : goal.returns
returns c =
    c.put_leave.ensures
    ∙ ap (with_leave_put c.args.self.moves_dynamic) (c.put_needs.ensures
    ∙ ap (with_needs_put c.args.self.needs) (c.put_symbols.ensures
    ∙ ap (with_symbols_put c.args.self.symbols) (c.put_entries.ensures
    ∙ ap (with_entries_put c.args.self.entries) (c.put_interpreter.ensures
    ∙ ap (with_interpreter_put (text_model c.args.self.interpreter)) (c.put_os_abi.ensures
    ∙ ap (with_os_abi_put c.args.self.os_abi) (c.put_page_size.ensures
    ∙ ap (with_page_size_put c.args.self.page_size) c.in_ok-put_stack_flags.ensures))))))
    ∙ put_together c.args.self c.args.builder.now c.requires.leave
