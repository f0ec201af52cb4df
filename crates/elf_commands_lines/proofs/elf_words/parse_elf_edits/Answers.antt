-- The groups are the pieces that `split` gives, and each of them gives the next edit or the fault.
use Rattle.std.proofs.Common.{rules, tests, ◌+◌, ◌<◌, List, ℕ, length, map, get_or, sym, ap, ◌∙◌, subst, arith}
use Rattle.std.proofs.lemmas.List.{length_push}
use Rattle.std.proofs.lemmas.Result.{err_from_is_err_and}
use Rattle.std.proofs.lemmas.Iterator.Consumers.{YieldsList-end, YieldsList-turn}
use Rattle.std.proofs.lemmas.Iterator.Splits.{YieldsList-from_slice_split}
use Rattle.elf_commands_lines.specs.Groups.{group_model}
use Rattle.elf_commands_lines.specs.declared.groups.GroupEdit.{GroupEdit}
use Rattle.elf_commands_lines.specs.ElfWords.{elf_group_edit}
use Rattle.command_words.specs.Groups.{TellsWrong}
use Rattle.command_words.proofs.ForCallers.{IsReadTo, all_read, fault_read, groups_of, is_plus_word, none_read, one_read, pushed, texts}
use Rattle.elf_commands_lines.proofs.elf_words.parse_elf_edits.Goals as goal

pub loop-group-init : goal.loop-group-init
loop-group-init c =
    let none = c.new-edits.ensures.items in
    record {
      counted = ap length none;
      read = subst (λ (xs : List GroupEdit). IsReadTo elf_group_edit c.args.words.now (length xs) (map group_model xs)) (sym none) (none_read elf_group_edit c.args.words.now);
    }

pub returns-in_err-edit-clause-err : goal.returns-in_err-edit-clause-err
returns-in_err-edit-clause-err c =
    let p = err_from_is_err_and c.from_residual.result c.from_residual.ensures.1 in
    let turn = YieldsList-turn (YieldsList-from_slice_split _ is_plus_word c.args.words.now (cc) (cc) (cc) (λ x b q k. search (rules, tests))) c.loop-group.yielded _ c.loop-group.yielded_by _ _ c.in-Some.group c.in-Some.is c.next.ensures.steps in
    let state = c.loop-group.invariant in
    let items = c.loop-group.edits.items in
    let group = c.in-Some.group.now in
    let inside : length items < length (groups_of c.args.words.now) = omega (arith, turn.0, state.counted) in
    let at = turn.1 ∙ ap (λ (i : ℕ). get_or (groups_of c.args.words.now) i group) (sym state.counted) in
    let number = c.len.ensures ∙ c.loop-group.edits.ok.0 in
    let told = subst (λ (i : ℕ). TellsWrong i (elf_group_edit (texts group)) c.in_err-edit.field-0.0) number c.in_err-edit.ensures.err in
    rw (p.1, p.2) (fault_read elf_group_edit c.args.words.now (length items) group inside at (map group_model items) c.in_err-edit.field-0.0 told state.read)

pub loop-group-preserved : goal.loop-group-preserved
loop-group-preserved c =
    let turn = YieldsList-turn (YieldsList-from_slice_split _ is_plus_word c.args.words.now (cc) (cc) (cc) (λ x b q k. search (rules, tests))) c.loop-group.yielded _ c.loop-group.yielded_by _ _ c.in-Some.group c.in-Some.is c.next.ensures.steps in
    let state = c.loop-group.invariant in
    let items = c.loop-group.edits.items in
    let group = c.in-Some.group.now in
    let inside : length items < length (groups_of c.args.words.now) = omega (arith, turn.0, state.counted) in
    let at = turn.1 ∙ ap (λ (i : ℕ). get_or (groups_of c.args.words.now) i group) (sym state.counted) in
    let is = c.in_ok-push.ensures.items in
    record {
      counted = ap length is ∙ length_push items c.in_ok-edit.edit ∙ ap (λ (n : ℕ). n + 1) state.counted ∙ sym (length_push c.loop-group.yielded c.in-Some.group);
      read = pushed elf_group_edit group_model c.args.words.now items c.push.new.self.items c.in_ok-edit.edit is (one_read elf_group_edit c.args.words.now (length items) group inside at (map group_model items) (group_model c.in_ok-edit.edit) c.in_ok-edit.ensures.ok state.read);
    }

pub returns-clause-ok : goal.returns-clause-ok
returns-clause-ok c =
    let end = YieldsList-end (YieldsList-from_slice_split _ is_plus_word c.args.words.now (cc) (cc) (cc) (λ x b q k. search (rules, tests))) c.loop-group.yielded _ c.loop-group.yielded_by _ _ c.in-None.is c.next.ensures.steps in
    let state = c.loop-group.invariant in
    let items = c.loop-group.edits.items in
    all_read elf_group_edit c.args.words.now (length items) (map group_model items) (omega (arith, end.1, state.counted)) state.read
