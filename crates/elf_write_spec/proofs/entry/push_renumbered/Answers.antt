-- The parts of the relocation, one behind another.
use Rattle.std.proofs.Common.{◌≡◌, ℕ, ◌+◌, ◌*◌, ◌/◌, ◌%◌, List, ◌++◌, take, drop, ap, ◌∙◌}
use Rattle.std.specs.Prelude.{if◌then◌else◌, is_ok}
use Rattle.std.proofs.lemmas.List.{take_rest}
use Rattle.patch_bytes.specs.Number.{bytes_of, word_size}
use Rattle.elf_write_spec.specs.Renumbered.{new_symbol}
use Rattle.elf_write_spec.specs.Steps.{new_info, type_count}
use Rattle.elf_write_spec.proofs.EntryLaws.{pushed_parts}
use Rattle.elf_write_spec.proofs.entry.push_renumbered.Goals as goal

pub returns : goal.returns
returns c =
    let entry : List ℕ = c.args.entry.now in
    let one : List ℕ = c.extend_from_slice.new.self.items in
    let two : List ℕ = c.push_word.new.bytes.items in
    let word : ℕ = word_size c.args.form.wide in
    let types : ℕ = type_count c.args.form in
    let number : c.with_symbol.result ≡ new_info c.args.form c.args.numbers.now entry =
    c.with_symbol.ensures.value ∙ ap (λ (n : ℕ). n * types + c.read_info-info.result % types) (c.new_symbol-symbol.ensures ∙ ap (new_symbol c.args.numbers.now) c.symbol_of.ensures)
    ∙ ap (λ (n : ℕ). new_symbol c.args.numbers.now (n / types) * types + n % types) c.read_info-info.ensures in
    pushed_parts c.args.form.order word (new_info c.args.form c.args.numbers.now entry) entry c.args.bytes.now.items one two c.extend_from_slice-2.new.self.items c.extend_from_slice-2.result
    (c.in_ok-extend_from_slice.ensures.items ∙ ap (λ (n : ℕ). c.args.bytes.now.items ++ take n entry) c.word_size-word.ensures)
    (c.in_ok-push_word.ensures ∙ ap (λ (n : ℕ). one ++ bytes_of c.args.form.order word n) number)
    (c.extend_from_slice-2.ensures.items
    ∙ ap (λ (l : List ℕ). if is_ok c.extend_from_slice-2.result then two ++ l else two)
    (take_rest entry (2 * c.word_size-word.result) ∙ ap (λ (n : ℕ). drop (2 * n) entry) c.word_size-word.ensures))
