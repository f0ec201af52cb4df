-- The four numbers are there or not.
use Rattle.std.proofs.Common.{◌+◌, ◌*◌, ◌∙◌, Some, ap, sym}
use Rattle.std.specs.Option.{option_map}
use Rattle.patch_bytes.specs.Number.{number_at, word_size}
use Rattle.elf_format.specs.Hashes.{GnuHeader}
use Rattle.elf_layout_sizes.proofs.HashSteps.{at_one_place, header_past, header_there}
use Rattle.elf_layout_sizes.proofs.tables.gnu_front.Goals as goal

pub returns-then-content-lt16 : goal.returns-then-content-lt16
returns-then-content-lt16 c =
    ap (option_map (λ (h : GnuHeader). 16 + h.filter_words * word_size c.args.form.wide + 4 * h.buckets)) (sym (header_past c.args.form c.args.content.now c.if-content-lt16.true))

pub returns : goal.returns
returns c =
    let buckets = c.word_at-buckets.ensures ∙ at_one_place c.args.form 0 c.args.content.now in
    let words = c.word_at-filter_words.ensures ∙ at_one_place c.args.form 8 c.args.content.now in
    ap (λ n. Some (16 + n * c.word_bytes.result + 4 * c.word_at-buckets.result)) words
    ∙ ap (λ n. Some (16 + number_at c.args.form.order 4 8 c.args.content.now * c.word_bytes.result + 4 * n)) buckets
    ∙ ap (λ n. Some (16 + number_at c.args.form.order 4 8 c.args.content.now * n + 4 * number_at c.args.form.order 4 0 c.args.content.now)) c.word_bytes.ensures.value
    ∙ ap (option_map (λ (h : GnuHeader). 16 + h.filter_words * word_size c.args.form.wide + 4 * h.buckets)) (sym (header_there c.args.form c.args.content.now c.if-content-lt16.false))
