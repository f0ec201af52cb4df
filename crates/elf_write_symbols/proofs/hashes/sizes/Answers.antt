-- The numbers of the header, one by one.
use Rattle.std.proofs.Common.{ℕ, List, ap, sym, ◌∙◌}
use Rattle.std.proofs.lemmas.Option.{same_Some}
use Rattle.patch_bytes.specs.Number.{number_at}
use Rattle.elf_format.specs.declared.form.Form.{Form}
use Rattle.elf_hashes.specs.declared.gnu.GnuSizes.{GnuSizes}
use Rattle.elf_write_spec.specs.Contents.{sizes_in}
use Rattle.elf_write_symbols.proofs.HashSteps.{at_one_place, header_there}
use Rattle.elf_write_symbols.proofs.hashes.sizes.Goals as goal

pub returns : goal.returns
returns c header at =
    let same = same_Some _ header (sym (header_there c.args.form c.args.content.now c.requires) ∙ at) in
    let form : Form = c.args.form in
    let bytes : List ℕ = c.args.content.now in
    let sized : ℕ → ℕ → ℕ → GnuSizes = λ buckets words shift. record { buckets = buckets; filter_words = words; filter_shift = shift } in
    ap (λ n. sized n c.word_at-2.result c.word_at-3.result) (c.word_at.ensures ∙ at_one_place form 0 bytes)
    ∙ ap (λ n. sized (number_at form.order 4 0 bytes) n c.word_at-3.result) (c.word_at-2.ensures ∙ at_one_place form 8 bytes)
    ∙ ap (λ n. sized (number_at form.order 4 0 bytes) (number_at form.order 4 8 bytes) n) (c.word_at-3.ensures ∙ at_one_place form 12 bytes)
    ∙ ap sizes_in same
