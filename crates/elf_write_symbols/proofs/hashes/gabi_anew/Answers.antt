-- The table can be made anew, so it has a bucket; and the symbols fit 32 bits.
use Rattle.std.proofs.Common.{◌≡◌, ap, ◌∙◌, subst, ℕ, List, Option, length, arith}
use Rattle.patch_bytes.specs.Number.{number_at}
use Rattle.elf_format.specs.declared.form.Form.{Form}
use Rattle.elf_format.specs.Form.{field_of}
use Rattle.elf_format.specs.Image.{Image}
use Rattle.elf_format.specs.Views.{NamedSymbol}
use Rattle.elf_hashes.specs.Found.{hashed_names, in_order}
use Rattle.elf_hashes.specs.Gabi.{IsGabiTable}
use Rattle.elf_image.specs.ImageModel.{section_model}
use Rattle.elf_image_symbols.specs.Loan.{symbols_now}
use Rattle.elf_write_spec.specs.Contents.{gabi_buckets}
use Rattle.elf_write_spec.proofs.ForCallers.OrderFacts.{length-order}
use Rattle.elf_write_symbols.proofs.FinalOrder.{all, lent_names, lent_places}
use Rattle.elf_write_symbols.proofs.HashFacts.{gabi_read}
use Rattle.elf_write_symbols.proofs.HashSteps.{at_one_place}
use Rattle.elf_write_symbols.proofs.ReadyFacts.{facts}
use Rattle.elf_write_symbols.proofs.hashes.gabi_anew.Goals as goal

pub build_hash-requires-clause-some : goal.build_hash-requires-clause-some
build_hash-requires-clause-some c =
    let read : Image = c.args.read.now in
    let image : Image = c.args.image.now in
    let s = section_model c.args.section.now in
    let b = gabi_read read image c.requires.ready (facts read image c.requires.ready) c.requires.reordering.changed s c.requires.at in
    let word : c.word_at-buckets.result ≡ number_at image.form.order 4 0 s.content =
    c.word_at-buckets.ensures ∙ ap (λ (form : Form). field_of form (0, 4) (0, 4) s.content) c.form-form.ensures ∙ at_one_place image.form 0 s.content in
    omega (arith, word, b.some)

pub build_hash-requires-clause-places : goal.build_hash-requires-clause-places
build_hash-requires-clause-places c =
    let read : Image = c.args.read.now in
    let image : Image = c.args.image.now in
    lent_places read image c.requires.ready (facts read image c.requires.ready) (symbols_now c.dynamic_symbols.result) c.deref.result.now
    c.dynamic_symbols.ensures.symbols (c.deref.ensures.value ∙ c.requires.reordering.order)

pub unreachable-requires : goal.unreachable-requires
unreachable-requires c =
    let read : Image = c.args.read.now in
    let image : Image = c.args.image.now in
    omega (
      arith,
      c.in-Err-NumberTooLarge.ensures c.in-Err-NumberTooLarge.field-0-is,
      c.requires.reordering.few,
      ap length (c.deref.ensures.value ∙ c.requires.reordering.order),
      length-order read image (all read image c.requires.ready (facts read image c.requires.ready)),
    )

pub returns-in-Ok : goal.returns-in-Ok
returns-in-Ok c =
    let read : Image = c.args.read.now in
    let image : Image = c.args.image.now in
    let f = facts read image c.requires.ready in
    let s = section_model c.args.section.now in
    let b = gabi_read read image c.requires.ready f c.requires.reordering.changed s c.requires.at in
    let lent : List NamedSymbol = symbols_now c.dynamic_symbols.result in
    let ys : List NamedSymbol = in_order lent c.deref.result.now in
    let shown = lent_names read image c.requires.ready f lent c.deref.result.now c.dynamic_symbols.ensures.symbols (c.deref.ensures.value ∙ c.requires.reordering.order) in
    let word : c.word_at-buckets.result ≡ gabi_buckets image.form s.content =
    c.word_at-buckets.ensures ∙ ap (λ (form : Form). field_of form (0, 4) (0, 4) s.content) c.form-form.ensures ∙ at_one_place image.form 0 s.content ∙ b.there in
    subst (λ (l : List (Option (List ℕ))). IsGabiTable image.form (gabi_buckets image.form s.content) l c.in-Ok.bytes.items) shown
    (subst (λ (n : ℕ). IsGabiTable image.form n (hashed_names ys) c.in-Ok.bytes.items) word
    (subst (λ (form : Form). IsGabiTable form c.word_at-buckets.result (hashed_names ys) c.in-Ok.bytes.items) c.form-form.ensures c.in-Ok.ensures.0))
