-- The table can be made anew, so its numbers serve; and the symbols fit 32 bits.
use Rattle.std.proofs.Common.{◌≡◌, ap, sym, ◌∙◌, subst, ℕ, List, Option, length, arith}
use Rattle.patch_bytes.specs.Memory.{memory_of}
use Rattle.elf_format.specs.declared.form.Form.{Form}
use Rattle.elf_format.specs.Hashes.{gnu_hash, gnu_header}
use Rattle.elf_format.specs.Image.{Image}
use Rattle.elf_format.specs.Views.{NamedSymbol}
use Rattle.elf_hashes.specs.declared.gnu.GnuSizes.{GnuSizes}
use Rattle.elf_hashes.specs.Found.{found_hashes, hashed_names, in_order}
use Rattle.elf_hashes.specs.Gnu.{IsGnuTable}
use Rattle.elf_image.specs.ImageModel.{section_model}
use Rattle.elf_image_symbols.specs.Loan.{symbols_now}
use Rattle.elf_write_spec.specs.Contents.{sizes_in}
use Rattle.elf_write_spec.proofs.ForCallers.OrderFacts.{length-order}
use Rattle.elf_write_symbols.proofs.FinalOrder.{all, lent_names, lent_places, small_shift, some_buckets, some_words}
use Rattle.elf_write_symbols.proofs.HashFacts.{gnu_read}
use Rattle.elf_write_symbols.proofs.HashSteps.{front_long}
use Rattle.elf_write_symbols.proofs.ReadyFacts.{facts}
use Rattle.elf_write_symbols.proofs.hashes.gnu_anew.Goals as goal

pub sizes-sizes-requires : goal.sizes-sizes-requires
sizes-sizes-requires c =
    let read : Image = c.args.read.now in
    let image : Image = c.args.image.now in
    let s = section_model c.args.section.now in
    let h = gnu_read read image c.requires.ready (facts read image c.requires.ready) c.requires.reordering.changed s c.requires.at in
    front_long image.form (length s.content) h.header h.front

pub build_gnu_hash-requires-clause-buckets : goal.build_gnu_hash-requires-clause-buckets
build_gnu_hash-requires-clause-buckets c =
    let read : Image = c.args.read.now in
    let image : Image = c.args.image.now in
    let s = section_model c.args.section.now in
    let h = gnu_read read image c.requires.ready (facts read image c.requires.ready) c.requires.reordering.changed s c.requires.at in
    let same : c.sizes-sizes.result ≡ sizes_in h.header =
    c.sizes-sizes.ensures h.header (ap (λ (form : Form). gnu_header form (memory_of s.content)) c.form-form.ensures ∙ h.is_header) in
    omega (arith, ap (λ (z : GnuSizes). z.buckets) same, some_buckets image s h)

pub build_gnu_hash-requires-clause-filter_words : goal.build_gnu_hash-requires-clause-filter_words
build_gnu_hash-requires-clause-filter_words c =
    let read : Image = c.args.read.now in
    let image : Image = c.args.image.now in
    let s = section_model c.args.section.now in
    let h = gnu_read read image c.requires.ready (facts read image c.requires.ready) c.requires.reordering.changed s c.requires.at in
    let same : c.sizes-sizes.result ≡ sizes_in h.header =
    c.sizes-sizes.ensures h.header (ap (λ (form : Form). gnu_header form (memory_of s.content)) c.form-form.ensures ∙ h.is_header) in
    omega (arith, ap (λ (z : GnuSizes). z.filter_words) same, some_words image s h)

pub build_gnu_hash-requires-clause-filter_shift : goal.build_gnu_hash-requires-clause-filter_shift
build_gnu_hash-requires-clause-filter_shift c =
    let read : Image = c.args.read.now in
    let image : Image = c.args.image.now in
    let s = section_model c.args.section.now in
    let h = gnu_read read image c.requires.ready (facts read image c.requires.ready) c.requires.reordering.changed s c.requires.at in
    let same : c.sizes-sizes.result ≡ sizes_in h.header =
    c.sizes-sizes.ensures h.header (ap (λ (form : Form). gnu_header form (memory_of s.content)) c.form-form.ensures ∙ h.is_header) in
    omega (arith, ap (λ (z : GnuSizes). z.filter_shift) same, small_shift image s h)

pub build_gnu_hash-requires-clause-places : goal.build_gnu_hash-requires-clause-places
build_gnu_hash-requires-clause-places c =
    let read : Image = c.args.read.now in
    let image : Image = c.args.image.now in
    lent_places read image c.requires.ready (facts read image c.requires.ready) (symbols_now c.dynamic_symbols.result) c.deref.result.now
    c.dynamic_symbols.ensures.symbols (c.deref.ensures.value ∙ c.requires.reordering.order)

pub build_gnu_hash-requires-clause-found : goal.build_gnu_hash-requires-clause-found
build_gnu_hash-requires-clause-found c =
    c.deref-2.ensures.value ∙ c.requires.reordering.hashes ∙ sym (ap (found_hashes gnu_hash) c.dynamic_symbols.ensures.symbols)

pub unreachable-requires : goal.unreachable-requires
unreachable-requires c =
    let read : Image = c.args.read.now in
    let image : Image = c.args.image.now in
    omega (
      arith,
      c.in-Err-NumberTooLarge.ensures c.in-Err-NumberTooLarge.field-0-is,
      c.requires.reordering.few,
      ap length (c.deref.ensures.value ∙ c.requires.reordering.order),
      length-order read image (all read image c.requires.ready (facts read image c.requires.ready)),
    )

pub returns-in-Ok : goal.returns-in-Ok
returns-in-Ok c header at =
    let read : Image = c.args.read.now in
    let image : Image = c.args.image.now in
    let f = facts read image c.requires.ready in
    let content : List ℕ = c.args.section.now.content.now in
    let lent : List NamedSymbol = symbols_now c.dynamic_symbols.result in
    let ys : List NamedSymbol = in_order lent c.deref.result.now in
    let shown = lent_names read image c.requires.ready f lent c.deref.result.now c.dynamic_symbols.ensures.symbols (c.deref.ensures.value ∙ c.requires.reordering.order) in
    let same : c.sizes-sizes.result ≡ sizes_in header =
    c.sizes-sizes.ensures header (ap (λ (form : Form). gnu_header form (memory_of content)) c.form-form.ensures ∙ at) in
    subst (λ (l : List (Option (List ℕ))). IsGnuTable image.form (sizes_in header) l c.in-Ok.bytes.items) shown
    (subst (λ (z : GnuSizes). IsGnuTable image.form z (hashed_names ys) c.in-Ok.bytes.items) same
    (subst (λ (form : Form). IsGnuTable form c.sizes-sizes.result (hashed_names ys) c.in-Ok.bytes.items) c.form-form.ensures c.in-Ok.ensures.0))
