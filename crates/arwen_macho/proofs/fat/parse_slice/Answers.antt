use Rattle.std.proofs.Common.{◌≡◌, ℕ, List, take, None, ap, sym, ◌∙◌, subst}
use Rattle.std.specs.Str.{bytes_eq}
use Rattle.std.proofs.lemmas.Result.{err_from_is_err_and}
use Rattle.macho_image.specs.Checks.{file_fault}
use Rattle.macho_image.specs.Fat.{slice_of}
use Rattle.arwen_macho.specs.Found.{ARCHIVE, Finds, found_fault}
use Rattle.macho_edits.specs.Held.{Held, held_at_read}
use Rattle.arwen_macho.proofs.FatLaws.{archive_found, plain_found, slice_between}
use Rattle.arwen_macho.proofs.fat.parse_slice.Goals as goal

pub returns-then-is_archive : goal.returns-then-is_archive
returns-then-is_archive c =
    let same = slice_between c.args.bytes.now c.args.arch in
    archive_found (slice_of c.args.bytes.now c.args.arch) (ap (λ (s : List ℕ). bytes_eq (take 8 s) ARCHIVE) (sym same) ∙ sym c.if-is_archive.ensures)

pub returns-in_err-inner : goal.returns-in_err-inner
returns-in_err-inner c =
    let bytes : List ℕ = slice_of c.args.bytes.now c.args.arch in
    let same = slice_between c.args.bytes.now c.args.arch in
    let e = c.in_err-inner.field-0.0 in
    let plain = plain_found bytes (ap (λ (s : List ℕ). bytes_eq (take 8 s) ARCHIVE) (sym same) ∙ sym c.if-is_archive.ensures) in
    let Part : List ℕ → Type 0 = λ s. Finds e (found_fault (file_fault s)) in
    let p = err_from_is_err_and c.from_residual.result c.from_residual.ensures.1 in
    rw (p.1, p.2, plain) (subst Part same c.in_err-inner.ensures)

pub returns : goal.returns
returns c =
    let bytes : List ℕ = slice_of c.args.bytes.now c.args.arch in
    let same = slice_between c.args.bytes.now c.args.arch in
    let plain = plain_found bytes (ap (λ (s : List ℕ). bytes_eq (take 8 s) ARCHIVE) (sym same) ∙ sym c.if-is_archive.ensures) in
    let Part : List ℕ → Type 0 = λ s. (file_fault s ≡ None) × (c.in_ok-inner.inner ≡ held_at_read s) in
    let parsed = subst Part same c.in_ok-inner.ensures in
    (plain ∙ ap found_fault parsed.0, ap (λ (h : Held). record { inner = h; arch = c.args.arch }) parsed.1)
