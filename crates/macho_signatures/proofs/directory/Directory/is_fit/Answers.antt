use Rattle.std.proofs.Common.{List, ℕ, ap, ◌∙◌}
use Rattle.std.specs.Str.{bytes_eq}
use Rattle.macho_signatures.specs.Pages.{hash_bytes, is_fit, slot_of}
use Rattle.macho_signatures.proofs.directory.Directory.is_fit.Goals as goal

pub returns : goal.returns
unfolding is_fit
returns c =
    c.eq.ensures ∙ ap (λ (xs : List ℕ). bytes_eq xs c.as_slice.result.now) c.slot.ensures
    ∙ ap (bytes_eq (slot_of c.args.self.now c.args.page c.args.bytes.now)) (c.as_slice.ensures ∙ ap hash_bytes c.page_hash.ensures)
