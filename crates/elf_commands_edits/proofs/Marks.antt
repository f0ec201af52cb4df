-- Whether an image was changed.
use Rattle.std.proofs.Common.{◌≡◌, ◌∙◌, Bool, ap, sym}
use Rattle.elf_image.specs.Image.{Image}

pub is_marked : (made seen : Image) (asked mark : Bool) → seen ≡ made → asked ≡ seen.changed → asked ≡ mark → made.changed ≡ mark
is_marked made seen asked mark same is found = ap (λ (i : Image). i.changed) (sym same) ∙ sym is ∙ found
