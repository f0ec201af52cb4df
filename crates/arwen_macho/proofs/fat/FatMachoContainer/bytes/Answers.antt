use Rattle.std.proofs.Common.{◌≡◌, ℕ, List, Option, Vec, Global, ap, sym, ◌∙◌, subst}
use Rattle.patch_bytes.specs.ByteString.{bytes_model}
use Rattle.arwen_macho.specs.FatHeld.{FatHeld}
use Rattle.arwen_macho.specs.FatHeldBy.{fat_held_of}
use Rattle.arwen_macho.specs.FatShown.{FatShows}
use Rattle.arwen_macho.proofs.FatLaws.{fat_laid_shows}
use Rattle.arwen_macho.proofs.fat.FatMachoContainer.bytes.Goals as goal

pub returns-in-None-clause-shows : goal.returns-in-None-clause-shows
returns-in-None-clause-shows c =
    let held : FatHeld = fat_held_of c.self.inside in
    let of_bytes : List ℕ → Type 0 = λ bytes. FatShows held.state bytes in
    let of_held : FatHeld → Type 0 = λ h. FatShows h.state c.self.inside.source.now in
    let now : bytes_model c.self.inside.source.now c.self.inside.edited ≡ c.self.inside.source.now =
    ap (λ (e : Option (Vec ℕ Global)). bytes_model c.self.inside.source.now e) c.in-None.is in
    subst of_held c.self.view_is (subst of_bytes (sym c.self.invariant.bytes ∙ now) (fat_laid_shows held.state c.self.invariant.is_state))

pub returns-in-Some-clause-shows : goal.returns-in-Some-clause-shows
returns-in-Some-clause-shows c =
    let held : FatHeld = fat_held_of c.self.inside in
    let of_bytes : List ℕ → Type 0 = λ bytes. FatShows held.state bytes in
    let of_held : FatHeld → Type 0 = λ h. FatShows h.state c.as_slice.result.now in
    let now : bytes_model c.self.inside.source.now c.self.inside.edited ≡ c.as_slice.result.now =
    ap (λ (e : Option (Vec ℕ Global)). bytes_model c.self.inside.source.now e) c.in-Some.is ∙ sym c.as_slice.ensures.value in
    subst of_held c.self.view_is (subst of_bytes (sym c.self.invariant.bytes ∙ now) (fat_laid_shows held.state c.self.invariant.is_state))
