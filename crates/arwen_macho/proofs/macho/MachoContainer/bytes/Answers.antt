use Rattle.std.proofs.Common.{subst, sym}
use Rattle.arwen_macho.specs.declared.macho.MachoType.{MachoType}
use Rattle.arwen_macho.specs.ContainerShown.{ShowsFile}
use Rattle.arwen_macho.proofs.ShapeLaws.{fat_shows, thin_shows}
use Rattle.arwen_macho.proofs.macho.MachoContainer.bytes.Goals as goal

pub returns-in-SingleArch-clause-shows : goal.returns-in-SingleArch-clause-shows
returns-in-SingleArch-clause-shows c =
    let shows = thin_shows c.in-SingleArch.single c.bytes.result.now c.bytes.ensures.state c.bytes.ensures.bytes c.bytes.ensures.shows in
    let inner = subst (λ (file : MachoType). ShowsFile file c.bytes.result.now) (sym c.in-SingleArch.is) shows in
    subst (λ (file : MachoType). ShowsFile file c.bytes.result.now) c.self.view_is inner

pub returns-in-Fat-clause-shows : goal.returns-in-Fat-clause-shows
returns-in-Fat-clause-shows c =
    let shows = fat_shows c.in-Fat.fat c.bytes-in-Fat.result.now c.bytes-in-Fat.ensures.shows in
    let inner = subst (λ (file : MachoType). ShowsFile file c.bytes-in-Fat.result.now) (sym c.in-Fat.is) shows in
    subst (λ (file : MachoType). ShowsFile file c.bytes-in-Fat.result.now) c.self.view_is inner
