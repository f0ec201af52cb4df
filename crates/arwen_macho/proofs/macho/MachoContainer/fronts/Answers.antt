use Rattle.std.proofs.Common.{List, Vec, Global, ◌∙◌, sym, subst}
use Rattle.std.proofs.lemmas.Result.{IfErr-weaker, IfOk-weaker}
use Rattle.macho_edits.specs.declared.batch.MachoBatchError.{MachoBatchError}
use Rattle.arwen_macho.specs.declared.front.Front.{Front}
use Rattle.arwen_macho.specs.declared.macho.MachoType.{MachoType}
use Rattle.macho_edits.specs.Batch.{RefusesAt, calls_of}
use Rattle.macho_edits.specs.Call.{Call}
use Rattle.arwen_macho.specs.Container.{container_bytes, container_step}
use Rattle.arwen_macho.specs.ContainerShown.{StepShows}
use Rattle.arwen_macho.specs.FatState.{fat_laid_bytes, fat_step}
use Rattle.arwen_macho.specs.Fronts.{LeadOn, StepIsFat, StepIsThin}
use Rattle.macho_edits.specs.Refused.{cause_of}
use Rattle.macho_edits.specs.State.{laid_bytes, step}
use Rattle.arwen_macho.proofs.ContainerLaws.{refused_fat, refused_thin}
use Rattle.arwen_macho.proofs.LeadLaws.{lead_on_fat, lead_on_thin}
use Rattle.arwen_macho.proofs.StatesLaws.{fat_shows_step, on_ok-weaker, thin_shows_step}
use Rattle.arwen_macho.proofs.macho.MachoContainer.fronts.Goals as goal

-- fronts of a file, and a refusal of one
abbrev Leads : List Call → MachoType → Vec Front Global → Type 0
Leads calls file v = LeadOn container_bytes file (container_step calls file) v.items

abbrev Refuses : List Call → MachoType → MachoBatchError → Type 0
Refuses calls file e = RefusesAt e.index (cause_of e.fault) (container_step calls file)

pub returns-in-SingleArch-clause-ok : goal.returns-in-SingleArch-clause-ok
returns-in-SingleArch-clause-ok c =
    let calls : List Call = calls_of c.args.edits.now in
    let held = c.in-SingleArch.single in
    IfOk-weaker c.fronts.result (λ v. LeadOn laid_bytes held.state (step calls held.state) v.items) (Leads calls c.args.self.now)
    (λ v lead. subst (λ (file : MachoType). Leads calls file v) (sym c.in-SingleArch.is ∙ c.self.view_is) (lead_on_thin calls held v.items lead))
    c.fronts.ensures.ok

pub returns-in-SingleArch-clause-err : goal.returns-in-SingleArch-clause-err
returns-in-SingleArch-clause-err c =
    let calls : List Call = calls_of c.args.edits.now in
    let held = c.in-SingleArch.single in
    IfErr-weaker c.fronts.result (λ e. RefusesAt e.index (cause_of e.fault) (step calls held.state)) (Refuses calls c.args.self.now)
    (λ e refuses. subst (λ (file : MachoType). Refuses calls file e) (sym c.in-SingleArch.is ∙ c.self.view_is) (refused_thin calls held e.index (cause_of e.fault) refuses))
    c.fronts.ensures.err

pub returns-in-Fat-clause-ok : goal.returns-in-Fat-clause-ok
returns-in-Fat-clause-ok c =
    let calls : List Call = calls_of c.args.edits.now in
    let held = c.in-Fat.fat in
    IfOk-weaker c.fronts-in-Fat.result (λ v. LeadOn fat_laid_bytes held.state (fat_step calls held.state) v.items) (Leads calls c.args.self.now)
    (λ v lead. subst (λ (file : MachoType). Leads calls file v) (sym c.in-Fat.is ∙ c.self.view_is) (lead_on_fat calls held v.items lead))
    c.fronts-in-Fat.ensures.ok

pub returns-in-Fat-clause-err : goal.returns-in-Fat-clause-err
returns-in-Fat-clause-err c =
    let calls : List Call = calls_of c.args.edits.now in
    let held = c.in-Fat.fat in
    IfErr-weaker c.fronts-in-Fat.result (λ e. RefusesAt e.index (cause_of e.fault) (fat_step calls held.state)) (Refuses calls c.args.self.now)
    (λ e refuses. subst (λ (file : MachoType). Refuses calls file e) (sym c.in-Fat.is ∙ c.self.view_is) (refused_fat calls held e.index (cause_of e.fault) refuses))
    c.fronts-in-Fat.ensures.err

pub returns-in-SingleArch-clause-shows : goal.returns-in-SingleArch-clause-shows
returns-in-SingleArch-clause-shows c =
    let calls : List Call = calls_of c.args.edits.now in
    let held = c.in-SingleArch.single in
    let Shows : MachoType → Type 0 = λ file. StepShows (container_step calls file) in
    on_ok-weaker c.fronts.result (StepIsThin calls held) (Shows c.args.self.now)
    (λ is. subst Shows (sym c.in-SingleArch.is ∙ c.self.view_is) (thin_shows_step calls held is))
    c.fronts.ensures.state

pub returns-in-Fat-clause-shows : goal.returns-in-Fat-clause-shows
returns-in-Fat-clause-shows c =
    let calls : List Call = calls_of c.args.edits.now in
    let held = c.in-Fat.fat in
    let Shows : MachoType → Type 0 = λ file. StepShows (container_step calls file) in
    on_ok-weaker c.fronts-in-Fat.result (StepIsFat calls held) (Shows c.args.self.now)
    (λ is. subst Shows (sym c.in-Fat.is ∙ c.self.view_is) (fat_shows_step calls held is))
    c.fronts-in-Fat.ensures.state
