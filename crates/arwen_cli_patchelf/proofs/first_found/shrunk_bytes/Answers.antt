-- The edit is made by the answers that were given, where there is something to shrink.
use Rattle.std.proofs.Common.{List, Option, Some, map, string_bytes, subst}
use Rattle.std.specs.Prelude.{IfErr, IfOk}
use Rattle.std.specs.declared.alloc.Global.{Global}
use Rattle.std.specs.declared.vec.Vec.{Vec}
use Rattle.std.proofs.lemmas.Result.{IfErr-weaker, IfOk-weaker}
use Rattle.elf_edits.specs.Edit.{Answer, ShrinkRpath}
use Rattle.elf_edits_shrink.specs.ShrinkModel.{answer_model}
use Rattle.elf_edits_shrink.specs.declared.probe.ProbeAnswer.{ProbeAnswer}
use Rattle.elf_commands.specs.ElfAsked.{one}
use Rattle.elf_commands.specs.Groups.{plain}
use Rattle.elf_commands.specs.ElfEngine.{LeavesElf, TellsEdit, bytes_left}
use Rattle.arwen_cli_options.specs.Options.{Text}
use Rattle.arwen_cli_patchelf.specs.FirstFound.{AreFirstFoundWhere, answers_model}
use Rattle.arwen_cli_patchelf.proofs.FirstSteps.{first_tells, nothing_shrinks, some_shrink}
use Rattle.arwen_cli_patchelf.proofs.first_found.shrunk_bytes.Goals as goal

pub returns-in-None-clause-shrunk : goal.returns-in-None-clause-shrunk
returns-in-None-clause-shrunk g c =
    let finds = g.P.Probe.may_find c.args.probe.now in
    let prefixes : List Text = map string_bytes c.args.prefixes.now in
    let file = c.args.bytes.now in
    let Of : Option (Vec ProbeAnswer Global) → Type 0 = λ o. AreFirstFoundWhere finds prefixes file (answers_model o) in
    nothing_shrinks finds prefixes file (subst Of c.in-None.is c.in_ok-found.ensures.found)

pub returns-in-Some-clause-shrunk : goal.returns-in-Some-clause-shrunk
returns-in-Some-clause-shrunk g c =
    let finds = g.P.Probe.may_find c.args.probe.now in
    let prefixes : List Text = map string_bytes c.args.prefixes.now in
    let file = c.args.bytes.now in
    let answers : List Answer = map answer_model c.in-Some.answers.items in
    let Of : Option (Vec ProbeAnswer Global) → Type 0 = λ o. AreFirstFoundWhere finds prefixes file (answers_model o) in
    let found : AreFirstFoundWhere finds prefixes file (Some answers) = subst Of c.in-Some.is c.in_ok-found.ensures.found in
    let At : List ProbeAnswer → Type 0 = λ l. IfOk c.shrunk_by-made.result (λ new. LeavesElf (one (plain (ShrinkRpath prefixes (map answer_model l)))) file (bytes_left file new)) in
    IfOk-weaker c.shrunk_by-made.result _ _ (λ new leaves. some_shrink finds prefixes file (bytes_left file new) answers found.0 found.1 leaves)
    (subst At c.as_slice.ensures.value c.shrunk_by-made.ensures.left)

pub returns-in-Some-clause-err : goal.returns-in-Some-clause-err
returns-in-Some-clause-err g c =
    let finds = g.P.Probe.may_find c.args.probe.now in
    let prefixes : List Text = map string_bytes c.args.prefixes.now in
    let file = c.args.bytes.now in
    let answers : List Answer = map answer_model c.in-Some.answers.items in
    let Of : Option (Vec ProbeAnswer Global) → Type 0 = λ o. AreFirstFoundWhere finds prefixes file (answers_model o) in
    let found : AreFirstFoundWhere finds prefixes file (Some answers) = subst Of c.in-Some.is c.in_ok-found.ensures.found in
    let At : List ProbeAnswer → Type 0 = λ l. IfErr c.shrunk_by-made.result (TellsEdit (one (plain (ShrinkRpath prefixes (map answer_model l)))) file) in
    IfErr-weaker c.shrunk_by-made.result _ _ (λ e tells. first_tells finds prefixes file answers e found.0 found.1 tells)
    (subst At c.as_slice.ensures.value c.shrunk_by-made.ensures.err)
