use Rattle.std.proofs.Common.{List, String, map, string_bytes, subst}
use Rattle.std.specs.declared.alloc.Global.{Global}
use Rattle.std.proofs.lemmas.Result.{IfErr-weaker, IfOk-weaker}
use Rattle.elf_commands_edits.specs.Told.{Refuses}
use Rattle.elf_commands_edits.specs.ShrinkModel.{answer_model}
use Rattle.elf_edits.specs.Edit.{Edit, ShrinkRpath}
use Rattle.elf_edits.specs.Edited.{step}
use Rattle.elf_commands_edits.specs.ShrunkImages.{Steps}
use Rattle.elf_commands.proofs.ElfOutcomes.{one_refused}
use Rattle.elf_commands.proofs.ShrinkLaws.{quiet_shrink, runs_shrink, tells_shrink}
use Rattle.elf_commands.proofs.elf.shrinking.run_shrink.Goals as goal

pub returns-in-Ok-clause-ran : goal.returns-in-Ok-clause-ran
returns-in-Ok-clause-ran g c =
    let edit : Edit = ShrinkRpath (map string_bytes c.args.args.now.allowed_rpath_prefixes.items) (map answer_model c.args.probe.now) in
    let At : List (String Global) → Type 0 = λ ps. Steps (ShrinkRpath (map string_bytes ps) (map answer_model c.args.probe.now)) c.in_ok-elf.elf.inner c.shrink_image.new.elf.inner c.in-Ok.removed in
    let steps = subst At c.as_slice.ensures.value c.in-Ok.ensures.ok in
    IfOk-weaker c.tell_removed.result _ _ (λ answer told.
    runs_shrink c.lists_are_their_edits.ensures edit c.args.bytes.now c.in_ok-elf.elf.inner _ c.in-Ok.removed answer _ _ c.in_ok-elf.ensures.reads.0 c.in_ok-elf.ensures.shows steps told)
    c.tell_removed.ensures.told

pub returns-in-Ok-clause-err : goal.returns-in-Ok-clause-err
returns-in-Ok-clause-err g c =
    let edit : Edit = ShrinkRpath (map string_bytes c.args.args.now.allowed_rpath_prefixes.items) (map answer_model c.args.probe.now) in
    let At : List (String Global) → Type 0 = λ ps. Steps (ShrinkRpath (map string_bytes ps) (map answer_model c.args.probe.now)) c.in_ok-elf.elf.inner c.shrink_image.new.elf.inner c.in-Ok.removed in
    let steps = subst At c.as_slice.ensures.value c.in-Ok.ensures.ok in
    IfErr-weaker c.tell_removed.result _ _ (λ e told.
    tells_shrink g.W.Write.contents c.lists_are_their_edits.ensures edit c.args.bytes.now c.in_ok-elf.elf.inner _ c.in-Ok.removed _ _ e c.in_ok-elf.ensures.reads.0 c.in_ok-elf.ensures.shows steps told)
    c.tell_removed.ensures.err

pub returns-in-Err-clause-err : goal.returns-in-Err-clause-err
returns-in-Err-clause-err g c =
    let edit : Edit = ShrinkRpath (map string_bytes c.args.args.now.allowed_rpath_prefixes.items) (map answer_model c.args.probe.now) in
    let e = c.in-Err.error in
    let At : List (String Global) → Type 0 = λ ps. Refuses e (step (ShrinkRpath (map string_bytes ps) (map answer_model c.args.probe.now)) c.in_ok-elf.elf.inner) in
    let refuses = subst At c.as_slice.ensures.value c.in-Err.ensures.err in
    rw c.from.ensures (quiet_shrink g.W.Write.contents edit c.args.bytes.now c.args.out.now e (one_refused edit c.args.bytes.now c.in_ok-elf.elf.inner e c.in_ok-elf.ensures.reads.0 refuses))
