use Rattle.std.proofs.Common.{map, string_bytes}
use Rattle.std.proofs.lemmas.Result.{IfErr-weaker, IfOk-weaker}
use Rattle.elf_commands_edits.specs.ShrinkModel.{answer_model}
use Rattle.elf_edits.specs.Edit.{ShrinkRpath}
use Rattle.elf_commands.proofs.ShrinkLaws.{found_in, shrunk_file, shrunk_makeable, unshrunk_file}
use Rattle.elf_commands.proofs.elf.shrinking.shrunk_pieces.Goals as goal

pub returns-in-Ok-clause-makeable : goal.returns-in-Ok-clause-makeable
returns-in-Ok-clause-makeable g c =
    let edit = ShrinkRpath (map string_bytes c.args.prefixes.now) (map answer_model c.in-Ok.answers.items) in
    IfOk-weaker c.pieces_by_answers.result _ _ (λ made shrunk.
    shrunk_makeable c.lists_are_their_edits.ensures c.read_images_hold_parts.ensures edit c.args.bytes.now c.in_ok-elf.elf.inner made.difference (string_bytes made.text) c.in_ok-elf.ensures.reads.0 shrunk) c.pieces_by_answers.ensures.shrunk

pub returns-in-Ok-clause-shrunk : goal.returns-in-Ok-clause-shrunk
returns-in-Ok-clause-shrunk g c =
    let finds = g.P.Probe.may_find c.args.probe.now in
    let answers = map answer_model c.in-Ok.answers.items in
    let found = found_in finds c.args.bytes.now c.in_ok-elf.elf.inner answers c.in_ok-elf.ensures.reads.0 c.in-Ok.ensures in
    IfOk-weaker c.pieces_by_answers.result _ _ (λ made shrunk.
    shrunk_file c.lists_are_their_edits.ensures c.read_images_hold_parts.ensures finds (map string_bytes c.args.prefixes.now) c.args.bytes.now c.in_ok-elf.elf.inner answers made.difference
    (string_bytes made.text) c.in_ok-elf.ensures.reads.0 c.in_ok-elf.ensures.shows found shrunk) c.pieces_by_answers.ensures.shrunk

pub returns-in-Ok-clause-err : goal.returns-in-Ok-clause-err
returns-in-Ok-clause-err g c =
    let finds = g.P.Probe.may_find c.args.probe.now in
    let answers = map answer_model c.in-Ok.answers.items in
    let found = found_in finds c.args.bytes.now c.in_ok-elf.elf.inner answers c.in_ok-elf.ensures.reads.0 c.in-Ok.ensures in
    IfErr-weaker c.pieces_by_answers.result _ _ (λ e told.
    unshrunk_file c.lists_are_their_edits.ensures finds (map string_bytes c.args.prefixes.now) c.args.bytes.now c.in_ok-elf.elf.inner answers e c.in_ok-elf.ensures.reads.0 found told) c.pieces_by_answers.ensures.err
