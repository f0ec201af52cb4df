-- A defined version is there where its bytes are, with its names as far as they can be walked.
use Rattle.std.proofs.Common.{◌≤◌, length, sym, arith}
use Rattle.patch_bytes.specs.Memory.{bytes_at, memory_of}
use Rattle.elf_format.specs.Answers.{borrowed}
use Rattle.elf_image_versions.proofs.WalkSteps.{begins_within, definition_missing, definition_there, found_none, found_there}
use Rattle.elf_image_versions.proofs.definitions.RawDefinitionChainRecord.read.Goals as goal

pub overflow_add-start : goal.overflow_add-start
overflow_add-start c =
    let within : c.args.place ≤ length c.args.bytes.now = begins_within 20 c.args.place c.args.bytes.now c.in-Some.record.now (omega arith)
    (found_there borrowed c.range.result (bytes_at 20 (memory_of c.args.bytes.now) c.args.place) c.in_ok-record.field-0 c.in-Some.record c.range.ensures.shown c.in_ok-record.ensures c.in-Some.is) in
    omega (arith, within)

pub returns-in_default-clause-step : goal.returns-in_default-clause-step
returns-in_default-clause-step c =
    sym (definition_missing c.args.form (memory_of c.args.bytes.now) c.args.place
    (found_none borrowed c.range.result (bytes_at 20 (memory_of c.args.bytes.now) c.args.place) c.in_ok-record.field-0 c.range.ensures.shown c.in_ok-record.ensures c.in_default.is))

pub returns-clause-step : goal.returns-clause-step
returns-clause-step c =
    let here = found_there borrowed c.range.result (bytes_at 20 (memory_of c.args.bytes.now) c.args.place) c.in_ok-record.field-0 c.in-Some.record c.range.ensures.shown c.in_ok-record.ensures c.in-Some.is in
    definition_there c.args.form (memory_of c.args.bytes.now) c.args.place c.in-Some.record.now c.in_ok-names.names.values.items c.in_ok-names.names.is_whole c.half_at-count.result c.word_at.result
    c.half_at.result c.half_at-2.result c.word_at-next.result here c.half_at-count.ensures c.word_at.ensures c.in_ok-names.ensures c.half_at.ensures c.half_at-2.ensures c.word_at-next.ensures

pub returns-clause-within : goal.returns-clause-within
returns-clause-within c =
    begins_within 20 c.args.place c.args.bytes.now c.in-Some.record.now (omega arith)
    (found_there borrowed c.range.result (bytes_at 20 (memory_of c.args.bytes.now) c.args.place) c.in_ok-record.field-0 c.in-Some.record c.range.ensures.shown c.in_ok-record.ensures c.in-Some.is)
