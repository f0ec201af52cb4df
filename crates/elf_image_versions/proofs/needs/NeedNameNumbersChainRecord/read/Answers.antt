-- A needed version is there where its bytes are.
use Rattle.std.proofs.Common.{sym, arith}
use Rattle.patch_bytes.specs.Memory.{bytes_at, memory_of}
use Rattle.elf_format.specs.Answers.{borrowed}
use Rattle.elf_image_versions.proofs.WalkSteps.{begins_within, need_name_missing, need_name_there, found_none, found_there}
use Rattle.elf_image_versions.proofs.needs.NeedNameNumbersChainRecord.read.Goals as goal

pub returns-in_default-clause-step : goal.returns-in_default-clause-step
returns-in_default-clause-step c =
    sym (need_name_missing c.args.form (memory_of c.args.bytes.now) c.args.place
    (found_none borrowed c.range.result (bytes_at 16 (memory_of c.args.bytes.now) c.args.place) c.in_ok-record.field-0 c.range.ensures.shown c.in_ok-record.ensures c.in_default.is))

pub returns-clause-step : goal.returns-clause-step
returns-clause-step c =
    let here = found_there borrowed c.range.result (bytes_at 16 (memory_of c.args.bytes.now) c.args.place) c.in_ok-record.field-0 c.in-Some.record c.range.ensures.shown c.in_ok-record.ensures c.in-Some.is in
    need_name_there c.args.form (memory_of c.args.bytes.now) c.args.place c.in-Some.record.now c.half_at.result c.word_at.result c.half_at-2.result c.word_at-2.result
    here c.half_at.ensures c.word_at.ensures c.half_at-2.ensures c.word_at-2.ensures

pub returns-clause-within : goal.returns-clause-within
returns-clause-within c =
    begins_within 16 c.args.place c.args.bytes.now c.in-Some.record.now (omega arith)
    (found_there borrowed c.range.result (bytes_at 16 (memory_of c.args.bytes.now) c.args.place) c.in_ok-record.field-0 c.in-Some.record c.range.ensures.shown c.in_ok-record.ensures c.in-Some.is)
