use Rattle.std.proofs.Common.{◌≡◌, ◌<◌, false, length, take, get_or, sym, ap, ◌∙◌, arith}
use Rattle.std.specs.Prelude.{◌||◌}
use Rattle.std.specs.List.{list_any}
use Rattle.std.proofs.lemmas.Bool.{lt-leb}
use Rattle.std.proofs.lemmas.List.{take_all}
use Rattle.std.proofs.lemmas.List.Folds.{list_any_more}
use Rattle.elf_format.specs.declared.version_id.VersionId.{VersionId}
use Rattle.elf_format.specs.Form.{records}
use Rattle.elf_format.specs.Versions.{version_id}
use Rattle.elf_tables.specs.VersionRecords.{fields, is_index_too_large, version_fields}
use Rattle.elf_tables.proofs.ChainingSteps.{ids-read_back, versions_more}
use Rattle.elf_tables.proofs.versions.build_versym.Goals as goal

pub loop-id-preserved : goal.loop-id-preserved
loop-id-preserved c =
    let none : VersionId = record { index = 0; hidden = false } in
    let id : VersionId = get_or c.args.ids.now c.loop-id.id-index none in
    let below : id.index < 32768 = omega arith in
    record {
      made = versions_more c.args.order c.loop-id.bytes.items c.push_halves.new.bytes.items c.args.ids.now c.loop-id.id-index c.version_number.result none c.loop-id-test.true c.loop-id.invariant.made c.version_number.ensures c.in_ok-push_halves.ensures;
      small = list_any_more is_index_too_large c.args.ids.now c.loop-id.id-index none c.loop-id-test.true ∙ ap (λ b. b || is_index_too_large id) c.loop-id.invariant.small ∙ lt-leb 32768 id.index below;
    }

pub returns-clause-read : goal.returns-clause-read
returns-clause-read c =
    let all : take c.loop-id.id-index c.args.ids.now ≡ c.args.ids.now = take_all c.loop-id.id-index c.args.ids.now c.loop-id-test.false in
    λ wide.
    ap (records (version_id (record { wide = wide; order = c.args.order })) 2 (length c.args.ids.now)) (c.loop-id.invariant.made ∙ ap (λ l. fields c.args.order (version_fields l)) all)
    ∙ ids-read_back (record { wide = wide; order = c.args.order }) c.args.ids.now (sym (ap (list_any is_index_too_large) all) ∙ c.loop-id.invariant.small)
