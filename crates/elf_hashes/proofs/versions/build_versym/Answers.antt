-- The table has the versions of all symbols.
use Rattle.std.proofs.Common.{◌≡◌, List, ap, sym, ◌∙◌}
use Rattle.std.specs.List.{list_any}
use Rattle.elf_format.specs.declared.version_id.VersionId.{VersionId}
use Rattle.elf_image_symbols.specs.Loan.{symbols_now}
use Rattle.elf_tables.specs.VersionRecords.{is_index_too_large}
use Rattle.elf_hashes.specs.Found.{in_order}
use Rattle.elf_hashes.specs.Versions.{versions_of}
use Rattle.elf_hashes.proofs.VersionSteps.{versions-whole}
use Rattle.elf_hashes.proofs.versions.build_versym.Goals as goal

pub returns : goal.returns
returns c =
    let ids : List VersionId = c.as_slice.result.now in
    let all : ids ≡ versions_of (in_order (symbols_now c.args.symbols) c.args.order.now) = c.as_slice.ensures.value ∙ c.in_ok-ids.ensures in (
      versions-whole c.args.form (symbols_now c.args.symbols) c.args.order.now ids c.in_ok-table.table.items c.requires.versions all c.in_ok-table.ensures.bytes.0 (c.in_ok-table.ensures.read c.args.form.wide),
      sym (ap (list_any is_index_too_large) all) ∙ c.in_ok-table.ensures.bytes.1,
    )
