use Rattle.std.proofs.Common.{subst, sym, List, ℕ}
use Rattle.std.specs.List.{All}
use Rattle.elf_format.specs.declared.records.NeedNameNumbers.{NeedNameNumbers}
use Rattle.elf_format.specs.Versions.{NeedNumbers}
use Rattle.elf_image_versions.specs.declared.version.VersionNeedName.{VersionNeedName}
use Rattle.elf_write_strings.specs.VersionPlaces.{AreNamesAt, Tells, TellsName}
use Rattle.elf_write_strings.proofs.VersionsPlacing.{more-trans}
use Rattle.elf_write_strings.proofs.versions.needing.place_need.Goals as goal

pub place_need_names-requires : goal.place_need_names-requires
place_need_names-requires c =
    subst (λ (l : List NeedNameNumbers). AreNamesAt c.place_text.new.table.bytes c.deref.result.now l) (sym c.deref-2.ensures.value)
    (subst (λ (n : NeedNumbers). AreNamesAt c.place_text.new.table.bytes c.deref.result.now n.versions) (sym c.numbers.view_is)
    (subst (λ (l : List VersionNeedName). AreNamesAt c.place_text.new.table.bytes l c.args.numbers.now.versions)
    (sym c.deref.ensures.value)
    (subst (λ (l : List ℕ). AreNamesAt l c.args.need.now.versions.items c.args.numbers.now.versions)
    (sym c.in_ok-place_text.ensures.more.bytes) c.requires.versions)))

pub returns : goal.returns
returns c = record {
  more = more-trans c.args.table.now c.place_text.new.table c.place_need_names.new.table c.in_ok-place_text.ensures.more
      c.in_ok-place_need_names.ensures.more;
  told = record {
    file = c.in_ok-place_need_names.ensures.more.had c.args.need.now.file.bytes
        (subst (λ (text : List ℕ). Tells c.place_text.new.table text) c.as_slice.ensures c.in_ok-place_text.ensures.told);
    versions = subst (λ (l : List VersionNeedName). All (TellsName c.place_need_names.new.table) l) c.deref.ensures.value
        c.in_ok-place_need_names.ensures.told;
  };
}
