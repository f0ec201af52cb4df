use Rattle.std.proofs.Common.{ℕ, List, subst, sym, arith}
use Rattle.std.specs.List.{All}
use Rattle.patch_bytes.specs.ByteString.{StringValue, bytes_of_each}
use Rattle.elf_format.specs.Versions.{DefinitionNumbers}
use Rattle.elf_write_strings.specs.VersionPlaces.{AreAt, Tells, TellsDefinition}
use Rattle.elf_write_strings.proofs.VersionsPlacing.{definition_at_place, more-trans, up_to}
use Rattle.elf_write_strings.proofs.versions.placing.place_definitions.Goals as goal

pub place_texts-requires : goal.place_texts-requires
place_texts-requires c =
    subst (λ (places : List ℕ). AreAt c.loop-i.table.bytes (bytes_of_each c.deref.result.now) places) (sym c.deref-in-loop-i.ensures.value)
    (subst (λ (r : DefinitionNumbers). AreAt c.loop-i.table.bytes (bytes_of_each c.deref.result.now) r.names) (sym c.record.view_is)
    (subst (λ (texts : List StringValue). AreAt c.loop-i.table.bytes (bytes_of_each texts) c.index-records-i.result.names)
    (sym c.deref.ensures.value)
    (definition_at_place c.args.table.now c.loop-i.table c.args.definitions.now c.args.records.now c.loop-i.i c.index-definitions-i.result
    c.index-records-i.result c.requires c.loop-i.invariant.more c.loop-i-test.true c.index-definitions-i.is c.index-records-i.is)))

pub loop-i-preserved : goal.loop-i-preserved
loop-i-preserved c = record {
  more = more-trans c.args.table.now c.loop-i.table c.place_texts.new.table c.loop-i.invariant.more c.in_ok-place_texts.ensures.more;
  told = up_to (TellsDefinition c.loop-i.table) (TellsDefinition c.place_texts.new.table) c.args.definitions.now c.loop-i.i
      c.index-definitions-i.result
      (λ y h k d within. c.in_ok-place_texts.ensures.more.had _ (h k d within)) c.loop-i.invariant.told c.loop-i-test.true
      c.index-definitions-i.is
      (subst (λ (texts : List StringValue). All (Tells c.place_texts.new.table) (bytes_of_each texts)) c.deref.ensures.value c.in_ok-place_texts.ensures.told);
}

pub returns-clause-told : goal.returns-clause-told
returns-clause-told c k d within = c.loop-i.invariant.told k d (omega (arith, within))
