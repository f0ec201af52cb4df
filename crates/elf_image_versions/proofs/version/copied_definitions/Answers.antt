use Rattle.std.proofs.Common.{◌∙◌, List, ap}
use Rattle.patch_bytes.specs.ByteString.{StringValue, bytes_of_each}
use Rattle.elf_format.specs.Versions.{VersionDefinition}
use Rattle.elf_image_versions.specs.VersionsModel.{definition_model}
use Rattle.elf_image_versions.proofs.CopySteps.{next_copied}
use Rattle.elf_image_versions.proofs.version.copied_definitions.Goals as goal

pub loop-definition-preserved : goal.loop-definition-preserved
loop-definition-preserved c =
    let old = c.definition-item.result in
    let named : List StringValue → VersionDefinition = λ names. record { index = old.index; flags = old.flags; names = bytes_of_each names } in
    next_copied definition_model c.args.definitions.now c.loop-definition.definition-index c.loop-definition.made.items old _ c.push.new.self.items
    c.loop-definition-test.true c.definition-item.is c.in_ok-push.ensures.items (ap named (c.in_ok-names.ensures ∙ c.deref.ensures.value)) c.loop-definition.invariant
