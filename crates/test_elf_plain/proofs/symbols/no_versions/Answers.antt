use Rattle.std.proofs.Common.{◌++◌, ◌∷◌, ◌∙◌, [], List, None, Option, ap}
use Rattle.std.proofs.lemmas.List.{replicate_more}
use Rattle.elf_format.specs.declared.version_id.VersionId.{VersionId}
use Rattle.test_elf_plain.proofs.symbols.no_versions.Goals as goal

pub loop-preserved : goal.loop-preserved
loop-preserved c =
    c.in_ok-push.ensures.items
    ∙ ap (λ (l : List (Option VersionId)). l ++ None ∷ []) c.loop.invariant
    ∙ replicate_more c.loop.counter None
