use Rattle.std.proofs.Common.{◌≡◌, ◌++◌, map, take}
use Rattle.elf_image.specs.ImageModel.{name_model}
use Rattle.arwen_elf.specs.Prints.{lossily}
use Rattle.arwen_cli_facts.specs.Texts.{texts_model}
use Rattle.arwen_cli_facts.proofs.elf.put_versions.Given as goal

-- the texts that were there, and those so far
abbrev pub invariant-loop-version : goal.invariant-loop-version
invariant-loop-version l = texts_model l.made.items ≡ texts_model l.initial.made.items ++ map (λ v. lossily v.name) (map name_model (take l.version-index l.versions))
