-- The map is asked for the entry's text.
use Rattle.std.proofs.Common.{◌∙◌, Bor, List, ap, sym, ℕ}
use Rattle.std.specs.Map.{lookup}
use Rattle.std.specs.Prelude.{is_some}
use Rattle.std.specs.Str.{bytes_eq}
use Rattle.elf_image.specs.ImageModel.{entry_model}
use Rattle.elf_image.specs.declared.dynamic.Dynamic.{Dynamic}
use Rattle.elf_edits.specs.Changes.{gets_name}
use Rattle.elf_edits.proofs.LookupSteps.{named_among}
use Rattle.elf_edits.proofs.changes.has_new_name.Goals as goal

pub returns-in-Text : goal.returns-in-Text
returns-in-Text c =
    c.contains_key.ensures
    ∙ ap (λ text. is_some (lookup (λ (k : Bor (List ℕ)). bytes_eq text k.now) c.args.names.now.entries)) c.as_slice.ensures
    ∙ named_among c.args.names.now.entries c.in-Text.tag c.in-Text.val.bytes c.if-tag-eq-DT_NEEDED.true
    ∙ sym (ap (λ (e : Dynamic). gets_name c.args.names.now.entries (entry_model e)) c.in-Text.is)
