-- The tables of a written file are linked.
use Rattle.std.proofs.Common.{◌≡◌, true}
use Rattle.std.specs.Prelude.{IsTrue}
use Rattle.std.proofs.lemmas.Bool.{and_from, and_parts}
use Rattle.elf_format.specs.File.{Parts}
use Rattle.elf_format.specs.Rules.{are_linked, are_tables_linked, are_whole, infos_are_sections, is_one_of_each, relocations_fit, symbols_have_sections}
use Rattle.elf_write_spec.specs.ReadBack.{HasWrittenParts, written_parts}
use Rattle.elf_write_spec.specs.Output.{IsPlannedOutput, Output}
use Rattle.elf_write_spec.proofs.LinkedRelocations.{relocations_read_back}
use Rattle.elf_write_spec.proofs.LinkedSizes.{are_single, whole_read_back}
use Rattle.elf_write_spec.proofs.LinkedSymbols.{symbols_read_back}
use Rattle.elf_write_spec.proofs.LinkedTypes.{infos_read_back, linked_read_back, one_of_each}
use Rattle.elf_write_spec.proofs.WholeFacts.{ReadFacts, read_facts}

-- the parts of the rule
pub record AreLinked (p : Parts) : Type 0 where
  pub each : is_one_of_each p.segments p.sections ≡ true
  pub single : are_single p ≡ true
  pub linked : are_linked p.sections ≡ true
  pub relocations : relocations_fit p ≡ true
  pub infos : infos_are_sections p ≡ true

pub read_linked : (p : Parts) → are_tables_linked p ≡ true → AreLinked p
read_linked p h =
    let sixth = and_parts _ (infos_are_sections p) h in
    let fifth = and_parts _ (relocations_fit p) sixth.0 in
    let fourth = and_parts _ (symbols_have_sections p) fifth.0 in
    let third = and_parts _ (are_whole p.opened.form p.sections) fourth.0 in
    let second = and_parts (is_one_of_each p.segments p.sections) (are_linked p.sections) third.0 in
    record {
      each = second.0;
      single = (and_parts _ (are_single p) second.0).1;
      linked = second.1;
      relocations = fifth.1;
      infos = sixth.1;
    }

linked_with : (w : Output) → IsPlannedOutput w → HasWrittenParts w → (f : ReadFacts w) → AreLinked f.parts
    → are_tables_linked (written_parts w) ≡ true
linked_with w is has f read =
    and_from _ (infos_are_sections (written_parts w))
    (and_from _ (relocations_fit (written_parts w))
    (and_from _ (symbols_have_sections (written_parts w))
    (and_from _ (are_whole w.image.form w.headers)
    (and_from (is_one_of_each w.plan.segments w.headers) (are_linked w.headers) (one_of_each w is f read.each)
    (linked_read_back w is f read.linked))
    (whole_read_back w is f read.single))
    (symbols_read_back w is f has))
    (relocations_read_back w is f has read.single read.relocations))
    (infos_read_back w is f read.infos)

pub linked : (w : Output) → IsPlannedOutput w → HasWrittenParts w → IsTrue (are_tables_linked (written_parts w))
linked w is has = let f = read_facts w is in linked_with w is has f (read_linked f.parts f.rules.linked)
