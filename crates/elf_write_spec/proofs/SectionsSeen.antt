-- The bytes of a loaded section are seen at its address in a written file.
use Rattle.std.proofs.Common.{◌≡◌, ℕ, ◌&&◌, not, true, List, ap, ◌∙◌, subst}
use Rattle.std.specs.Prelude.{◌==◌}
use Rattle.std.proofs.lemmas.Bool.{and_parts}
use Rattle.patch_bytes.specs.Memory.{Keeps, from, memory_of}
use Rattle.elf_format.specs.declared.constants.TheConstants.{SHF_ALLOC, SHT_NOBITS, SHT_NULL}
use Rattle.elf_format.specs.File.{has_file_bytes, is_allocated}
use Rattle.elf_format.specs.Placement.{sections_held, something_loaded, stored_apart}
use Rattle.elf_format.specs.Places.{is_set, places_of}
use Rattle.elf_format.specs.Rules.{header_ranges}
use Rattle.elf_format.specs.Views.{byte_at}
use Rattle.elf_format.proofs.ForCallers.Placed.{held_sections_are_seen}
use Rattle.elf_write_spec.specs.ReadBack.{written_parts}
use Rattle.elf_write_spec.specs.Output.{IsPlannedOutput, Output, written_bytes}
use Rattle.elf_write_spec.proofs.FileParts.{written_files_have_parts}
use Rattle.elf_write_spec.proofs.RulePlaced.{placed_read_back}
use Rattle.elf_write_spec.proofs.WholeFacts.{ReadFacts, SectionAt}

module _ (w : Output) (is : IsPlannedOutput w) (f : ReadFacts w) (i : ℕ) (at : SectionAt w f.parts i) where
  -- a section is as much of memory and of the file as it was
  pub same_allocated : is_allocated at.header ≡ is_allocated at.old
  same_allocated = ap (is_set SHF_ALLOC) at.flags

  same_stored : has_file_bytes at.header ≡ has_file_bytes at.old
  same_stored = ap (λ (n : ℕ). not (n == SHT_NULL) && not (n == SHT_NOBITS)) at.type

  pub section_seen : is_allocated at.old ≡ true → has_file_bytes at.old ≡ true
      → Keeps (memory_of at.bytes) (from (byte_at w.plan.segments (written_bytes w)) at.place.sh_addr)
  section_seen loaded stored =
      let file : List ℕ = written_bytes w in
      let has = written_files_have_parts w is in
      let placed = placed_read_back w is has in
      let held : sections_held w.plan.segments (places_of w.headers) ≡ true =
      (and_parts (sections_held w.plan.segments (places_of w.headers)) (something_loaded w.plan.segments (places_of w.headers))
      (and_parts (sections_held w.plan.segments (places_of w.headers) && something_loaded w.plan.segments (places_of w.headers))
      (stored_apart (header_ranges (written_parts w)) (places_of w.headers)) placed.loaded).0).0 in
      let seen = held_sections_are_seen file w.plan.segments w.headers placed.fit placed.segments held i at.header at.is_header
      (same_allocated ∙ loaded) (same_stored ∙ stored) in
      subst (λ (a : ℕ). Keeps (memory_of at.bytes) (from (byte_at w.plan.segments file) a)) at.address
      (subst (λ (bytes : List ℕ). Keeps (memory_of bytes) (from (byte_at w.plan.segments file) at.header.sh_addr))
      (has.contents i at.header at.bytes at.is_header at.is_bytes) seen)
