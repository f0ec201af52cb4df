-- Data, hash tables and all other bytes that stay are seen at their addresses in a written file.
use Rattle.std.proofs.Common.{◌≡◌, ℕ, Bool, true, false, ◌&&◌, ◌||◌, List, [], ◌∷◌, sym, ap, ◌∙◌, subst}
use Rattle.std.specs.Prelude.{◌==◌, if◌then◌else◌}
use Rattle.std.proofs.lemmas.Bool.{and_parts, both_ways, cond-false, eq-eqb, eqb-true, false_from_ne_true}
use Rattle.std.proofs.lemmas.Option.{same_Some, slice_get_within}
use Rattle.patch_bytes.specs.Memory.{Keeps, from, memory_of}
use Rattle.elf_format.specs.declared.constants.TheConstants.{SHT_DYNAMIC, SHT_DYNSYM, SHT_GNU_HASH, SHT_GNU_VERDEF, SHT_GNU_VERNEED, SHT_GNU_VERSYM, SHT_HASH, SHT_NOTE, SHT_STRTAB}
use Rattle.elf_format.specs.Image.{ImageSection}
use Rattle.elf_format.specs.Options.{is_one_of}
use Rattle.elf_format.specs.Places.{Place, occupies_file, occupies_memory, place_of}
use Rattle.elf_format.specs.Rules.{data_of}
use Rattle.elf_format.specs.Views.{byte_at}
use Rattle.elf_image.specs.Kept.{KeptSection, dynamic_strings_number, image_at_read, interpreter_number, is_numbered, place_at_read}
use Rattle.elf_layout_plan.specs.Memory.{Resized, is_movable, priority_of}
use Rattle.elf_layout_plan.specs.Plan.{resized}
use Rattle.elf_layout_plan.proofs.ForCallers.ApartFixed.{fixed_sections_stay}
use Rattle.elf_layout_plan.proofs.ForCallers.ApartLists.{none-from}
use Rattle.elf_layout_plan.proofs.ForCallers.ApartSections.{kept-at}
use Rattle.elf_write_spec.specs.Base.{is_data, is_interpreter, is_opaque}
use Rattle.elf_write_spec.specs.Contents.{content_at_number}
use Rattle.elf_write_spec.specs.Laws.{WrittenFilesKeepData}
use Rattle.elf_write_spec.specs.Output.{IsPlannedOutput, Output, written_bytes}
pub use Rattle.elf_write_spec.proofs.OthersSeen.{written_files_keep_others}
pub use Rattle.elf_write_spec.proofs.HashesSeen.{written_files_keep_hashes}
use Rattle.elf_write_spec.proofs.DataStays.{DataFacts, IsNoTable, data_facts, no_table}
use Rattle.elf_write_spec.proofs.FileParts.{data_content}
use Rattle.elf_write_spec.proofs.SectionsSeen.{section_seen}
use Rattle.elf_write_spec.proofs.WholeFacts.{ReadFacts, SectionAt, read_facts, section_at}
use Rattle.elf_write_spec.proofs.NumberedSections.{kept_as}

-- ## Data never moves

turned : (a b : ℕ) → (a == b) ≡ false → (b == a) ≡ false
turned a b h = false_from_ne_true (b == a) (λ e. both_ways (a == b) h (eq-eqb a b (sym (eqb-true b a e))))

-- data is neither the interpreter nor a table nor a note, and never moves
never_moves : (r : Resized) (k : KeptSection) → is_interpreter r.read k ≡ false → IsNoTable k.section.sh_type → priority_of r k ≡ 0
never_moves r k other none =
    let n : ℕ = k.section.sh_type in
    let tables : List ℕ = SHT_NOTE ∷ SHT_DYNSYM ∷ SHT_HASH ∷ SHT_GNU_HASH ∷ SHT_GNU_VERSYM ∷ SHT_GNU_VERDEF ∷ SHT_GNU_VERNEED ∷ [] in
    let first : is_one_of tables n ≡ false = none-from (λ x. x == n) tables (
      turned n SHT_NOTE none.note,
      (
        turned n SHT_DYNSYM none.dynamic_symbols,
        (
          turned n SHT_HASH none.hash,
          (
            turned n SHT_GNU_HASH none.gnu_hash,
            (turned n SHT_GNU_VERSYM none.version_symbols, (turned n SHT_GNU_VERDEF none.definitions, (turned n SHT_GNU_VERNEED none.needs, tt))),
          ),
        ),
      ),
    ) in
    let strings : Bool = is_numbered (dynamic_strings_number r.image) k in
    let leave : Bool = r.image.moves_dynamic in
    let stays : is_movable r.image k ≡ false =
    ap (λ (b : Bool). b || (n == SHT_STRTAB && strings) || (n == SHT_DYNAMIC && leave)) first
    ∙ ap (λ (b : Bool). (b && strings) || (n == SHT_DYNAMIC && leave)) none.strings ∙ ap (λ (b : Bool). b && leave) none.dynamic in
    cond-false (is_numbered (interpreter_number r.read) k) 1 (if is_movable r.image k then 2 else 0) other
    ∙ cond-false (is_movable r.image k) 2 0 stays

-- ## It is seen

module _ (w : Output) (is : IsPlannedOutput w) (f : ReadFacts w) (i : ℕ) (at : SectionAt w f.parts i)
    (is_it : is_data (image_at_read w.image) (kept_as i at.number at.section) ≡ true) (stored : occupies_file (place_at_read at.section) ≡ true) where
  facts : DataFacts (resized w.image) (kept_as i at.number at.section)
  facts = data_facts (resized w.image) (kept_as i at.number at.section) is_it

  no_table_there : IsNoTable at.section.sh_type
  no_table_there =
      let opaque : is_opaque (data_of f.parts at.old) ≡ true = ap (λ (x : ImageSection). is_opaque x.kind) (sym at.of_old.fields) ∙ facts.opaque in
      subst IsNoTable (sym (ap (λ (x : ImageSection). x.sh_type) at.of_old.fields)) (no_table f.parts at.old opaque)

  same_address : at.place.sh_addr ≡ at.section.sh_addr
  same_address =
      let there = fixed_sections_stay w.image w.plan is.planned i (kept_as i at.number at.section) at.is_kept
      (never_moves (resized w.image) (kept_as i at.number at.section) facts.other no_table_there) in
      ap (λ (x : Place). x.sh_addr) (same_Some at.place there.place (sym at.is_place ∙ there.is_there)) ∙ there.same_address

  data_seen : Keeps (memory_of at.section.content) (from (byte_at w.plan.segments (written_bytes w)) at.section.sh_addr)
  data_seen =
      let was : place_at_read at.section ≡ place_of at.old = ap place_at_read at.of_old.fields in
      let same : at.bytes ≡ at.section.content =
      data_content (resized w.image) w.plan w.raw (content_at_number w.image w.contents at.section.sh_link) (kept_as i at.number at.section) at.bytes is_it
      at.written.content in
      let seen = section_seen w is f i at (ap occupies_memory (sym was) ∙ facts.loaded) (ap occupies_file (sym was) ∙ stored) in
      subst (λ (bytes : List ℕ). Keeps (memory_of bytes) (from (byte_at w.plan.segments (written_bytes w)) at.section.sh_addr)) same
      (subst (λ (a : ℕ). Keeps (memory_of at.bytes) (from (byte_at w.plan.segments (written_bytes w)) a)) same_address seen)

pub written_files_keep_data : WrittenFilesKeepData
written_files_keep_data w is i s at_s h =
    let r : Resized = resized w.image in
    let f = read_facts w is in
    let below = slice_get_within w.image.sections i s.section (kept-at 0 w.image.section_numbers w.image.sections i s at_s).2 in
    let at : SectionAt w f.parts i = section_at w is f i below in
    let same : kept_as i at.number at.section ≡ s = same_Some (kept_as i at.number at.section) s (sym at.is_kept ∙ at_s) in
    let both = and_parts (is_data r.read s) (occupies_file (place_at_read s.section)) h in
    subst (λ (k : KeptSection). Keeps (memory_of k.section.content) (from (byte_at w.plan.segments (written_bytes w)) k.section.sh_addr)) same
    (data_seen w is f i at (ap (is_data r.read) same ∙ both.0) (ap (λ (k : KeptSection). occupies_file (place_at_read k.section)) same ∙ both.1))
