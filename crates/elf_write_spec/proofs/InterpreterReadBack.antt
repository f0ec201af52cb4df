-- The interpreter's name of a written file is that of its image.
use Rattle.std.proofs.Common.{◌≡◌, ℕ, Bool, true, false, not, List, refl, sym, ap, ◌∙◌, subst, Option, Some, None}
use Rattle.std.specs.Prelude.{◌==◌, ◌&&◌, IsSome, is_some, unwrap_or}
use Rattle.std.specs.List.{slice_get}
use Rattle.std.proofs.lemmas.Bool.{and_parts, eq-eqb, eqb-true, false≢true}
use Rattle.std.proofs.lemmas.Option.{none-some}
use Rattle.patch_bytes.specs.Memory.{◌>>=◌}
use Rattle.patch_bytes.specs.Number.{field}
use Rattle.patch_bytes.proofs.MemoryLaws.{some_bind}
use Rattle.elf_format.specs.declared.constants.TheConstants.{PT_INTERP, SHT_NOBITS, SHT_NULL, SHT_PROGBITS}
use Rattle.elf_format.specs.declared.records.EntryNumbers.{EntryNumbers}
use Rattle.elf_format.specs.declared.records.SectionHeader.{SectionHeader}
use Rattle.elf_format.specs.declared.records.SegmentHeader.{SegmentHeader}
use Rattle.elf_format.specs.File.{Parts, has_file_bytes, section_bytes, segment_of_type}
use Rattle.elf_format.specs.Image.{Image, ImageSection, interpreter_read}
use Rattle.elf_format.specs.Options.{is_none_or}
use Rattle.elf_format.specs.Places.{Place}
use Rattle.elf_format.specs.Rules.{file_of}
use Rattle.elf_format.specs.Views.{interpreter_section}
use Rattle.elf_format.proofs.ForCallers.Placed.{find_some, section_bytes-is}
use Rattle.elf_format.proofs.ForCallers.ViewsAgree.{there_if}
use Rattle.elf_image.specs.Edited.{IsInterpreterOf}
use Rattle.elf_image.specs.Kept.{KeptSection, image_at_read, is_numbered}
use Rattle.elf_layout_plan.specs.Memory.{Resized}
use Rattle.elf_layout_plan.specs.Plan.{Plan, resized}
use Rattle.elf_layout_plan.specs.Written.{anchored_to, target_at}
use Rattle.elf_layout_plan.proofs.ForCallers.ApartLists.{find-at}
use Rattle.elf_write_spec.specs.ReadBack.{HasWrittenParts, written_parts}
use Rattle.elf_write_spec.specs.Base.{is_interpreter}
use Rattle.elf_write_spec.specs.Contents.{IsContentByKind, content_at_number}
use Rattle.elf_write_spec.specs.Output.{IsPlannedOutput, Output, written_bytes}
use Rattle.elf_write_spec.proofs.ContentsReadBack.{bytes_are}
use Rattle.elf_write_spec.proofs.InterpreterAt.{interpreter_is, interpreter_type}
use Rattle.elf_write_spec.proofs.RuleDynamic.{goes_by, interpreter_right, number_there}
use Rattle.elf_write_spec.proofs.WholeFacts.{ReadFacts, SectionAt, read_facts}
use Rattle.elf_write_spec.proofs.WrittenTypes.{ASegment, GoneSegment, NoSegment, SegmentAt, all_places_are, becomes, becomes-section, segment_at}
use Rattle.elf_write_spec.proofs.NumberedSections.{kept_as}

-- ## Sections at one place

-- a section's header stands where the program header says
abbrev pub stands_at : SegmentHeader → SectionHeader → Bool
stands_at p s = s.sh_type == SHT_PROGBITS && s.sh_offset == p.p_offset && s.sh_addr == p.p_vaddr && s.sh_size == p.p_filesz

-- the section has the bytes that the program header names
record IsPlaced (p : SegmentHeader) (s : SectionHeader) : Type 0 where
  type : s.sh_type ≡ SHT_PROGBITS
  offset : s.sh_offset ≡ p.p_offset
  size : s.sh_size ≡ p.p_filesz

placed : (p : SegmentHeader) (s : SectionHeader) → stands_at p s ≡ true → IsPlaced p s
placed p s h =
    let all = and_parts (s.sh_type == SHT_PROGBITS && s.sh_offset == p.p_offset && s.sh_addr == p.p_vaddr) (s.sh_size == p.p_filesz) h in
    let three = and_parts (s.sh_type == SHT_PROGBITS && s.sh_offset == p.p_offset) (s.sh_addr == p.p_vaddr) all.0 in
    let two = and_parts (s.sh_type == SHT_PROGBITS) (s.sh_offset == p.p_offset) three.0 in
    record {
      type = eqb-true s.sh_type SHT_PROGBITS two.0;
      offset = eqb-true s.sh_offset p.p_offset two.1;
      size = eqb-true s.sh_size p.p_filesz all.1;
    }

stored : (s : SectionHeader) → s.sh_type ≡ SHT_PROGBITS → has_file_bytes s ≡ true
stored s h = ap (λ t. not (t == SHT_NULL) && not (t == SHT_NOBITS)) h

bytes_at_place : (file : List ℕ) (p : SegmentHeader) (s : SectionHeader) → IsPlaced p s
    → section_bytes file s ≡ field p.p_filesz p.p_offset file
bytes_at_place file p s is =
    section_bytes-is file s (stored s is.type) ∙ ap (λ n. field n s.sh_offset file) is.size ∙ ap (λ n. field p.p_filesz n file) is.offset

-- the first section at a place has the bytes of any that has them
found_bytes : (file : List ℕ) (p : SegmentHeader) (sections : List SectionHeader) (s : SectionHeader) → IsPlaced p s
    → is_some (interpreter_section p sections) ≡ true
    → (interpreter_section p sections >>= λ x. Some (section_bytes file x)) ≡ Some (section_bytes file s)
found_bytes file p sections s is there =
    let (x, found) = there_if (interpreter_section p sections) there in
    let (_, stands) = find_some (stands_at p) sections x found in
    some_bind (interpreter_section p sections) (λ y. Some (section_bytes file y)) x found
    ∙ ap Some (bytes_at_place file p x (placed p x stands) ∙ sym (bytes_at_place file p s is))

-- ## The section with the interpreter's name

module _ (w : Output) (is : IsPlannedOutput w) (f : ReadFacts w) where
  -- a section was read where PT_INTERP says
  section_was : (old : SegmentHeader) → segment_of_type PT_INTERP f.parts.segments ≡ Some old
      → is_some (interpreter_section old f.parts.sections) ≡ true
  section_was old there =
      subst (λ o. is_none_or (λ q. is_some (interpreter_section q f.parts.sections)) o ≡ true) there f.rules.interpreter

  -- there is an interpreter where its program header is
  name_there : (p : SegmentHeader) → segment_of_type PT_INTERP w.image.segments ≡ Some p → IsSome w.image.interpreter
  name_there p there_now = f.edit.complete.interpreter ∙ ap is_some there_now

-- PT_INTERP of the written file names the bytes of the section with the interpreter's name
record StandsReadBack (w : Output) (f : ReadFacts w) : Type 0 where
  segment : SegmentHeader
  is_segment : segment_of_type PT_INTERP w.plan.segments ≡ Some segment
  number : ℕ
  at : SectionAt w f.parts number
  named : is_interpreter (image_at_read w.image) (kept_as number at.number at.section) ≡ true
  is_placed : IsPlaced segment at.header

stands_read_back : (w : Output) (is : IsPlannedOutput w) (f : ReadFacts w) (old p : SegmentHeader)
    → segment_of_type PT_INTERP f.parts.segments ≡ Some old
    → segment_of_type PT_INTERP w.image.segments ≡ Some p
    → segment_of_type PT_INTERP w.plan.segments ≡ Some (becomes (resized w.image) is.planned.moved p) → StandsReadBack w f
stands_read_back w is f old p there there_now there_plan =
    let (n, number) = number_there w is f old there (section_was w is f old there) in
    let found = interpreter_is w is f n number (name_there w is f p there_now) in
    let at = found.at in
    let (_, _, typed) = find-at (λ (q : SegmentHeader). q.p_type == PT_INTERP) w.image.segments p there_now in
    let anchor = goes_by w is f found.position n at p number found.number (eqb-true p.p_type PT_INTERP typed) in
    let goes : becomes (resized w.image) is.planned.moved p ≡ anchored_to w.image.form p (target_at at.place) =
    becomes-section (resized w.image) is.planned.moved p (kept_as found.position at.number at.section) at.place anchor
    (ap (λ (l : List Place). slice_get l found.position) (sym (all_places_are w is)) ∙ at.is_place) in
    record {
      segment = anchored_to w.image.form p (target_at at.place);
      is_segment = there_plan ∙ ap Some goes;
      number = found.position;
      at = at;
      named = ap (λ o. is_numbered o (kept_as found.position at.number at.section)) number ∙ eq-eqb n at.number (sym found.number);
      is_placed = record {
        type = at.type ∙ ap (λ (s : ImageSection). s.sh_type) (sym at.of_old.fields) ∙ interpreter_type w f n found;
        offset = at.offset;
        size = at.size;
      };
    }

-- ## The name

-- by the program header
read_by : Parts → Option SegmentHeader → Option (List ℕ)
read_by p o = o >>= λ q. interpreter_section q p.sections >>= λ s. Some (section_bytes (file_of p) s)

read_is : (p : Parts) → interpreter_read p ≡ read_by p (segment_of_type PT_INTERP p.segments)
unfolding read_by
read_is p = refl

name_gone : (read now : Option (List ℕ)) → read ≡ None → IsInterpreterOf read now → now ≡ None
name_gone None None e is = refl
name_gone None (Some now) e is = absurd is
name_gone (Some read) now e is = absurd (none-some read (sym e))

name_of : (o : Option (List ℕ)) (was : List ℕ) → IsSome o → Some (unwrap_or o was) ≡ o
name_of None was h = absurd (false≢true h)
name_of (Some name) was h = refl

none_of : (o : Option (List ℕ)) → is_some o ≡ false → o ≡ None
none_of None h = refl
none_of (Some name) h = absurd (false≢true (sym h))

-- the content of the interpreter's section is its name, where there is one
name_written : (r : Resized) (plan : Plan) (raw : List EntryNumbers) (strings : List ℕ) (s : KeptSection) (bytes : List ℕ) (b : Bool)
    → b ≡ true
    → (elim b as (λ _. Type 0)
    [ true ↦ bytes ≡ unwrap_or r.image.interpreter s.section.content | _ ↦ IsContentByKind r plan raw strings s bytes ])
    → bytes ≡ unwrap_or r.image.interpreter s.section.content
name_written r plan raw strings s bytes true e content = content
name_written r plan raw strings s bytes false e content = absurd (false≢true e)

module _ (w : Output) (is : IsPlannedOutput w) (has : HasWrittenParts w) (f : ReadFacts w) where
  read : Image
  read = image_at_read w.image

  name_here : (p : SegmentHeader) → segment_of_type PT_INTERP w.image.segments ≡ Some p → StandsReadBack w f
      → interpreter_read (written_parts w) ≡ w.image.interpreter
  unfolding read read_by
  name_here p there_now again =
      let at = again.at in
      let file : List ℕ = written_bytes w in
      let bytes : at.bytes ≡ unwrap_or w.image.interpreter at.section.content =
      name_written (resized w.image) w.plan w.raw (content_at_number w.image w.contents at.section.sh_link)
      (kept_as again.number at.number at.section) at.bytes
      (is_interpreter (image_at_read w.image) (kept_as again.number at.number at.section)) again.named at.written.content in
      let right : is_some (interpreter_section again.segment w.headers) ≡ true =
      subst (λ o. is_none_or (λ q. is_some (interpreter_section q w.headers)) o ≡ true) again.is_segment (interpreter_right w is has) in
      read_is (written_parts w) ∙ ap (read_by (written_parts w)) again.is_segment
      ∙ found_bytes file again.segment w.headers at.header again.is_placed right
      ∙ ap Some (bytes_are w is has f again.number at ∙ bytes)
      ∙ name_of w.image.interpreter at.section.content (name_there w is f p there_now)

  name_by : SegmentAt w is f PT_INTERP → interpreter_read (written_parts w) ≡ w.image.interpreter
  unfolding read read_by
  name_by (NoSegment none_old none_now none_plan) =
      let was : read.interpreter ≡ None = f.holds.interpreter ∙ read_is f.parts ∙ ap (read_by f.parts) none_old in
      read_is (written_parts w) ∙ ap (read_by (written_parts w)) none_plan
      ∙ sym (name_gone read.interpreter w.image.interpreter was f.edit.interpreter)
  name_by (ASegment old p there there_now same there_plan) = name_here p there_now (stands_read_back w is f old p there there_now there_plan)
  name_by (GoneSegment old there can none_now none_plan) =
      read_is (written_parts w) ∙ ap (read_by (written_parts w)) none_plan
      ∙ sym (none_of w.image.interpreter (f.edit.complete.interpreter ∙ ap is_some none_now))

pub name_read_back : (w : Output) → IsPlannedOutput w → HasWrittenParts w → interpreter_read (written_parts w) ≡ w.image.interpreter
name_read_back w is has = name_by w is has (read_facts w is) (segment_at w is (read_facts w is) PT_INTERP refl refl refl)
