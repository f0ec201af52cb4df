-- The sections of a written file are read with their names, kinds and bytes.
use Rattle.std.proofs.Common.{◌≡◌, ℕ, zero, suc, Bool, true, List, [], ◌∷◌, length, refl, sym, ap, ◌∙◌, inl, inr, Some, arith}
use Rattle.std.specs.List.{slice_get}
use Rattle.std.proofs.lemmas.Bool.{cases_Bool}
use Rattle.std.proofs.lemmas.Option.{none-some, same_Some}
use Rattle.patch_bytes.proofs.MemoryLaws.{some_bind}
use Rattle.elf_format.specs.declared.constants.TheConstants.{SHT_REL, SHT_RELA}
use Rattle.elf_format.specs.declared.records.SectionHeader.{SectionHeader}
use Rattle.elf_format.specs.declared.section_data.SectionData.{SectionData}
use Rattle.elf_format.specs.File.{section_bytes}
use Rattle.elf_format.specs.Image.{ImageSection, section_name, section_read}
use Rattle.elf_format.specs.Options.{each, is_one_of}
use Rattle.elf_format.specs.Rules.{data_of, is_opaque_relocation}
use Rattle.elf_image.specs.ReadImage.{section_with}
use Rattle.elf_write_spec.specs.ReadBack.{HasWrittenParts, rewritten_section, rewritten_sections, written_parts}
use Rattle.elf_write_spec.specs.Output.{IsPlannedOutput, Output, written_bytes}
use Rattle.elf_write_spec.proofs.LinkedRelocations.{opaque_same}
use Rattle.elf_write_spec.proofs.NamesReadBack.{name_read_back}
use Rattle.elf_write_spec.proofs.TextsRead.{each-from}
use Rattle.elf_write_spec.proofs.WholeFacts.{ReadFacts, SectionAt, lengths, read_facts, section_at_header}
use Rattle.elf_write_spec.proofs.SectionKinds.{kind_by, kind_is}

-- ## Lists of sections

pub length-sections : (ss : List ImageSection) (hs : List SectionHeader) (cs : List (List ℕ)) → length hs ≡ length ss → length cs ≡ length ss
    → length (rewritten_sections ss hs cs) ≡ length ss
length-sections [] hs cs h c = refl
length-sections (s ∷ ss) [] cs h c = absurd (omega (arith, h))
length-sections (s ∷ ss) (x ∷ hs) [] h c = absurd (omega (arith, c))
length-sections (s ∷ ss) (x ∷ hs) (y ∷ cs) h c = ap suc (length-sections ss hs cs (omega (arith, h)) (omega (arith, c)))

pub rewritten-at : (ss : List ImageSection) (hs : List SectionHeader) (cs : List (List ℕ)) (i : ℕ) (s : ImageSection) (h : SectionHeader)
    (c : List ℕ) → slice_get ss i ≡ Some s → slice_get hs i ≡ Some h → slice_get cs i ≡ Some c
    → slice_get (rewritten_sections ss hs cs) i ≡ Some (rewritten_section s h c)
rewritten-at [] hs cs i s h c at_s at_h at_c = absurd (none-some s at_s)
rewritten-at (x ∷ ss) [] cs i s h c at_s at_h at_c = absurd (none-some h at_h)
rewritten-at (x ∷ ss) (y ∷ hs) [] i s h c at_s at_h at_c = absurd (none-some c at_c)
rewritten-at (x ∷ ss) (y ∷ hs) (z ∷ cs) zero s h c at_s at_h at_c =
    let a : x ≡ s = same_Some x s at_s in
    let b : y ≡ h = same_Some y h at_h in
    let d : z ≡ c = same_Some z c at_c in
    rw a (rw b (rw d refl))
rewritten-at (x ∷ ss) (y ∷ hs) (z ∷ cs) (suc i) s h c at_s at_h at_c = rewritten-at ss hs cs i s h c at_s at_h at_c

-- ## Kinds

-- only relocations may be kept as they are
kind-same : (type : ℕ) (a b : Bool) → (is_one_of (SHT_REL ∷ SHT_RELA ∷ []) type ≡ true → a ≡ b) → kind_by type a ≡ kind_by type b
kind-same type a b same = elim (cases_Bool (is_one_of (SHT_REL ∷ SHT_RELA ∷ []) type)) [
  | inl relocations ↦ ap (kind_by type) (same relocations)
  | inr others ↦ rw others refl
]

-- a section by its parts, its place and its links those of a header
made : List ℕ → SectionData → ℕ → ℕ → ℕ → ℕ → List ℕ → SectionHeader → ImageSection
made name kind type flags align entsize content h = record {
  name = name;
  kind = kind;
  sh_type = type;
  sh_flags = flags;
  sh_addr = h.sh_addr;
  sh_offset = h.sh_offset;
  sh_size = h.sh_size;
  sh_link = h.sh_link;
  sh_info = h.sh_info;
  sh_addralign = align;
  sh_entsize = entsize;
  content = content;
}

made-same : (name : List ℕ) (k k' : SectionData) (t t' f f' a a' e e' : ℕ) (c c' : List ℕ) (h : SectionHeader) → k ≡ k' → t ≡ t' → f ≡ f'
    → a ≡ a' → e ≡ e' → c ≡ c'
    → made name k t f a e c h ≡ made name k' t' f' a' e' c' h
made-same name k k' t t' f f' a a' e e' c c' h same_k same_t same_f same_a same_e same_c = cc

module _ (w : Output) (is : IsPlannedOutput w) (has : HasWrittenParts w) (f : ReadFacts w) (i : ℕ) (at : SectionAt w f.parts i) where
  kind_same : data_of (written_parts w) at.header ≡ at.section.kind
  kind_same =
      kind_is (written_parts w) at.header
      ∙ ap (λ type. kind_by type (is_opaque_relocation (written_parts w) at.header)) at.type
      ∙ kind-same at.old.sh_type (is_opaque_relocation (written_parts w) at.header) (is_opaque_relocation f.parts at.old)
      (opaque_same w is f has i at)
      ∙ sym (kind_is f.parts at.old)
      ∙ ap (λ (x : ImageSection). x.kind) (sym at.of_old.fields)

-- ## A section

module _ (w : Output) (is : IsPlannedOutput w) (has : HasWrittenParts w) (i : ℕ) (at : SectionAt w (read_facts w is).parts i) where
  with_name : section_with (written_parts w) at.header at.section.name ≡ rewritten_section at.section at.header at.bytes
  unfolding made
  with_name =
      let h : SectionHeader = at.header in
      let s : ImageSection = at.section in
      let fields = at.written.has_header.fields in
      let kind : data_of (written_parts w) h ≡ s.kind = kind_same w is has (read_facts w is) i at in
      let type : h.sh_type ≡ s.sh_type = ap (λ (x : SectionHeader). x.sh_type) fields in
      let flags : h.sh_flags ≡ s.sh_flags = ap (λ (x : SectionHeader). x.sh_flags) fields in
      let align : h.sh_addralign ≡ s.sh_addralign = ap (λ (x : SectionHeader). x.sh_addralign) fields in
      let entsize : h.sh_entsize ≡ s.sh_entsize = ap (λ (x : SectionHeader). x.sh_entsize) fields in
      let content : section_bytes (written_bytes w) h ≡ at.bytes = has.contents i at.header at.bytes at.is_header at.is_bytes in
      made-same s.name (data_of (written_parts w) h) s.kind h.sh_type s.sh_type h.sh_flags s.sh_flags h.sh_addralign s.sh_addralign
      h.sh_entsize s.sh_entsize (section_bytes (written_bytes w) h) at.bytes h kind type flags align entsize content

  section_same : section_read (written_parts w) at.header ≡ Some (rewritten_section at.section at.header at.bytes)
  unfolding section_read
  section_same =
      some_bind (section_name (written_parts w) at.header) (λ n. Some (section_with (written_parts w) at.header n)) at.section.name
      (name_read_back w is has i at)
      ∙ ap Some with_name

-- ## All of them

pub sections_read : (w : Output) → IsPlannedOutput w → HasWrittenParts w
    → each (section_read (written_parts w)) w.headers ≡ Some (rewritten_sections w.image.sections w.headers w.contents)
sections_read w is has =
    let f = read_facts w is in
    let long = lengths w is f in
    each-from (section_read (written_parts w)) w.headers (rewritten_sections w.image.sections w.headers w.contents)
    (length-sections w.image.sections w.headers w.contents long.headers long.contents ∙ sym long.headers)
    (λ i h y h_there y_there.
    let (at, same) = section_at_header w is f i h h_there in
    let here = rewritten-at w.image.sections w.headers w.contents i at.section at.header at.bytes at.is_section at.is_header at.is_bytes in
    ap (section_read (written_parts w)) (sym same) ∙ section_same w is has i at ∙ sym here ∙ y_there)
