-- The bytes of each section of an edited image: as many as its place has, and what they show, by the section's type.
use Rattle.std.proofs.Common.{◌≡◌, ◌<◌, ℕ, ◌*◌, Bool, true, false, eqb, List, [], ◌∷◌, length, map, refl, sym, ap, ◌∙◌, subst, Some}
use Rattle.std.specs.Prelude.{◌&&◌, not, if◌then◌else◌, unwrap_or, ◌==◌}
use Rattle.std.specs.List.{slice_get}
use Rattle.std.proofs.lemmas.Bool.{both_ways, cond-false, cond-true, eq-eqb, eqb-true, false≢true}
use Rattle.std.proofs.lemmas.Option.{same_Some}
use Rattle.elf_format.specs.declared.constants.TheConstants.{SHT_DYNAMIC, SHT_DYNSYM, SHT_GNU_HASH, SHT_GNU_VERDEF, SHT_GNU_VERNEED, SHT_GNU_VERSYM, SHT_HASH, SHT_NOBITS, SHT_NOTE, SHT_REL, SHT_RELA, SHT_STRTAB, SHT_SYMTAB}
use Rattle.elf_format.specs.declared.records.EntryNumbers.{EntryNumbers}
use Rattle.elf_format.specs.declared.section_data.SectionData.{SectionData}
use Rattle.elf_format.specs.declared.section_data.SectionData.TheVariants as kinds
use Rattle.elf_format.specs.File.{Parts}
use Rattle.elf_format.specs.Image.{Image, ImageSection}
use Rattle.elf_format.specs.Options.{is_one_of}
use Rattle.elf_format.specs.Places.{Place, occupies_file}
use Rattle.elf_format.specs.Records.{symbol_size, symbols_in}
use Rattle.elf_format.specs.Rules.{is_opaque_relocation}
use Rattle.elf_image.specs.Kept.{KeptSection, image_at_read, interpreter_number, is_numbered}
use Rattle.elf_layout_plan.specs.Memory.{Resized, SizedSection, sized_sections}
use Rattle.elf_layout_plan.specs.Needs.{written_needs}
use Rattle.elf_layout_plan.specs.Plan.{Plan, plan_for, resized}
use Rattle.elf_layout_plan.specs.Sizes.{definitions_size, dynamic_size, hash_size, interpreter_size, needs_size, new_size, new_sizes, strings_size, table_size}
use Rattle.elf_layout_plan.specs.Standing.{place_in, places}
use Rattle.elf_layout_plan.proofs.ForCallers.ApartLists.{at-map}
use Rattle.elf_layout_plan.proofs.ForCallers.ApartRead.{edited_facts}
use Rattle.elf_layout_plan.proofs.ForCallers.ApartSections.{at-sized, sized_of}
use Rattle.elf_layout_plan.proofs.ForCallers.PlacedLists.{slice_get-at}
use Rattle.elf_layout_plan.proofs.ForCallers.PlacedPlaces.{keeps_kind}
use Rattle.elf_write_spec.specs.Contents.{AreDefinitionsIn, AreNeedsIn, AreStaticSymbolsIn, AreSymbolsOf, AreVersionsIn, IsContent, IsContentOfKind, IsGabiContent, IsGnuContent}
use Rattle.elf_write_spec.specs.Final.{final}
use Rattle.elf_write_symbol_tables.specs.Made.{Made}
use Rattle.elf_write_contents.specs.ContentSteps.{IsBytesAt, IsRelocatedOf}
use Rattle.elf_write_symbol_tables.specs.WrittenStrings.{strings_at}
use Rattle.elf_write_contents.specs.Inner.{IsMadeContent, IsPlanned}
use Rattle.elf_write_spec.proofs.ForCallers.NumberedSections.{kept_as}
use Rattle.elf_write_spec.proofs.ForCallers.WholeEdits.{ReadFacts, SectionRead, section_read}
use Rattle.elf_write_spec.proofs.ForCallers.SectionKinds.{kind_by}

-- ## A section and its place

-- the image with its new sizes, and the one that was read
abbrev pub resized_with : Image → Image → Resized
resized_with read image = record { read = read; image = image; sizes = new_sizes read image }

-- a section that is there, with its place
pub record PlacedAt (read image : Image) (plan : Plan) (p : Parts) (i : ℕ) : Type 0 where
  pub here : SectionRead read image p i
  pub place : Place
  pub is_place : slice_get plan.places i ≡ Some place
  pub place_type : place.sh_type ≡ here.section.sh_type
  pub place_size : place.sh_size ≡ new_size read image (kept_as i here.number here.section)

pub placed_at : (read image : Image) (plan : Plan) → IsPlanned read image plan → (f : ReadFacts read image) → (i : ℕ)
    → i < length image.sections → PlacedAt read image plan f.parts i
unfolding plan_for places
placed_at read image plan is f i within =
    let at : SectionRead read image f.parts i = section_read read image f i within in
    let k : KeptSection = kept_as i at.number at.section in
    let r : Resized = resized image in
    let moved : List ℕ = is.planned.moved in
    let s : SizedSection = sized_of r k in
    let s_at : slice_get (sized_sections r) i ≡ Some s = at-sized r (edited_facts image is.ready.edited).sized i k at.is_kept in
    let all : plan.places ≡ map (place_in r moved) (sized_sections r) = ap (λ (l : Plan). l.places) is.planned.follows in
    let here : slice_get plan.places i ≡ Some (place_in r moved s) =
    ap (λ (l : List Place). slice_get l i) all ∙ at-map (place_in r moved) (sized_sections r) i s s_at in
    let keeps = keeps_kind r moved s (slice_get-at (sized_sections r) i s s_at) in
    record {
      here = at;
      place = place_in r moved s;
      is_place = here;
      place_type = keeps.type;
      place_size = keeps.size ∙ ap (λ (x : Image). new_size x image k) (sym is.ready.at_read);
    }

-- the bytes of a section, once they are those of its place
pub bytes_at : (read image : Image) (plan : Plan) (made : List Made) (raw : List EntryNumbers) (p : Parts) (i : ℕ) (bytes : List ℕ)
    → read ≡ image_at_read image → (at : PlacedAt read image plan p i)
    → IsMadeContent (resized_with read image) plan made raw (kept_as i at.here.number at.here.section) at.place bytes → IsBytesAt image plan made raw i bytes
bytes_at read image plan made raw p i bytes same at is = record {
  are = λ k place k_at place_at.
      subst (λ (x : Image). IsMadeContent (resized_with x image) plan made raw k place bytes) same
      (subst (λ (x : Place). IsMadeContent (resized_with read image) plan made raw k x bytes)
      (same_Some at.place place (sym at.is_place ∙ place_at))
      (subst (λ (x : KeptSection). IsMadeContent (resized_with read image) plan made raw x at.place bytes)
      (same_Some (kept_as i at.here.number at.here.section) k (sym at.here.is_kept ∙ k_at)) is));
}

-- ## Kinds

-- a kind of which the bytes are those that were read, but for the symbols that relocations name
abbrev pub is_plain : SectionData → Bool
is_plain kinds.Opaque = true
is_plain kinds.Uninitialized = true
is_plain kinds.Dynamic = false
is_plain kinds.Relocation = true
is_plain kinds.Note = true
is_plain kinds.Strings = false
is_plain kinds.Symbols = false
is_plain kinds.DynamicSymbols = false
is_plain kinds.Hash = false
is_plain kinds.GnuHash = false
is_plain kinds.GnuVersym = false
is_plain kinds.GnuVerdef = false
is_plain kinds.GnuVerneed = false

-- bytes of such a kind
pub content_plain : (r : Resized) (plan : Plan) (raw : List EntryNumbers) (strings : List ℕ) (s : KeptSection) (bytes : List ℕ) (kind : SectionData)
    → is_plain kind ≡ true → IsRelocatedOf r s.section bytes kind → IsContentOfKind r plan raw strings s bytes kind
content_plain r plan raw strings s bytes kinds.Opaque h is = is
content_plain r plan raw strings s bytes kinds.Uninitialized h is = is
content_plain r plan raw strings s bytes kinds.Dynamic h is = absurd (false≢true h)
content_plain r plan raw strings s bytes kinds.Relocation h is = is.1
content_plain r plan raw strings s bytes kinds.Note h is = is
content_plain r plan raw strings s bytes kinds.Strings h is = absurd (false≢true h)
content_plain r plan raw strings s bytes kinds.Symbols h is = absurd (false≢true h)
content_plain r plan raw strings s bytes kinds.DynamicSymbols h is = absurd (false≢true h)
content_plain r plan raw strings s bytes kinds.Hash h is = absurd (false≢true h)
content_plain r plan raw strings s bytes kinds.GnuHash h is = absurd (false≢true h)
content_plain r plan raw strings s bytes kinds.GnuVersym h is = absurd (false≢true h)
content_plain r plan raw strings s bytes kinds.GnuVerdef h is = absurd (false≢true h)
content_plain r plan raw strings s bytes kinds.GnuVerneed h is = absurd (false≢true h)

-- bytes of such a kind are as many as a size that both the bytes that were read and relocations have
pub plain_long : (r : Resized) (s : ImageSection) (bytes : List ℕ) (size : ℕ) (kind : SectionData) → is_plain kind ≡ true → IsRelocatedOf r s bytes kind
    → length s.content ≡ size → (kind ≡ kinds.Relocation → s.sh_size ≡ size) → length bytes ≡ size
plain_long r s bytes size kinds.Opaque h is long relocations = ap length is ∙ long
plain_long r s bytes size kinds.Uninitialized h is long relocations = ap length is ∙ long
plain_long r s bytes size kinds.Dynamic h is long relocations = absurd (false≢true h)
plain_long r s bytes size kinds.Relocation h is long relocations = is.0 ∙ relocations refl
plain_long r s bytes size kinds.Note h is long relocations = ap length is ∙ long
plain_long r s bytes size kinds.Strings h is long relocations = absurd (false≢true h)
plain_long r s bytes size kinds.Symbols h is long relocations = absurd (false≢true h)
plain_long r s bytes size kinds.DynamicSymbols h is long relocations = absurd (false≢true h)
plain_long r s bytes size kinds.Hash h is long relocations = absurd (false≢true h)
plain_long r s bytes size kinds.GnuHash h is long relocations = absurd (false≢true h)
plain_long r s bytes size kinds.GnuVersym h is long relocations = absurd (false≢true h)
plain_long r s bytes size kinds.GnuVerdef h is long relocations = absurd (false≢true h)
plain_long r s bytes size kinds.GnuVerneed h is long relocations = absurd (false≢true h)

-- the type is none of which the bytes are made, or of string tables and static symbols
pub record IsOther (n : ℕ) : Type 0 where
  pub dynamic : (n == SHT_DYNAMIC) ≡ false
  pub strings : (n == SHT_STRTAB) ≡ false
  pub static : (n == SHT_SYMTAB) ≡ false
  pub symbols : (n == SHT_DYNSYM) ≡ false
  pub gabi : (n == SHT_HASH) ≡ false
  pub gnu : (n == SHT_GNU_HASH) ≡ false
  pub versions : (n == SHT_GNU_VERSYM) ≡ false
  pub definitions : (n == SHT_GNU_VERDEF) ≡ false
  pub needs : (n == SHT_GNU_VERNEED) ≡ false

either : (b : Bool) (x y : SectionData) → is_plain x ≡ true → is_plain y ≡ true → is_plain (if b then x else y) ≡ true
either true x y h k = h
either false x y h k = k

other_one : (b : Bool) (x y : SectionData) → b ≡ false → is_plain y ≡ true → is_plain (if b then x else y) ≡ true
other_one true x y h k = absurd (false≢true (sym h))
other_one false x y h k = k

pub kind_plain : (n : ℕ) (opaque : Bool) → IsOther n → is_plain (kind_by n opaque) ≡ true
kind_plain n opaque is =
    either (n == SHT_NOBITS) kinds.Uninitialized _ refl
    (other_one (n == SHT_DYNAMIC) kinds.Dynamic _ is.dynamic
    (either (is_one_of (SHT_REL ∷ SHT_RELA ∷ []) n) (if opaque then kinds.Opaque else kinds.Relocation) _ (either opaque kinds.Opaque kinds.Relocation refl refl)
    (either (n == SHT_NOTE) kinds.Note _ refl
    (other_one (n == SHT_STRTAB) kinds.Strings _ is.strings
    (other_one (n == SHT_SYMTAB) kinds.Symbols _ is.static
    (other_one (n == SHT_DYNSYM) kinds.DynamicSymbols _ is.symbols
    (other_one (n == SHT_HASH) kinds.Hash _ is.gabi
    (other_one (n == SHT_GNU_HASH) kinds.GnuHash _ is.gnu
    (other_one (n == SHT_GNU_VERSYM) kinds.GnuVersym _ is.versions
    (other_one (n == SHT_GNU_VERDEF) kinds.GnuVerdef _ is.definitions
    (other_one (n == SHT_GNU_VERNEED) kinds.GnuVerneed kinds.Opaque is.needs refl)))))))))))

-- relocations have bytes in the file
pub relocations_stored : (n : ℕ) (opaque : Bool) → kind_by n opaque ≡ kinds.Relocation → (not (eqb n 0) && not (eqb n 8)) ≡ true
relocations_stored n opaque is = by_tests (eqb n 0) refl (eqb n 8) refl
  where
    to_true : SectionData → Bool
    to_true kinds.Opaque = true
    to_true kinds.Uninitialized = true
    to_true _ = false

    none : (k : SectionData) → to_true k ≡ true → k ≡ kinds.Relocation → ⊥
    none k told e = false≢true (ap to_true (sym e) ∙ told)

    by_tests : (a : Bool) → eqb n 0 ≡ a → (b : Bool) → eqb n 8 ≡ b → (not a && not b) ≡ true
    by_tests true a b b_is = absurd (none (kind_by 0 opaque) refl (ap (λ (m : ℕ). kind_by m opaque) (sym (eqb-true n 0 a)) ∙ is))
    by_tests false a true b = absurd (none (kind_by 8 opaque) refl (ap (λ (m : ℕ). kind_by m opaque) (sym (eqb-true n 8 b)) ∙ is))
    by_tests false a false b = refl

module _ (read image : Image) (plan : Plan) (made : List Made) (raw : List EntryNumbers) (p : Parts) (i : ℕ) (at : PlacedAt read image plan p i) where
  abbrev pub here : KeptSection
  here = kept_as i at.here.number at.here.section

  abbrev pub r : Resized
  r = resized_with read image

  old_type : at.here.old.sh_type ≡ at.here.section.sh_type
  old_type = sym (ap (λ (x : ImageSection). x.sh_type) at.here.of_old.fields)

  pub kind_is : (type : ℕ) → at.here.section.sh_type ≡ type → at.here.section.kind ≡ kind_by type (is_opaque_relocation p at.here.old)
  kind_is type e =
      ap (λ (x : ImageSection). x.kind) at.here.of_old.fields ∙ ap (λ (n : ℕ). kind_by n (is_opaque_relocation p at.here.old)) (old_type ∙ e)

  -- ## Sections but the interpreter's

  module _ (apart : is_numbered (interpreter_number read) (kept_as i at.here.number at.here.section) ≡ false) where
    -- by the kind
    pub content_from : (strings bytes : List ℕ) (kind : SectionData) → at.here.section.kind ≡ kind → IsContentOfKind r plan raw strings here bytes kind
        → IsContent r plan raw strings here bytes
    content_from strings bytes kind e h =
        subst (λ (b : Bool). elim b as (λ _. Type 0) [
          | true ↦ bytes ≡ unwrap_or image.interpreter at.here.section.content
          | _ ↦ IsContentOfKind r plan raw strings here bytes at.here.section.kind
        ]) (sym apart) (subst (IsContentOfKind r plan raw strings here bytes) (sym e) h)

    plain_size : at.place.sh_size ≡ table_size read image (kept_as i at.here.number at.here.section)
    unfolding new_size
    plain_size =
        at.place_size
        ∙ cond-false (is_numbered (interpreter_number read) (kept_as i at.here.number at.here.section)) (interpreter_size image at.here.section) _ apart

    -- of a type that decides the kind
    pub content_by : (strings bytes : List ℕ) (type : ℕ) → at.here.section.sh_type ≡ type → (kind : SectionData) → ((opaque : Bool) → kind_by type opaque ≡ kind)
        → IsContentOfKind r plan raw strings here bytes kind → IsContent r plan raw strings here bytes
    content_by strings bytes type e kind by_type h =
        content_from strings bytes kind (kind_is type e ∙ by_type (is_opaque_relocation p at.here.old)) h

    -- ## Sizes

    -- how large the section would be, were it of a type
    abbrev pub size_for : ℕ → ℕ
    size_for n =
        if n == SHT_DYNAMIC then dynamic_size read image at.here.section
        else if n == SHT_STRTAB then strings_size read image here
        else if n == SHT_SYMTAB then length image.symbols * symbol_size image.form
        else if n == SHT_DYNSYM then length image.dynamic_symbols * symbol_size image.form
        else if n == SHT_GNU_VERSYM then 2 * length image.dynamic_symbols
        else if n == SHT_GNU_VERDEF then definitions_size image.definitions
        else if n == SHT_GNU_VERNEED then needs_size (written_needs read image)
        else if n == SHT_HASH then hash_size read image at.here.section
        else if n == SHT_GNU_HASH then hash_size read image at.here.section
        else at.here.section.sh_size

    pub typed_size : (type : ℕ) → at.here.section.sh_type ≡ type → at.place.sh_size ≡ size_for type
    typed_size type e = plain_size ∙ ap (λ (n : ℕ). size_for n) e

    -- a type of which the bytes stand in the file
    pub stored : (type : ℕ) → at.here.section.sh_type ≡ type → (not (eqb type 0) && not (eqb type 8)) ≡ true
        → (if occupies_file at.place then at.place.sh_size else 0) ≡ at.place.sh_size
    stored type e h =
        cond-true (occupies_file at.place) at.place.sh_size 0 (ap (λ t. not (eqb t 0) && not (eqb t 8)) (at.place_type ∙ e) ∙ h)

    -- a section of another type is no string table
    pub no_strings : (type : ℕ) → at.here.section.sh_type ≡ type → (type == SHT_STRTAB) ≡ false → (bytes : List ℕ)
        → at.here.section.sh_type ≡ SHT_STRTAB → bytes ≡ strings_at image made at.here.number
    no_strings type e other bytes h = absurd (both_ways (type == SHT_STRTAB) other (eq-eqb type SHT_STRTAB (sym e ∙ h)))

    -- bytes of a type that is made anew, as many as the type's size
    pub typed : (bytes : List ℕ) (type : ℕ) → at.here.section.sh_type ≡ type → (not (eqb type 0) && not (eqb type 8)) ≡ true → (type == SHT_STRTAB) ≡ false
        → (kind : SectionData) → ((opaque : Bool) → kind_by type opaque ≡ kind) → length bytes ≡ size_for type
        → IsContentOfKind r plan raw (strings_at image made at.here.section.sh_link) here bytes kind
        → IsMadeContent r plan made raw here at.place bytes
    typed bytes type e in_file other kind by_type long h = record {
      sized = long ∙ sym (typed_size type e) ∙ sym (stored type e in_file);
      content = content_by (strings_at image made at.here.section.sh_link) bytes type e kind by_type h;
      strings = no_strings type e other bytes;
    }

    -- ## Tables that are made of the image's lists

    pub symbols_made : (bytes : List ℕ) → at.here.section.sh_type ≡ SHT_DYNSYM → length bytes ≡ length image.dynamic_symbols * symbol_size image.form
        → AreSymbolsOf (strings_at image made at.here.section.sh_link) (final read image).dynamic_symbols (symbols_in image.form bytes)
        → IsMadeContent r plan made raw here at.place bytes
    symbols_made bytes e long are = typed bytes SHT_DYNSYM e refl refl kinds.DynamicSymbols (λ opaque. refl) long are

    pub statics_made : (bytes : List ℕ) → at.here.section.sh_type ≡ SHT_SYMTAB → length bytes ≡ length image.symbols * symbol_size image.form
        → AreStaticSymbolsIn r here (strings_at image made at.here.section.sh_link) bytes
        → IsMadeContent r plan made raw here at.place bytes
    statics_made bytes e long are = typed bytes SHT_SYMTAB e refl refl kinds.Symbols (λ opaque. refl) long are

    pub definitions_made : (bytes : List ℕ) → at.here.section.sh_type ≡ SHT_GNU_VERDEF → length bytes ≡ definitions_size image.definitions
        → AreDefinitionsIn image (strings_at image made at.here.section.sh_link) bytes
        → IsMadeContent r plan made raw here at.place bytes
    definitions_made bytes e long are = typed bytes SHT_GNU_VERDEF e refl refl kinds.GnuVerdef (λ opaque. refl) long are

    pub needs_made : (bytes : List ℕ) → at.here.section.sh_type ≡ SHT_GNU_VERNEED → length bytes ≡ needs_size (written_needs read image)
        → AreNeedsIn r (strings_at image made at.here.section.sh_link) bytes
        → IsMadeContent r plan made raw here at.place bytes
    needs_made bytes e long are = typed bytes SHT_GNU_VERNEED e refl refl kinds.GnuVerneed (λ opaque. refl) long are

    -- ## Tables that number the dynamic symbols

    pub versions_made : (bytes : List ℕ) → at.here.section.sh_type ≡ SHT_GNU_VERSYM → length bytes ≡ 2 * length image.dynamic_symbols
        → AreVersionsIn r at.here.section bytes
        → IsMadeContent r plan made raw here at.place bytes
    versions_made bytes e long are = typed bytes SHT_GNU_VERSYM e refl refl kinds.GnuVersym (λ opaque. refl) long are

    pub gabi_made : (bytes : List ℕ) → at.here.section.sh_type ≡ SHT_HASH → length bytes ≡ hash_size read image at.here.section
        → IsGabiContent r at.here.section bytes
        → IsMadeContent r plan made raw here at.place bytes
    gabi_made bytes e long are = typed bytes SHT_HASH e refl refl kinds.Hash (λ opaque. refl) long are

    pub gnu_made : (bytes : List ℕ) → at.here.section.sh_type ≡ SHT_GNU_HASH → length bytes ≡ hash_size read image at.here.section
        → IsGnuContent r at.here.section bytes
        → IsMadeContent r plan made raw here at.place bytes
    gnu_made bytes e long are = typed bytes SHT_GNU_HASH e refl refl kinds.GnuHash (λ opaque. refl) long are
