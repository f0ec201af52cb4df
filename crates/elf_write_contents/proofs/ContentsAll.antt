-- The bytes of all sections, and of each by what its type asks for.
use Rattle.std.proofs.Common.{◌≡◌, ◌≢◌, ◌≤◌, ◌<◌, ℕ, zero, suc, ◌*◌, true, false, List, [], ◌∷◌, ◌++◌, length, map, refl, sym, ap, ◌∙◌, subst, inl, inr, Option, Some, None, Result, Ok, Err, get_or, arith}
use Rattle.std.specs.Prelude.{IfOk, IsTrue, ◌&&◌, option_map, slice_index, unwrap_or, ◌==◌}
use Rattle.std.specs.List.{list_all, slice_get}
use Rattle.std.proofs.lemmas.Bool.{cases_eq, ne_eqb}
use Rattle.std.proofs.lemmas.List.{length-map}
use Rattle.std.proofs.lemmas.Option.{get_or_from_slice_get, none-some, same_Some, slice_get-get_or, slice_get-map, slice_get_read, slice_get_within}
use Rattle.elf_format.specs.declared.constants.TheConstants.{SHT_DYNAMIC, SHT_DYNSYM, SHT_GNU_HASH, SHT_GNU_VERDEF, SHT_GNU_VERNEED, SHT_GNU_VERSYM, SHT_HASH, SHT_STRTAB, SHT_SYMTAB}
use Rattle.elf_format.specs.declared.records.EntryNumbers.{EntryNumbers}
use Rattle.elf_format.specs.Image.{Image, ImageSection}
use Rattle.elf_format.specs.Options.{is_some_and}
use Rattle.elf_format.specs.Places.{Place}
use Rattle.elf_format.specs.Records.{entry_size, symbol_size, symbols_in}
use Rattle.elf_image.specs.declared.section.Section.{Section}
use Rattle.elf_image.specs.ImageModel.{section_model}
use Rattle.elf_layout_plan.specs.declared.plan.SectionPlace.{SectionPlace}
use Rattle.elf_layout_plan.specs.PlanModel.{place_model}
use Rattle.elf_image.specs.Kept.{KeptSection, interpreter_number, kept_sections}
use Rattle.elf_layout_plan.specs.Memory.{Resized, sized_sections}
use Rattle.elf_layout_plan.specs.Plan.{Plan, plan_for, resized}
use Rattle.elf_layout_plan.specs.Needs.{written_needs}
use Rattle.elf_layout_plan.specs.Sizes.{definitions_size, hash_size, needs_size}
use Rattle.elf_layout_plan.specs.Standing.{place_in, places}
use Rattle.elf_layout_plan.specs.Texts.{is_table_copied}
use Rattle.elf_layout_plan.proofs.ForCallers.ApartRead.{edited_facts}
use Rattle.elf_layout_plan.proofs.ForCallers.ApartSections.{sized_of}
use Rattle.elf_write_spec.specs.Contents.{AreDefinitionsIn, AreNeedsIn, AreSymbolsOf, AreVersionsIn, IsGabiContent, IsGnuContent, spelled_list}
use Rattle.elf_write_spec.specs.Final.{are_symbols_kept, final}
use Rattle.elf_write_symbol_tables.specs.Made.{Made}
use Rattle.elf_write_contents.specs.ContentSteps.{AreBytesOf, IsBytesAt, IsNumbering, IsRelocated, made_or}
use Rattle.elf_write_symbol_tables.specs.WrittenStrings.{AreStrings, content_read, made_of, strings_at}
use Rattle.elf_write_spec.specs.Ready.{IsEditedReady}
use Rattle.elf_write_contents.specs.Inner.{AreContents, AreRaw, IsMadeContent, IsPlanned}
use Rattle.elf_write_spec.proofs.ForCallers.NumberedSections.{kept_as}
use Rattle.elf_write_spec.proofs.ForCallers.WholeEdits.{ReadFacts, length-kept, read_facts, section_read}
use Rattle.elf_write_symbol_tables.proofs.ForCallers.MadeShort.{all_at as fits_at}
use Rattle.elf_write_symbol_tables.proofs.ForCallers.ReadTables.{ready_edit}
use Rattle.elf_write_symbol_tables.proofs.ForCallers.TablesThere.{content_at}
use Rattle.elf_write_symbol_tables.specs.Fits.{do_numbers_fit_in, do_section_relocations_fit}
use Rattle.elf_write_contents.proofs.ContentsMade.{IsOther, PlacedAt, bytes_at, definitions_made, gabi_made, gnu_made, needs_made, placed_at, resized_with, statics_made, symbols_made, versions_made}
use Rattle.elf_write_contents.proofs.ContentsByType.{interpreter_made, list_made, others_made, room, strings_made}

-- ## Position by position

-- a plan has a place for each section
pub places_long : (read image : Image) (plan : Plan) → IsPlanned read image plan → length plan.places ≡ length image.sections
unfolding plan_for places
places_long read image plan is =
    let r : Resized = resized image in
    let places_are : plan.places ≡ map (place_in r is.planned.moved) (sized_sections r) = ap (λ (l : Plan). l.places) is.planned.follows in
    ap length places_are ∙ length-map (sized_sections r) (place_in r is.planned.moved)
    ∙ ap length (edited_facts image is.ready.edited).sized ∙ length-map (kept_sections image) (sized_of r)
    ∙ length-kept read image (read_facts read image (ready_edit is.ready))

-- what is known of each, and of one behind them
each_of_more : (P : ℕ → List ℕ → Type 0) (last : List ℕ) (cs : List (List ℕ)) → ((j : ℕ) (c : List ℕ) → slice_get cs j ≡ Some c → P j c)
    → P (length cs) last
    → (i : ℕ) (b : List ℕ) → slice_get (cs ++ last ∷ []) i ≡ Some b → P i b
each_of_more P last [] each is zero b at = subst (P 0) (same_Some last b at) is
each_of_more P last [] each is (suc i) b at = absurd (none-some b at)
each_of_more P last (c ∷ cs) each is zero b at = each 0 b at
each_of_more P last (c ∷ cs) each is (suc i) b at = each_of_more (λ j. P (suc j)) last cs (λ j. each (suc j)) is i b at

module _ (image : Image) (plan : Plan) (made : List Made) (raw : List EntryNumbers) where
  -- the bytes of one section more
  pub one_more : (contents now : List (List ℕ)) (bytes : List ℕ) → AreBytesOf image plan made raw contents
      → IsBytesAt image plan made raw (length contents) bytes → now ≡ contents ++ bytes ∷ [] → AreBytesOf image plan made raw now
  one_more contents now bytes are is grown = record {
    each = λ i b at. each_of_more (IsBytesAt image plan made raw) bytes contents are.each is i b
        (ap (λ (l : List (List ℕ)). slice_get l i) (sym grown) ∙ at);
  }

  -- the contents of all sections
  all_at : (r : Resized) (ks : List KeptSection) (ps : List Place) (cs : List (List ℕ)) → length ps ≡ length ks → length cs ≡ length ks
      → ((i : ℕ) (k : KeptSection) (p : Place) (c : List ℕ) → slice_get ks i ≡ Some k → slice_get ps i ≡ Some p → slice_get cs i ≡ Some c
      → IsMadeContent r plan made raw k p c)
      → AreContents r plan made raw ks ps cs
  all_at r [] [] [] p_long c_long each = tt
  all_at r [] (p ∷ ps) cs p_long c_long each = absurd (omega (arith, p_long))
  all_at r [] [] (c ∷ cs) p_long c_long each = absurd (omega (arith, c_long))
  all_at r (k ∷ ks) [] cs p_long c_long each = absurd (omega (arith, p_long))
  all_at r (k ∷ ks) (p ∷ ps) [] p_long c_long each = absurd (omega (arith, c_long))
  all_at r (k ∷ ks) (p ∷ ps) (c ∷ cs) p_long c_long each =
      (each 0 k p c refl refl refl, all_at r ks ps cs (omega (arith, p_long)) (omega (arith, c_long)) (λ i. each (suc i)))

  pub all_made : (read : Image) → IsPlanned read image plan → (contents : List (List ℕ)) → AreBytesOf image plan made raw contents
      → length contents ≡ length image.sections → AreContents (resized image) plan made raw (kept_sections image) plan.places contents
  all_made read is contents are long =
      let kept_long : length (kept_sections image) ≡ length image.sections =
      length-kept read image (read_facts read image (ready_edit is.ready)) in
      all_at (resized image) (kept_sections image) plan.places contents (places_long read image plan is ∙ sym kept_long) (long ∙ sym kept_long)
      (λ i k p c k_at p_at c_at. (are.each i c c_at).are k p k_at p_at)

-- ## What a program holds

-- as many sections are lent as the image has
pub long_held : (held : List Section) (sections : List ImageSection) → map section_model held ≡ sections → length sections ≡ length held
long_held held sections are = ap length (sym are) ∙ length-map held section_model

pub section_there : (held : List Section) (sections : List ImageSection) (i : ℕ) (x : Section) → map section_model held ≡ sections
    → i < length sections → x ≡ get_or held i x → slice_get sections i ≡ Some (section_model x)
section_there held sections i x are within is =
    let inside : i < length held = omega (arith, ap length (sym are), length-map held section_model) in
    ap (λ (l : List ImageSection). slice_get l i) (sym are) ∙ slice_get-map section_model held i
    ∙ ap (option_map section_model) (slice_get_read held (length held) i x refl inside is)

pub place_within : (held : List SectionPlace) (ps : List Place) (sections : List ImageSection) (i : ℕ) → map place_model held ≡ ps
    → length ps ≡ length sections → i < length sections → i < length held
place_within held ps sections i are long within = omega (arith, ap length (sym are), length-map held place_model)

pub place_there : (held : List SectionPlace) (ps : List Place) (i : ℕ) (d : SectionPlace) → map place_model held ≡ ps → i < length held
    → slice_get ps i ≡ Some (place_model (get_or held i d))
place_there held ps i d are within =
    ap (λ (l : List Place). slice_get l i) (sym are) ∙ slice_get-map place_model held i
    ∙ ap (option_map place_model) (slice_get-get_or held i d within)

-- two facts about an answer that isn't refused
pub both_ok : {T E : Type 0} (answer : Result T E) (P Q R : T → Type 0) → ((x : T) → P x → Q x → R x) → IfOk answer P → IfOk answer Q
    → IfOk answer R
both_ok (Ok x) P Q R both p q = both x p q
both_ok (Err e) P Q R both p q = p

-- three of them
pub three_ok : {T E : Type 0} (answer : Result T E) (P Q R S : T → Type 0) → ((x : T) → P x → Q x → R x → S x) → IfOk answer P → IfOk answer Q
    → IfOk answer R → IfOk answer S
three_ok (Ok x) P Q R S all p q r = all x p q r
three_ok (Err e) P Q R S all p q r = p

-- ## By type

-- the type is none of tables that are made of the image's lists, or of string tables
pub record HasNoTable (n : ℕ) : Type 0 where
  pub dynamic : n ≢ SHT_DYNAMIC
  pub strings : n ≢ SHT_STRTAB
  pub static : n ≢ SHT_SYMTAB
  pub symbols : n ≢ SHT_DYNSYM
  pub definitions : n ≢ SHT_GNU_VERDEF
  pub needs : n ≢ SHT_GNU_VERNEED

-- the new numbers of symbols fit the relocations of each section
pub numbers_fit : (read image : Image) → IsEditedReady read image → list_all (do_section_relocations_fit read image) (kept_sections image) ≡ true
    → (i : ℕ) (s : ImageSection) → slice_get image.sections i ≡ Some s → do_numbers_fit_in read image s ≡ true
numbers_fit read image is all i s s_at =
    let at = section_read read image (read_facts read image (ready_edit is)) i (slice_get_within image.sections i s s_at) in
    ap (do_numbers_fit_in read image) (same_Some s at.section (sym s_at ∙ at.is_section))
    ∙ fits_at (do_section_relocations_fit read image) (kept_sections image) i (kept_as i at.number at.section) all at.is_kept

module _ (read image : Image) (plan : Plan) (made : List Made) (raw : List EntryNumbers) (is : IsPlanned read image plan) (i : ℕ)
    (s : ImageSection) (s_at : slice_get image.sections i ≡ Some s) where
  -- the section with its place
  abbrev facts : ReadFacts read image
  facts = read_facts read image (ready_edit is.ready)

  place : PlacedAt read image plan facts.parts i
  place = placed_at read image plan is facts i (slice_get_within image.sections i s s_at)

  same : place.here.section ≡ s
  same = same_Some place.here.section s (sym place.here.is_section ∙ s_at)

  -- the section's number at read
  abbrev n : ℕ
  n = place.here.number

  number_is : slice_index image.section_numbers i ≡ place.here.number
  number_is = get_or_from_slice_get image.section_numbers i place.here.number 0 place.here.is_number

  of_type : (type : ℕ) → s.sh_type ≡ type → place.here.section.sh_type ≡ type
  of_type type e = ap (λ (x : ImageSection). x.sh_type) same ∙ e

  all_at_place : (bytes : List ℕ) → IsMadeContent (resized_with read image) plan made raw (kept_as i place.here.number place.here.section) place.place bytes
      → IsBytesAt image plan made raw i bytes
  all_at_place bytes h = bytes_at read image plan made raw facts.parts i bytes is.ready.at_read place h

  module _ (other : is_some_and (λ n. n == slice_index image.section_numbers i) (interpreter_number read) ≡ false) where
    apart : is_some_and (λ n. n == place.here.number) (interpreter_number read) ≡ false
    apart = ap (λ (k : ℕ). is_some_and (λ n. n == k) (interpreter_number read)) (sym number_is) ∙ other

    -- ## Tables that number the dynamic symbols

    versions_at : s.sh_type ≡ SHT_GNU_VERSYM → (bytes : List ℕ) → length bytes ≡ 2 * length image.dynamic_symbols
        → AreVersionsIn (resized image) s bytes → IsBytesAt image plan made raw i bytes
    versions_at e bytes long are =
        all_at_place bytes (versions_made read image plan made raw facts.parts i place apart bytes (of_type SHT_GNU_VERSYM e) long
        (subst (λ (x : ImageSection). AreVersionsIn (resized_with read image) x bytes) (sym same)
        (subst (λ (x : Image). AreVersionsIn (resized_with x image) s bytes) (sym is.ready.at_read) are)))

    gabi_at : s.sh_type ≡ SHT_HASH → (bytes : List ℕ) → length bytes ≡ hash_size read image s
        → IsGabiContent (resized image) s bytes → IsBytesAt image plan made raw i bytes
    gabi_at e bytes long are =
        all_at_place bytes (gabi_made read image plan made raw facts.parts i place apart bytes (of_type SHT_HASH e)
        (long ∙ ap (hash_size read image) (sym same))
        (subst (λ (x : ImageSection). IsGabiContent (resized_with read image) x bytes) (sym same)
        (subst (λ (x : Image). IsGabiContent (resized_with x image) s bytes) (sym is.ready.at_read) are)))

    gnu_at : s.sh_type ≡ SHT_GNU_HASH → (bytes : List ℕ) → length bytes ≡ hash_size read image s
        → IsGnuContent (resized image) s bytes → IsBytesAt image plan made raw i bytes
    gnu_at e bytes long are =
        all_at_place bytes (gnu_made read image plan made raw facts.parts i place apart bytes (of_type SHT_GNU_HASH e)
        (long ∙ ap (hash_size read image) (sym same))
        (subst (λ (x : ImageSection). IsGnuContent (resized_with read image) x bytes) (sym same)
        (subst (λ (x : Image). IsGnuContent (resized_with x image) s bytes) (sym is.ready.at_read) are)))

    others_at : IsOther s.sh_type → (bytes : List ℕ) → IsRelocated (resized image) s bytes → IsBytesAt image plan made raw i bytes
    others_at other bytes are =
        all_at_place bytes (others_made read image plan made raw is.ready facts i place apart
        (subst (λ (x : ImageSection). IsOther x.sh_type) (sym same) other) bytes
        (subst (λ (x : ImageSection). IsRelocated (resized_with read image) x bytes) (sym same)
        (subst (λ (x : Image). IsRelocated (resized_with x image) s bytes) (sym is.ready.at_read) are)))

    -- a section that numbers dynamic symbols, and is as it was read
    pub numbering_at : HasNoTable s.sh_type → (bytes : List ℕ) → IsNumbering read image s bytes → IsBytesAt image plan made raw i bytes
    numbering_at none bytes numbers = elim (cases_eq s.sh_type SHT_GNU_VERSYM) [
      | inl e ↦ versions_at e bytes (numbers.versions e).0 (numbers.versions e).1
      | inr versions ↦ elim (cases_eq s.sh_type SHT_HASH) [
        | inl e ↦ gabi_at e bytes (numbers.gabi e).0 (numbers.gabi e).1
        | inr gabi ↦ elim (cases_eq s.sh_type SHT_GNU_HASH) [
          | inl e ↦ gnu_at e bytes (numbers.gnu e).0 (numbers.gnu e).1
          | inr gnu ↦ others_at (record {
            dynamic = ne_eqb s.sh_type SHT_DYNAMIC none.dynamic;
            strings = ne_eqb s.sh_type SHT_STRTAB none.strings;
            static = ne_eqb s.sh_type SHT_SYMTAB none.static;
            symbols = ne_eqb s.sh_type SHT_DYNSYM none.symbols;
            gabi = ne_eqb s.sh_type SHT_HASH gabi;
            gnu = ne_eqb s.sh_type SHT_GNU_HASH gnu;
            versions = ne_eqb s.sh_type SHT_GNU_VERSYM versions;
            definitions = ne_eqb s.sh_type SHT_GNU_VERDEF none.definitions;
            needs = ne_eqb s.sh_type SHT_GNU_VERNEED none.needs;
          }) bytes (numbers.others versions gabi gnu)
        ]
      ]
    ]

    -- ## Tables that are made of the image's lists

    pub strings_at_place : AreStrings read image made → s.sh_type ≡ SHT_STRTAB
        → IsBytesAt image plan made raw i (made_or made (slice_index image.section_numbers i) s.content)
    strings_at_place strings e =
        subst (λ (k : ℕ). IsBytesAt image plan made raw i (made_or made k s.content)) (sym number_is)
        (subst (λ (bytes : List ℕ). IsBytesAt image plan made raw i bytes) (by_made (made_of made n))
        (all_at_place (strings_at image made n) (strings_made read image plan made raw is.ready facts i place apart (of_type SHT_STRTAB e) strings)))
      where
        by_made : (o : Option Made) → (elim o as (λ _. List ℕ) [ Some m ↦ m.table.bytes | None ↦ content_read image n ])
            ≡ (elim o as (λ _. List ℕ) [ Some m ↦ m.table.bytes | None ↦ s.content ])
        by_made None = content_at read image facts i place.here ∙ ap (λ (x : ImageSection). x.content) same
        by_made (Some m) = refl

    pub static_at : s.sh_type ≡ SHT_SYMTAB → (bytes : List ℕ) → length bytes ≡ length image.symbols * symbol_size image.form
        → AreSymbolsOf (strings_at image made s.sh_link) (final read image).symbols (symbols_in image.form bytes)
        → (IsTrue (are_symbols_kept read image && is_table_copied read image s.sh_link) → bytes ≡ s.content)
        → IsBytesAt image plan made raw i bytes
    static_at e bytes long are copied =
        all_at_place bytes (statics_made read image plan made raw facts.parts i place apart bytes (of_type SHT_SYMTAB e) long
        (record {
          symbols = subst (λ (x : ImageSection). AreSymbolsOf (strings_at image made x.sh_link) (final read image).symbols
              (symbols_in image.form bytes)) (sym same) are;
          copied = subst (λ (x : ImageSection). IsTrue (are_symbols_kept read image && is_table_copied read image x.sh_link) → bytes ≡ x.content)
              (sym same) copied;
        }))

    pub symbols_at : s.sh_type ≡ SHT_DYNSYM → (bytes : List ℕ) → length bytes ≡ length image.dynamic_symbols * symbol_size image.form
        → AreSymbolsOf (strings_at image made s.sh_link) (final read image).dynamic_symbols (symbols_in image.form bytes)
        → IsBytesAt image plan made raw i bytes
    symbols_at e bytes long are =
        all_at_place bytes (symbols_made read image plan made raw facts.parts i place apart bytes (of_type SHT_DYNSYM e) long
        (subst (λ (x : ImageSection). AreSymbolsOf (strings_at image made x.sh_link) (final read image).dynamic_symbols
        (symbols_in image.form bytes)) (sym same) are))

    pub definitions_at : s.sh_type ≡ SHT_GNU_VERDEF → (bytes : List ℕ) → length bytes ≡ definitions_size image.definitions
        → AreDefinitionsIn image (strings_at image made s.sh_link) bytes → IsBytesAt image plan made raw i bytes
    definitions_at e bytes long are =
        all_at_place bytes (definitions_made read image plan made raw facts.parts i place apart bytes (of_type SHT_GNU_VERDEF e) long
        (subst (λ (x : ImageSection). AreDefinitionsIn image (strings_at image made x.sh_link) bytes) (sym same) are))

    pub needs_at : s.sh_type ≡ SHT_GNU_VERNEED → (bytes : List ℕ) → length bytes ≡ needs_size (written_needs read image)
        → AreNeedsIn (resized image) (strings_at image made s.sh_link) bytes → IsBytesAt image plan made raw i bytes
    needs_at e bytes long are =
        all_at_place bytes (needs_made read image plan made raw facts.parts i place apart bytes (of_type SHT_GNU_VERNEED e) long
        (subst (λ (x : ImageSection). AreNeedsIn (resized_with read image) (strings_at image made x.sh_link) bytes) (sym same)
        (subst (λ (x : Image). AreNeedsIn (resized_with x image) (strings_at image made s.sh_link) bytes) (sym is.ready.at_read) are)))

    module _ (are : AreRaw (resized image) plan made raw) (e : s.sh_type ≡ SHT_DYNAMIC) (p : Place) (p_at : slice_get plan.places i ≡ Some p) where
      place_same : place.place ≡ p
      place_same = same_Some place.place p (sym place.is_place ∙ p_at)

      -- the list fits its place
      pub list_fits : length raw * entry_size image.form ≤ p.sh_size
      list_fits =
          subst (λ (x : Place). length raw * entry_size image.form ≤ x.sh_size) place_same
          (room read image plan made raw is.ready facts are i place apart (of_type SHT_DYNAMIC e))

      pub list_at_place : IsBytesAt image plan made raw i (spelled_list image.form raw p.sh_size)
      list_at_place =
          subst (λ (x : Place). IsBytesAt image plan made raw i (spelled_list image.form raw x.sh_size)) place_same
          (all_at_place (spelled_list image.form raw place.place.sh_size)
          (list_made read image plan made raw is.ready facts are i place apart (of_type SHT_DYNAMIC e)))

-- the interpreter's
pub interpreter_at : (read image : Image) (plan : Plan) (made : List Made) (raw : List EntryNumbers) → IsPlanned read image plan → (i : ℕ)
    → (s : ImageSection) → slice_get image.sections i ≡ Some s
    → is_some_and (λ n. n == slice_index image.section_numbers i) (interpreter_number read) ≡ true
    → IsBytesAt image plan made raw i (unwrap_or image.interpreter s.content)
interpreter_at read image plan made raw is i s s_at own =
    let facts : ReadFacts read image = read_facts read image (ready_edit is.ready) in
    let place : PlacedAt read image plan facts.parts i = placed_at read image plan is facts i (slice_get_within image.sections i s s_at) in
    let same : place.here.section ≡ s = same_Some place.here.section s (sym place.here.is_section ∙ s_at) in
    let number : slice_index image.section_numbers i ≡ place.here.number =
    get_or_from_slice_get image.section_numbers i place.here.number 0 place.here.is_number in
    subst (λ (x : ImageSection). IsBytesAt image plan made raw i (unwrap_or image.interpreter x.content)) same
    (bytes_at read image plan made raw facts.parts i (unwrap_or image.interpreter place.here.section.content) is.ready.at_read place
    (interpreter_made read image plan made raw facts i place
    (ap (λ (k : ℕ). is_some_and (λ n. n == k) (interpreter_number read)) (sym number) ∙ own)))
