-- Versions of symbols and their bytes: two tables of bytes that hold the same versions are one, and so a written one is as it was read
-- where the versions are.
use Rattle.std.proofs.Common.{◌≡◌, ℕ, zero, suc, ◌*◌, ◌/◌, ◌%◌, ◌<◌, ◌≤◌, Bool, true, false, List, [], ◌∷◌, ◌++◌, length, map, take, drop, eqb, refl, sym, ap, ◌∙◌, subst, Option, Some, None, arith}
use Rattle.std.specs.Prelude.{◌&&◌, ◌==◌, ◌^◌, if◌then◌else◌, nat_le, not}
use Rattle.std.specs.List.{slice_get}
use Rattle.std.proofs.lemmas.Bool.{and_parts, eqb-true, false≢true, leb-false, leb-true}
use Rattle.std.proofs.lemmas.List.{length-drop, length-map, length-take-le, take-append-drop, take_all}
use Rattle.std.proofs.lemmas.Option.{same_Some, slice_get-map, slice_get_within}
use Rattle.patch_bytes.specs.Bytes.{AreBytes}
use Rattle.patch_bytes.specs.Number.{number_at, value_of}
use Rattle.patch_bytes.specs.declared.number.Wide.{Wide}
use Rattle.patch_bytes.specs.declared.number.Wide.TheVariants.{W32, W64}
use Rattle.patch_bytes.proofs.NumberLaws.{AreBytes-drop, AreBytes-take, value_of-lt, value_of-same}
use Rattle.elf_format.specs.declared.constants.TheConstants.{SHT_DYNAMIC, SHT_DYNSYM, SHT_GNU_HASH, SHT_GNU_VERSYM, SHT_HASH, SHT_SYMTAB, VERSYM_HIDDEN}
use Rattle.elf_format.specs.declared.form.Form.{Form}
use Rattle.elf_format.specs.declared.records.SectionHeader.{SectionHeader}
use Rattle.elf_format.specs.declared.version_id.VersionId.{VersionId}
use Rattle.elf_format.specs.File.{Parts, section_bytes, section_of_type}
use Rattle.elf_format.specs.Form.{by_class, fixed_field, records}
use Rattle.elf_format.specs.Image.{Image, ImageSection, symbols_of, versions_read}
use Rattle.elf_format.specs.Options.{is_one_of}
use Rattle.elf_format.specs.Records.{entry_size, symbol_numbers, symbol_size}
use Rattle.elf_format.specs.Rules.{file_of, unit_of, version_symbols_agree}
use Rattle.elf_format.specs.Versions.{version_id}
use Rattle.elf_format.specs.Views.{NamedSymbol}
use Rattle.elf_format.proofs.ForCallers.Lengths.{length-records}
use Rattle.elf_format.proofs.ForCallers.Placed.{IsIn-slice_get, find_some}
use Rattle.elf_format.proofs.ForCallers.ViewsAgree.{length-bytes, test_at, there_and, version_symbols_right, whole_entries}
use Rattle.elf_hashes.specs.Versions.{AreVersionsOf}
use Rattle.elf_image.specs.Kept.{image_at_read}
use Rattle.elf_image.specs.ReadImage.{AreDynamicSymbols}
use Rattle.elf_layout_plan.specs.Plan.{resized}
use Rattle.elf_write_spec.specs.Contents.{AreVersionsIn}
use Rattle.elf_write_spec.specs.Final.{are_same_versions, are_versions_kept, final, is_same_version, versions_of_symbols}
use Rattle.elf_write_spec.proofs.LinkedSizes.{only_one}
use Rattle.elf_write_spec.proofs.RuleLinked.{read_linked}
use Rattle.elf_write_spec.proofs.WholeEdits.{IsWholeEdit, ReadFacts, read_facts, section_read}
use Rattle.elf_write_spec.proofs.WholeLists.{mapped_at, same_items}

-- ## Versions by their bytes

-- the number of a version
abbrev number_in : Form → List ℕ → ℕ
number_in form xs = number_at form.order 2 0 xs

id_number : (form : Form) (xs : List ℕ) → fixed_field form (0, 2) xs ≡ number_in form xs
id_number form xs = by_width form.wide
  where
    by_width : (wide : Wide) → (let place = by_class {A = ℕ × ℕ} wide (0, 2) (0, 2) in number_at form.order place.1 place.0 xs) ≡ number_in form xs
    by_width W32 = refl
    by_width W64 = refl

-- the lowest 15 bits of a version's number and the highest determine it
same_numbers : (n m : ℕ) → n < 65536 → m < 65536 → n % 32768 ≡ m % 32768 → nat_le 32768 n ≡ nat_le 32768 m → n ≡ m
same_numbers n m n_fits m_fits low high = by_tests (nat_le 32768 n) refl (nat_le 32768 m) refl high
  where
    by_tests : (a : Bool) → nat_le 32768 n ≡ a → (b : Bool) → nat_le 32768 m ≡ b → a ≡ b → n ≡ m
    by_tests true a true b same =
        let over_n : 32768 ≤ n = leb-true 32768 n a in
        let over_m : 32768 ≤ m = leb-true 32768 m b in
        omega arith
    by_tests false a false b same =
        let under_n : n < 32768 = leb-false 32768 n a in
        let under_m : m < 32768 = leb-false 32768 m b in
        omega arith
    by_tests true a false b same = absurd (false≢true (sym same))
    by_tests false a true b same = absurd (false≢true same)

same_pair : (form : Form) (xs ys : List ℕ) → AreBytes xs → AreBytes ys → length xs ≡ 2 → length ys ≡ 2
    → version_id form xs ≡ version_id form ys → xs ≡ ys
unfolding version_id number_at
same_pair form xs ys bx bt lx ly same =
    let whole_x : take 2 xs ≡ xs = take_all 2 xs (omega (arith, lx)) in
    let whole_y : take 2 ys ≡ ys = take_all 2 ys (omega (arith, ly)) in
    let nx : ℕ = value_of form.order xs in
    let ny : ℕ = value_of form.order ys in
    let is_x : fixed_field form (0, 2) xs ≡ nx = id_number form xs ∙ ap (value_of form.order) whole_x in
    let is_y : fixed_field form (0, 2) ys ≡ ny = id_number form ys ∙ ap (value_of form.order) whole_y in
    let fits_x : nx < 65536 = subst (λ (k : ℕ). nx < 256 ^ k) lx (value_of-lt form.order xs bx) in
    let fits_y : ny < 65536 = subst (λ (k : ℕ). ny < 256 ^ k) ly (value_of-lt form.order ys bt) in
    let low : nx % VERSYM_HIDDEN ≡ ny % VERSYM_HIDDEN =
    ap (λ (k : ℕ). k % VERSYM_HIDDEN) (sym is_x) ∙ ap (λ (v : VersionId). v.index) same ∙ ap (λ (k : ℕ). k % VERSYM_HIDDEN) is_y in
    let high : nat_le VERSYM_HIDDEN nx ≡ nat_le VERSYM_HIDDEN ny =
    ap (nat_le VERSYM_HIDDEN) (sym is_x) ∙ ap (λ (v : VersionId). v.hidden) same ∙ ap (nat_le VERSYM_HIDDEN) is_y in
    value_of-same form.order xs ys bx bt (lx ∙ sym ly) (same_numbers nx ny fits_x fits_y low high)

-- the entries of a section of versions have two bytes
unit_is : (form : Form) (old : SectionHeader) → old.sh_type ≡ SHT_GNU_VERSYM → unit_of form old ≡ 2
unit_is form old type = ap (λ (n : ℕ). unit_by n) type
  where
    unit_by : ℕ → ℕ
    unit_by n =
        if is_one_of (SHT_SYMTAB ∷ SHT_DYNSYM ∷ []) n then symbol_size form
        else if n == SHT_DYNAMIC then entry_size form
        else if n == SHT_GNU_VERSYM then 2
        else if n == SHT_GNU_HASH then 4
        else if n == SHT_HASH then (if old.sh_entsize == 8 then 8 else 4)
        else 1

-- tables of as many versions that are read alike are one
same_tables : (form : Form) (n : ℕ) (xs ys : List ℕ) → AreBytes xs → AreBytes ys → length xs ≡ 2 * n → length ys ≡ 2 * n
    → records (λ b. Some (version_id form b)) 2 n xs ≡ records (λ b. Some (version_id form b)) 2 n ys → xs ≡ ys
unfolding records
same_tables form zero xs ys bx bt lx ly same = no_bytes xs (omega (arith, lx)) ∙ sym (no_bytes ys (omega (arith, ly)))
  where
    no_bytes : (zs : List ℕ) → length zs ≡ 0 → zs ≡ []
    no_bytes [] none = refl
    no_bytes (z ∷ zs) none = absurd (omega (arith, none))
same_tables form (suc n) xs ys bx bt lx ly same =
    let first : Some (version_id form (take 2 xs)) ≡ Some (version_id form (take 2 ys)) =
    same_Some (Some (version_id form (take 2 xs))) (Some (version_id form (take 2 ys)))
    (ap (λ (l : List (Option VersionId)). slice_get l 0) same) in
    let rest = ap (λ (l : List (Option VersionId)). drop 1 l) same in
    let front : take 2 xs ≡ take 2 ys =
    same_pair form (take 2 xs) (take 2 ys) (AreBytes-take 2 xs bx) (AreBytes-take 2 ys bt)
    (length-take-le 2 xs (omega (arith, lx))) (length-take-le 2 ys (omega (arith, ly)))
    (same_Some (version_id form (take 2 xs)) (version_id form (take 2 ys)) first) in
    let behind : drop 2 xs ≡ drop 2 ys =
    same_tables form n (drop 2 xs) (drop 2 ys) (AreBytes-drop 2 xs bx) (AreBytes-drop 2 ys bt)
    (omega (arith, length-drop 2 xs, lx)) (omega (arith, length-drop 2 ys, ly)) rest in
    sym (take-append-drop 2 xs) ∙ ap (λ (l : List ℕ). l ++ drop 2 xs) front ∙ ap (λ (l : List ℕ). take 2 ys ++ l) behind
    ∙ take-append-drop 2 ys

-- what holds the same versions is the same
pub versions_determine : (form : Form) (ys zs : List NamedSymbol) (xs ts : List ℕ) → AreBytes xs → AreBytes ts
    → AreVersionsOf form ys xs → AreVersionsOf form zs ts → map (λ y. y.version) ys ≡ map (λ y. y.version) zs → xs ≡ ts
versions_determine form ys zs xs ts bx bt are_xs are_ts same =
    let long : length ys ≡ length zs =
    sym (length-map ys (λ (y : NamedSymbol). y.version)) ∙ ap (λ (l : List (Option VersionId)). length l) same
    ∙ length-map zs (λ (y : NamedSymbol). y.version) in
    same_tables form (length ys) xs ts bx bt are_xs.sized (are_ts.sized ∙ ap (λ (n : ℕ). 2 * n) (sym long))
    (are_xs.versions ∙ same ∙ sym are_ts.versions
    ∙ ap (λ (n : ℕ). records (λ b. Some (version_id form b)) 2 n ts) (sym long))

-- ## Versions that are the same

same_flag : (a b : Bool) → (if a then b else not b) ≡ true → a ≡ b
same_flag true true h = refl
same_flag true false h = absurd (false≢true h)
same_flag false true h = absurd (false≢true h)
same_flag false false h = refl

same_version : (u v : Option VersionId) → is_same_version u v ≡ true → u ≡ v
same_version None None h = refl
same_version None (Some v) h = absurd (false≢true h)
same_version (Some u) None h = absurd (false≢true h)
same_version (Some u) (Some v) h =
    let both = and_parts (u.index == v.index) (if u.hidden then v.hidden else not v.hidden) h in
    ap (λ (n : ℕ). Some (record u { index = n })) (eqb-true u.index v.index both.0)
    ∙ ap (λ (b : Bool). Some (record v { hidden = b })) (same_flag u.hidden v.hidden both.1)

pub same_versions : (us vs : List (Option VersionId)) → are_same_versions us vs ≡ true → us ≡ vs
same_versions [] [] h = refl
same_versions [] (v ∷ vs) h = absurd (false≢true h)
same_versions (u ∷ us) [] h = absurd (false≢true h)
same_versions (u ∷ us) (v ∷ vs) h =
    let both = and_parts (is_same_version u v) (are_same_versions us vs) h in
    ap (λ (x : Option VersionId). x ∷ us) (same_version u v both.0) ∙ ap (λ (l : List (Option VersionId)). v ∷ l) (same_versions us vs both.1)

-- ## What was read

twice : (n half : ℕ) → n % 2 ≡ 0 → n / 2 ≡ half → n ≡ 2 * half
twice n half even is = omega arith

module _ (read image : Image) (is : IsWholeEdit read image) (i : ℕ) (s : ImageSection) (at : slice_get image.sections i ≡ Some s)
    (type : s.sh_type ≡ SHT_GNU_VERSYM) where
  abbrev facts : ReadFacts read image
  facts = read_facts read image is

  abbrev p : Parts
  p = facts.parts

  -- the header that it was read from, and the one of the dynamic symbols, of which there are as many as versions
  record Counted : Type 0 where
    old : SectionHeader
    symbols : SectionHeader
    content : s.content ≡ section_bytes (file_of p) old
    long : length s.content ≡ old.sh_size
    even : old.sh_size % 2 ≡ 0
    is_found : section_of_type SHT_GNU_VERSYM p.sections ≡ Some old
    symbols_found : section_of_type SHT_DYNSYM p.sections ≡ Some symbols
    counted : old.sh_size / 2 ≡ length (symbols_of p symbols)

  counted : Counted
  counted =
      let here = section_read read image facts i (slice_get_within image.sections i s at) in
      let own : here.section ≡ s = same_Some here.section s (sym here.is_section ∙ at) in
      let old : SectionHeader = here.old in
      let old_type : old.sh_type ≡ SHT_GNU_VERSYM =
      ap (λ (x : ImageSection). x.sh_type) (sym here.of_old.fields ∙ own) ∙ type in
      let content : s.content ≡ section_bytes (file_of p) old = ap (λ (x : ImageSection). x.content) (sym own ∙ here.of_old.fields) in
      let found = only_one p (read_linked p facts.rules.linked).single SHT_GNU_VERSYM refl here.number old here.is_old old_type in
      let agreed : version_symbols_agree p old ≡ true =
      test_at (λ (x : SectionHeader). version_symbols_agree p x) (section_of_type SHT_GNU_VERSYM p.sections) old
      (version_symbols_right p facts.rules) found in
      let inside = IsIn-slice_get p.sections here.number old here.is_old in
      let test : SectionHeader → Bool = λ x. old.sh_size / 2 == x.sh_size / symbol_size p.opened.form in
      let (symbols, symbols_there, half) = there_and test (section_of_type SHT_DYNSYM p.sections) (and_parts _ _ agreed).0 in
      let (symbols_in, typed) = find_some (λ (x : SectionHeader). x.sh_type == SHT_DYNSYM) p.sections symbols symbols_there in
      let size : length (section_bytes (file_of p) symbols) ≡ symbols.sh_size =
      length-bytes p facts.rules symbols symbols_in (ap (λ t. not (eqb t 0) && not (eqb t 8)) (eqb-true symbols.sh_type SHT_DYNSYM typed)) in
      let many : length (symbols_of p symbols) ≡ symbols.sh_size / symbol_size p.opened.form =
      length-records (symbol_numbers p.opened.form) (symbol_size p.opened.form)
      (length (section_bytes (file_of p) symbols) / symbol_size p.opened.form) (section_bytes (file_of p) symbols)
      ∙ ap (λ (n : ℕ). n / symbol_size p.opened.form) size in
      record {
        old = old;
        symbols = symbols;
        content = content;
        long = ap length content ∙ length-bytes p facts.rules old inside (ap (λ t. not (eqb t 0) && not (eqb t 8)) old_type);
        even = ap (λ (n : ℕ). old.sh_size % n) (sym (unit_is p.opened.form old old_type)) ∙ whole_entries p facts.rules old inside;
        is_found = found;
        symbols_found = symbols_there;
        counted = eqb-true (old.sh_size / 2) (symbols.sh_size / symbol_size p.opened.form) half ∙ sym many;
      }

  -- the section's bytes held the versions of the symbols
  pub versions_were : AreVersionsOf image.form read.dynamic_symbols s.content
  unfolding versions_read
  versions_were =
      let c : Counted = counted in
      let ys : List NamedSymbol = read.dynamic_symbols in
      let form : Form = p.opened.form in
      let same_form : image.form ≡ form = facts.edit.form ∙ facts.holds.form in
      let are = subst (λ (o : Option SectionHeader). AreDynamicSymbols p (section_of_type SHT_GNU_VERSYM p.sections) o ys) c.symbols_found
      facts.holds.dynamic_symbols in
      let many : length (symbols_of p c.symbols) ≡ length ys = sym are.count in
      let half : c.old.sh_size / 2 ≡ length ys = c.counted ∙ many in
      let ids : List (Option VersionId) = records (λ b. Some (version_id form b)) 2 (length ys) (section_bytes (file_of p) c.old) in
      let held : ids ≡ map (λ (y : NamedSymbol). y.version) ys =
      same_items ids (map (λ (y : NamedSymbol). y.version) ys)
      (length-records (λ b. Some (version_id form b)) 2 (length ys) (section_bytes (file_of p) c.old)
      ∙ sym (length-map ys (λ (y : NamedSymbol). y.version)))
      (λ j x v x_at v_at.
      let (y, y_at, has_v) = mapped_at (λ (z : NamedSymbol). z.version) (slice_get ys j) v
      (sym (slice_get-map (λ (z : NamedSymbol). z.version) ys j) ∙ v_at) in
      let (n, version, _, version_at, is_y) = are.each j y y_at in
      let there : slice_get ids j ≡ Some version =
      ap (λ (k : ℕ). slice_get (records (λ b. Some (version_id form b)) 2 k (section_bytes (file_of p) c.old)) j) (sym many)
      ∙ ap (λ (o : Option SectionHeader). slice_get (versions_read p o (length (symbols_of p c.symbols))) j) (sym c.is_found)
      ∙ version_at in
      same_Some x version (sym x_at ∙ there) ∙ sym (ap (λ (z : NamedSymbol). z.version) is_y.fields) ∙ has_v) in
      record {
        sized = c.long ∙ twice c.old.sh_size (length ys) c.even half;
        versions = ap (λ (m : Form). records (λ b. Some (version_id m b)) 2 (length ys) s.content) same_form
            ∙ ap (records (λ b. Some (version_id form b)) 2 (length ys)) c.content ∙ held;
      }

  -- bytes that hold the final versions are as they were where no version changed
  pub versions_stay : AreBytes s.content → (bytes : List ℕ) → AreBytes bytes
      → AreVersionsOf image.form (final read image).dynamic_symbols bytes → AreVersionsIn (resized image) s bytes
  versions_stay content_bytes bytes are_bytes are = record {
    versions = ap_read (λ r. AreVersionsOf image.form (final r image).dynamic_symbols bytes) are;
    copied = λ kept.
        let same : versions_of_symbols read.dynamic_symbols ≡ versions_of_symbols (final read image).dynamic_symbols =
        same_versions (versions_of_symbols read.dynamic_symbols) (versions_of_symbols (final read image).dynamic_symbols)
        (ap (λ (r : Image). are_versions_kept r image) is.at_read ∙ kept) in
        versions_determine image.form (final read image).dynamic_symbols read.dynamic_symbols bytes s.content are_bytes content_bytes are
        versions_were (sym same);
  }
    where
      ap_read : (P : Image → Type 0) → P read → P (image_at_read image)
      ap_read P h = subst P is.at_read h
