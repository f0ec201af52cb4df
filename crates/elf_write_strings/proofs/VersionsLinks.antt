-- The one section of a type, and the string table that it links to.
use Rattle.std.proofs.Common.{◌≡◌, ℕ, zero, suc, ◌+◌, ◌<◌, ◌≤◌, Bool, true, false, cond, List, [], ◌∷◌, length, sym, ap, ◌∙◌, Option, Some, arith}
use Rattle.std.specs.Prelude.{◌&&◌, ◌==◌, count_by, find, nat_le}
use Rattle.std.specs.List.{list_all, slice_get}
use Rattle.std.proofs.lemmas.Bool.{and_parts, eq-eqb, leb-true}
use Rattle.std.proofs.lemmas.List.Sums.{sum_by-cons}
use Rattle.std.proofs.lemmas.Option.{none-some, same_Some, slice_get_within}
use Rattle.patch_bytes.specs.Memory.{◌>>=◌}
use Rattle.elf_format.specs.declared.records.SectionHeader.{SectionHeader}
use Rattle.elf_format.specs.File.{Parts, section_of_type}
use Rattle.elf_format.specs.Image.{Image, ImageSection}
use Rattle.elf_format.specs.Options.{is_one_of}
use Rattle.elf_format.specs.Rules.{MeetsRules, are_linked, are_whole, infos_are_sections, is_one_of_each, relocations_fit, single_section_types, symbols_have_sections}
use Rattle.elf_format.proofs.ForCallers.Placed.{IsIn-slice_get}
use Rattle.elf_image.specs.Kept.{link_of_type}
use Rattle.elf_image.specs.Needed.{lasting_types}
use Rattle.elf_write_spec.specs.Ready.{IsEditedReady, IsSectionOfType}
use Rattle.elf_write_strings.proofs.ReadTables.{link_by, ready_edit, same_link}
use Rattle.elf_write_spec.proofs.ForCallers.WholeEdits.{ReadFacts, SectionRead, read_facts, section_read, type_at}

-- ## One of a type

abbrev once : Bool → ℕ
once b = cond b 1 0

count_more : (b : Bool) (n : ℕ) → n ≤ once b + n
count_more true n = omega arith
count_more false n = omega arith

-- what passes a test is counted
counted : {A : Type 0} → (test : A → Bool) (xs : List A) (i : ℕ) (x : A) → slice_get xs i ≡ Some x → test x ≡ true → 1 ≤ count_by test xs
counted test [] i x at passes = absurd (none-some x at)
counted {A} test (y ∷ ys) zero x at passes =
    let here : test y ≡ true = ap test (same_Some y x at) ∙ passes in
    let count : count_by test (y ∷ ys) ≡ once (test y) + count_by test ys = sum_by-cons (λ (q : A). once (test q)) y ys in
    let one : once (test y) ≡ 1 = ap once here in
    omega (arith, count, one)
counted {A} test (y ∷ ys) (suc i) x at passes =
    let count : count_by test (y ∷ ys) ≡ once (test y) + count_by test ys = sum_by-cons (λ (q : A). once (test q)) y ys in
    let rest : 1 ≤ count_by test ys = counted test ys i x at passes in
    let more : count_by test ys ≤ once (test y) + count_by test ys = count_more (test y) (count_by test ys) in
    omega (arith, count, rest, more)

first_step : {A : Type 0} → (b : Bool) (y : A) (found : Option A) (n : ℕ) (x : A) → 1 ≤ n → once b + n ≤ 1 → (n ≤ 1 → found ≡ Some x)
    → cond b (Some y) found ≡ Some x
first_step true y found n x some few rest = absurd (omega arith)
first_step false y found n x some few rest = rest (omega arith)

-- where one element passes at most, a search finds it
only_one : {A : Type 0} → (test : A → Bool) (xs : List A) (i : ℕ) (x : A) → slice_get xs i ≡ Some x → test x ≡ true → count_by test xs ≤ 1
    → find test xs ≡ Some x
only_one test [] i x at passes few = absurd (none-some x at)
only_one {A} test (y ∷ ys) zero x at passes few =
    let same : y ≡ x = same_Some y x at in
    ap (λ (b : Bool). cond b (Some y) (find test ys)) (ap test same ∙ passes) ∙ ap (λ (z : A). Some z) same
only_one {A} test (y ∷ ys) (suc i) x at passes few =
    let count : count_by test (y ∷ ys) ≡ once (test y) + count_by test ys = sum_by-cons (λ (q : A). once (test q)) y ys in
    first_step (test y) y (find test ys) (count_by test ys) x (counted test ys i x at passes) (omega (arith, count, few))
    (only_one test ys i x at passes)

one_each : (p : Parts) → MeetsRules p → is_one_of_each p.segments p.sections ≡ true
one_each p rules =
    let a =
    and_parts (is_one_of_each p.segments p.sections && are_linked p.sections && are_whole p.opened.form p.sections && symbols_have_sections p && relocations_fit p)
    (infos_are_sections p) rules.linked in
    let b =
    and_parts (is_one_of_each p.segments p.sections && are_linked p.sections && are_whole p.opened.form p.sections && symbols_have_sections p)
    (relocations_fit p) a.0 in
    let c = and_parts (is_one_of_each p.segments p.sections && are_linked p.sections && are_whole p.opened.form p.sections) (symbols_have_sections p) b.0 in
    let d = and_parts (is_one_of_each p.segments p.sections && are_linked p.sections) (are_whole p.opened.form p.sections) c.0 in
    (and_parts (is_one_of_each p.segments p.sections) (are_linked p.sections) d.0).0

few_of_type : (p : Parts) → MeetsRules p → (i type : ℕ) → slice_get single_section_types i ≡ Some type
    → count_by (λ (s : SectionHeader). s.sh_type == type) p.sections ≤ 1
few_of_type p rules i type at =
    let all : list_all (λ (t : ℕ). nat_le (count_by (λ (s : SectionHeader). s.sh_type == t) p.sections) 1) single_section_types ≡ true =
    (and_parts _ _ (one_each p rules)).1 in
    leb-true _ _ ((IsIn-slice_get single_section_types i type at).passes
    (λ (t : ℕ). nat_le (count_by (λ (s : SectionHeader). s.sh_type == t) p.sections) 1) all)

-- the one section of a type, as it was read
pub record IsTheOne (image : Image) (p : Parts) (type : ℕ) (s : ImageSection) : Type 0 where
  pub old : SectionHeader
  pub is_old : section_of_type type p.sections ≡ Some old
  pub link : s.sh_link ≡ old.sh_link
  pub links : link_of_type type image ≡ Some s.sh_link

pub the_one : (read image : Image) → IsEditedReady read image → (f : ReadFacts read image) → (i type : ℕ) → slice_get single_section_types i ≡ Some type
    → is_one_of lasting_types type ≡ true → (s : ImageSection) → IsSectionOfType type image s → IsTheOne image f.parts type s
the_one read image is f i type single lasting s there =
    let within : there.position < length image.sections = slice_get_within image.sections there.position s there.there in
    let at : SectionRead read image f.parts there.position = section_read read image f there.position within in
    let same : at.section ≡ s = same_Some at.section s (sym at.is_section ∙ there.there) in
    let typed : at.old.sh_type ≡ type =
    sym (ap (λ (x : ImageSection). x.sh_type) at.of_old.fields) ∙ ap (λ (x : ImageSection). x.sh_type) same ∙ there.typed in
    let found : section_of_type type f.parts.sections ≡ Some at.old =
    only_one (λ (h : SectionHeader). h.sh_type == type) f.parts.sections at.number at.old at.is_old
    (eq-eqb at.old.sh_type type typed) (few_of_type f.parts f.rules i type single) in
    let link : s.sh_link ≡ at.old.sh_link =
    sym (ap (λ (x : ImageSection). x.sh_link) same) ∙ ap (λ (x : ImageSection). x.sh_link) at.of_old.fields in
    record {
      old = at.old;
      is_old = found;
      link = link;
      links = link_by read image f type (type_at read image f type lasting)
          ∙ ap (λ (o : Option SectionHeader). o >>= λ h. Some h.sh_link) found ∙ ap (λ (n : ℕ). Some n) (sym link);
    }

-- the one section of a type that is there and was read links there
pub links_there : (read image : Image) → IsEditedReady read image → (i type : ℕ) → slice_get single_section_types i ≡ Some type
    → is_one_of lasting_types type ≡ true → (s : ImageSection) → IsSectionOfType type image s → (number : ℕ) → number ≡ s.sh_link
    → link_of_type type image ≡ Some number
links_there read image is i type single lasting s there number same =
    (the_one read image is (read_facts read image (ready_edit is)) i type single lasting s there).links ∙ ap (λ (n : ℕ). Some n) (sym same)

pub links_read : (read image : Image) → IsEditedReady read image → (i type : ℕ) → slice_get single_section_types i ≡ Some type
    → is_one_of lasting_types type ≡ true → (s : ImageSection) → IsSectionOfType type image s → (number : ℕ) → number ≡ s.sh_link
    → link_of_type type read ≡ Some number
links_read read image is i type single lasting s there number same =
    sym (same_link is type lasting) ∙ links_there read image is i type single lasting s there number same
