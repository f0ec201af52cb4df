-- What is known of a file that every rule accepts.
use Rattle.std.proofs.Common.{◌≡◌, ℕ, Bool, true, false, List, [], ◌∷◌, refl, sym, ap, ◌∙◌, subst, Option, Some, None, Result, Ok, Err, ◌+◌, ◌≤◌, leb, length, arith}
use Rattle.std.specs.Prelude.{is_some}
use Rattle.std.proofs.lemmas.Bool.{le-leb, leb-true}
use Rattle.patch_bytes.specs.declared.number.Wide.{Wide}
use Rattle.patch_bytes.specs.declared.number.Wide.TheVariants.{W32, W64}
use Rattle.patch_bytes.specs.Number.{field}
use Rattle.std.proofs.lemmas.Option.{cond_some, none-some, same_Some}
use Rattle.patch_bytes.proofs.MemoryLaws.{bind_some}
use Rattle.patch_bytes.specs.Memory.{◌>>=◌ as ◌>>?◌}
use Rattle.elf_format.specs.declared.fault.ElfFault.{ElfFault}
use Rattle.elf_format.specs.declared.fault.ElfFault.TheVariants.{Truncated, Unsupported}
use Rattle.elf_format.specs.File.{Opened, Parts, bytes_in, form_of, opened_of, parts_of, sections_of, segments_of}
use Rattle.elf_format.specs.Form.{Form, by_class}
use Rattle.elf_format.specs.Records.{SectionHeader, SegmentHeader, file_header, file_header_size}
use Rattle.elf_format.specs.Rules.{AcceptedFilesMeetTheRules, ArePartsOf, IsAcceptedWith, MeetsRules, Rule, accepted_parts, checked, fault_of, has_magic, identification_rules, is_file_kind, placement_rules, rule, table_rules, there_or, ◌>>=◌}

-- ## Results

no_ok : {A : Type 0} → (e : ElfFault) (y : A) → Err e ≡ Ok y → ⊥
no_ok e y h = cc

same_Ok : {A : Type 0} → (x y : A) → ◌≡◌ {A = Result A ElfFault} (Ok x) (Ok y) → x ≡ y
same_Ok x y h = cc

bind_ok : {A B : Type 0} → (r : Result A ElfFault) (f : A → Result B ElfFault) (y : B) → (r >>= f) ≡ Ok y → (x : A) × (r ≡ Ok x) × (f x ≡ Ok y)
bind_ok (Ok x) f y h = (x, refl, h)
bind_ok (Err e) f y h = absurd (no_ok e y h)

there : {A : Type 0} → (fault : ElfFault) (o : Option A) (x : A) → there_or fault o ≡ Ok x → o ≡ Some x
there fault (Some y) x h = ap Some (same_Ok y x h)
there fault None x h = absurd (no_ok fault x h)

-- what a list of rules tells of a value that passes
checked_by : {A : Type 0} → (r : Rule A) (rs : List (Rule A)) (x : A) → Bool → Result A ElfFault
checked_by r rs x b = elim b [ true ↦ checked rs x | _ ↦ Err r.fault ]

passed_by : {A : Type 0} → (r : Rule A) (rs : List (Rule A)) (x y : A) (b : Bool) → r.holds x ≡ b → checked_by r rs x b ≡ Ok y → (r.holds x ≡ true) × (checked rs x ≡ Ok y)
unfolding checked_by
passed_by r rs x y true e h = (e, h)
passed_by r rs x y false e h = absurd (no_ok r.fault y h)

passed : {A : Type 0} → (r : Rule A) (rs : List (Rule A)) (x y : A) → checked (r ∷ rs) x ≡ Ok y → (r.holds x ≡ true) × (checked rs x ≡ Ok y)
unfolding checked checked_by
passed r rs x y h = passed_by r rs x y (r.holds x) refl h

-- rules change nothing
unchanged_by : {A : Type 0} → (r : Rule A) (rs : List (Rule A)) (x y : A) → (checked rs x ≡ Ok y → x ≡ y) → (b : Bool) → checked_by r rs x b ≡ Ok y → x ≡ y
unfolding checked_by
unchanged_by r rs x y more true h = more h
unchanged_by r rs x y more false h = absurd (no_ok r.fault y h)

unchanged : {A : Type 0} → (rs : List (Rule A)) (x y : A) → checked rs x ≡ Ok y → x ≡ y
unfolding checked checked_by
unchanged [] x y h = same_Ok x y h
unchanged (r ∷ rs) x y h = unchanged_by r rs x y (unchanged rs x y) (r.holds x) h

-- ## The parts

no_fault_by : (r : Result Parts ElfFault) → (elim r as (λ _. Option ElfFault) [ Ok _ ↦ None | Err fault ↦ Some fault ]) ≡ None → (p : Parts) × (r ≡ Ok p)
no_fault_by (Ok p) h = (p, refl)
no_fault_by (Err e) h = absurd (none-some e (sym h))

-- a file without a fault has parts
pub no_fault : (file : List ℕ) → fault_of file ≡ None → (p : Parts) × (accepted_parts file ≡ Ok p)
unfolding fault_of
no_fault file h = no_fault_by (accepted_parts file) h

-- what an opened file keeps
opened_file : (file : List ℕ) (o : Opened) → opened_of file ≡ Some o → o.file ≡ file
unfolding opened_of
opened_file file o h =
    let made : Form → List ℕ → Option Opened = λ form bytes. Some (record { file = file; form = form; header = file_header form bytes }) in
    let (form, _, rest) = bind_some (form_of file) (λ f. bytes_in file 0 (file_header_size f) >>? made f) o h in
    let (bytes, _, last) = bind_some (bytes_in file 0 (file_header_size form)) (made form) o rest in
    ap (λ q. q.file) (sym (same_Some (record { file = file; form = form; header = file_header form bytes }) o last))

-- what the parts are made of
parts_made : (o : Opened) (p : Parts) → parts_of o ≡ Some p → (p.opened ≡ o) × (segments_of o ≡ Some p.segments) × (sections_of o ≡ Some p.sections)
unfolding parts_of
parts_made o p h =
    let made : List SegmentHeader → List SectionHeader → Parts = λ segments sections. record { opened = o; segments = segments; sections = sections } in
    let (segments, segments_there, rest) = bind_some (segments_of o) (λ ps. sections_of o >>? (λ ss. Some (made ps ss))) p h in
    let (sections, sections_there, last) = bind_some (sections_of o) (λ ss. Some (made segments ss)) p rest in
    let same : made segments sections ≡ p = same_Some (made segments sections) p last in
    (ap (λ q. q.opened) (sym same), segments_there ∙ ap (λ q. Some q.segments) same, sections_there ∙ ap (λ q. Some q.sections) same)

-- parts that pass the rules are those of the file
met : (file : List ℕ) (p : Parts) (o : Opened) (q q' : Parts) → opened_of file ≡ Some o → is_file_kind o ≡ true → parts_of o ≡ Some q → checked placement_rules q ≡ Ok q' → checked table_rules q ≡ Ok p
    → ArePartsOf file p × MeetsRules p
met file p o q q' o_there kind q_there placed tabled =
    let P : Parts → Type 0 = λ r. ArePartsOf file r × MeetsRules r in
    let made = parts_made o q q_there in
    let (in_file, placed1) = passed _ _ q q' placed in
    let (fit, placed2) = passed _ _ q q' placed1 in
    let (segments, placed3) = passed _ _ q q' placed2 in
    let (loaded, placed4) = passed _ _ q q' placed3 in
    let (clear, _) = passed _ _ q q' placed4 in
    let (linked, tabled1) = passed _ _ q p tabled in
    let (dynamic, tabled2) = passed _ _ q p tabled1 in
    let (interpreter, tabled3) = passed _ _ q p tabled2 in
    let (tables, tabled4) = passed _ _ q p tabled3 in
    let (texts, tabled5) = passed _ _ q p tabled4 in
    let (versions, tabled6) = passed _ _ q p tabled5 in
    let (header_table, _) = passed _ _ q p tabled6 in
    subst P (unchanged table_rules q p tabled) (
      record {
        opened = o_there ∙ ap Some (sym made.0);
        segments = ap segments_of made.0 ∙ made.1;
        sections = ap sections_of made.0 ∙ made.2;
        same_file = ap (λ r. r.file) made.0 ∙ opened_file file o o_there;
      },
      record {
        file_kind = ap is_file_kind made.0 ∙ kind;
        in_file = in_file;
        fit = fit;
        segments = segments;
        loaded = loaded;
        clear = clear;
        linked = linked;
        dynamic = dynamic;
        interpreter = interpreter;
        tables = tables;
        texts = texts;
        versions = versions;
        header_table = header_table;
      },
    )

-- the parts of an accepted file are its own, and meet each rule
pub accepted : (file : List ℕ) (p : Parts) → accepted_parts file ≡ Ok p → ArePartsOf file p × MeetsRules p
unfolding accepted_parts
accepted file p h =
    let placing : Parts → Result Parts ElfFault = λ q. checked placement_rules q >>= (λ _. checked table_rules q) in
    let opening : Opened → Result Parts ElfFault = λ o. checked (rule is_file_kind Unsupported ∷ []) o >>= (λ _. there_or Truncated (parts_of o) >>= placing) in
    let (_, _, from_open) = bind_ok (checked identification_rules file) (λ _. there_or Truncated (opened_of file) >>= opening) p h in
    let (o, o_there, from_kind) = bind_ok (there_or Truncated (opened_of file)) opening p from_open in
    let (_, kind_passed, from_parts) = bind_ok (checked (rule is_file_kind Unsupported ∷ []) o) (λ _. there_or Truncated (parts_of o) >>= placing) p from_kind in
    let (q, q_there, from_place) = bind_ok (there_or Truncated (parts_of o)) placing p from_parts in
    let (q', placed, from_tables) = bind_ok (checked placement_rules q) (λ _. checked table_rules q) p from_place in
    met file p o q q' (there Truncated (opened_of file) o o_there) (passed (rule is_file_kind Unsupported) [] o _ kind_passed).0
    (there Truncated (parts_of o) q q_there) placed from_tables

-- ## What the rules hold of is accepted

passed_all : {A : Type 0} → (x : A) → checked [] x ≡ Ok x
unfolding checked
passed_all x = refl

-- an accepted file begins as ELF files do
magic_of : (file : List ℕ) (p : Parts) → accepted_parts file ≡ Ok p → has_magic file ≡ true
unfolding accepted_parts
magic_of file p h =
    let (checked_file, there_checked, _) = bind_ok (checked identification_rules file) _ p h in
    let (_, rest) = passed _ _ file checked_file there_checked in
    (passed _ _ file checked_file rest).0

passes : {A : Type 0} → (r : Rule A) (rs : List (Rule A)) (x : A) → r.holds x ≡ true → checked (r ∷ rs) x ≡ checked rs x
unfolding checked checked_by
passes r rs x h = ap (checked_by r rs x) h

ok_bind : {A B : Type 0} → (r : Result A ElfFault) (f : A → Result B ElfFault) (x : A) → r ≡ Ok x → (r >>= f) ≡ f x
ok_bind r f x e = ap (λ v. v >>= f) e

in_file_by : (file : List ℕ) (offset size : ℕ) (bytes : List ℕ) → bytes_in file offset size ≡ Some bytes → offset + size ≤ length file
in_file_by file offset size bytes h = leb-true (offset + size) (length file) (cond_some (leb (offset + size) (length file)) (field size offset file) bytes h).0

header_long : (w : Wide) → 16 ≤ by_class w 52 64
header_long W32 = omega arith
header_long W64 = omega arith

-- a file that could be opened is identified
identified : (file : List ℕ) (o : Opened) → opened_of file ≡ Some o → (leb 16 (length file) ≡ true) × (is_some (form_of file) ≡ true)
unfolding opened_of
identified file o h =
    let made : Form → List ℕ → Option Opened = λ form bytes. Some (record { file = file; form = form; header = file_header form bytes }) in
    let (form, form_there, rest) = bind_some (form_of file) (λ f. bytes_in file 0 (file_header_size f) >>? made f) o h in
    let (bytes, bytes_there, _) = bind_some (bytes_in file 0 (file_header_size form)) (made form) o rest in
    let long : 0 + file_header_size form ≤ length file = in_file_by file 0 (file_header_size form) bytes bytes_there in
    let sixteen : 16 ≤ file_header_size form = header_long form.wide in
    (le-leb 16 (length file) (omega arith), ap is_some form_there)

parts_there : (p : Parts) → segments_of p.opened ≡ Some p.segments → sections_of p.opened ≡ Some p.sections → parts_of p.opened ≡ Some p
unfolding parts_of
parts_there p segments sections = rw segments (rw sections refl)

accepted_parts_with : (file : List ℕ) (p : Parts) → IsAcceptedWith file p → accepted_parts file ≡ Ok p
unfolding accepted_parts
accepted_parts_with file p with_rules =
    let parts = with_rules.parts in
    let rules = with_rules.rules in
    let (long, known) = identified file p.opened parts.opened in
    let first : checked identification_rules file ≡ Ok file = passes _ _ file long ∙ passes _ _ file with_rules.magic ∙ passes _ _ file known ∙ passed_all file in
    let kind : checked (rule is_file_kind Unsupported ∷ []) p.opened ≡ Ok p.opened = passes (rule is_file_kind Unsupported) [] p.opened rules.file_kind ∙ passed_all p.opened in
    let placed : checked placement_rules p ≡ Ok p =
    passes _ _ p rules.in_file ∙ passes _ _ p rules.fit ∙ passes _ _ p rules.segments ∙ passes _ _ p rules.loaded ∙ passes _ _ p rules.clear ∙ passed_all p in
    let tabled : checked table_rules p ≡ Ok p =
    passes _ _ p rules.linked ∙ passes _ _ p rules.dynamic ∙ passes _ _ p rules.interpreter ∙ passes _ _ p rules.tables ∙ passes _ _ p rules.texts
    ∙ passes _ _ p rules.versions ∙ passes _ _ p rules.header_table ∙ passed_all p in
    rw first (rw parts.opened (rw kind (rw (parts_there p parts.segments parts.sections) (rw placed (rw tabled refl)))))

pub accepted_with : (file : List ℕ) (p : Parts) → IsAcceptedWith file p → fault_of file ≡ None
unfolding fault_of
accepted_with file p with_rules =
    ap (λ (r : Result Parts ElfFault). elim r as (λ _. Option ElfFault) [ Ok _ ↦ None | Err fault ↦ Some fault ]) (accepted_parts_with file p with_rules)

-- the law in both directions
pub accepted_files_meet_the_rules : AcceptedFilesMeetTheRules
accepted_files_meet_the_rules = (
  (λ file h.
      let (p, there) = no_fault file h in
      let (parts, rules) = accepted file p there in
      (p, record { magic = magic_of file p there; parts = parts; rules = rules })),
  accepted_with,
)
