-- The first rule that a file breaks, by the stages in which a reader goes through the rules.
use Rattle.std.proofs.Common.{◌≡◌, ℕ, List, [], ◌∷◌, ◌++◌, map, Bool, true, false, Option, Some, None, Result, Ok, Err, refl, sym, ap, ◌∙◌}
use Rattle.std.specs.Prelude.{◌≢◌, IfOk, MatchResult, is_some, option_map, option_and_then}
use Rattle.std.specs.Result.{result_err}
use Rattle.std.proofs.lemmas.List.Elements.{All-cons, All-nil}
use Rattle.std.proofs.lemmas.Option.{none-some, same_Some}
use Rattle.patch_bytes.specs.Memory.{◌>>=◌ as ◌>>?◌}
use Rattle.elf_format.specs.declared.fault.ElfFault.{ElfFault}
use Rattle.elf_format.specs.declared.fault.ElfFault.TheVariants as faults
use Rattle.elf_format.specs.declared.fault.ElfFault.TheVariants.{Truncated, Unsupported}
use Rattle.elf_format.specs.File.{Opened, Parts, opened_of, parts_of}
use Rattle.elf_format.specs.Options.{first_there, is_some_and}
use Rattle.elf_format.specs.Rules.{◌>>=◌, Rule as Check, accepted_parts, checked, fault_of, identification_rules, is_file_kind, placement_rules, rule, table_rules, there_or}
use Rattle.elf_format.specs.Stages.{parts_read}
use Rattle.elf_format.specs.Image.{Image, ImagesShow, image_of}
use Rattle.elf_image_rules.specs.Read.{Reads, Refuses, parts_model}
use Rattle.elf_image_rules.specs.declared.headers.Headers.{Headers}
use Rattle.elf_image_reasons.specs.declared.rule.Rule.{Rule}
use Rattle.elf_image_reasons.specs.declared.rule.Rule.TheVariants.{FileHeader, FileKind, HeaderTables}
use Rattle.elf_image_reasons.specs.ReadTests.{IsFirstBroken, IsToldFault, RulesTellFaults, Test, broken_rule, fault_of_rule, first_broken, header_tests, identification_tests, of_file, opening_tests, part_tests, parts_there, placement_tests, read_tests, rule_of_headers, rule_of_parts, table_tests, test}

-- ## Lists of tests

-- what a test leads to
picked : Rule → Option Rule → Bool → Option Rule
picked r rest b = elim b [ true ↦ rest | _ ↦ Some r ]

appended_by : (r : Rule) (first all other : Option Rule) → all ≡ first_there first other → (b : Bool) → picked r all b ≡ first_there (picked r first b) other
unfolding picked
appended_by r first all other e true = e
appended_by r first all other e false = refl

-- of two lists, the first that is broken of the first one, or else of the second
first_broken-append : {A : Type 0} → (ts us : List (Test A)) (x : A) → first_broken (ts ++ us) x ≡ first_there (first_broken ts x) (first_broken us x)
unfolding first_broken picked
first_broken-append [] us x = refl
first_broken-append (t ∷ ts) us x = appended_by t.rule (first_broken ts x) (first_broken (ts ++ us) x) (first_broken us x) (first_broken-append ts us x) (t.holds x)

-- what is answered for the first rule that is broken
abbrev answer_by : {A : Type 0} → A → Option Rule → Result A ElfFault
answer_by x None = Ok x
answer_by x (Some r) = Err (fault_of_rule r)

abbrev check_of : {A : Type 0} → Test A → Check A
check_of t = rule t.holds (fault_of_rule t.rule)

chosen : {A : Type 0} → ElfFault → Result A ElfFault → Bool → Result A ElfFault
chosen fault rest b = elim b [ true ↦ rest | _ ↦ Err fault ]

checked_by : {A : Type 0} → (r : Rule) (x : A) (rest : Result A ElfFault) (first : Option Rule) → rest ≡ answer_by x first → (b : Bool) → chosen (fault_of_rule r) rest b ≡ answer_by x (picked r first b)
unfolding chosen picked
checked_by r x rest first e true = e
checked_by r x rest first e false = refl

-- the checks answer the fault of the first rule that is broken
checked-first : {A : Type 0} → (ts : List (Test A)) (x : A) → checked (map check_of ts) x ≡ answer_by x (first_broken ts x)
unfolding checked first_broken chosen picked
checked-first [] x = refl
checked-first (t ∷ ts) x = checked_by t.rule x (checked (map check_of ts) x) (first_broken ts x) (checked-first ts x) (t.holds x)

-- ## The parts of a file

abbrev fault_by : Result Parts ElfFault → Option ElfFault
fault_by (Ok p) = None
fault_by (Err fault) = Some fault

two_faults : (p : Parts) (a b : Option Rule) → fault_by (answer_by p a >>= (λ _. answer_by p b)) ≡ option_map fault_of_rule (first_there a b)
two_faults p None None = refl
two_faults p None (Some r) = refl
two_faults p (Some r) b = refl

abbrev placed : Parts → Result Parts ElfFault
placed p = checked placement_rules p >>= (λ _. checked table_rules p)

parts_fault : (p : Parts) → fault_by (placed p) ≡ option_map fault_of_rule (first_broken part_tests p)
parts_fault p =
    let placement : checked placement_rules p ≡ answer_by p (first_broken placement_tests p) = checked-first placement_tests p in
    let tables : checked table_rules p ≡ answer_by p (first_broken table_tests p) = checked-first table_tests p in
    ap (λ r. fault_by (r >>= (λ _. checked table_rules p))) placement
    ∙ ap (λ r. fault_by (answer_by p (first_broken placement_tests p) >>= (λ _. r))) tables
    ∙ two_faults p (first_broken placement_tests p) (first_broken table_tests p)
    ∙ ap (option_map fault_of_rule) (sym (first_broken-append placement_tests table_tests p))

-- ## Its header and its header tables

-- the first broken rule, by whether the file is of a kind that is read, and by its parts
abbrev first_behind : Bool → Option Parts → Option Rule
first_behind false p = Some FileKind
first_behind true None = Some HeaderTables
first_behind true (Some p) = first_broken part_tests p

kind_by : Opened → Bool → Result Opened ElfFault
kind_by o b = elim b [ true ↦ Ok o | _ ↦ Err Unsupported ]

kind_fault : (o : Opened) (b : Bool) (p : Option Parts) → fault_by (kind_by o b >>= (λ _. there_or Truncated p >>= placed)) ≡ option_map fault_of_rule (first_behind b p)
unfolding kind_by
kind_fault o false p = refl
kind_fault o true None = refl
kind_fault o true (Some p) = parts_fault p

abbrev first_opened : Option Opened → Option Rule
first_opened None = Some FileHeader
first_opened (Some o) = first_behind (is_file_kind o) (parts_of o)

abbrev opened_checked : Opened → Result Parts ElfFault
opened_checked o = checked (rule is_file_kind Unsupported ∷ []) o >>= (λ _. there_or Truncated (parts_of o) >>= placed)

opened_fault : (o : Option Opened) → fault_by (there_or Truncated o >>= opened_checked) ≡ option_map fault_of_rule (first_opened o)
unfolding checked kind_by
opened_fault None = refl
opened_fault (Some o) = kind_fault o (is_file_kind o) (parts_of o)

-- ## A file

abbrev header_there : Test (List ℕ)
header_there = test FileHeader (λ file. is_some (opened_of file))

abbrev behind_tests : List (Test (List ℕ))
behind_tests = header_there ∷ header_tests ++ map of_file part_tests

file_fault_by : (file : List ℕ) (a first : Option Rule) (rest : Result Parts ElfFault) → fault_by rest ≡ option_map fault_of_rule first → fault_by (answer_by file a >>= (λ _. rest)) ≡ option_map fault_of_rule (first_there a first)
file_fault_by file None first rest e = e
file_fault_by file (Some r) first rest e = refl

abbrev stage_first : List ℕ → Option Rule
stage_first file = first_there (first_broken identification_tests file) (first_opened (opened_of file))

accepted_fault : (file : List ℕ) → fault_by (accepted_parts file) ≡ option_map fault_of_rule (stage_first file)
unfolding accepted_parts
accepted_fault file =
    let identified : checked identification_rules file ≡ answer_by file (first_broken identification_tests file) = checked-first identification_tests file in
    ap (λ r. fault_by (r >>= (λ _. there_or Truncated (opened_of file) >>= opened_checked))) identified
    ∙ file_fault_by file (first_broken identification_tests file) (first_opened (opened_of file)) (there_or Truncated (opened_of file) >>= opened_checked) (opened_fault (opened_of file))

fault_by_is : (file : List ℕ) (r : Result Parts ElfFault) → accepted_parts file ≡ r → fault_of file ≡ fault_by r
unfolding fault_of
fault_by_is file (Ok p) e = ap (λ x. elim x [ Ok _ ↦ None | Err fault ↦ Some fault ]) e
fault_by_is file (Err fault) e = ap (λ x. elim x [ Ok _ ↦ None | Err other ↦ Some other ]) e

-- ## The tests of a file

part_tests_of : (ts : List (Test Parts)) (file : List ℕ) (p : Parts) → parts_there file ≡ Some p → first_broken (map of_file ts) file ≡ first_broken ts p
unfolding first_broken picked
part_tests_of [] file p e = refl
part_tests_of (t ∷ ts) file p e =
    ap (λ o. picked t.rule (first_broken (map of_file ts) file) (is_some_and t.holds o)) e
    ∙ ap (λ r. picked t.rule r (t.holds p)) (part_tests_of ts file p e)

-- the tests on the header and on the header tables, and what is behind them
header_by : Bool → Option Parts → Option Rule → Option Rule
header_by b p rest = picked FileKind (picked HeaderTables rest (is_some p)) b

header_first : (b : Bool) (p q : Option Parts) (rest : Option Rule) → q ≡ p → ((x : Parts) → q ≡ Some x → rest ≡ first_broken part_tests x) → header_by b q rest ≡ first_behind b p
unfolding header_by picked
header_first false p q rest e h = refl
header_first true None q rest e h = ap (λ x. picked HeaderTables rest (is_some x)) e
header_first true (Some x) q rest e h = ap (λ y. picked HeaderTables rest (is_some y)) e ∙ h x e

behind_by : Option Opened → Option Parts → Option Rule → Option Rule
behind_by o p rest = picked FileHeader (header_by (is_some_and is_file_kind o) p rest) (is_some o)

behind_first : (o : Option Opened) (q : Option Parts) (rest : Option Rule) → q ≡ (o >>? parts_of) → ((x : Parts) → q ≡ Some x → rest ≡ first_broken part_tests x) → behind_by o q rest ≡ first_opened o
unfolding behind_by picked
behind_first None q rest e h = refl
behind_first (Some o) q rest e h = header_first (is_file_kind o) (parts_of o) q rest e h

stages : (file : List ℕ) → broken_rule file ≡ stage_first file
unfolding first_broken picked header_by behind_by
stages file =
    let behind : first_broken behind_tests file ≡ first_opened (opened_of file) =
    behind_first (opened_of file) (parts_there file) (first_broken (map of_file part_tests) file) refl (part_tests_of part_tests file) in
    first_broken-append identification_tests behind_tests file ∙ ap (first_there (first_broken identification_tests file)) behind

-- ## The law

abbrev IsFirst : {A : Type 0} → List (Test A) → A → Rule → Type 0
IsFirst ts x r = IsFirstBroken ts x r

first_by : {A : Type 0} → (t : Test A) (ts : List (Test A)) (x : A) (r : Rule) (first : Option Rule) → (first ≡ Some r → IsFirst ts x r) → (b : Bool) → t.holds x ≡ b → picked t.rule first b ≡ Some r → IsFirst (t ∷ ts) x r
unfolding picked
first_by t ts x r first more true e h =
    let f : IsFirst ts x r = more h in
    record {
      before = t ∷ f.before;
      broken = f.broken;
      behind = f.behind;
      all = ap (λ l. t ∷ l) f.all;
      named = f.named;
      fails = f.fails;
      hold = All-cons (λ u. u.holds x ≡ true) t f.before e f.hold;
    }
first_by t ts x r first more false e h =
    record { before = []; broken = t; behind = ts; all = refl; named = same_Some t.rule r h; fails = e; hold = All-nil (λ u. u.holds x ≡ true) }

first_is : {A : Type 0} → (ts : List (Test A)) (x : A) (r : Rule) → first_broken ts x ≡ Some r → IsFirst ts x r
unfolding first_broken picked
first_is [] x r h = absurd (none-some r h)
first_is (t ∷ ts) x r h = first_by t ts x r (first_broken ts x) (first_is ts x r) (t.holds x) refl h

pub rules_tell_faults : RulesTellFaults
rules_tell_faults = record {
  same = λ file. ap (option_map fault_of_rule) (stages file) ∙ sym (accepted_fault file) ∙ sym (fault_by_is file (accepted_parts file) refl);
  first = λ file r h. first_is read_tests file r h;
}

-- ## Reading the headers

-- a refusal without want of memory is the answer
refused_is : {A : Type 0} → (e : ElfFault) (r : Result A ElfFault) → Refuses e r → (e ≡ faults.Memory → ⊥) → r ≡ Err e
refused_is faults.Memory r h other = absurd (other refl)
refused_is faults.BadMagic r h other = h
refused_is faults.Truncated r h other = h
refused_is faults.Unsupported r h other = h
refused_is (faults.Disagree n) r h other = h
refused_is faults.BadText r h other = h
refused_is faults.NumberTooLarge r h other = h

-- what holds of an answer without want of memory
pub told_ok : {E : Type 0} → (P Q : Option ElfFault → Type 0) (r : Result (Option ElfFault) E) → ((x : Option ElfFault) → P x → Q x) → IfOk r P → IfOk r Q
told_ok P Q (Ok x) f h = f x h
told_ok P Q (Err e) f h = h

-- what reading the headers answers, and what reading the file does
pub headers_fault : (r : Result Headers ElfFault) (parts : Result Parts ElfFault) (fault answer : Option ElfFault) → Reads parts_model r parts → fault ≡ result_err r → IsToldFault fault answer → answer ≡ result_err parts
headers_fault (Ok x) parts fault answer h e is = is.same ∙ e ∙ sym (ap result_err h)
headers_fault (Err x) parts fault answer h e is = is.same ∙ e ∙ sym (ap result_err (refused_is x parts h (λ m. is.other (is.same ∙ e ∙ ap Some m))))

pub file_fault : (images : ImagesShow) (file : List ℕ) (r : Result Image ElfFault) (fault answer : Option ElfFault)
    → MatchResult r (λ b. image_of file ≡ Ok b) (λ e. e ≢ faults.Memory → image_of file ≡ Err e) → fault ≡ result_err r → IsToldFault fault answer → answer ≡ fault_of file
file_fault images file (Ok b) fault answer h e is = is.same ∙ e ∙ sym (images.accepted file b h)
file_fault images file (Err x) fault answer h e is = is.same ∙ e ∙ sym (images.refused file x (h (λ m. is.other (is.same ∙ e ∙ ap Some m))))

abbrev header_rule_by : Result Parts ElfFault → Option Rule
header_rule_by r = option_and_then rule_of_headers (result_err r)

header_kind : (o : Opened) (b : Bool) (p : Option Parts) → header_rule_by (kind_by o b >>= (λ _. there_or Truncated p)) ≡ header_by b p None
unfolding kind_by header_by picked
header_kind o false p = refl
header_kind o true None = refl
header_kind o true (Some p) = refl

abbrev opened_read : Opened → Result Parts ElfFault
opened_read o = checked (rule is_file_kind Unsupported ∷ []) o >>= (λ _. there_or Truncated (parts_of o))

header_opened : (file : List ℕ) (i : Option Rule) (o : Option Opened) → first_there i (picked FileHeader None (is_some o)) ≡ None
    → header_rule_by (answer_by file i >>= (λ _. there_or Truncated o >>= opened_read)) ≡ header_by (is_some_and is_file_kind o) (o >>? parts_of) None
unfolding picked checked kind_by
header_opened file (Some r) o h = absurd (none-some r (sym h))
header_opened file None None h = absurd (none-some FileHeader (sym h))
header_opened file None (Some o) h = header_kind o (is_file_kind o) (parts_of o)

headers_rule : (file : List ℕ) → first_broken opening_tests file ≡ None → header_rule_by (parts_read file) ≡ first_broken header_tests file
unfolding parts_read first_broken picked header_by
headers_rule file h =
    let identified : checked identification_rules file ≡ answer_by file (first_broken identification_tests file) = checked-first identification_tests file in
    let two : first_broken opening_tests file ≡ first_there (first_broken identification_tests file) (first_broken (header_there ∷ []) file) =
    first_broken-append identification_tests (header_there ∷ []) file in
    ap (λ r. header_rule_by (r >>= (λ _. there_or Truncated (opened_of file) >>= opened_read))) identified
    ∙ header_opened file (first_broken identification_tests file) (opened_of file) (sym two ∙ h)

pub headers_told : (file : List ℕ) (fault : Option ElfFault) → first_broken opening_tests file ≡ None → fault ≡ result_err (parts_read file) → option_and_then rule_of_headers fault ≡ first_broken header_tests file
headers_told file fault h e = ap (option_and_then rule_of_headers) e ∙ headers_rule file h

-- ## The rule for a fault

abbrev IsTold : Option Rule → Type 0
IsTold o = option_and_then rule_of_parts (option_map fault_of_rule o) ≡ o

-- the rules of these tests are told by their faults
abbrev AreTold : {A : Type 0} → List (Test A) → Type 0
AreTold [] = Unit {0}
AreTold (t ∷ ts) = (rule_of_parts (fault_of_rule t.rule) ≡ Some t.rule) × AreTold ts

told_by : (r : Rule) (first : Option Rule) → rule_of_parts (fault_of_rule r) ≡ Some r → IsTold first → (b : Bool) → IsTold (picked r first b)
unfolding picked
told_by r first e rest true = rest
told_by r first e rest false = e

told : {A : Type 0} → (ts : List (Test A)) (x : A) → AreTold ts → IsTold (first_broken ts x)
unfolding first_broken picked
told [] x are = refl
told (t ∷ ts) x are = told_by t.rule (first_broken ts x) are.0 (told ts x are.1) (t.holds x)

parts_told : AreTold (map of_file part_tests)
parts_told = (refl, (refl, (refl, (refl, (refl, (refl, (refl, (refl, (refl, (refl, (refl, (refl, tt))))))))))))

-- ## The three answers

pub opening_broken : (file : List ℕ) (r : Rule) → Some r ≡ first_broken opening_tests file → Some r ≡ broken_rule file
opening_broken file r e =
    let rest : List (Test (List ℕ)) = header_tests ++ map of_file part_tests in
    ap (λ o. first_there o (first_broken rest file)) e ∙ sym (first_broken-append opening_tests rest file)

-- a file with a header of its own breaks what it breaks of the other rules
behind_opening : (file : List ℕ) → first_broken opening_tests file ≡ None → broken_rule file ≡ first_there (first_broken header_tests file) (first_broken (map of_file part_tests) file)
behind_opening file h =
    let rest : List (Test (List ℕ)) = header_tests ++ map of_file part_tests in
    first_broken-append opening_tests rest file ∙ ap (λ o. first_there o (first_broken rest file)) h ∙ first_broken-append header_tests (map of_file part_tests) file

pub header_broken : (file : List ℕ) (r : Rule) → first_broken opening_tests file ≡ None → Some r ≡ first_broken header_tests file → Some r ≡ broken_rule file
header_broken file r h e = ap (λ o. first_there o (first_broken (map of_file part_tests) file)) e ∙ sym (behind_opening file h)

pub parts_broken : (file : List ℕ) (fault : Option ElfFault) → first_broken opening_tests file ≡ None → first_broken header_tests file ≡ None → fault ≡ fault_of file
    → option_and_then rule_of_parts fault ≡ broken_rule file
parts_broken file fault h g e =
    let same : broken_rule file ≡ first_broken (map of_file part_tests) file =
    behind_opening file h ∙ ap (λ o. first_there o (first_broken (map of_file part_tests) file)) g in
    let of_fault : fault ≡ option_map fault_of_rule (broken_rule file) = e ∙ sym (rules_tell_faults.same file) in
    ap (option_and_then rule_of_parts) (of_fault ∙ ap (option_map fault_of_rule) same) ∙ told (map of_file part_tests) file parts_told ∙ sym same
