-- The read rules by their names, each with its test of a file, in the order in which a read looks; and the first that a file
-- breaks.
use Rattle.std.specs.Prelude.{ℕ, List, [], ◌∷◌, ◌++◌, map, length, Bool, true, false, Option, Some, None, ◌≡◌, ◌≢◌, is_some, nat_le, ◌==◌, if◌then◌else◌, All, option_map}
use Rattle.patch_bytes.specs.Memory.{◌>>=◌}
use Rattle.elf_format.specs.declared.fault.ElfFault.{ElfFault}
use Rattle.elf_format.specs.declared.fault.ElfFault.TheVariants as faults
use Rattle.elf_format.specs.File.{Parts, form_of, opened_of, parts_of}
use Rattle.elf_format.specs.Options.{is_some_and}
use Rattle.elf_format.specs.Placement.{file_parts_fit, header_table_loaded, ranges_in_file, segments_apart, uninitialized_clear}
use Rattle.elf_format.specs.Places.{places_of}
use Rattle.elf_format.specs.Rules.{are_dynamic_tables_right, are_sections_loaded, are_tables_linked, are_versions_right, do_texts_end, fault_of, file_of, has_magic, is_dynamic_section_right, is_file_kind, is_interpreter_right, segment_table_range}
use Rattle.elf_image_reasons.specs.declared.rule.Rule.{Rule}
use Rattle.elf_image_reasons.specs.declared.rule.Rule.TheVariants as rules

-- A rule with its test.
pub record Test (A : Type 0) : Type 0 where
  pub rule : Rule
  pub holds : A → Bool

abbrev pub test : {A : Type 0} → Rule → (A → Bool) → Test A
test rule holds = record { rule = rule; holds = holds }

-- the first rule whose test fails
unfoldable pub first_broken : {A : Type 0} → List (Test A) → A → Option Rule
first_broken [] x = None
first_broken (t ∷ ts) x = elim (t.holds x) [ true ↦ first_broken ts x | _ ↦ Some t.rule ]

-- the parts of a file, where its header and its two header tables are there
abbrev pub parts_there : List ℕ → Option Parts
parts_there file = opened_of file >>= parts_of

-- ## Before the parts are there

abbrev pub identification_tests : List (Test (List ℕ))
identification_tests =
    test rules.Identification (λ file. nat_le 16 (length file))
    ∷ test rules.Magic has_magic
    ∷ test rules.Class (λ file. is_some (form_of file))
    ∷ []

abbrev pub opening_tests : List (Test (List ℕ))
opening_tests = identification_tests ++ test rules.FileHeader (λ file. is_some (opened_of file)) ∷ []

abbrev pub header_tests : List (Test (List ℕ))
header_tests =
    test rules.FileKind (λ file. is_some_and is_file_kind (opened_of file))
    ∷ test rules.HeaderTables (λ file. is_some (parts_there file))
    ∷ []

-- ## Of the parts

abbrev pub placement_tests : List (Test Parts)
placement_tests =
    test rules.RangesInFile (λ p. ranges_in_file (length (file_of p)) p.segments (places_of p.sections))
    ∷ test rules.FileParts (λ p. file_parts_fit p.segments)
    ∷ test rules.SegmentsApart (λ p. segments_apart p.segments)
    ∷ test rules.SectionsLoaded are_sections_loaded
    ∷ test rules.UninitializedData (λ p. uninitialized_clear p.segments (places_of p.sections))
    ∷ []

abbrev pub table_tests : List (Test Parts)
table_tests =
    test rules.TableLinks are_tables_linked
    ∷ test rules.DynamicSection is_dynamic_section_right
    ∷ test rules.Interpreter is_interpreter_right
    ∷ test rules.DynamicTables are_dynamic_tables_right
    ∷ test rules.Texts do_texts_end
    ∷ test rules.Versions are_versions_right
    ∷ test rules.LoadedHeaderTable (λ p. header_table_loaded (segment_table_range p) p.segments)
    ∷ []

abbrev pub part_tests : List (Test Parts)
part_tests = placement_tests ++ table_tests

-- a test of parts, as a test of the file that has them
abbrev pub of_file : Test Parts → Test (List ℕ)
of_file t = test t.rule (λ file. is_some_and t.holds (parts_there file))

-- ## All of them

abbrev pub read_tests : List (Test (List ℕ))
read_tests = opening_tests ++ header_tests ++ map of_file part_tests

-- the first read rule that a file breaks
abbrev pub broken_rule : List ℕ → Option Rule
broken_rule file = first_broken read_tests file

-- the fault for a rule
abbrev pub fault_of_rule : Rule → ElfFault
fault_of_rule rules.Identification = faults.Truncated
fault_of_rule rules.Magic = faults.BadMagic
fault_of_rule rules.Class = faults.Unsupported
fault_of_rule rules.FileHeader = faults.Truncated
fault_of_rule rules.FileKind = faults.Unsupported
fault_of_rule rules.HeaderTables = faults.Truncated
fault_of_rule rules.RangesInFile = faults.Truncated
fault_of_rule rules.FileParts = faults.Disagree 2
fault_of_rule rules.SegmentsApart = faults.Disagree 3
fault_of_rule rules.SectionsLoaded = faults.Disagree 4
fault_of_rule rules.UninitializedData = faults.Disagree 5
fault_of_rule rules.TableLinks = faults.Disagree 6
fault_of_rule rules.DynamicSection = faults.Disagree 7
fault_of_rule rules.Interpreter = faults.Disagree 8
fault_of_rule rules.DynamicTables = faults.Disagree 9
fault_of_rule rules.Texts = faults.BadText
fault_of_rule rules.Versions = faults.Disagree 11
fault_of_rule rules.LoadedHeaderTable = faults.Disagree 12

-- ## What it means

-- The rule is one of those of the tests, its test fails, and those of all before it hold.
pub record IsFirstBroken {A : Type 0} (tests : List (Test A)) (x : A) (rule : Rule) : Type 0 where
  pub before : List (Test A)
  pub broken : Test A
  pub behind : List (Test A)
  pub all : tests ≡ before ++ broken ∷ behind
  pub named : broken.rule ≡ rule
  pub fails : broken.holds x ≡ false
  pub hold : All (λ t. t.holds x ≡ true) before

-- The law: a file that breaks no rule is accepted, and one that breaks a rule is refused with the fault of the first.
pub record RulesTellFaults : Type 0 where
  pub same : (file : List ℕ) → option_map fault_of_rule (broken_rule file) ≡ fault_of file
  pub first : (file : List ℕ) (rule : Rule) → broken_rule file ≡ Some rule → IsFirstBroken read_tests file rule

-- ## Steps

-- the answer is a fault, and not that memory ran out
pub record IsToldFault (fault answer : Option ElfFault) : Type 0 where
  pub same : answer ≡ fault
  pub other : answer ≢ Some faults.Memory

-- the rule on headers for the fault that reading them answers
abbrev pub rule_of_headers : ElfFault → Option Rule
rule_of_headers faults.Unsupported = Some rules.FileKind
rule_of_headers faults.Truncated = Some rules.HeaderTables
rule_of_headers _ = None

-- the rule on the parts of a file for the fault that reading answers
abbrev pub rule_numbered : ℕ → Option Rule
rule_numbered n =
    if n == 2 then Some rules.FileParts
    else if n == 3 then Some rules.SegmentsApart
    else if n == 4 then Some rules.SectionsLoaded
    else if n == 5 then Some rules.UninitializedData
    else if n == 6 then Some rules.TableLinks
    else if n == 7 then Some rules.DynamicSection
    else if n == 8 then Some rules.Interpreter
    else if n == 9 then Some rules.DynamicTables
    else if n == 11 then Some rules.Versions
    else if n == 12 then Some rules.LoadedHeaderTable
    else None

abbrev pub rule_of_parts : ElfFault → Option Rule
rule_of_parts faults.Truncated = Some rules.RangesInFile
rule_of_parts faults.BadText = Some rules.Texts
rule_of_parts (faults.Disagree n) = rule_numbered n
rule_of_parts _ = None
