-- The read rules in the stages in which a reader goes through them.
use Rattle.std.specs.Prelude.{ℕ, List, [], ◌∷◌, Result}
use Rattle.elf_format.specs.declared.fault.ElfFault.{ElfFault}
use Rattle.elf_format.specs.declared.fault.ElfFault.TheVariants.{Disagree, Truncated, Unsupported}
use Rattle.elf_format.specs.File.{Parts, opened_of, parts_of}
use Rattle.elf_format.specs.Placement.{header_table_loaded}
use Rattle.elf_format.specs.Rules.{◌>>=◌, Rule, are_dynamic_tables_right, are_tables_linked, are_versions_right, checked, identification_rules, is_dynamic_section_right, is_file_kind, is_interpreter_right, rule, segment_table_range, there_or}

-- the parts of a file whose header tables are there, or the first fault
unfoldable pub parts_read : List ℕ → Result Parts ElfFault
parts_read file = do
  _ ← checked identification_rules file
  o ← there_or Truncated (opened_of file)
  _ ← checked (rule is_file_kind Unsupported ∷ []) o
  there_or Truncated (parts_of o)

-- the rules on tables, up to those on texts, and behind them
abbrev pub link_rules : List (Rule Parts)
link_rules =
    rule are_tables_linked (Disagree 6)
    ∷ rule is_dynamic_section_right (Disagree 7)
    ∷ rule is_interpreter_right (Disagree 8)
    ∷ rule are_dynamic_tables_right (Disagree 9)
    ∷ []

abbrev pub last_rules : List (Rule Parts)
last_rules =
    rule are_versions_right (Disagree 11)
    ∷ rule (λ p. header_table_loaded (segment_table_range p) p.segments) (Disagree 12)
    ∷ []
