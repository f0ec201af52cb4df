-- The steps of reading header tables, and of a test that some element fails.
use Rattle.std.proofs.Common.{◌≡◌, List, [], ◌∷◌, refl, ap, ◌∙◌, Bool, true, false, cond, take, drop, length, inl, inr, sym, subst, ◌+◌, ◌*◌, ◌/◌, ◌<◌, ◌≤◌, Option, Some, None, Result, Ok, Err, ℕ, arith}
use Rattle.std.specs.Prelude.{◌&&◌, ◌||◌, ◌==◌, not, nat_lt}
use Rattle.std.specs.List.{list_all, list_any}
use Rattle.elf_format.specs.declared.fault.ElfFault.{ElfFault}
use Rattle.elf_format.specs.declared.fault.ElfFault.TheVariants.{Truncated, Unsupported}
use Rattle.elf_format.specs.declared.fault.ElfFault.TheVariants as faults
use Rattle.elf_format.specs.declared.view_fault.ViewFault.{ViewFault}
use Rattle.elf_format.specs.declared.view_fault.ViewFault.TheVariants as views
use Rattle.elf_format.specs.File.{section_bytes, Opened, Parts, opened_of, parts_of}
use Rattle.elf_format.specs.declared.constants.TheConstants.{SHT_NOBITS, SHT_NULL}
use Rattle.elf_image_rules.specs.declared.kind.Run.{Run}
use Rattle.elf_image_rules.specs.declared.linked.Checked.{Checked}
use Rattle.elf_image_rules.specs.declared.linked.Known.{Known}
use Rattle.elf_image_rules.specs.declared.linked.Relocated.{Relocated}
use Rattle.elf_format.specs.declared.form.Form.{Form}
use Rattle.elf_format.specs.Form.{records}
use Rattle.elf_image_rules.proofs.KindSteps.{Counted, all_pass, among_passes, counted_fits, counted_known, no_section, run_passes}
use Rattle.elf_image_rules.specs.LinkSteps.{IsAmongKnown, IsChecked, IsKnown, all_names_below, names_below_limit, opened_read, table_fault}
use Rattle.elf_format.specs.Answers.{Fails}
use Rattle.elf_format.specs.Stages.{parts_read}
use Rattle.elf_image_rules.specs.Read.{Refuses}
use Rattle.elf_format.specs.declared.records.SectionHeader.{SectionHeader}
use Rattle.elf_format.specs.Records.{Relocation, relocation, relocation_size, relocations_in}
use Rattle.elf_format.specs.Rules.{◌>>=◌, checked, identification_rules, is_file_kind, rule, there_or}

not-and : (a b : Bool) → not (a && b) ≡ (not a || not b)
not-and true b = refl
not-and false b = refl

or-false : (a : Bool) → (a || false) ≡ a
or-false true = refl
or-false false = refl

pub not-list_all : {A : Type 0} → (p q : A → Bool) → ((x : A) → q x ≡ p x) → (xs : List A) → not (list_all q xs) ≡ list_any (λ x. not (p x)) xs
not-list_all p q same [] = refl
not-list_all p q same (x ∷ xs) =
    not-and (q x) (list_all q xs) ∙ ap (λ b. not b || not (list_all q xs)) (same x) ∙ ap (λ b. not (p x) || b) (not-list_all p q same xs)

-- none is below 0
is_zero : (n : ℕ) → (n == 0 || nat_lt n 0) ≡ (n == 0)
is_zero n = grind arith

pub some_name_symbols : (xs : List Relocation) → not (list_all (λ r. r.r_symbol == 0 || nat_lt r.r_symbol 0) xs) ≡ list_any (λ r. not (r.r_symbol == 0)) xs
some_name_symbols xs = not-list_all (λ r. r.r_symbol == 0) (λ r. r.r_symbol == 0 || nat_lt r.r_symbol 0) (λ r. is_zero r.r_symbol) xs

-- The parts of a file are those of its header, which is read first.
module _ (file : List ℕ) where
  parts_from : Opened → Result Parts ElfFault
  parts_from o = there_or Truncated (parts_of o)

  kind_of : Opened → Result Opened ElfFault
  kind_of o = checked (rule is_file_kind Unsupported ∷ []) o

  by_kind : (o : Opened) (b : Bool) (then : Result Opened ElfFault) → then ≡ elim b [ true ↦ Ok o | _ ↦ Err Unsupported ] → (then >>= (λ _. parts_from o)) ≡ (then >>= parts_from)
  by_kind o true then e = rw e refl
  by_kind o false then e = rw e refl

  kind_first : (o : Opened) → (kind_of o >>= (λ _. parts_from o)) ≡ (kind_of o >>= parts_from)
  unfolding kind_of checked
  kind_first o = by_kind o (is_file_kind o) (kind_of o) refl

  by_opened : (o : Option Opened) → (there_or Truncated o >>= (λ x. kind_of x >>= (λ _. parts_from x))) ≡ ((there_or Truncated o >>= kind_of) >>= parts_from)
  by_opened None = refl
  by_opened (Some o) = kind_first o

  by_identification : (i : Result (List ℕ) ElfFault) → (i >>= (λ _. there_or Truncated (opened_of file) >>= (λ x. kind_of x >>= (λ _. parts_from x)))) ≡ ((i >>= (λ _. there_or Truncated (opened_of file) >>= kind_of)) >>= parts_from)
  by_identification (Ok x) = by_opened (opened_of file)
  by_identification (Err e) = refl

  pub parts_read-opened : parts_read file ≡ (opened_read file >>= (λ o. there_or Truncated (parts_of o)))
  unfolding parts_read opened_read kind_of parts_from
  parts_read-opened = by_identification (checked identification_rules file)

-- what is wrong with the header is the fault of the file
pub opened_fails : (fault : ElfFault) (file : List ℕ) → Refuses fault (opened_read file) → Refuses fault (parts_read file)
opened_fails faults.Memory file e = tt
opened_fails faults.BadMagic file e = parts_read-opened file ∙ ap (λ r. r >>= (λ o. there_or Truncated (parts_of o))) e
opened_fails faults.Truncated file e = parts_read-opened file ∙ ap (λ r. r >>= (λ o. there_or Truncated (parts_of o))) e
opened_fails faults.Unsupported file e = parts_read-opened file ∙ ap (λ r. r >>= (λ o. there_or Truncated (parts_of o))) e
opened_fails (faults.Disagree rule) file e = parts_read-opened file ∙ ap (λ r. r >>= (λ o. there_or Truncated (parts_of o))) e
opened_fails faults.BadText file e = parts_read-opened file ∙ ap (λ r. r >>= (λ o. there_or Truncated (parts_of o))) e
opened_fails faults.NumberTooLarge file e = parts_read-opened file ∙ ap (λ r. r >>= (λ o. there_or Truncated (parts_of o))) e

-- the tables behind a header are those of the file, and so is a table that isn't there
pub tables_shown : (file : List ℕ) (o : Opened) (p : Parts) → opened_read file ≡ Ok o → parts_of o ≡ Some p → parts_read file ≡ Ok p
tables_shown file o p header tables = parts_read-opened file ∙ ap (λ r. r >>= (λ x. there_or Truncated (parts_of x))) header ∙ ap (there_or Truncated) tables

pub tables_fail : (fault : ViewFault) (file : List ℕ) (o : Opened) → opened_read file ≡ Ok o → Fails fault (parts_of o) → Refuses (table_fault fault) (parts_read file)
tables_fail views.Absent file o header tables = parts_read-opened file ∙ ap (λ r. r >>= (λ x. there_or Truncated (parts_of x))) header ∙ ap (there_or Truncated) tables
tables_fail views.Memory file o header tables = tt

-- ## Relocations that several sections share

-- the first relocations of a section that are among those that are known name what they may
pub known_front : (form : Form) (file : List ℕ) (known : Known) (table : Relocated) (run : Run) (size skip : ℕ) → size ≡ relocation_size form table.section.sh_type → run.start ≡ table.section.sh_offset
    → IsAmongKnown size table run known skip → IsKnown form file known
    → list_all (names_below_limit table.limit) (records (relocation form table.section.sh_type) size skip (drop table.section.sh_offset file)) ≡ true
unfolding records
known_front form file known table run size skip wide start (inl none) is =
    ap (λ n. list_all (names_below_limit table.limit) (records (relocation form table.section.sh_type) size n (drop table.section.sh_offset file))) none
known_front form file known table run size skip wide start (inr w) is =
    let kind : ℕ = table.section.sh_type in
    let passes = λ (k l w : ℕ). list_all (names_below_limit l) (records (relocation form k) w known.run.count (drop known.run.start file)) in
    let same : run_passes (names_below_limit table.limit) (relocation form kind) size file known.run ≡ true =
    ap (passes kind table.limit) wide ∙ sym (ap (λ k. passes k table.limit (relocation_size form k)) w.0) ∙ sym (ap (λ l. passes known.kind l (relocation_size form known.kind)) w.1) ∙ is in
    sym (ap (λ a. list_all (names_below_limit table.limit) (records (relocation form kind) size skip (drop a file))) start)
    ∙ among_passes (names_below_limit table.limit) (relocation form kind) size file run known.run skip w.2 same

-- A section whose first relocations are known, and so many counted behind them: whether all fit, and what is known then.
module _
    (form : Form) (file : List ℕ) (known : Known) (table : Relocated) (size skip count : ℕ) (bytes rest : List ℕ)
    (wide : size ≡ relocation_size form table.section.sh_type) (pos : 0 < size) (is : bytes ≡ section_bytes file table.section) (inside : skip ≤ length bytes / size)
    (among : IsAmongKnown size table (record { start = table.section.sh_offset; count = length bytes / size }) known skip) (before : IsKnown form file known)
    (behind : rest ≡ drop (skip * size) bytes) (counted : Counted (names_below_limit table.limit) (relocation form table.section.sh_type) (relocation_size form table.section.sh_type) rest count) where
  front : list_all (names_below_limit table.limit) (records (relocation form table.section.sh_type) size skip (drop table.section.sh_offset file)) ≡ true
  front = known_front form file known table (record { start = table.section.sh_offset; count = length bytes / size }) size skip wide refl among before

  narrow : Counted (names_below_limit table.limit) (relocation form table.section.sh_type) size rest count
  narrow = subst (λ w. Counted (names_below_limit table.limit) (relocation form table.section.sh_type) w rest count) (sym wide) counted

  pub section_fits : ((skip + count) == (length bytes / size)) ≡ all_names_below form file table.limit table.section
  section_fits =
      counted_fits (names_below_limit table.limit) (relocation form table.section.sh_type) size file table.section skip count bytes rest pos is inside behind front narrow
      ∙ ap (λ w. all_pass (names_below_limit table.limit) (relocation form table.section.sh_type) w (section_bytes file table.section)) wide

  pub section_known : list_all (names_below_limit table.limit) (records (relocation form table.section.sh_type) (relocation_size form table.section.sh_type) (skip + count) (drop table.section.sh_offset file)) ≡ true
  section_known =
      sym (ap (λ w. list_all (names_below_limit table.limit) (records (relocation form table.section.sh_type) w (skip + count) (drop table.section.sh_offset file))) wide)
      ∙ counted_known (names_below_limit table.limit) (relocation form table.section.sh_type) size file table.section skip count bytes rest pos is inside behind front narrow

-- sections of one type, offset and size have the same bytes
pub same_bytes : (file : List ℕ) (s t : SectionHeader) → s.sh_type ≡ t.sh_type → s.sh_offset ≡ t.sh_offset → s.sh_size ≡ t.sh_size → section_bytes file s ≡ section_bytes file t
unfolding section_bytes
same_bytes file s t kind offset size =
    let bytes = λ (k o n : ℕ). cond (not (k == SHT_NULL) && not (k == SHT_NOBITS)) (take n (drop o file)) [] in
    ap (λ k. bytes k s.sh_offset s.sh_size) kind ∙ ap (λ o. bytes t.sh_type o s.sh_size) offset ∙ ap (bytes t.sh_type t.sh_offset) size

-- what was checked of a section is so of one that is the same
pub checked_same : (form : Form) (file : List ℕ) (c : Checked) (table : Relocated) → IsChecked form file c → c.of.limit ≡ table.limit → c.of.section.sh_type ≡ table.section.sh_type
    → c.of.section.sh_offset ≡ table.section.sh_offset → c.of.section.sh_size ≡ table.section.sh_size → c.fits ≡ all_names_below form file table.limit table.section
checked_same form file c table is limit kind offset size =
    let fit = λ (l k : ℕ) (b : List ℕ). list_all (names_below_limit l) (relocations_in form k b) in
    is ∙ ap (λ l. fit l c.of.section.sh_type (section_bytes file c.of.section)) limit ∙ ap (λ k. fit table.limit k (section_bytes file c.of.section)) kind
    ∙ ap (fit table.limit table.section.sh_type) (same_bytes file c.of.section table.section kind offset size)

-- a checked section that stands for none
abbrev pub no_checked : Checked
no_checked = record { of = record { section = no_section; limit = 0 }; fits = false }
