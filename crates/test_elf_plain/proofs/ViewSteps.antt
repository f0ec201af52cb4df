-- What the readers of version tables and of the whole view answer.
use Rattle.std.specs.Prelude.{◌&&◌}
use Rattle.std.proofs.Common.{◌≡◌, ℕ, List, refl, sym, ap, ◌∙◌, subst, Option, Some}
use Rattle.patch_bytes.specs.Memory.{◌>>=◌, Memory}
use Rattle.elf_format.specs.declared.view_fault.ViewFault.{ViewFault}
use Rattle.elf_format.specs.declared.constants.TheConstants.{DT_SYMTAB, DT_VERDEF, DT_VERDEFNUM, DT_VERNEED, DT_VERNEEDNUM, DT_VERSYM}
use Rattle.elf_format.specs.Dynamic.{Entry, has_tag, shown_entry}
use Rattle.elf_format.specs.declared.form.Form.{Form}
use Rattle.elf_format.specs.declared.records.EntryNumbers.{EntryNumbers}
use Rattle.elf_format.specs.Options.{each, when_wanted}
use Rattle.elf_format.specs.Answers.{Fails, chain}
use Rattle.elf_format.specs.Versions.{DefinitionNumbers, NeedNumbers, VersionDefinition, VersionNeeds, definition_at, need_at, shown_definition, shown_need}
use Rattle.elf_format.specs.Views.{NamedSymbol, Tables, View, defined_versions, dynamic_symbols, needed_versions, view_of}
use Rattle.elf_format.proofs.ChainSteps.{whole_chain-chain}
use Rattle.patch_bytes.proofs.MemoryLaws.{some_bind}
use Rattle.elf_format.proofs.ReadingSteps.{bind_fails, bind_on}

module _ (form : Form) (room : ℕ) (f t : Memory) (count : ℕ) where
  definitions_by : defined_versions form room (record { bytes = f; texts = t; count = count }) ≡ (chain (definition_at form f) count 0 >>= (each (shown_definition room t)))
  unfolding defined_versions
  definitions_by = ap (λ o. o >>= (each (shown_definition room t))) (whole_chain-chain (definition_at form f) count)

  pub definitions_fail : (fault : ViewFault) → Fails fault (chain (definition_at form f) count 0) → Fails fault (defined_versions form room (record { bytes = f; texts = t; count = count }))
  definitions_fail fault h = subst (Fails fault) (sym definitions_by) (bind_fails fault (chain (definition_at form f) count 0) (each (shown_definition room t)) h)

  pub definitions_on : (ds : List DefinitionNumbers) → chain (definition_at form f) count 0 ≡ Some ds → each (shown_definition room t) ds ≡ defined_versions form room (record { bytes = f; texts = t; count = count })
  definitions_on ds e = sym (definitions_by ∙ ap (λ o. o >>= (each (shown_definition room t))) e)

  needs_by : needed_versions form room (record { bytes = f; texts = t; count = count }) ≡ (chain (need_at form f) count 0 >>= (each (shown_need room t)))
  unfolding needed_versions
  needs_by = ap (λ o. o >>= (each (shown_need room t))) (whole_chain-chain (need_at form f) count)

  pub needs_fail : (fault : ViewFault) → Fails fault (chain (need_at form f) count 0) → Fails fault (needed_versions form room (record { bytes = f; texts = t; count = count }))
  needs_fail fault h = subst (Fails fault) (sym needs_by) (bind_fails fault (chain (need_at form f) count 0) (each (shown_need room t)) h)

  pub needs_on : (ns : List NeedNumbers) → chain (need_at form f) count 0 ≡ Some ns → each (shown_need room t) ns ≡ needed_versions form room (record { bytes = f; texts = t; count = count })
  needs_on ns e = sym (needs_by ∙ ap (λ o. o >>= (each (shown_need room t))) e)

-- ## Four steps, one after another

module _ {A B C D E : Type 0} (o1 : Option A) (o2 : Option B) (o3 : Option C) (o4 : Option D) (make : A → B → C → D → E) where
  pub four : Option E
  four = o1 >>= (λ a. o2 >>= (λ b. o3 >>= (λ c. o4 >>= (λ d. Some (make a b c d)))))

  pub first_fails : (fault : ViewFault) → Fails fault o1 → Fails fault four
  unfolding four
  first_fails fault h = bind_fails fault o1 (λ a. o2 >>= (λ b. o3 >>= (λ c. o4 >>= (λ d. Some (make a b c d))))) h

  pub second_fails : (fault : ViewFault) (a : A) → o1 ≡ Some a → Fails fault o2 → Fails fault four
  unfolding four
  second_fails fault a e1 h = bind_on fault o1 (λ x. o2 >>= (λ b. o3 >>= (λ c. o4 >>= (λ d. Some (make x b c d))))) a e1 (bind_fails fault o2 (λ b. o3 >>= (λ c. o4 >>= (λ d. Some (make a b c d)))) h)

  pub third_fails : (fault : ViewFault) (a : A) (b : B) → o1 ≡ Some a → o2 ≡ Some b → Fails fault o3 → Fails fault four
  unfolding four
  third_fails fault a b e1 e2 h =
      bind_on fault o1 (λ x. o2 >>= (λ y. o3 >>= (λ c. o4 >>= (λ d. Some (make x y c d))))) a e1
      (bind_on fault o2 (λ y. o3 >>= (λ c. o4 >>= (λ d. Some (make a y c d)))) b e2 (bind_fails fault o3 (λ c. o4 >>= (λ d. Some (make a b c d))) h))

  pub fourth_fails : (fault : ViewFault) (a : A) (b : B) (c : C) → o1 ≡ Some a → o2 ≡ Some b → o3 ≡ Some c → Fails fault o4 → Fails fault four
  unfolding four
  fourth_fails fault a b c e1 e2 e3 h =
      bind_on fault o1 (λ x. o2 >>= (λ y. o3 >>= (λ z. o4 >>= (λ d. Some (make x y z d))))) a e1
      (bind_on fault o2 (λ y. o3 >>= (λ z. o4 >>= (λ d. Some (make a y z d)))) b e2
      (bind_on fault o3 (λ z. o4 >>= (λ d. Some (make a b z d))) c e3 (bind_fails fault o4 (λ d. Some (make a b c d)) h)))

  pub four_shown : (a : A) (b : B) (c : C) (d : D) → o1 ≡ Some a → o2 ≡ Some b → o3 ≡ Some c → o4 ≡ Some d → four ≡ Some (make a b c d)
  unfolding four
  four_shown a b c d e1 e2 e3 e4 =
      some_bind o1 (λ x. o2 >>= (λ y. o3 >>= (λ z. o4 >>= (λ w. Some (make x y z w))))) a e1
      ∙ some_bind o2 (λ y. o3 >>= (λ z. o4 >>= (λ w. Some (make a y z w)))) b e2
      ∙ some_bind o3 (λ z. o4 >>= (λ w. Some (make a b z w))) c e3
      ∙ some_bind o4 (λ w. Some (make a b c w)) d e4

-- ## A view by its four parts

module _ (form : Form) (room : ℕ) (outline : View) (raw : List EntryNumbers) (tables : Tables) where
  abbrev pub entries_part : Option (List Entry)
  entries_part = each (shown_entry room tables.entry_texts) raw

  abbrev pub symbols_part : Option (Option (List NamedSymbol))
  symbols_part = when_wanted (has_tag DT_SYMTAB raw) (dynamic_symbols form room (has_tag DT_VERSYM raw) tables.symbols tables.versions)

  abbrev pub definitions_part : Option (Option (List VersionDefinition))
  definitions_part = when_wanted (has_tag DT_VERDEF raw && has_tag DT_VERDEFNUM raw) (defined_versions form room tables.definitions)

  abbrev pub needs_part : Option (Option (List VersionNeeds))
  needs_part = when_wanted (has_tag DT_VERNEED raw && has_tag DT_VERNEEDNUM raw) (needed_versions form room tables.needs)

  made : List Entry → Option (List NamedSymbol) → Option (List VersionDefinition) → Option (List VersionNeeds) → View
  made es ys ds ns = record outline { entries = Some es; symbols = ys; definitions = ds; needs = ns }

  view : Option View
  view = view_of form room outline raw tables

  view_four : view ≡ four entries_part symbols_part definitions_part needs_part made
  unfolding view view_of four made
  view_four = refl

  pub view_fails_entries : (fault : ViewFault) → Fails fault entries_part → Fails fault (view_of form room outline raw tables)
  unfolding view
  view_fails_entries fault h = subst (Fails fault) (sym view_four) (first_fails entries_part symbols_part definitions_part needs_part made fault h)

  pub view_fails_symbols : (fault : ViewFault) (es : List Entry) → entries_part ≡ Some es → Fails fault symbols_part → Fails fault (view_of form room outline raw tables)
  unfolding view
  view_fails_symbols fault es e1 h = subst (Fails fault) (sym view_four) (second_fails entries_part symbols_part definitions_part needs_part made fault es e1 h)

  pub view_fails_definitions : (fault : ViewFault) (es : List Entry) (ys : Option (List NamedSymbol)) → entries_part ≡ Some es → symbols_part ≡ Some ys → Fails fault definitions_part
      → Fails fault (view_of form room outline raw tables)
  unfolding view
  view_fails_definitions fault es ys e1 e2 h = subst (Fails fault) (sym view_four) (third_fails entries_part symbols_part definitions_part needs_part made fault es ys e1 e2 h)

  pub view_fails_needs : (fault : ViewFault) (es : List Entry) (ys : Option (List NamedSymbol)) (ds : Option (List VersionDefinition)) → entries_part ≡ Some es → symbols_part ≡ Some ys → definitions_part ≡ Some ds
      → Fails fault needs_part → Fails fault (view_of form room outline raw tables)
  unfolding view
  view_fails_needs fault es ys ds e1 e2 e3 h = subst (Fails fault) (sym view_four) (fourth_fails entries_part symbols_part definitions_part needs_part made fault es ys ds e1 e2 e3 h)

  pub view_shown : (es : List Entry) (ys : Option (List NamedSymbol)) (ds : Option (List VersionDefinition)) (ns : Option (List VersionNeeds)) → entries_part ≡ Some es → symbols_part ≡ Some ys
      → definitions_part ≡ Some ds → needs_part ≡ Some ns → view_of form room outline raw tables ≡ Some (record outline { entries = Some es; symbols = ys; definitions = ds; needs = ns })
  unfolding view made
  view_shown es ys ds ns e1 e2 e3 e4 = view_four ∙ four_shown entries_part symbols_part definitions_part needs_part made es ys ds ns e1 e2 e3 e4
