-- What the reader of a whole section view answers.
use Rattle.std.proofs.Common.{◌≡◌, ℕ, List, refl, sym, ap, ◌∙◌, subst, Option, Some, None}
use Rattle.patch_bytes.specs.Memory.{◌>>=◌}
use Rattle.patch_bytes.proofs.MemoryLaws.{some_bind}
use Rattle.elf_format.specs.declared.constants.TheConstants.{SHT_DYNAMIC}
use Rattle.elf_format.specs.declared.view_fault.ViewFault.{ViewFault}
use Rattle.elf_format.specs.File.{Opened, opened_of, section_of_type, sections_of, segments_of}
use Rattle.elf_format.specs.Answers.{Fails}
use Rattle.elf_format.specs.Seen.{bytes_of_interpreter, flags_of_stack, view_by_dynamic}
use Rattle.elf_format.specs.Records.{SectionHeader, SegmentHeader}
use Rattle.elf_format.specs.Views.{View, outline_of, section_view}
use Rattle.elf_format.proofs.ReadingSteps.{bind_fails, bind_on}

module _ (file : List ℕ) where
  after_sections : Opened → List SegmentHeader → List SectionHeader → Option View
  after_sections o segments sections = view_by_dynamic o.form file (outline_of o segments (bytes_of_interpreter file segments sections)) sections (section_of_type SHT_DYNAMIC sections)

  after_segments : Opened → List SegmentHeader → Option View
  after_segments o segments = sections_of o >>= (after_sections o segments)

  after_open : Opened → Option View
  after_open o = segments_of o >>= (after_segments o)

  by_opening : section_view file ≡ (opened_of file >>= after_open)
  unfolding section_view after_open after_segments after_sections
  by_opening = refl

  pub fails_open : (fault : ViewFault) → Fails fault (opened_of file) → Fails fault (section_view file)
  fails_open fault h = subst (Fails fault) (sym by_opening) (bind_fails fault (opened_of file) after_open h)

  pub fails_segments : (fault : ViewFault) (o : Opened) → opened_of file ≡ Some o → Fails fault (segments_of o) → Fails fault (section_view file)
  unfolding after_open
  fails_segments fault o e1 h = subst (Fails fault) (sym by_opening) (bind_on fault (opened_of file) after_open o e1 (bind_fails fault (segments_of o) (after_segments o) h))

  pub fails_sections : (fault : ViewFault) (o : Opened) (ps : List SegmentHeader) → opened_of file ≡ Some o → segments_of o ≡ Some ps → Fails fault (sections_of o) → Fails fault (section_view file)
  unfolding after_open after_segments
  fails_sections fault o ps e1 e2 h =
      subst (Fails fault) (sym by_opening) (bind_on fault (opened_of file) after_open o e1 (bind_on fault (segments_of o) (after_segments o) ps e2 (bind_fails fault (sections_of o) (after_sections o ps) h)))

  pub shown_from : (o : Opened) (ps : List SegmentHeader) (ss : List SectionHeader) → opened_of file ≡ Some o → segments_of o ≡ Some ps → sections_of o ≡ Some ss
      → section_view file ≡ view_by_dynamic o.form file (outline_of o ps (bytes_of_interpreter file ps ss)) ss (section_of_type SHT_DYNAMIC ss)
  unfolding after_open after_segments after_sections
  shown_from o ps ss e1 e2 e3 =
      by_opening ∙ some_bind (opened_of file) after_open o e1 ∙ some_bind (segments_of o) (after_segments o) ps e2 ∙ some_bind (sections_of o) (after_sections o ps) ss e3

  outline_by : Opened → Option ℕ → Option (List ℕ) → View
  outline_by o flags interpreter = record {
    os_abi = o.header.os_abi;
    stack_flags = flags;
    interpreter = interpreter;
    entries = None;
    symbols = None;
    definitions = None;
    needs = None;
  }

  shown_by : Opened → Option ℕ → Option (List ℕ) → List SectionHeader → Option View
  shown_by o flags interpreter ss = view_by_dynamic o.form file (outline_by o flags interpreter) ss (section_of_type SHT_DYNAMIC ss)

  pub seen_from : (o : Opened) (ps : List SegmentHeader) (ss : List SectionHeader) → opened_of file ≡ Some o → segments_of o ≡ Some ps → sections_of o ≡ Some ss
      → (flags : Option ℕ) → flags ≡ flags_of_stack ps → (i : Option (List ℕ)) → i ≡ bytes_of_interpreter file ps ss → (ss' : List SectionHeader) → ss' ≡ ss
      → section_view file ≡ view_by_dynamic o.form file (record { os_abi = o.header.os_abi; stack_flags = flags; interpreter = i; entries = None; symbols = None; definitions = None; needs = None }) ss' (section_of_type SHT_DYNAMIC ss')
  unfolding shown_by outline_by
  seen_from o ps ss e1 e2 e3 flags ef i ei ss' es =
      shown_from o ps ss e1 e2 e3
      ∙ ap (λ f. shown_by o f (bytes_of_interpreter file ps ss) ss) (sym ef)
      ∙ ap (λ j. shown_by o flags j ss) (sym ei)
      ∙ ap (λ l. shown_by o flags i l) (sym es)
