-- What the reader of a loader's view answers.
use Rattle.std.proofs.Common.{◌≡◌, ℕ, List, refl, sym, ap, ◌∙◌, subst, Option, Some, None}
use Rattle.patch_bytes.specs.Memory.{◌>>=◌}
use Rattle.patch_bytes.proofs.MemoryLaws.{some_bind}
use Rattle.elf_format.specs.declared.constants.TheConstants.{PT_DYNAMIC}
use Rattle.elf_format.specs.declared.view_fault.ViewFault.{ViewFault}
use Rattle.elf_format.specs.File.{Opened, opened_of, segment_of_type, segments_of}
use Rattle.elf_format.specs.Answers.{Fails}
use Rattle.elf_format.specs.Seen.{flags_of_stack}
use Rattle.test_elf_plain.specs.PlainViews.{loaded_by_dynamic, loaded_interpreter_of}
use Rattle.elf_format.specs.declared.records.SegmentHeader.{SegmentHeader}
use Rattle.elf_format.specs.Views.{View, loader_view, loader_view_within, outline_of}
use Rattle.elf_format.proofs.ReadingSteps.{bind_fails, bind_on}

module _ (file : List ℕ) (symbol_count : ℕ) where
  after_interpreter : Opened → List SegmentHeader → Option (List ℕ) → Option View
  after_interpreter o segments interpreter = loaded_by_dynamic o.form file (outline_of o segments interpreter) segments symbol_count (segment_of_type PT_DYNAMIC segments)

  after_segments : Opened → List SegmentHeader → Option View
  after_segments o segments = loaded_interpreter_of file segments >>= (after_interpreter o segments)

  after_open : Opened → Option View
  after_open o = segments_of o >>= (after_segments o)

  by_opening : loader_view file symbol_count ≡ (opened_of file >>= after_open)
  unfolding loader_view_within after_open after_segments after_interpreter
  by_opening = refl

  pub loader_fails_open : (fault : ViewFault) → Fails fault (opened_of file) → Fails fault (loader_view file symbol_count)
  loader_fails_open fault h = subst (Fails fault) (sym by_opening) (bind_fails fault (opened_of file) after_open h)

  pub loader_fails_segments : (fault : ViewFault) (o : Opened) → opened_of file ≡ Some o → Fails fault (segments_of o) → Fails fault (loader_view file symbol_count)
  unfolding after_open
  loader_fails_segments fault o e1 h = subst (Fails fault) (sym by_opening) (bind_on fault (opened_of file) after_open o e1 (bind_fails fault (segments_of o) (after_segments o) h))

  pub loader_fails_interpreter : (fault : ViewFault) (o : Opened) (ps ps' : List SegmentHeader) → opened_of file ≡ Some o → segments_of o ≡ Some ps → ps' ≡ ps
      → Fails fault (loaded_interpreter_of file ps') → Fails fault (loader_view file symbol_count)
  unfolding after_open after_segments
  loader_fails_interpreter fault o ps ps' e1 e2 same h =
      subst (Fails fault) (sym by_opening) (bind_on fault (opened_of file) after_open o e1 (bind_on fault (segments_of o) (after_segments o) ps e2
      (bind_fails fault (loaded_interpreter_of file ps) (after_interpreter o ps) (subst (λ l. Fails fault (loaded_interpreter_of file l)) same h))))

  outline_by : Opened → Option ℕ → Option (List ℕ) → View
  outline_by o flags interpreter = record {
    os_abi = o.header.os_abi;
    stack_flags = flags;
    interpreter = interpreter;
    entries = None;
    symbols = None;
    definitions = None;
    needs = None;
  }

  shown_by : Opened → Option ℕ → Option (List ℕ) → List SegmentHeader → Option View
  shown_by o flags interpreter ps = loaded_by_dynamic o.form file (outline_by o flags interpreter) ps symbol_count (segment_of_type PT_DYNAMIC ps)

  pub loader_sees : (o : Opened) (ps : List SegmentHeader) → opened_of file ≡ Some o → segments_of o ≡ Some ps → (flags : Option ℕ) → flags ≡ flags_of_stack ps
      → (ps' : List SegmentHeader) → ps' ≡ ps → (i : Option (List ℕ)) → loaded_interpreter_of file ps' ≡ Some i → (ps'' : List SegmentHeader) → ps'' ≡ ps
      → loader_view file symbol_count ≡ loaded_by_dynamic o.form file (record { os_abi = o.header.os_abi; stack_flags = flags; interpreter = i; entries = None; symbols = None; definitions = None; needs = None }) ps'' symbol_count (segment_of_type PT_DYNAMIC ps'')
  unfolding after_open after_segments after_interpreter shown_by outline_by
  loader_sees o ps e1 e2 flags is_flags ps' same i there ps'' again =
      by_opening ∙ some_bind (opened_of file) after_open o e1 ∙ some_bind (segments_of o) (after_segments o) ps e2
      ∙ some_bind (loaded_interpreter_of file ps) (after_interpreter o ps) i (ap (loaded_interpreter_of file) (sym same) ∙ there)
      ∙ ap (λ f. shown_by o f i ps) (sym is_flags)
      ∙ ap (shown_by o flags i) (sym again)
