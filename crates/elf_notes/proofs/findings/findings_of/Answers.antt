-- Each of what they find.
use Rattle.std.proofs.Common.{◌≡◌, ◌∙◌, ◌++◌, ap, filter, map, List, Bor}
use Rattle.std.specs.Prelude.{is_none}
use Rattle.elf_edits.specs.Edit.{Edit}
use Rattle.elf_edits.specs.EditModel.{edit_model}
use Rattle.elf_edits.specs.Entries.{needed_names}
use Rattle.elf_edits.specs.Texts.{is_among}
use Rattle.elf_image.specs.ImageModel.{entry_model}
use Rattle.elf_notes.specs.Notes.{Name, asked, entries_asked, is_unmatched, libraries_asked, needed_of, put, recorded_of}
use Rattle.elf_notes.proofs.NameSteps.{none_made}
use Rattle.elf_notes.proofs.findings.findings_of.Goals as goal

pub returns : goal.returns
returns c =
    let named : List (Bor Name) → List Name = map (λ n. n.now) in
    let edits : List Edit = map edit_model c.args.edits.now in
    let needed : List Name = needed_of c.args.image.now in
    let recorded : List Name = recorded_of c.args.image.now in
    let needed_is : named c.deref.result.now ≡ needed = ap named c.deref.ensures.value ∙ c.in_ok-needed.ensures ∙ ap needed_names c.entries_of.ensures in
    let put_is : named c.deref-2.result.now ≡ put edits = ap named c.deref-2.ensures.value ∙ c.in_ok-put.ensures in
    let needed_too : named c.deref-3.result.now ≡ needed = ap named c.deref-3.ensures.value ∙ c.in_ok-needed.ensures ∙ ap needed_names c.entries_of.ensures in
    let put_too : named c.deref-4.result.now ≡ put edits = ap named c.deref-4.ensures.value ∙ c.in_ok-put.ensures in
    let unmatched_by : List Name → List Name → List Name = λ known putting. filter (is_unmatched known putting) (entries_asked edits) ++ filter (is_unmatched (known ++ recorded) putting) (libraries_asked edits) in
    record {
      dropped = c.in_ok-dropped.ensures
          ∙ ap (λ l. filter (is_among (l ++ named c.deref-2.result.now)) (asked edits)) needed_is
          ∙ ap (λ l. filter (is_among (needed ++ l)) (asked edits)) put_is;
      unmatched = c.in_ok-unmatched.ensures ∙ ap (λ l. unmatched_by l (named c.deref-4.result.now)) needed_too ∙ ap (unmatched_by needed) put_too;
      unmatched_symbols = c.in_ok-unmatched_symbols.ensures;
      no_names = c.has_no_names.ensures;
      no_pairs = c.has_no_pairs.ensures;
      own_loader = c.gives_itself_a_run_path.ensures;
      other_name = c.gives_loader_another_name.ensures;
      no_list = none_made (λ list. map entry_model list.now) c.dynamic_data.result c.is_none.result c.is_none.ensures ∙ ap is_none c.dynamic_data.ensures;
      debug = c.add_debug.ensures;
      loose_headers = c.has_loose_headers.ensures;
      bytes_behind = c.has_bytes_behind.ensures;
    }
