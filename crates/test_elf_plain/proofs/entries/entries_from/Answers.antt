-- One entry after another, up to the first DT_NULL.
use Rattle.std.proofs.Common.{◌≡◌, ◌≤◌, ◌+◌, ◌-◌, ◌++◌, ◌∷◌, [], ℕ, List, ap, ◌∙◌, subst, sym, Option, Some, arith}
use Rattle.std.proofs.lemmas.Result.{err_from_is_err_and}
use Rattle.patch_bytes.specs.declared.number.Wide.{Wide}
use Rattle.patch_bytes.specs.declared.number.Wide.TheVariants.{W32, W64}
use Rattle.patch_bytes.specs.Memory.{Memory, bytes_at}
use Rattle.elf_format.specs.Dynamic.{entries_at}
use Rattle.elf_format.specs.declared.form.Form.{Form}
use Rattle.elf_format.specs.Form.{by_class}
use Rattle.elf_format.specs.Answers.{Fails}
use Rattle.test_elf_plain.specs.PlainViews.{source_model}
use Rattle.elf_format.specs.declared.records.EntryNumbers.{EntryNumbers}
use Rattle.elf_format.specs.Records.{entry_numbers, entry_size}
use Rattle.elf_format.proofs.ReadingSteps.{with_front}
use Rattle.test_elf_plain.proofs.SourceSteps.{entry_fails, entry_goes, list_ended, list_endless}
use Rattle.test_elf_plain.proofs.entries.entries_from.Goals as goal

pub returns-in_err-record : goal.returns-in_err-record
returns-in_err-record c =
    let p = err_from_is_err_and c.from_residual.result c.from_residual.ensures.1 in
    let m : Memory = source_model c.args.source.now in
    rw (p.1, p.2) (entry_fails m c.args.form c.loop.made.items c.args.room c.loop.counter c.loop.place c.in_err-record.field-0.0 (entries_at c.args.room c.args.form m 0) c.loop-test.true
    (subst (λ n. Fails c.in_err-record.field-0.0 (bytes_at n m c.loop.place)) c.entry_size-size.ensures c.in_err-record.ensures) c.loop.invariant.made)

bound : (w : Wide) → by_class w 8 16 ≤ 16
bound W32 = omega arith
bound W64 = omega arith

there : (m : Memory) (form : Form) (size place : ℕ) (items bytes : List ℕ) → size ≡ entry_size form → bytes_at size m place ≡ Some items → bytes ≡ items → bytes_at (entry_size form) m place ≡ Some bytes
there m form size place items bytes is_size here is = ap (λ n. bytes_at n m place) (sym is_size) ∙ here ∙ ap Some (sym is)

pub returns-then-entry-eq0 : goal.returns-then-entry-eq0
returns-then-entry-eq0 c =
    let m : Memory = source_model c.args.source.now in
    list_ended m c.args.form c.loop.made.items c.args.room c.loop.counter c.loop.place c.deref.result.now (entries_at c.args.room c.args.form m 0) c.loop-test.true
    (there m c.args.form c.entry_size-size.result c.loop.place c.in_ok-record.record.items c.deref.result.now c.entry_size-size.ensures c.in_ok-record.ensures c.deref.ensures.value)
    (sym (ap (λ (x : EntryNumbers). x.d_tag) c.read_entry_numbers-entry.ensures) ∙ c.if-entry-eq0.true) c.loop.invariant.made

pub loop-preserved : goal.loop-preserved
loop-preserved c =
    let m : Memory = source_model c.args.source.now in
    let e : EntryNumbers = entry_numbers c.args.form c.deref.result.now in
    let whole : Option (List EntryNumbers) = entries_at c.args.room c.args.form m 0 in
    let left : ℕ = c.args.room - (c.loop.counter + 1) in
    let pushed : c.push.new.self.items ≡ c.loop.made.items ++ e ∷ [] = c.in_ok-push.ensures.items ∙ ap (λ (x : EntryNumbers). c.loop.made.items ++ x ∷ []) c.read_entry_numbers-entry.ensures in
    record {
      made = ap (λ l. with_front l (entries_at left c.args.form m (c.loop.place + c.entry_size-size.result))) pushed
          ∙ ap (λ n. with_front (c.loop.made.items ++ e ∷ []) (entries_at left c.args.form m (c.loop.place + n))) c.entry_size-size.ensures
          ∙ entry_goes m c.args.form c.loop.made.items c.args.room c.loop.counter c.loop.place c.deref.result.now whole c.loop-test.true
          (there m c.args.form c.entry_size-size.result c.loop.place c.in_ok-record.record.items c.deref.result.now c.entry_size-size.ensures c.in_ok-record.ensures c.deref.ensures.value)
          (λ z. c.if-entry-eq0.false (ap (λ (x : EntryNumbers). x.d_tag) c.read_entry_numbers-entry.ensures ∙ z)) c.loop.invariant.made;
      near = omega (arith, bound c.args.form.wide);
    }

pub returns : goal.returns
returns c =
    let m : Memory = source_model c.args.source.now in
    list_endless m c.args.form c.loop.made.items c.args.room c.loop.counter c.loop.place (entries_at c.args.room c.args.form m 0) c.loop-test.false c.loop.invariant.made
