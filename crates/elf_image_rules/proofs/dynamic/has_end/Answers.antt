-- One entry after another, up to the first DT_NULL.
use Rattle.std.proofs.Common.{◌≡◌, ◌≤◌, ◌<◌, ◌+◌, ◌-◌, ℕ, List, length, take, drop, sym, ap, ◌∙◌, subst}
use Rattle.std.specs.Prelude.{is_some}
use Rattle.elf_format.specs.Memory.{memory_of}
use Rattle.elf_format.specs.Dynamic.{entries_at}
use Rattle.elf_format.specs.declared.form.Form.{Form}
use Rattle.elf_format.specs.declared.records.EntryNumbers.{EntryNumbers}
use Rattle.elf_format.specs.Records.{entry_numbers, entry_size}
use Rattle.elf_image_rules.proofs.DynamicSteps.{end_goes, end_here, end_none, end_short}
use Rattle.elf_image_rules.proofs.dynamic.has_end.Goals as goal

pub returns-then-rest-size : goal.returns-then-rest-size
returns-then-rest-size c =
    sym (end_short c.args.form c.args.room c.loop.counter c.loop.rest.now c.loop-test.true (subst (λ n. length c.loop.rest.now < n) c.entry_size-size.ensures c.if-rest-size.true))
    ∙ c.loop.invariant

pub returns-then-entry-eq0 : goal.returns-then-entry-eq0
returns-then-entry-eq0 c =
    let form : Form = c.args.form in
    let rest : List ℕ = c.loop.rest.now in
    let e : c.read_entry_numbers-entry.result ≡ entry_numbers form (take (entry_size form) rest) = cc (c.entry_size-size.ensures, c.split_at.ensures.front, c.read_entry_numbers-entry.ensures) in
    let fits : entry_size form ≤ length rest = subst (λ n. n ≤ length rest) c.entry_size-size.ensures c.if-rest-size.false in
    sym (end_here form c.args.room c.loop.counter rest c.loop-test.true fits (sym (ap (λ (x : EntryNumbers). x.d_tag) e) ∙ c.if-entry-eq0.true)) ∙ c.loop.invariant

pub loop-preserved : goal.loop-preserved
loop-preserved c =
    let form : Form = c.args.form in
    let rest : List ℕ = c.loop.rest.now in
    let e : c.read_entry_numbers-entry.result ≡ entry_numbers form (take (entry_size form) rest) = cc (c.entry_size-size.ensures, c.split_at.ensures.front, c.read_entry_numbers-entry.ensures) in
    let fits : entry_size form ≤ length rest = subst (λ n. n ≤ length rest) c.entry_size-size.ensures c.if-rest-size.false in
    let after : c.split_at.result.1.now ≡ drop (entry_size form) rest = c.split_at.ensures.back ∙ ap (λ n. drop n rest) c.entry_size-size.ensures in
    ap (λ b. is_some (entries_at (c.args.room - (c.loop.counter + 1)) form (memory_of b) 0)) after
    ∙ end_goes form c.args.room c.loop.counter rest c.loop-test.true fits (λ z. c.if-entry-eq0.false (ap (λ (x : EntryNumbers). x.d_tag) e ∙ z)) ∙ c.loop.invariant

pub returns : goal.returns
returns c = sym (end_none c.args.form c.args.room c.loop.counter c.loop.rest.now c.loop-test.false) ∙ c.loop.invariant
