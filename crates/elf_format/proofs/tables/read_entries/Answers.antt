-- One entry after another, up to the first DT_NULL.
use Rattle.std.proofs.Common.{◌≡◌, ◌≤◌, ◌<◌, ◌+◌, ◌-◌, ◌++◌, ◌∷◌, [], ℕ, List, length, take, drop, sym, ap, ◌∙◌, subst}
use Rattle.patch_bytes.specs.Memory.{memory_of}
use Rattle.elf_format.specs.Dynamic.{entries_at}
use Rattle.elf_format.specs.Form.{Form}
use Rattle.elf_format.specs.Records.{EntryNumbers, entry_numbers, entry_size}
use Rattle.elf_format.proofs.EntrySteps.{entries_end, entries_goes, entries_none, entries_short}
use Rattle.elf_format.proofs.ReadingSteps.{with_front}
use Rattle.elf_format.proofs.tables.read_entries.Goals as goal

pub returns-then-rest-size : goal.returns-then-rest-size
returns-then-rest-size c =
    entries_short c.args.form c.loop.made.items c.args.room c.loop.counter c.loop.rest.now (entries_at c.args.room c.args.form (memory_of c.args.bytes.now) 0) c.loop-test.true
    (subst (λ n. length c.loop.rest.now < n) c.entry_size-size.ensures c.if-rest-size.true) c.loop.invariant

-- the entry that was read is the first of the rest
read_from : (form : Form) (size : ℕ) (rest front : List ℕ) (e : EntryNumbers) → size ≡ entry_size form → front ≡ take size rest → e ≡ entry_numbers form front
    → e ≡ entry_numbers form (take (entry_size form) rest)
read_from form size rest front e is_size is_front is_read = is_read ∙ ap (entry_numbers form) (is_front ∙ ap (λ n. take n rest) is_size)

pub returns-then-entry-eq0 : goal.returns-then-entry-eq0
returns-then-entry-eq0 c =
    let form : Form = c.args.form in
    let rest : List ℕ = c.loop.rest.now in
    let e : c.read_entry_numbers-entry.result ≡ entry_numbers form (take (entry_size form) rest) = read_from form c.entry_size-size.result rest c.split_at.result.0.now c.read_entry_numbers-entry.result c.entry_size-size.ensures c.split_at.ensures.front c.read_entry_numbers-entry.ensures in
    let fits : entry_size form ≤ length rest = subst (λ n. n ≤ length rest) c.entry_size-size.ensures c.if-rest-size.false in
    entries_end form c.loop.made.items c.args.room c.loop.counter rest (entries_at c.args.room form (memory_of c.args.bytes.now) 0) c.loop-test.true fits
    (sym (ap (λ (x : EntryNumbers). x.d_tag) e) ∙ c.if-entry-eq0.true) c.loop.invariant

pub loop-preserved : goal.loop-preserved
loop-preserved c =
    let form : Form = c.args.form in
    let rest : List ℕ = c.loop.rest.now in
    let first : EntryNumbers = entry_numbers form (take (entry_size form) rest) in
    let e : c.read_entry_numbers-entry.result ≡ first = read_from form c.entry_size-size.result rest c.split_at.result.0.now c.read_entry_numbers-entry.result c.entry_size-size.ensures c.split_at.ensures.front c.read_entry_numbers-entry.ensures in
    let fits : entry_size form ≤ length rest = subst (λ n. n ≤ length rest) c.entry_size-size.ensures c.if-rest-size.false in
    let pushed : c.push.new.self.items ≡ c.loop.made.items ++ first ∷ [] = c.in_ok-push.ensures.items ∙ ap (λ (x : EntryNumbers). c.loop.made.items ++ x ∷ []) e in
    let left : c.split_at.result.1.now ≡ drop (entry_size form) rest = c.split_at.ensures.back ∙ ap (λ n. drop n rest) c.entry_size-size.ensures in
    ap (λ m. with_front m (entries_at (c.args.room - (c.loop.counter + 1)) form (memory_of c.split_at.result.1.now) 0)) pushed
    ∙ ap (λ b. with_front (c.loop.made.items ++ first ∷ []) (entries_at (c.args.room - (c.loop.counter + 1)) form (memory_of b) 0)) left
    ∙ entries_goes form c.loop.made.items c.args.room c.loop.counter rest (entries_at c.args.room form (memory_of c.args.bytes.now) 0) c.loop-test.true fits
    (λ z. c.if-entry-eq0.false (ap (λ (x : EntryNumbers). x.d_tag) e ∙ z)) c.loop.invariant

pub returns : goal.returns
returns c = entries_none c.args.form c.loop.made.items c.args.room c.loop.counter c.loop.rest.now (entries_at c.args.room c.args.form (memory_of c.args.bytes.now) 0) c.loop-test.false c.loop.invariant
