-- The names of the records that are left are there, or one isn't.
use Rattle.std.proofs.Common.{◌≡◌, ◌≤◌, ◌<◌, ◌+◌, ◌-◌, ◌*◌, ◌/◌, ℕ, List, Option, Bool, length, take, drop, sym, ap, subst, ◌∙◌, arith}
use Rattle.std.specs.Prelude.{◌&&◌, is_some, nat_lt}
use Rattle.std.proofs.lemmas.List.{length-drop}
use Rattle.std.proofs.lemmas.Bool.{le-ltb, lt-ltb}
use Rattle.elf_format.specs.Memory.{memory_of, text_at}
use Rattle.elf_format.specs.declared.records.SymbolNumbers.{SymbolNumbers}
use Rattle.elf_format.specs.Form.{records}
use Rattle.elf_format.specs.declared.form.Form.{Form}
use Rattle.elf_format.specs.Records.{symbol_numbers, symbol_size, symbols_in}
use Rattle.elf_format.specs.Views.{names_of}
use Rattle.elf_format.proofs.ForCallers.TableSteps.{rest_left}
use Rattle.elf_image_symbols.proofs.NameSteps.{each_there, none_left}
use Rattle.elf_image_symbols.proofs.names.are_names_there.Goals as goal

module _ (form : Form) (texts bytes : List ℕ) (end size count i : ℕ) (rest front : List ℕ) (place : ℕ)
    (ends : (room n : ℕ) → length texts ≤ room → is_some (text_at room (memory_of texts) n) ≡ nat_lt n end)
    (is_front : front ≡ take size rest) (is_place : place ≡ (symbol_numbers form front).st_name) (less : i < count) where
  abbrev names_left : ℕ → List ℕ → Bool
  names_left left records_left = is_some (names_of (length texts) (memory_of texts) (records (symbol_numbers form) size left records_left))

  one_read : names_left (count - i) rest ≡ (nat_lt place end && names_left (count - (i + 1)) (drop size rest))
  one_read =
      let f : SymbolNumbers → Option (List ℕ) = λ y. text_at (length texts) (memory_of texts) y.st_name in
      each_there f (symbol_numbers form) size count i rest less
      ∙ ap (λ (b : Bool). b && names_left (count - (i + 1)) (drop size rest))
      (ap (λ l. is_some (f (symbol_numbers form l))) (sym is_front) ∙ ap (λ n. is_some (text_at (length texts) (memory_of texts) n)) (sym is_place) ∙ ends (length texts) place (omega arith))

-- all records, by their size
by_size : (form : Form) (texts bytes : List ℕ) (size : ℕ) → size ≡ symbol_size form
    → is_some (names_of (length texts) (memory_of texts) (records (symbol_numbers form) size (length bytes / size) bytes)) ≡ is_some (names_of (length texts) (memory_of texts) (symbols_in form bytes))
by_size form texts bytes size is = ap (λ n. is_some (names_of (length texts) (memory_of texts) (records (symbol_numbers form) n (length bytes / n) bytes))) is

pub returns-then-name_place-end : goal.returns-then-name_place-end
returns-then-name_place-end c =
    let size : ℕ = c.symbol_size-size.result in
    let count : ℕ = length c.args.bytes.now / size in
    let left : List ℕ = drop size c.loop.rest.now in
    let read =
    one_read c.args.form c.args.texts.now c.args.bytes.now c.end_of_texts-end.result size count c.loop.counter c.loop.rest.now c.split_at.result.0.now c.name_place.result
    c.end_of_texts-end.ensures c.split_at.ensures.front c.name_place.ensures c.loop-test.true in
    sym (ap (λ (b : Bool). b && is_some (names_of (length c.args.texts.now) (memory_of c.args.texts.now) (records (symbol_numbers c.args.form) size (count - (c.loop.counter + 1)) left)))
    (le-ltb c.name_place.result c.end_of_texts-end.result c.if-name_place-end.true))
    ∙ sym read ∙ c.loop.invariant.same ∙ by_size c.args.form c.args.texts.now c.args.bytes.now size c.symbol_size-size.ensures.value

pub loop-preserved : goal.loop-preserved
loop-preserved c =
    let size : ℕ = c.symbol_size-size.result in
    let count : ℕ = length c.args.bytes.now / size in
    let rest : List ℕ = c.loop.rest.now in
    let left : ℕ = count - (c.loop.counter + 1) in
    let room : left * size ≤ length rest - size = rest_left count c.loop.counter size (length rest) c.loop-test.true c.loop.invariant.room in
    let read =
    one_read c.args.form c.args.texts.now c.args.bytes.now c.end_of_texts-end.result size count c.loop.counter rest c.split_at.result.0.now c.name_place.result
    c.end_of_texts-end.ensures c.split_at.ensures.front c.name_place.ensures c.loop-test.true in
    let names : List ℕ → Bool = λ b. is_some (names_of (length c.args.texts.now) (memory_of c.args.texts.now) (records (symbol_numbers c.args.form) size left b)) in
    record {
      room = subst (λ b. left * size ≤ length b) (sym c.split_at.ensures.back) (subst (λ n. left * size ≤ n) (sym (length-drop size rest)) room);
      same = ap names c.split_at.ensures.back
          ∙ sym (ap (λ (b : Bool). b && names (drop size rest)) (lt-ltb c.name_place.result c.end_of_texts-end.result c.if-name_place-end.false))
          ∙ sym read ∙ c.loop.invariant.same;
    }

pub returns : goal.returns
returns c =
    let size : ℕ = c.symbol_size-size.result in
    let count : ℕ = length c.args.bytes.now / size in
    sym (none_left (λ y. text_at (length c.args.texts.now) (memory_of c.args.texts.now) y.st_name) (symbol_numbers c.args.form) size count c.loop.counter c.loop.rest.now c.loop-test.false)
    ∙ c.loop.invariant.same ∙ by_size c.args.form c.args.texts.now c.args.bytes.now size c.symbol_size-size.ensures.value
