-- The words stand one behind the other.
use Rattle.std.proofs.Common.{ℕ, List, Option, [], ◌∷◌, ◌++◌, length, ap, ◌∙◌}
use Rattle.elf_tables.specs.Fields.{fields, words}
use Rattle.elf_hashes.specs.Buckets.{chains, heads, in_buckets}
use Rattle.elf_hashes.proofs.WordLaws.{three-appended}
use Rattle.elf_hashes.proofs.gabi.gabi_table.Goals as goal

pub returns : goal.returns
returns c =
    let xs : List (Option ℕ) = in_buckets c.args.buckets c.args.hashes.now in
    let front : List ℕ = c.args.buckets ∷ length c.args.hashes.now ∷ [] in
    let spelled : List ℕ → List ℕ = λ ws. fields c.args.form.order (words ws) in
    three-appended c.args.form.order front (heads c.args.buckets xs) (chains 0 xs) c.push_words.new.bytes.items c.push_words-2.new.bytes.items c.push_words-3.new.bytes.items
    (c.in_ok-push_words.ensures ∙ ap (λ l. l ++ spelled front) c.new-table.ensures.items)
    (c.in_ok-push_words-2.ensures ∙ ap (λ l. c.push_words.new.bytes.items ++ spelled l) (c.as_slice.ensures.value ∙ c.in_ok-chained.ensures.0))
    (c.in_ok-push_words-3.ensures ∙ ap (λ l. c.push_words-2.new.bytes.items ++ spelled l) (c.as_slice-2.ensures.value ∙ c.in_ok-chained.ensures.1))
