use Rattle.std.proofs.Common.{◌≡◌, ◌≤◌, ◌+◌, ◌++◌, ◌∷◌, [], ℕ, List, length, sym, subst, ap, ◌∙◌, append_assoc, arith, rules}
use Rattle.std.proofs.lemmas.Bool.{true≢false}
use Rattle.elf_tables.proofs.TextOrder.{IsEnd, IsEnd-refl, ends_with-from}
use Rattle.elf_tables.proofs.StandingTexts.{puts-behind, puts-shared, stands-within}
use Rattle.elf_tables.proofs.laid.put_text.Goals as goal

pub overflow_cast-result : goal.overflow_cast-result
overflow_cast-result c = omega (arith, stands-within c.args.bytes.now.items c.args.place c.args.last.now.text c.requires.last_stands, ap length c.text.ensures, ap length c.text-text.ensures)

pub overflow_add-result : goal.overflow_add-result
overflow_add-result c = omega (arith, stands-within c.args.bytes.now.items c.args.place c.args.last.now.text c.requires.last_stands, ap length c.text.ensures, ap length c.text-text.ensures)

pub returns-then-ends-clause-puts : goal.returns-then-ends-clause-puts
returns-then-ends-clause-puts c =
    rw (c.text.ensures, c.text-text.ensures)
    (puts-shared c.args.bytes.now.items c.args.last.now.text c.args.keyed.now.text c.args.place c.requires.fits c.requires.last_stands (sym c.ends.ensures ∙ c.if-ends.true))

pub returns-then-ends-clause-same : goal.returns-then-ends-clause-same
returns-then-ends-clause-same c same = omega (arith, ap (λ (t : List ℕ). length t) (c.text.ensures ∙ same ∙ sym c.text-text.ensures))

-- a text ends itself, so another was put
pub returns-clause-same : goal.returns-clause-same
returns-clause-same c same =
    let ends : IsEnd c.args.last.now.text c.args.keyed.now.text = subst (IsEnd c.args.last.now.text) same (IsEnd-refl c.args.last.now.text) in
    absurd (true≢false (sym (ends_with-from c.args.last.now.text c.args.keyed.now.text ends) ∙ sym c.ends.ensures ∙ c.if-ends.false))

pub returns-clause-puts : goal.returns-clause-puts
returns-clause-puts c =
    let bytes : List ℕ = c.args.bytes.now.items in
    let at : c.len-end.result ≡ length bytes = search rules in
    let grown : c.push.new.self.items ≡ bytes ++ (c.args.keyed.now.text ++ 0 ∷ []) =
    c.in_ok-push.ensures.items ∙ ap (λ l. l ++ 0 ∷ []) (c.in_ok-extend_from_slice.ensures.items ∙ ap (λ t. bytes ++ t) c.text-text.ensures)
    ∙ append_assoc bytes c.args.keyed.now.text (0 ∷ []) in
    let fits : length bytes + (length c.args.keyed.now.text + 1) ≤ 4294967296 = omega (arith, at, ap length c.text-text.ensures) in
    rw at (puts-behind bytes c.push.new.self.items c.args.last.now.text c.args.keyed.now.text grown fits (sym c.ends.ensures ∙ c.if-ends.false))
