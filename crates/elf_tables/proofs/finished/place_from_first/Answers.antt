use Rattle.std.proofs.Common.{◌≡◌, ◌≤◌, ℕ, List, None, true, false, get_or, length, refl, subst, sym, ap, ◌∙◌, inl, inr, ◌⊎◌, arith}
use Rattle.std.specs.Map.{lookup}
use Rattle.std.specs.Prelude.{drop}
use Rattle.std.specs.Str.{bytes_eq}
use Rattle.elf_tables.specs.StringSteps.{Numbered, with_places}
use Rattle.elf_tables.proofs.LaidPairs.{looked-here, looked-on, looked-places, looked-texts}
use Rattle.elf_tables.proofs.finished.place_from_first.Goals as goal
use Rattle.std.proofs.lemmas.Bool.{cases_lt}

pub loop-i-init : goal.loop-i-init
loop-i-init c = refl

pub returns-then-eq : goal.returns-then-eq
returns-then-eq c =
    let ks : List Numbered = c.args.texts.now in
    let there : c.text.result.now ≡ (get_or ks c.loop-i.i c.index-texts-i.result).text = c.text.ensures ∙ ap (λ (k : Numbered). k.text) c.index-texts-i.is in
    let same : bytes_eq c.args.text.now (get_or ks c.loop-i.i c.index-texts-i.result).text ≡ true =
    subst (λ (t : List ℕ). bytes_eq c.args.text.now t ≡ true) there (sym c.eq.ensures ∙ c.if-eq.true) in
    sym (looked-here c.args.text.now ks c.args.places.now c.loop-i.i c.index-texts-i.result 0 (omega arith) (omega arith) same) ∙ c.loop-i.invariant

pub loop-i-preserved : goal.loop-i-preserved
loop-i-preserved c =
    let ks : List Numbered = c.args.texts.now in
    let there : c.text.result.now ≡ (get_or ks c.loop-i.i c.index-texts-i.result).text = c.text.ensures ∙ ap (λ (k : Numbered). k.text) c.index-texts-i.is in
    let other : bytes_eq c.args.text.now (get_or ks c.loop-i.i c.index-texts-i.result).text ≡ false =
    subst (λ (t : List ℕ). bytes_eq c.args.text.now t ≡ false) there (sym c.eq.ensures ∙ c.if-eq.false) in
    looked-on c.args.text.now ks c.args.places.now c.loop-i.i c.index-texts-i.result 0 (omega arith) (omega arith) other ∙ c.loop-i.invariant

-- the texts end, or the places do
ended : (text : List ℕ) (ks : List Numbered) (places : List ℕ) (i : ℕ) → (length ks ≤ i) ⊎ (length places ≤ i)
    → lookup (bytes_eq text) (with_places (drop i ks) (drop i places)) ≡ None
ended text ks places i (inl past) = looked-texts text ks places i past
ended text ks places i (inr past) = looked-places text ks places i past

pub returns : goal.returns
returns c =
    let past : (length c.args.texts.now ≤ c.loop-i.i) ⊎ (length c.args.places.now ≤ c.loop-i.i) = elim (cases_lt c.loop-i.i (length c.args.texts.now)) [
      | inl low ↦ inr (omega (arith, low))
      | inr all ↦ inl all
    ] in
    sym (ended c.args.text.now c.args.texts.now c.args.places.now c.loop-i.i past) ∙ c.loop-i.invariant
