use Rattle.std.proofs.Common.{◌≡◌, ℕ, ◌+◌, ◌<◌, List, [], ◌++◌, ◌∷◌, length, get_or, take, false, subst, sym, ap, refl, ◌∙◌, arith}
use Rattle.std.proofs.lemmas.List.{get_or-map, length-append, length-map}
use Rattle.std.proofs.lemmas.Result.{err_from_is_err_and}
use Rattle.elf_tables.specs.Strings.{holds_nul}
use Rattle.elf_tables.specs.StringSteps.{Numbered, texts_in, with_places}
use Rattle.elf_tables.proofs.LaidPairs.{with_places-more}
use Rattle.elf_tables.proofs.LaySteps.{Growing, growing-all, growing-more, growing-start, growing-too_long}
use Rattle.elf_tables.proofs.laid.lay_bytes.Goals as goal

-- the text at a position
text_at : (ks : List Numbered) (i : ℕ) (k : Numbered) → i < length ks → k ≡ get_or ks i k → (i < length (texts_in ks)) × (get_or (texts_in ks) i [] ≡ k.text)
text_at ks i k low is = (
  omega (arith, low, length-map ks (λ (n : Numbered). n.text)),
  get_or-map (λ (n : Numbered). n.text) ks i k [] low ∙ ap (λ (n : Numbered). n.text) (sym is),
)

pub loop-keyed-init : goal.loop-keyed-init
loop-keyed-init c =
    let none : c.in_ok-places.places.items ≡ [] = c.in_ok-places.ensures.items in (
      subst (λ (last : List ℕ). Growing (texts_in c.args.texts.now) 0 c.in_ok-bytes.bytes.items last 0 (with_places (take 0 c.args.texts.now) c.in_ok-places.places.items))
          (sym c.requires.empty)
          (growing-start (texts_in c.args.texts.now) c.in_ok-bytes.bytes.items (with_places (take 0 c.args.texts.now) c.in_ok-places.places.items) c.in_ok-bytes.ensures
          (ap (with_places (take 0 c.args.texts.now)) none ∙ refl)),
      ap length none,
      omega arith,
    )

pub returns-in_err-place : goal.returns-in_err-place
returns-in_err-place c =
    let e = err_from_is_err_and c.from_residual-in_err-place.result c.from_residual-in_err-place.ensures.1 in
    rw (e.1, e.2) (λ large.
    let (ends, long) = c.in_err-place.ensures.puts large in
    let at = text_at c.args.texts.now c.loop-keyed.keyed-index c.keyed-item.result c.loop-keyed-test.true c.keyed-item.is in
    growing-too_long (texts_in c.args.texts.now) c.loop-keyed.keyed-index c.loop-keyed.bytes.items c.loop-keyed.last.now.text c.keyed-item.result.text []
    c.loop-keyed.place _ c.loop-keyed.invariant.0 at.0 at.1 ends long)

pub loop-keyed-preserved : goal.loop-keyed-preserved
loop-keyed-preserved c =
    let ks : List Numbered = c.args.texts.now in
    let i : ℕ = c.loop-keyed.keyed-index in
    let text : List ℕ = c.keyed-item.result.text in
    let at = text_at ks i c.keyed-item.result c.loop-keyed-test.true c.keyed-item.is in
    let none : holds_nul text ≡ false = subst (λ (t : List ℕ). holds_nul t ≡ false) at.1 (c.requires.none i [] at.0) in
    let more : with_places (take (i + 1) ks) c.push.new.self.items ≡ with_places (take i ks) c.loop-keyed.places.items ++ (text, c.in_ok-place.place) ∷ [] =
    ap (with_places (take (i + 1) ks)) c.in_ok-push.ensures.items
    ∙ with_places-more ks c.loop-keyed.places.items i c.keyed-item.result c.in_ok-place.place c.loop-keyed-test.true c.loop-keyed.invariant.1
    ∙ ap (λ (t : List ℕ). with_places (take i ks) c.loop-keyed.places.items ++ (t, c.in_ok-place.place) ∷ [])
    (ap (λ (n : Numbered). n.text) (sym c.keyed-item.is)) in (
      growing-more (texts_in ks) i c.loop-keyed.bytes.items c.put_text.new.bytes.items c.loop-keyed.last.now.text [] text c.loop-keyed.place c.in_ok-place.place
          (with_places (take i ks) c.loop-keyed.places.items) (with_places (take (i + 1) ks) c.push.new.self.items)
          c.loop-keyed.invariant.0 c.requires.sorted at.0 at.1 none c.in_ok-place.ensures.puts c.in_ok-place.ensures.same more,
      omega (arith, ap length c.in_ok-push.ensures.items, length-append c.loop-keyed.places.items (c.in_ok-place.place ∷ []), c.loop-keyed.invariant.1),
      omega (arith, c.loop-keyed-test.true),
    )

pub returns : goal.returns
returns c =
    growing-all c.args.texts.now c.loop-keyed.keyed-index c.loop-keyed.bytes.items c.loop-keyed.last.now.text c.loop-keyed.place c.loop-keyed.places.items
    c.loop-keyed.invariant.0 c.loop-keyed.invariant.1 (omega (arith, c.loop-keyed.invariant.2))
