-- The name at the place is the text where the text stands there, a NUL behind it and none in it.
use Rattle.std.proofs.Common.{◌≡◌, ◌-◌, ℕ, List, [], Bool, Option, Some, None, true, false, length, take, drop, refl, sym, ap, ◌∙◌, subst, arith}
use Rattle.std.specs.Prelude.{Decides, is_some, not, option_map, slice_index, unwrap_or}
use Rattle.std.specs.Str.{bytes_eq}
use Rattle.std.proofs.lemmas.Bool.{eq-eqb, eqb-true, false≢true, true≢false}
use Rattle.std.proofs.lemmas.Bool.Decides.{same_from_decides}
use Rattle.std.proofs.lemmas.Option.{same_Some}
use Rattle.std.proofs.lemmas.Slice.Eq.{bytes_eq-Decides}
use Rattle.memchr.specs.Find.{IsFirstByte, Nowhere, Passes, is_byte}
use Rattle.elf_format.specs.Memory.{memory_of, text_at}
use Rattle.elf_image_symbols.proofs.NameSteps.{BeginWith, text_of_rest, text_shown, text_stands, there_within}
use Rattle.elf_image_symbols.proofs.ShownSteps.{some_there}
use Rattle.elf_image_symbols.proofs.names.is_text_there.Goals as goal
use Rattle.elf_image_symbols.proofs.names.is_text_there.Goals.{then-rest-text-via-then-rest-text, then-rest-text-via-else-rest-text+then-rest-text-ne0}

-- what tells of each name that it is the text tells it of the name at the place
told : (texts text : List ℕ) (place : ℕ) (is_same : Bool) → is_some (text_at (length texts) (memory_of texts) place) ≡ true
    → ((name : List ℕ) → BeginWith (take (length texts - place) (drop place texts)) name → Decides is_same (name ≡ text))
    → option_map (λ name. bytes_eq name text) (text_at (length texts) (memory_of texts) place) ≡ Some is_same
told texts text place is_same there decides =
    let name : List ℕ = unwrap_or (text_at (length texts) (memory_of texts) place) [] in
    let is : text_at (length texts) (memory_of texts) place ≡ Some name = some_there (text_at (length texts) (memory_of texts) place) [] there in
    let stands : BeginWith (take (length texts - place) (drop place texts)) name = text_stands (take (length texts - place) (drop place texts)) name (sym (text_of_rest place texts) ∙ is) in
    ap (option_map (λ (n : List ℕ). bytes_eq n text)) is
    ∙ ap (λ (b : Bool). Some b) (same_from_decides (bytes_eq name text) is_same (bytes_eq-Decides name text) (decides name stands))

-- no NUL is in a text where none is found
none_found : (text : List ℕ) (found : Option ℕ) (is_none : Bool) → IsFirstByte (is_byte 0) text found → is_some found ≡ not is_none
    → Decides is_none (Nowhere (Passes (is_byte 0) text) 0 (length text))
none_found text None true none is = (λ _. none, λ _. refl)
none_found text None false none is = absurd (false≢true is)
none_found text (Some k) true first is = absurd (true≢false is)
none_found text (Some k) false first is = (λ f. absurd (false≢true f), λ none. absurd (none k (omega arith) first.0.high first.1))

pub slice_bounds-rest-count : goal.slice_bounds-rest-count
slice_bounds-rest-count c = let low = there_within (length c.args.texts.now) c.args.place c.args.texts.now (omega arith) c.requires in omega (arith, low)

pub slice_bounds-rest-start : goal.slice_bounds-rest-start
slice_bounds-rest-start c = let low = there_within (length c.args.texts.now) c.args.place c.args.texts.now (omega arith) c.requires in omega (arith, low)

pub returns-then-rest-text : goal.returns-then-rest-text
returns-then-rest-text c =
    let rest : List ℕ = take (length c.args.texts.now - c.args.place) (drop c.args.place c.args.texts.now) in
    let text : List ℕ = c.args.text.now in
    told c.args.texts.now text c.args.place false c.requires (λ name stands. (
      λ is. absurd (false≢true is),
      λ same. elim c.then-rest-text.branch [
        | then-rest-text-via-then-rest-text w ↦ let long = ap (λ (l : List ℕ). length l) same in absurd (omega (arith, stands.less, long, w.if-rest-text.true))
        | then-rest-text-via-else-rest-text+then-rest-text-ne0 w ↦
            absurd (w.if-rest-text-ne0.true (ap (λ (l : List ℕ). slice_index rest (length l)) (sym same) ∙ eqb-true (slice_index rest (length name)) 0 stands.nul))
      ],
    ))

pub returns-then-eq : goal.returns-then-eq
returns-then-eq c =
    let rest : List ℕ = take (length c.args.texts.now - c.args.place) (drop c.args.place c.args.texts.now) in
    let text : List ℕ = c.args.text.now in
    let none = none_found text c.memchr.result c.is_none.result c.memchr.ensures c.is_none.ensures in
    let front : take (length text) rest ≡ text = sym c.split_at.ensures.front ∙ (bytes_eq-Decides c.split_at.result.0.now text).0 (sym c.if-eq.ensures) in
    told c.args.texts.now text c.args.place c.is_none.result c.requires (λ name stands. (
      λ is.
          let stands_too : BeginWith rest text = record { less = c.if-rest-text.false; front = front; nul = eq-eqb (slice_index rest (length text)) 0 c.if-rest-text-ne0.false; before = none.0 is } in
          same_Some name text (sym (text_shown rest name stands) ∙ text_shown rest text stands_too),
      λ same. none.1 (subst (λ (l : List ℕ). Nowhere (Passes (is_byte 0) l) 0 (length l)) same stands.before),
    ))

pub returns-else-eq : goal.returns-else-eq
returns-else-eq c =
    let rest : List ℕ = take (length c.args.texts.now - c.args.place) (drop c.args.place c.args.texts.now) in
    let text : List ℕ = c.args.text.now in
    told c.args.texts.now text c.args.place c.eq.result c.requires (λ name stands. (
      λ is. absurd (false≢true (sym c.if-eq.false ∙ is)),
      λ same.
          c.eq.ensures ∙ (bytes_eq-Decides c.split_at.result.0.now text).1
          (c.split_at.ensures.front ∙ ap (λ (l : List ℕ). take (length l) rest) (sym same) ∙ stands.front ∙ same),
    ))
