-- One entry more, and at the end all of them.
use Rattle.std.proofs.Common.{rules, ◌≡◌, ◌<◌, ◌≤◌, ◌+◌, ℕ, List, length, map, drop, ◌++◌, arith, ap, sym, ◌∙◌, subst, true, false}
use Rattle.std.specs.Prelude.{min}
use Rattle.std.specs.List.{slice_get}
use Rattle.elf_format.specs.Answers.{borrowed}
use Rattle.elf_format.specs.declared.records.EntryNumbers.{EntryNumbers}
use Rattle.elf_format.specs.Options.{is_some_and}
use Rattle.elf_image.specs.ImageModel.{entry_model}
use Rattle.elf_write_strings.specs.PlacedTexts.{has_text, places_among}
use Rattle.elf_write_strings.proofs.TextsPlaced.{all_places, is_found, is_passed}
use Rattle.elf_write_strings.proofs.texts.places_among.Goals as goal
use Rattle.elf_write_strings.proofs.texts.places_among.Goals.{then-is_next+in_ok-push, else-is_next}

pub loop-i-preserved : goal.loop-i-preserved
loop-i-preserved c =
    let i : ℕ = c.loop-i.i in
    let ts : List (List ℕ) = map borrowed c.args.texts.now in
    let whole : List ℕ = places_among ts (map entry_model c.args.entries.now) c.args.numbers.now in
    let none : EntryNumbers = record { d_tag = 0; d_value = 0 } in
    let made : List ℕ = c.loop-i.places.items in
    let within : i < min (length c.args.entries.now) (length c.args.numbers.now) = omega arith in
    let long : c.len.result ≡ length made = search rules in
    elim c.if-is_next.branch [
      | then-is_next+in_ok-push w ↦
          let here : is_some_and (λ t. has_text t (entry_model c.index-entries-i.result)) (slice_get ts c.len.result) ≡ true = sym c.is_next.ensures ∙ w.if-is_next.true in
          subst (λ (ps : List ℕ). ps ++ places_among (drop (length ps) ts) (map entry_model (drop (i + 1) c.args.entries.now)) (drop (i + 1) c.args.numbers.now) ≡ whole)
          (sym {A = List ℕ} (ap (λ v. v.items) w.places-is ∙ w.in_ok-push.ensures.items))
          (is_found ts c.args.entries.now c.args.numbers.now whole made i c.index-entries-i.result none c.len.result long within
          c.index-entries-i.is here c.loop-i.invariant)
      | else-is_next w ↦
          let here : is_some_and (λ t. has_text t (entry_model c.index-entries-i.result)) (slice_get ts c.len.result) ≡ false = sym c.is_next.ensures ∙ w.if-is_next.false in
          subst (λ (ps : List ℕ). ps ++ places_among (drop (length ps) ts) (map entry_model (drop (i + 1) c.args.entries.now)) (drop (i + 1) c.args.numbers.now) ≡ whole)
          (sym {A = List ℕ} (ap (λ v. v.items) w.places-is))
          (is_passed ts c.args.entries.now c.args.numbers.now whole made i c.index-entries-i.result none c.len.result long within
          c.index-entries-i.is here c.loop-i.invariant)
    ]

pub returns : goal.returns
returns c =
    let ts : List (List ℕ) = map borrowed c.args.texts.now in
    let past : min (length c.args.entries.now) (length c.args.numbers.now) ≤ c.loop-i.i = omega arith in
    all_places ts c.args.entries.now c.args.numbers.now (places_among ts (map entry_model c.args.entries.now) c.args.numbers.now)
    c.loop-i.places.items c.loop-i.i c.loop-i.invariant past
