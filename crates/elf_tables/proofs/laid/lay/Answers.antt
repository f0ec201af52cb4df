-- No text was placed.
use Rattle.std.proofs.Common.{◌++◌, ℕ, List, length, refl, subst, sym}
use Rattle.std.specs.Borrow.{Bor}
use Rattle.elf_tables.specs.Strings.{PlacesStand}
use Rattle.elf_tables.specs.StringSteps.{AreLaid, AreOrdered, AreTold, IsLaid, Numbered, by_bytes, with_places}
use Rattle.elf_tables.proofs.OrderedPlaces.{stands_in_order}
use Rattle.elf_tables.proofs.laid.lay.Goals as goal

pub invariant_of-result : goal.invariant_of-result
invariant_of-result c =
    let pairs : List (List ℕ × ℕ) = with_places c.args.texts.items c.in_ok-laid.laid.places.items in
    let P : List (Bor (List ℕ) × ℕ) → Type 0 = λ es. PlacesStand (record {
      bytes = c.in_ok-laid.laid.bytes.items;
      places = by_bytes es ++ pairs;
      in_order = c.in_ok-in_order.in_order.items;
    }) × AreTold pairs in
    let laid : AreLaid c.args.texts.items c.in_ok-laid.laid.bytes.items c.in_ok-laid.laid.places.items =
    subst (λ (ks : List Numbered). AreLaid ks c.in_ok-laid.laid.bytes.items c.in_ok-laid.laid.places.items) c.as_slice.ensures.value c.in_ok-laid.ensures in
    subst P (sym c.new.ensures.empty) (laid.stand, laid.told)

pub returns : goal.returns
returns c =
    let pairs : List (List ℕ × ℕ) = with_places c.args.texts.items c.in_ok-laid.laid.places.items in
    let P : List (Bor (List ℕ) × ℕ) → Type 0 = λ es. IsLaid c.args.texts.items (record {
      bytes = c.in_ok-laid.laid.bytes.items;
      places = by_bytes es ++ pairs;
      in_order = c.in_ok-in_order.in_order.items;
    }) in
    let order : List ℕ = c.in_ok-in_order.in_order.items in
    let laid : AreLaid c.args.texts.items c.in_ok-laid.laid.bytes.items c.in_ok-laid.laid.places.items =
    subst (λ (ks : List Numbered). AreLaid ks c.in_ok-laid.laid.bytes.items c.in_ok-laid.laid.places.items) c.as_slice.ensures.value c.in_ok-laid.ensures in
    let ordered : AreOrdered c.args.texts.items c.in_ok-laid.laid.places.items order (length c.args.texts.items) =
    subst (λ (ks : List Numbered). AreOrdered ks c.in_ok-laid.laid.places.items order (length ks)) c.as_slice-2.ensures.value
    (subst (λ (places : List ℕ). AreOrdered c.as_slice-2.result.now places order (length c.as_slice-2.result.now)) c.as_slice-3.ensures.value c.in_ok-in_order.ensures) in
    subst P (sym c.new.ensures.empty) (record {
      known = laid.known;
      long = laid.long;
      fits = laid.fits;
      first = laid.first;
      stand = laid.stand;
      many = ordered.many;
      ordered = stands_in_order c.args.texts.items c.in_ok-laid.laid.bytes.items c.in_ok-laid.laid.places.items order
          (record { bytes = c.in_ok-laid.laid.bytes.items; places = pairs; in_order = order }) laid ordered refl refl;
    })
