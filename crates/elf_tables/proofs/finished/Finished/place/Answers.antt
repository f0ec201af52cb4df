-- The text is put into the places, or nothing is.
use Rattle.std.proofs.Common.{◌++◌, List, ℕ, Some, subst, sym}
use Rattle.std.specs.Borrow.{Bor}
use Rattle.std.proofs.lemmas.Map.Text.{hash_map_updates_str}
use Rattle.elf_tables.specs.Strings.{IsPlaced, PlacesStand, StandsAt, Strings}
use Rattle.elf_tables.specs.StringSteps.{AreTold, by_bytes, with_places}
use Rattle.elf_tables.proofs.LaySteps.{PutsPlace, puts-from, puts-joined}
use Rattle.elf_tables.proofs.PlacingSteps.{is-placed, placed-stand}
use Rattle.elf_tables.proofs.finished.Finished.place.Goals as goal

pub returns-then-not-does_stand-clause-stands : goal.returns-then-not-does_stand-clause-stands
returns-then-not-does_stand-clause-stands c =
    let P : Strings → Type 0 = PlacesStand in
    subst P c.self.view_is c.self.invariant.0

-- where there is no memory, the places stay
pub invariant_of-self : goal.invariant_of-self
invariant_of-self c =
    let laid : List (List ℕ × ℕ) = with_places c.self.inside.texts.items c.self.inside.places.items in
    let P : List (Bor (List ℕ) × ℕ) → Type 0 = λ es. PlacesStand (record { bytes = c.self.inside.bytes.items; places = by_bytes es ++ laid; in_order = c.self.inside.in_order.items })
    × AreTold laid in
    subst P (sym c.in_err-insert.ensures.err) c.self.invariant

pub returns-in_err-insert-clause-stands : goal.returns-in_err-insert-clause-stands
returns-in_err-insert-clause-stands c =
    let P : List (Bor (List ℕ) × ℕ) → Type 0 = λ es. PlacesStand (record {
      bytes = c.self.inside.bytes.items;
      places = by_bytes es ++ with_places c.self.inside.texts.items c.self.inside.places.items;
      in_order = c.self.inside.in_order.items;
    }) in
    subst P (sym c.in_err-insert.ensures.err) c.self.invariant.0

-- the places with one more
puts : (c : goal.In_ok-insert)
    → PutsPlace (by_bytes c.self.inside.placed.entries ++ with_places c.self.inside.texts.items c.self.inside.places.items) (by_bytes c.insert.new.self.entries ++ with_places c.self.inside.texts.items c.self.inside.places.items)
    c.args.text.now c.args.offset
puts c =
    puts-joined (by_bytes c.self.inside.placed.entries) (by_bytes c.insert.new.self.entries) (with_places c.self.inside.texts.items c.self.inside.places.items) c.args.text.now c.args.offset
    (puts-from c.self.inside.placed.entries c.insert.new.self.entries c.args.text.now c.args.offset
    (hash_map_updates_str c.args.text.now c.self.inside.placed c.insert.new.self (Some c.args.offset) c.in_ok-insert.ensures.updates))

stand : (c : goal.In_ok-insert) → PlacesStand (record {
  bytes = c.self.inside.bytes.items;
  places = by_bytes c.insert.new.self.entries ++ with_places c.self.inside.texts.items c.self.inside.places.items;
  in_order = c.self.inside.in_order.items;
})
stand c =
    let laid : List (List ℕ × ℕ) = with_places c.self.inside.texts.items c.self.inside.places.items in
    let P : List ℕ → Type 0 = λ bytes. StandsAt bytes c.args.offset c.args.text.now in
    let here = subst P c.deref.ensures.value (c.does_stand.ensures.0 c.if-not-does_stand.false) in
    placed-stand c.self.inside.bytes.items c.self.inside.in_order.items (by_bytes c.self.inside.placed.entries ++ laid) (by_bytes c.insert.new.self.entries ++ laid) c.args.text.now c.args.offset
    c.self.invariant.0 (puts c) here

pub invariant_of-self-2 : goal.invariant_of-self-2
invariant_of-self-2 c = (stand c, c.self.invariant.1)

pub returns-clause-ok : goal.returns-clause-ok
returns-clause-ok c =
    let laid : List (List ℕ × ℕ) = with_places c.self.inside.texts.items c.self.inside.places.items in
    let new : Strings = record { bytes = c.self.inside.bytes.items; places = by_bytes c.insert.new.self.entries ++ laid; in_order = c.self.inside.in_order.items } in
    let P : Strings → Type 0 = λ s. IsPlaced s new c.args.text.now c.args.offset in
    subst P c.self.view_is
    (is-placed c.self.inside.bytes.items c.self.inside.in_order.items (by_bytes c.self.inside.placed.entries ++ laid) (by_bytes c.insert.new.self.entries ++ laid) c.args.text.now c.args.offset (puts c))

pub returns-clause-stands : goal.returns-clause-stands
returns-clause-stands c = stand c
