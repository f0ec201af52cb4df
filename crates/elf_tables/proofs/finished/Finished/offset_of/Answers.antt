use Rattle.std.proofs.Common.{◌≡◌, Some, None, ℕ, List, ap, sym, subst, ◌∙◌}
use Rattle.std.specs.Map.{lookup}
use Rattle.std.specs.Str.{bytes_eq}
use Rattle.elf_tables.specs.Strings.{PlacesStand}
use Rattle.elf_tables.specs.StringSteps.{by_bytes, with_places}
use Rattle.elf_tables.proofs.LaidPairs.{lookup-behind, lookup-front}
use Rattle.elf_tables.proofs.LaySteps.{lookup-by_bytes, told_stands}
use Rattle.elf_tables.proofs.finished.Finished.offset_of.Goals as goal

-- the text was placed
pub returns-in-Some-clause-place : goal.returns-in-Some-clause-place
returns-in-Some-clause-place c =
    let text : List ℕ = c.args.text.now in
    let placed : lookup (bytes_eq text) (by_bytes c.self.inside.placed.entries) ≡ Some c.in-Some.place =
    lookup-by_bytes text c.self.inside.placed.entries ∙ sym c.get.ensures.value ∙ sym c.copied.ensures ∙ c.in-Some.is in
    sym (lookup-front (bytes_eq text) (by_bytes c.self.inside.placed.entries) (with_places c.self.inside.texts.items c.self.inside.places.items) c.in-Some.place placed)
    ∙ ap (λ table. lookup (bytes_eq text) table.places) c.self.view_is

-- the text was laid, or it isn't there
pub returns-in-None-clause-place : goal.returns-in-None-clause-place
returns-in-None-clause-place c =
    let text : List ℕ = c.args.text.now in
    let placed : lookup (bytes_eq text) (by_bytes c.self.inside.placed.entries) ≡ None =
    lookup-by_bytes text c.self.inside.placed.entries ∙ sym c.get.ensures.value ∙ sym c.copied.ensures ∙ c.in-None.is in
    c.laid_place.ensures
    ∙ ap (λ ks. lookup (bytes_eq text) (with_places ks c.deref-in-None.result.now)) c.deref.ensures.value
    ∙ ap (λ places. lookup (bytes_eq text) (with_places c.self.inside.texts.items places)) c.deref-in-None.ensures.value
    ∙ sym (lookup-behind (bytes_eq text) (by_bytes c.self.inside.placed.entries) (with_places c.self.inside.texts.items c.self.inside.places.items) placed)
    ∙ ap (λ table. lookup (bytes_eq text) table.places) c.self.view_is

pub returns-in-Some-clause-stands : goal.returns-in-Some-clause-stands
returns-in-Some-clause-stands c =
    told_stands (Some c.in-Some.place) c.args.self.now c.args.text.now (subst PlacesStand c.self.view_is c.self.invariant.0) (returns-in-Some-clause-place c)

pub returns-in-None-clause-stands : goal.returns-in-None-clause-stands
returns-in-None-clause-stands c =
    told_stands c.laid_place.result c.args.self.now c.args.text.now (subst PlacesStand c.self.view_is c.self.invariant.0) (returns-in-None-clause-place c)
