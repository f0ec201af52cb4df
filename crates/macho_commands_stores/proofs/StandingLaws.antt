-- Pieces with what stands in their places in the bytes that they make.
use Rattle.std.proofs.Common.{◌≡◌, ◌+◌, ◌-◌, ◌∙◌, ℕ, inl, inr, List, length, drop, map, get_or, refl, sym, ap, subst, arith, slice_range}
use Rattle.std.specs.List.{All}
use Rattle.std.proofs.lemmas.List.{length-drop, length-take-le}
use Rattle.std.proofs.lemmas.List.Elements.{All-map}
use Rattle.byte_store.specs.declared.pieces.Piece.{Piece}
use Rattle.byte_store.specs.Composed.{Stands}
use Rattle.byte_store.specs.Laid.{LiesIn, Patch, laid, patches_of}
use Rattle.byte_store.specs.Laws.{IsOutside}
use Rattle.byte_store.proofs.LaidLaws.{get_or-laid, length-laid}
use Rattle.byte_store.proofs.StandLaws.{all_unmapped, laid_is, outside_from}
use Rattle.macho_commands_stores.specs.Pieces.{ArePartsOf, ArePiecesOf, standing_in}

standing_long : (new : List ℕ) (patch : Patch) → LiesIn (length new) patch → length (standing_in new patch).bytes ≡ length patch.bytes
standing_long new patch lies =
    let at : ℕ = patch.offset in
    let len : ℕ = at + length patch.bytes - at in
    let long = length-take-le len (drop at new) (omega (arith, length-drop at new, lies)) in
    omega (arith, long)

stands_itself : (new : List ℕ) (patch : Patch) → LiesIn (length new) patch → Stands new (standing_in new patch)
stands_itself new patch lies = ap (λ (n : ℕ). slice_range new patch.offset (patch.offset + n)) (standing_long new patch lies)

same_outside : (new : List ℕ) (k : ℕ) (patch : Patch) → LiesIn (length new) patch → IsOutside k (standing_in new patch) → IsOutside k patch
same_outside new k patch lies (inl before) = inl before
same_outside new k patch lies (inr behind) = inr (omega (arith, behind, standing_long new patch lies))

pub parts_standing : (file new : List ℕ) (pieces standing : List Piece) → patches_of standing ≡ map (standing_in new) (patches_of pieces) → ArePiecesOf file new pieces → ArePartsOf file new standing
parts_standing file new pieces standing is are =
    let patches : List Patch = patches_of pieces in
    let parts : List Patch = map (standing_in new) patches in
    let long : length file ≡ length new = sym (ap length (sym are.same) ∙ length-laid patches file are.inside) in
    let within : All (LiesIn (length new)) patches = λ k d here. let lies = are.inside k d here in omega (arith, lies, long) in
    let inside : All (LiesIn (length file)) parts = All-map (LiesIn (length file)) (standing_in new) patches (λ k d here.
    let lies = within k d here in
    let same = standing_long new (get_or patches k d) lies in
    omega (arith, lies, same, long)) in
    let stand : All (Stands new) parts = All-map (Stands new) (standing_in new) patches (λ k d here. stands_itself new (get_or patches k d) (within k d here)) in
    let same : laid parts file ≡ new = laid_is parts file new long inside stand (λ k below free.
    let outside : All (IsOutside k) patches = λ i d here. same_outside new k (get_or patches i d) (within i d here) (all_unmapped (IsOutside k) (standing_in new) patches (outside_from parts k free) i d here) in
    sym (get_or-laid patches file k 0 are.inside outside) ∙ ap (λ (l : List ℕ). get_or l k 0) are.same) in
    let Inside : List Patch → Type 0 = All (LiesIn (length file)) in
    let Stand : List Patch → Type 0 = All (Stands new) in
    record {
      inside = subst Inside (sym is) inside;
      same = ap (λ (l : List Patch). laid l file) is ∙ same;
      stand = subst Stand (sym is) stand;
    }
