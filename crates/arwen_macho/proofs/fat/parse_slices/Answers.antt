use Rattle.std.proofs.Common.{◌≡◌, ◌<◌, ◌+◌, ℕ, List, [], ◌∷◌, ◌++◌, length, take, drop, get_or, map, Option, ap, refl, sym, ◌∙◌, subst, arith}
use Rattle.std.proofs.lemmas.List.{at_drop_more, drop_all, map_more, take_all}
use Rattle.std.proofs.lemmas.Result.{err_from_is_err_and}
use Rattle.macho_image.specs.declared.fat.FatArch.{FatArch}
use Rattle.macho_image.specs.Fat.{slice_of}
use Rattle.arwen_macho.specs.FatSlice.{HeldSlice, first_macho}
use Rattle.arwen_macho.specs.Found.{Finds, Found, found_first, slice_found, slices_found}
use Rattle.arwen_macho.proofs.FatStepLaws.{finds_first}
use Rattle.arwen_macho.proofs.fat.parse_slices.Goals as goal

pub returns-in_err-slice : goal.returns-in_err-slice
returns-in_err-slice c =
    let archs : List FatArch = c.args.archs.now in
    let slice : FatArch → List ℕ = slice_of c.args.bytes.now in
    let i : ℕ = c.loop-arch.arch-index in
    let d : FatArch = record { cputype = 0; cpusubtype = 0; offset = 0; size = 0; align = 0 } in
    let e = c.in_err-slice.field-0.0 in
    let inside : i < length archs = omega arith in
    let found : List FatArch → Option Found = λ l. slices_found (map slice l) in
    let here : slices_found (map slice archs) ≡ found_first (slice_found (slice (get_or archs i d))) (slices_found (map slice (drop (i + 1) archs))) =
    sym c.loop-arch.invariant.left ∙ at_drop_more found archs i d inside in
    let All : Option Found → Type 0 = λ f. Finds e f in
    let p = err_from_is_err_and c.from_residual.result c.from_residual.ensures.1 in
    rw (p.1, p.2) (subst All (sym here) (finds_first e (slice_found (slice (get_or archs i d))) (slices_found (map slice (drop (i + 1) archs))) c.in_err-slice.ensures))

pub loop-arch-init : goal.loop-arch-init
loop-arch-init c = record { left = refl; made = c.new-slices.ensures.items }

pub loop-arch-preserved : goal.loop-arch-preserved
loop-arch-preserved c =
    let archs : List FatArch = c.args.archs.now in
    let bytes : List ℕ = c.args.bytes.now in
    let i : ℕ = c.loop-arch.arch-index in
    let d : FatArch = record { cputype = 0; cpusubtype = 0; offset = 0; size = 0; align = 0 } in
    let inside : i < length archs = omega arith in
    let found : List FatArch → Option Found = λ l. slices_found (map (slice_of bytes) l) in
    let parsed = c.in_ok-slice.ensures in
    record {
      left =
          sym (ap (λ (f : Option Found). found_first f (found (drop (i + 1) archs))) parsed.0)
          ∙ sym (at_drop_more found archs i d inside)
          ∙ c.loop-arch.invariant.left;
      made =
          c.in_ok-push.ensures.items
          ∙ ap (λ (l : List HeldSlice). l ++ c.in_ok-slice.slice ∷ []) c.loop-arch.invariant.made
          ∙ ap (λ (m : HeldSlice). map (first_macho bytes) (take i archs) ++ m ∷ []) parsed.1
          ∙ sym (map_more (first_macho bytes) archs i d inside);
    }

pub returns : goal.returns
returns c =
    let archs : List FatArch = c.args.archs.now in
    let bytes : List ℕ = c.args.bytes.now in
    let i : ℕ = c.loop-arch.arch-index in (
      sym c.loop-arch.invariant.left ∙ ap (λ (l : List FatArch). slices_found (map (slice_of bytes) l)) (drop_all i archs (omega arith)),
      c.loop-arch.invariant.made ∙ ap (map (first_macho bytes)) (take_all i archs (omega arith)),
    )
