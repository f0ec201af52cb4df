-- The parts of a file: what a table that passes says of its slices.
use Rattle.std.proofs.Common.{◌≡◌, ◌<◌, ◌+◌, ℕ, true, false, nat_lt, List, length, map, get_or, None, sym, subst, inl, inr, arith}
use Rattle.std.proofs.lemmas.Bool.{and_from, both_ways, cases_lt, lt-ltb}
use Rattle.std.proofs.lemmas.List.{get_or-map, length-map}
use Rattle.std.proofs.lemmas.List.Elements.{All-map}
use Rattle.macho_image.specs.declared.fat.FatArch.{FatArch}
use Rattle.macho_image.specs.Fat.{archs_of, share_byte, table_fault}
use Rattle.macho_image.proofs.ForCallers.{fat_found}
use Rattle.macho_signing.specs.declared.file.Part.{Part}
use Rattle.macho_signing.specs.File.{AreApart, AreParts, IsInside, slice_part}

-- slices that share no byte
apart_from : (a b : FatArch) → share_byte a b ≡ false → AreApart (slice_part a) (slice_part b)
apart_from a b none =
    elim (cases_lt 0 a.size) [
      | inr empty ↦ inl (omega (arith, empty))
      | inl filled ↦
          elim (cases_lt 0 b.size) [
            | inr empty ↦ inr (inl (omega (arith, empty)))
            | inl filled_too ↦
                elim (cases_lt a.offset (b.offset + b.size)) [
                  | inr behind ↦ inr (inr (inr behind))
                  | inl left ↦
                      elim (cases_lt b.offset (a.offset + a.size)) [
                        | inr behind ↦ inr (inr (inl behind))
                        | inl right ↦ absurd (both_ways (share_byte a b) none (shares filled filled_too left right))
                      ]
                ]
          ]
    ]
  where
    shares : 0 < a.size → 0 < b.size → a.offset < b.offset + b.size → b.offset < a.offset + a.size → share_byte a b ≡ true
    shares filled filled_too left right =
        and_from (nat_lt 0 a.size) _ (lt-ltb 0 a.size filled)
        (and_from (nat_lt 0 b.size) _ (lt-ltb 0 b.size filled_too)
        (and_from (nat_lt a.offset (b.offset + b.size)) _ (lt-ltb a.offset (b.offset + b.size) left) (lt-ltb b.offset (a.offset + a.size) right)))

-- the slices of a table that passes
pub slices_are_parts : (bytes : List ℕ) → table_fault bytes ≡ None → AreParts (length bytes) (map slice_part (archs_of bytes))
slices_are_parts bytes pass =
    let is = fat_found bytes pass in
    record {
      inside = All-map (IsInside (length bytes)) slice_part (archs_of bytes) is.slices.inside;
      apart = λ i j d before within.
          let e : FatArch = record { cputype = 0; cpusubtype = 0; offset = 0; size = 0; align = 0 } in
          let long = length-map' (archs_of bytes) in
          let there : j < length (archs_of bytes) = omega (arith, long, within) in
          let first = get_or-map slice_part (archs_of bytes) i e d (omega (arith, before, there)) in
          let second = get_or-map slice_part (archs_of bytes) j e d there in
          let P : Part → Type 0 = λ p. AreApart p (get_or (map slice_part (archs_of bytes)) j d) in
          let Q : Part → Type 0 = λ p. AreApart (slice_part (get_or (archs_of bytes) i e)) p in
          subst P (sym first) (subst Q (sym second) (apart_from (get_or (archs_of bytes) i e) (get_or (archs_of bytes) j e) (is.slices.apart i j e before there)));
    }
  where
    length-map' : (archs : List FatArch) → length (map slice_part archs) ≡ length archs
    length-map' archs = length-map archs slice_part
