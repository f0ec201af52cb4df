-- Another byte is passed over.
use Rattle.std.proofs.Common.{◌≡◌, ◌<◌, ℕ, List, ap, drop, get_or, length, subst, sym, ◌||◌, ◌+◌, ◌∙◌}
use Rattle.std.proofs.lemmas.Bool.{ne_eqb}
use Rattle.std.proofs.lemmas.List.{at_drop_more}
use Rattle.arwen_cli_patchelf_lines.specs.NameMaps.{has_version}
use Rattle.arwen_cli_patchelf_lines.proofs.name_maps.has_version.Goals as goal

pub loop-byte-preserved : goal.loop-byte-preserved
loop-byte-preserved c =
    let i = c.loop-byte.byte-index in
    let bytes : List ℕ = c.args.name.now in
    let same = c.as_bytes-byte-items.ensures.value in
    let inside : i < length bytes = subst (λ (l : List ℕ). i < length l) same c.loop-byte-test.true in
    let other : get_or bytes i 0 ≡ 64 → ⊥ = subst (λ (l : List ℕ). get_or l i 0 ≡ 64 → ⊥) same c.if-byte-eq64.false in
    sym (at_drop_more has_version bytes i 0 inside ∙ ap (λ b. b || has_version (drop (i + 1) bytes)) (ne_eqb (get_or bytes i 0) 64 other)) ∙ c.loop-byte.invariant
