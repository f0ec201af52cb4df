-- A byte more is put behind those so far.
use Rattle.std.proofs.Common.{◌≡◌, [], ℕ, List, ap, sym, take, ◌++◌, ◌+◌, ◌∷◌, ◌∙◌}
use Rattle.std.proofs.lemmas.List.{map_more}
use Rattle.arwen_cli_patchelf_lines.specs.NameMaps.{spaced, spaced_all}
use Rattle.arwen_cli_patchelf_lines.proofs.name_maps.spaced.Goals as goal

pub loop-byte-preserved : goal.loop-byte-preserved
loop-byte-preserved c =
    let bytes : List ℕ = c.args.bytes.now in
    let i : ℕ = c.loop-byte.byte-index in
    let byte : ℕ = c.space_of.result in
    let so_far : List ℕ = spaced_all (take i bytes) in
    let longer : so_far ++ byte ∷ [] ≡ spaced_all (take (i + 1) bytes) =
    ap (λ (b : ℕ). so_far ++ b ∷ []) c.space_of.ensures ∙ sym (map_more spaced bytes i 0 c.loop-byte-test.true) in
    ◌∙◌ {A = List ℕ} c.in_ok-push.ensures.items (◌∙◌ {A = List ℕ} (ap (λ (made : List ℕ). made ++ byte ∷ []) c.loop-byte.invariant) longer)
