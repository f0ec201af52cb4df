-- What a section is that is placed behind the segments, and which one is placed there.
use Rattle.std.proofs.Common.{◌≡◌, Bool, true, false, refl}
use Rattle.std.specs.Prelude.{◌&&◌, not, ◌==◌}
use Rattle.std.proofs.lemmas.Bool.{and_parts, both_ways, not-true}
use Rattle.elf_format.specs.Places.{occupies_file, occupies_memory}
use Rattle.elf_tables.specs.Kept.{place_at_read}
use Rattle.elf_layout_plan.specs.Memory.{SizedSection}
use Rattle.elf_layout_plan.specs.Standing.{is_unloaded, is_reserved}

-- one that is placed there has bytes in the file, and takes no memory
pub unloaded_parts : (s : SizedSection) → is_unloaded s ≡ true
    → (occupies_file (place_at_read s.kept.section) ≡ true) × (occupies_memory (place_at_read s.kept.section) ≡ false)
unloaded_parts s unloaded =
    let there : Bool = occupies_file (place_at_read s.kept.section) in
    let takes : Bool = occupies_memory (place_at_read s.kept.section) in
    let both = and_parts there (not takes) (and_parts (there && not takes) (not (is_reserved s)) unloaded).0 in
    (both.0, not-true takes both.1)

-- a section of the file with bytes that takes no memory is placed among the unloaded ones
pub filled_unloaded : (s : SizedSection) → occupies_file (place_at_read s.kept.section) ≡ true
    → occupies_memory (place_at_read s.kept.section) ≡ false → (s.size == 0) ≡ false → is_unloaded s ≡ true
filled_unloaded s there bare some = by_tests (occupies_file (place_at_read s.kept.section)) (occupies_memory (place_at_read s.kept.section))
    (s.kept.position == 0) (s.size == 0) there bare some
  where
    by_tests : (a b c d : Bool) → a ≡ true → b ≡ false → d ≡ false → (a && not b && not (c && d)) ≡ true
    by_tests true false true false h e f = refl
    by_tests true false false false h e f = refl
    by_tests true false c true h e f = absurd (both_ways true f refl)
    by_tests true true c d h e f = absurd (both_ways true e refl)
    by_tests false b c d h e f = absurd (both_ways false refl h)

-- a section of the file with bytes that isn't placed among the unloaded ones is loaded
pub not_unloaded_loaded : (s : SizedSection) → is_unloaded s ≡ false → occupies_file (place_at_read s.kept.section) ≡ true → (s.size == 0) ≡ false
    → occupies_memory (place_at_read s.kept.section) ≡ true
not_unloaded_loaded s not_unloaded_is there some = by_tests (occupies_file (place_at_read s.kept.section))
    (occupies_memory (place_at_read s.kept.section)) (s.kept.position == 0) (s.size == 0) not_unloaded_is there some
  where
    by_tests : (a b c d : Bool) → (a && not b && not (c && d)) ≡ false → a ≡ true → d ≡ false → b ≡ true
    by_tests true true c d h e f = refl
    by_tests true false true false h e f = absurd (both_ways true h refl)
    by_tests true false false false h e f = absurd (both_ways true h refl)
    by_tests true false c true h e f = absurd (both_ways true f refl)
    by_tests false b c d h e f = absurd (both_ways false refl e)
