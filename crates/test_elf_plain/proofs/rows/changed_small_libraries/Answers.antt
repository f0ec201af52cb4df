-- Each row is computed.
use Rattle.std.proofs.Common.{refl}
use Rattle.test_elf_plain.proofs.Computing.{computing}
use Rattle.test_elf_plain.proofs.rows.changed_small_libraries.Goals as goal

pub returns-clause-library : goal.returns-clause-library
unfolding computing
returns-clause-library c = record { relocatable = refl; no_memory = refl; short_load = refl; list_elsewhere = refl; strings_elsewhere = refl; no_strings = refl; long_strings = refl; short_strings = refl; text_outside = refl }

pub returns-clause-twin : goal.returns-clause-twin
unfolding computing
returns-clause-twin c = record { relocatable = refl; no_memory = refl; short_load = refl; list_elsewhere = refl; strings_elsewhere = refl; no_strings = refl; long_strings = refl; short_strings = refl; text_outside = refl }
