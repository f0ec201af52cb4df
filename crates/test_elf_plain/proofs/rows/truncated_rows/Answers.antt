-- Each row is computed.
use Rattle.std.proofs.Common.{refl}
use Rattle.test_elf_plain.specs.Rows.{all_truncated}
use Rattle.test_elf_plain.proofs.Computing.{computing}
use Rattle.test_elf_plain.proofs.rows.truncated_rows.Goals as goal

pub returns-clause-library : goal.returns-clause-library
unfolding computing all_truncated
returns-clause-library c = refl

pub returns-clause-twin : goal.returns-clause-twin
unfolding computing all_truncated
returns-clause-twin c = refl
