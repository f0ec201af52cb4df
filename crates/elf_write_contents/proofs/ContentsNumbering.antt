-- The bytes of a section that numbers the dynamic symbols, by its type.
use Rattle.std.proofs.Common.{◌≡◌, ◌≢◌, ℕ, ◌*◌, List, length, arith}
use Rattle.elf_format.specs.declared.constants.TheConstants.{SHT_GNU_HASH, SHT_GNU_VERSYM, SHT_HASH}
use Rattle.elf_format.specs.Image.{Image, ImageSection}
use Rattle.elf_layout_plan.specs.Plan.{resized}
use Rattle.elf_layout_plan.specs.Sizes.{hash_size}
use Rattle.elf_write_spec.specs.Contents.{AreVersionsIn, IsGabiContent, IsGnuContent}
use Rattle.elf_write_contents.specs.ContentSteps.{IsNumbering, IsRelocated}

module _ (read image : Image) (s : ImageSection) (bytes : List ℕ) where
  pub of_versions : s.sh_type ≡ SHT_GNU_VERSYM → length bytes ≡ 2 * length image.dynamic_symbols → AreVersionsIn (resized image) s bytes
      → IsNumbering read image s bytes
  of_versions type long are = record {
    versions = λ e. (long, are);
    gabi = λ e. absurd (omega (arith, type, e));
    gnu = λ e. absurd (omega (arith, type, e));
    others = λ other gabi gnu. absurd (other type);
  }

  pub of_gabi : s.sh_type ≡ SHT_HASH → length bytes ≡ hash_size read image s → IsGabiContent (resized image) s bytes → IsNumbering read image s bytes
  of_gabi type long are = record {
    versions = λ e. absurd (omega (arith, type, e));
    gabi = λ e. (long, are);
    gnu = λ e. absurd (omega (arith, type, e));
    others = λ versions other gnu. absurd (other type);
  }

  pub of_gnu : s.sh_type ≡ SHT_GNU_HASH → length bytes ≡ hash_size read image s → IsGnuContent (resized image) s bytes → IsNumbering read image s bytes
  of_gnu type long are = record {
    versions = λ e. absurd (omega (arith, type, e));
    gabi = λ e. absurd (omega (arith, type, e));
    gnu = λ e. (long, are);
    others = λ versions gabi other. absurd (other type);
  }

  pub of_others : s.sh_type ≢ SHT_GNU_VERSYM → s.sh_type ≢ SHT_HASH → s.sh_type ≢ SHT_GNU_HASH → IsRelocated (resized image) s bytes
      → IsNumbering read image s bytes
  of_others versions gabi gnu are = record {
    versions = λ e. absurd (versions e);
    gabi = λ e. absurd (gabi e);
    gnu = λ e. absurd (gnu e);
    others = λ v g n. are;
  }
