-- Bytes that are the same as far as the load commands go show the same.
use Rattle.std.proofs.Common.{◌≡◌, ◌≤◌, ◌+◌, ℕ, nat_eq, List, length, take, drop, None, refl, sym, ap, ◌∙◌, subst, arith}
use Rattle.std.specs.List.{concat}
use Rattle.std.proofs.lemmas.List.{drop-take}
use Rattle.patch_bytes.specs.declared.number.ByteOrder2.{ByteOrder2}
use Rattle.patch_bytes.specs.declared.number.ByteOrder2.TheVariants.{Big}
use Rattle.patch_bytes.specs.Number.{number_at}
use Rattle.patch_bytes.proofs.NumberLaws.{number_at-drop, number_at-take}
use Rattle.macho_image.specs.declared.fat.FatArch.{FatArch}
use Rattle.macho_image.specs.declared.format.Ctx.{Ctx}
use Rattle.macho_image.specs.Checks.{file_fault}
use Rattle.macho_image.specs.Commands.{commands_of, first_content_of}
use Rattle.macho_image.specs.Fat.{AreSlices, IsFatFile, arch_of, archs_of, table_end, table_fault}
use Rattle.macho_image.specs.File.{IsFile}
use Rattle.macho_image.specs.Form.{commands_end, ctx_of, header_size}
use Rattle.macho_image.proofs.ForCallers.{fat_found, fat_only, form_of-same, found, header_size-least, only}
use Rattle.macho_signing.specs.Shown.{ShowsSame}

-- a number in the bytes that are the same
pub number_same : (order : ByteOrder2) (n pos end : ℕ) (old new : List ℕ) → take end new ≡ take end old → pos + n ≤ end → number_at order n pos new ≡ number_at order n pos old
number_same order n pos end old new front inside =
    sym (number_at-take order n end pos new inside) ∙ ap (number_at order n pos) front ∙ number_at-take order n end pos old inside

-- ## Thin files

-- the same area of load commands stands behind the same header
same_file : (old new : List ℕ) (ctx : Ctx) (commands : List (List ℕ)) → IsFile old ctx commands → length new ≡ length old → take (commands_end ctx old) new ≡ take (commands_end ctx old) old → IsFile new ctx commands
same_file old new ctx commands is long front =
    let h : ℕ = header_size ctx.container in
    let n : ℕ = length (concat commands) in
    let least : 28 ≤ h = header_size-least ctx.container in
    let end : commands_end ctx old ≡ h + n = ap (λ (k : ℕ). h + k) is.size in
    let P : ℕ → Type 0 = λ k. take k new ≡ take k old in
    let all : take (h + n) new ≡ take (h + n) old = subst P end front in
    record {
      short = omega (arith, long, is.short);
      magic = form_of-same new old (λ order. number_same order 4 0 (h + n) old new all (omega (arith, least))) ∙ is.magic;
      room = omega (arith, long, is.room);
      count = number_same ctx.le 4 16 (h + n) old new all (omega (arith, least)) ∙ is.count;
      size = number_same ctx.le 4 20 (h + n) old new all (omega (arith, least)) ∙ is.size;
      stand = sym (drop-take h n new) ∙ ap (drop h) all ∙ drop-take h n old ∙ is.stand;
      each = is.each;
    }

pub shows_same : (old new : List ℕ) → file_fault old ≡ None → length new ≡ length old → take (commands_end (ctx_of old) old) new ≡ take (commands_end (ctx_of old) old) old → ShowsSame old new
unfolding first_content_of
shows_same old new pass long front =
    let is = only new (ctx_of old) (commands_of old) (same_file old new (ctx_of old) (commands_of old) (found old pass) long front) in
    record {
      accepted = is.0;
      front = front;
      form = is.1;
      commands = is.2;
      first = rw (is.1, long, is.2) refl;
    }

-- ## Tables of slices

arch_same : (m end : ℕ) (old new : List ℕ) → take end new ≡ take end old → m + 20 ≤ end → arch_of (drop m new) ≡ arch_of (drop m old)
arch_same m end old new front inside =
    let at : (pos : ℕ) → pos + 4 ≤ 20 → number_at Big 4 pos (drop m new) ≡ number_at Big 4 pos (drop m old) = λ pos within.
    number_at-drop Big 4 m pos new ∙ number_same Big 4 (m + pos) end old new front (omega (arith, inside, within)) ∙ sym (number_at-drop Big 4 m pos old) in
    let a = at 0 (omega arith) in
    let b = at 4 (omega arith) in
    let c = at 8 (omega arith) in
    let d = at 12 (omega arith) in
    let e = at 16 (omega arith) in
    rw (a, b, c, d, e) refl

same_table : (old new : List ℕ) (archs : List FatArch) → IsFatFile old archs → length new ≡ length old → take (table_end (length archs)) new ≡ take (table_end (length archs)) old → IsFatFile new archs
same_table old new archs is long front =
    let end : ℕ = table_end (length archs) in
    let P : ℕ → Type 0 = λ n. AreSlices n end archs in
    record {
      short = omega (arith, long, is.short);
      magic = ap (λ (n : ℕ). nat_eq n 3405691582) (number_same Big 4 0 end old new front (omega arith)) ∙ is.magic;
      count = number_same Big 4 4 end old new front (omega arith) ∙ is.count;
      room = omega (arith, long, is.room);
      records = λ i d within. is.records i d within ∙ sym (arch_same (table_end i) end old new front (omega (arith, within)));
      slices = subst P (sym long) is.slices;
    }

pub table_same : (old new : List ℕ) → table_fault old ≡ None → length new ≡ length old → take (table_end (length (archs_of old))) new ≡ take (table_end (length (archs_of old))) old → (table_fault new ≡ None) × (archs_of new ≡ archs_of old)
table_same old new pass long front = fat_only new (archs_of old) (same_table old new (archs_of old) (fat_found old pass) long front)
