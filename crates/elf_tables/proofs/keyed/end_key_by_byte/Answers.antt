-- One byte more, and there is room for it.
use Rattle.std.proofs.Common.{◌≡◌, ◌<◌, ◌+◌, ◌*◌, ◌^◌, ℕ, List, reverse, refl, subst, sym, ap, ◌∙◌, arith}
use Rattle.patch_bytes.specs.Bytes.{AreBytes}
use Rattle.elf_tables.specs.EndKeys.{front_number}
use Rattle.elf_tables.proofs.EndKeyLaws.{end-fits, end-low, end-more}
use Rattle.elf_tables.proofs.keyed.end_key_by_byte.Goals as goal

pub loop-back-init : goal.loop-back-init
unfolding front_number
loop-back-init c = refl

-- there is room for one byte more, whichever it is
room_for : (text : List ℕ) (back key : ℕ) → AreBytes text → back < 8 → key ≡ front_number back (reverse text) → key * 256 + 255 < 2 ^ 64
room_for text back key bytes within is = end-fits back key within (subst (λ (n : ℕ). n < 256 ^ back) (sym is) (end-low text back bytes))

pub overflow_mul-key : goal.overflow_mul-key
overflow_mul-key c =
    let bytes : AreBytes c.args.text.now = record { each = λ i. omega (arith, c.type_inv.text i) } in
    let room : c.loop-back.key * 256 + 255 < 18446744073709551616 = room_for c.args.text.now c.loop-back.back c.loop-back.key bytes c.loop-back-test.true c.loop-back.invariant in
    omega (arith, room)

pub overflow_add-key : goal.overflow_add-key
overflow_add-key c =
    let bytes : AreBytes c.args.text.now = record { each = λ i. omega (arith, c.type_inv.text i) } in
    let room : c.loop-back.key * 256 + 255 < 18446744073709551616 = room_for c.args.text.now c.loop-back.back c.loop-back.key bytes c.loop-back-test.true c.loop-back.invariant in
    omega (arith, room)

pub loop-back-preserved : goal.loop-back-preserved
loop-back-preserved c =
    let text : List ℕ = c.args.text.now in
    let back : ℕ = c.loop-back.back in
    ap (λ k. k * 256 + c.from.result) c.loop-back.invariant
    ∙ ap (λ b. front_number back (reverse text) * 256 + b) (c.from.ensures ∙ c.byte_before.ensures)
    ∙ sym (end-more text back)
