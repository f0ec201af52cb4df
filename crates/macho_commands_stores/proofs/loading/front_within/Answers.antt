-- What was read is all, or a front.
use Rattle.std.proofs.Common.{ℕ, arith, rules, subst, sym, true}
use Rattle.std.specs.Prelude.{IsTrue}
use Rattle.byte_store.specs.Known.{HasLength}
use Rattle.macho_commands_stores.specs.declared.loading.Loaded.{Loaded}
use Rattle.macho_commands_stores.specs.Loading.{IsThinFront}
use Rattle.macho_commands_stores.proofs.LoadingLaws.{all_read, front_read}
use Rattle.macho_commands_stores.proofs.loading.front_within.Goals as goal
use Rattle.macho_commands_stores.proofs.loading.front_within.Goals.{then-len-most+in_ok-length+in_ok-is_front_of+else-not-branch, else-len-most}

pub returns-clause-loaded : goal.returns-clause-loaded
returns-clause-loaded g c =
    let bytes = c.in_ok-bytes.bytes in
    let loaded : Loaded = record { bytes = bytes; length = c.if-len-most.length } in
    elim c.if-len-most.branch [
      | then-len-most+in_ok-length+in_ok-is_front_of+else-not-branch w ↦
          let front : IsTrue w.in_ok-is_front_of.field-0 = search rules in
          let Long : ℕ → Type 0 = HasLength (g.S.Store.contents c.load_up_to.new.store) in
          let thin : IsThinFront bytes.items = subst IsThinFront w.as_slice.ensures.value (w.in_ok-is_front_of.ensures.front front) in
          front_read _ _ c.args.most loaded c.in_ok-bytes.ensures.read c.in_ok-bytes.ensures.kept
          (subst Long (sym w.length-is) w.in_ok-length.ensures.length) (omega (arith, w.length-is, w.in_ok-is_front_of.ensures.short front)) thin
      | else-len-most w ↦
          all_read true _ loaded (c.in_ok-bytes.ensures.whole (omega arith)) (omega (arith, bytes.ok.0)) (omega (arith, bytes.ok.0))
    ]
