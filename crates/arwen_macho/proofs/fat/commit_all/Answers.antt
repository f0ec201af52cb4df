use Rattle.std.proofs.Common.{◌≡◌, ℕ, List, length, get_or, set, ap, sym, ◌∙◌, subst, arith}
use Rattle.arwen_macho.specs.declared.change.Change.{Change}
use Rattle.arwen_macho.specs.FatSlice.{HeldSlice, IsReadyIn, changed_macho, front_of}
use Rattle.arwen_macho.specs.FatState.{put_at}
use Rattle.arwen_macho.proofs.CommitLaws.{Carried, last_is, last_ready, none_carried, one_carried}
use Rattle.arwen_macho.proofs.fat.commit_all.Goals as goal

pub loop-change-init : goal.loop-change-init
loop-change-init c = none_carried (length c.args.copy.now) c.args.slices.now c.args.changes.items c.args.copy.now c.requires

pub bounds-slices-index : goal.bounds-slices-index
bounds-slices-index c =
    let last = last_is (length c.args.copy.now) c.args.slices.now c.args.changes.items c.loop-change.changes.items c.pop.new.self.items c.in-Some.change c.requires c.loop-change.invariant.left_is c.in-Some.ensures.items in
    let some = last.some in
    let index : c.len-index.result ≡ length c.pop.new.self.items = omega arith in
    let long = c.loop-change.auto.slices in
    omega arith

pub commit_slice-requires : goal.commit_slice-requires
commit_slice-requires c =
    let m : HeldSlice = c.index-slices-index.result in
    let left : List Change = c.pop.new.self.items in
    let index : c.len-index.result ≡ length left = omega arith in
    let at : m ≡ get_or c.loop-change.slices (length left) m = c.index-slices-index.is ∙ ap (λ (n : ℕ). get_or c.loop-change.slices n m) index in
    let ready : IsReadyIn (length c.args.copy.now) m c.in-Some.change =
    last_ready (length c.args.copy.now) c.args.slices.now c.args.changes.items c.args.copy.now c.loop-change.changes.items left c.in-Some.change c.loop-change.slices c.loop-change.copy m c.requires c.loop-change.invariant c.in-Some.ensures.items at in
    let Long : ℕ → Type 0 = λ n. IsReadyIn n m c.in-Some.change in
    let Slice : HeldSlice → Type 0 = λ s. IsReadyIn (length c.loop-change.copy) s c.in-Some.change in
    subst Slice c.index-slices-index.is (subst Long (sym c.loop-change.auto.copy) ready)

pub loop-change-preserved : goal.loop-change-preserved
loop-change-preserved c =
    let m : HeldSlice = c.index-slices-index.result in
    let left : List Change = c.pop.new.self.items in
    let change : Change = c.in-Some.change in
    let index : c.len-index.result ≡ length left = omega arith in
    let at : m ≡ get_or c.loop-change.slices (length left) m = c.index-slices-index.is ∙ ap (λ (n : ℕ). get_or c.loop-change.slices n m) index in
    let carried = one_carried (length c.args.copy.now) c.args.slices.now c.args.changes.items c.args.copy.now c.loop-change.changes.items left change c.loop-change.slices c.loop-change.copy m c.requires c.loop-change.invariant c.in-Some.ensures.items at in
    let slice : changed_macho m change ≡ c.commit_slice.new.slice =
    ap (λ (s : HeldSlice). changed_macho s change) c.index-slices-index.is ∙ sym c.commit_slice.ensures.slice in
    let copy : put_at m.arch.offset (front_of m change) c.loop-change.copy ≡ c.commit_slice.new.copy =
    ap (λ (s : HeldSlice). put_at s.arch.offset (front_of s change) c.loop-change.copy) c.index-slices-index.is ∙ sym c.commit_slice.ensures.bytes in
    let slices : set c.loop-change.slices (length left) (changed_macho m change) ≡ set c.loop-change.slices c.len-index.result c.commit_slice.new.slice =
    ap (λ (n : ℕ). set c.loop-change.slices n (changed_macho m change)) (sym index) ∙ ap (set c.loop-change.slices c.len-index.result) slice in
    let Slices : List HeldSlice → Type 0 = λ l. Carried c.args.slices.now c.args.changes.items c.args.copy.now left l (put_at m.arch.offset (front_of m change) c.loop-change.copy) in
    let Copy : List ℕ → Type 0 = λ bytes. Carried c.args.slices.now c.args.changes.items c.args.copy.now left (set c.loop-change.slices c.len-index.result c.commit_slice.new.slice) bytes in
    subst Copy copy (subst Slices slices carried)
