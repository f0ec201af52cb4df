use Rattle.std.proofs.Common.{◌≡◌, ℕ, List, length, Some, Vec, Global, ap, refl, sym, ◌∙◌, subst, arith}
use Rattle.std.specs.List.{AllZip}
use Rattle.std.specs.Vec.{with_items}
use Rattle.std.proofs.lemmas.List.{with_items_is}
use Rattle.patch_bytes.specs.ByteString.{bytes_model}
use Rattle.arwen_macho.specs.declared.change.Change.{Change}
use Rattle.arwen_macho.specs.declared.fat.FatMachoContainer.TheInside.{Inside}
use Rattle.arwen_macho.specs.FatChange.{AreChangesOf, fat_changed}
use Rattle.arwen_macho.specs.FatHeld.{FatHeld}
use Rattle.arwen_macho.specs.FatHeldBy.{IsFatHeld, fat_held_of}
use Rattle.arwen_macho.specs.FatSlice.{HeldSlice, IsReadyIn, changed_machos, fronts_over}
use Rattle.arwen_macho.proofs.FatHeldLaws.{committed, ready_of, shown_long}
use Rattle.arwen_macho.proofs.fat.FatMachoContainer.commit.Goals as goal

pub commit_all-requires : goal.commit_all-requires
commit_all-requires c =
    let s : Inside = c.self.inside in
    let changes : List Change = c.args.changes.items in
    let Of : FatHeld → Type 0 = λ h. AreChangesOf h changes in
    let ready = ready_of s changes c.self.invariant (subst Of (sym c.self.view_is) c.requires) in
    let bytes : c.in_ok-copy.copy.items ≡ bytes_model s.source.now s.edited = c.in_ok-copy.ensures ∙ ap (bytes_model s.source.now) c.take.ensures.value in
    let long : length s.source.now ≡ length c.deref_mut-2.result.now = sym (ap length c.deref_mut-2.ensures.value ∙ ap length bytes ∙ shown_long s c.self.invariant) in
    let Long : ℕ → Type 0 = λ n. AllZip (IsReadyIn n) c.deref_mut.result.now changes in
    let Slices : List HeldSlice → Type 0 = λ l. AllZip (IsReadyIn (length s.source.now)) l changes in
    subst Long long (subst Slices (sym c.deref_mut.ensures.value) ready)

-- what the fields hold then
new_fields : (c : goal.Joined-self) → (fat_held_of (record { source = c.self.inside.source; archs = with_items c.self.inside.archs c.commit_all.new.slices; edited = Some (with_items c.in_ok-copy.copy c.commit_all.new.copy) }) ≡ fat_changed (fat_held_of c.self.inside) c.args.changes.items) × IsFatHeld (record { source = c.self.inside.source; archs = with_items c.self.inside.archs c.commit_all.new.slices; edited = Some (with_items c.in_ok-copy.copy c.commit_all.new.copy) })
new_fields c =
    let s : Inside = c.self.inside in
    let changes : List Change = c.args.changes.items in
    let copy : Vec ℕ Global = with_items c.in_ok-copy.copy c.commit_all.new.copy in
    let new : Inside = record { source = s.source; archs = with_items s.archs c.commit_all.new.slices; edited = Some copy } in
    let Of : FatHeld → Type 0 = λ h. AreChangesOf h changes in
    let bytes : c.in_ok-copy.copy.items ≡ bytes_model s.source.now s.edited = c.in_ok-copy.ensures ∙ ap (bytes_model s.source.now) c.take.ensures.value in
    let slices_long : length c.commit_all.new.slices ≡ s.archs.len = omega arith in
    let copy_long : length c.commit_all.new.copy ≡ c.in_ok-copy.copy.len = omega arith in
    let archs : new.archs.items ≡ changed_machos s.archs.items changes =
    with_items_is s.archs c.commit_all.new.slices slices_long
    ∙ c.commit_all.ensures.slices
    ∙ ap (λ (l : List HeldSlice). changed_machos l changes) c.deref_mut.ensures.value in
    let written : copy.items ≡ fronts_over s.archs.items changes (bytes_model s.source.now s.edited) =
    with_items_is c.in_ok-copy.copy c.commit_all.new.copy copy_long
    ∙ c.commit_all.ensures.bytes
    ∙ ap (λ (l : List HeldSlice). fronts_over l changes c.deref_mut-2.result.now) c.deref_mut.ensures.value
    ∙ ap (fronts_over s.archs.items changes) (c.deref_mut-2.ensures.value ∙ bytes) in
    committed s new changes copy c.self.invariant (subst Of (sym c.self.view_is) c.requires) refl archs refl written

pub invariant_of-self-2 : goal.invariant_of-self-2
invariant_of-self-2 c = (new_fields c).1

pub returns : goal.returns
returns c = (new_fields c).0 ∙ ap (λ (h : FatHeld). fat_changed h c.args.changes.items) c.self.view_is
