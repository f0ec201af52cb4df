-- Edits in turn, seen from one of them on.
use Rattle.std.proofs.Common.{◌≡◌, ◌∙◌, ◌+◌, ◌<◌, ◌++◌, [], ◌∷◌, ℕ, List, drop, get_or, length, map, take, arith, refl, sym, ap, subst, inl, inr}
use Rattle.std.proofs.lemmas.List.{drop_more, get_or-map, length-map, take_more}
use Rattle.arwen_elf.specs.ElfError.{ElfError}
use Rattle.elf_image.specs.Image.{Image, shown}
use Rattle.elf_commands_edits.specs.Groups.{GroupEdit, MakeInTurn, MakesNext, RefuseInTurn, RefusesNext, group_model, plain, plain_of, shown_next, symbols}
use Rattle.elf_commands_lines.specs.declared.groups.GroupEdit.{GroupEdit as GroupHeld}

-- what the edits from one on make of an image, and what they tell of it, is what all of them make of the first, and tell; and those
-- before it made the image
pub record StandsAt (all rest : List GroupEdit) (first image : Image) (done : ℕ) : Type 0 where
  pub makes : (new : Image) → MakeInTurn rest image new → MakeInTurn all first new
  pub refuses : (index : ℕ) (e : ElfError) → RefuseInTurn rest image index e → RefuseInTurn all first (index + done) e
  pub so_far : MakeInTurn (take done all) first image

pub starts : (all : List GroupEdit) (first : Image) → StandsAt all all first first 0
starts all first = record {
  makes = λ new make. make;
  refuses = λ index e refuse.
      let same : index ≡ index + 0 = omega arith in
      subst (λ (i : ℕ). RefuseInTurn all first i e) same refuse;
  so_far = refl;
}

-- one edit more behind others
made_more : (edits : List GroupEdit) (edit : GroupEdit) (first image next : Image) → MakeInTurn edits first image → MakesNext edit image next → shown next ≡ shown_next edit image → MakeInTurn (edits ++ edit ∷ []) first next
made_more [] edit first image next same makes shows =
    let M : Image → Type 0 = λ i. MakesNext edit i next in
    let S : Image → Type 0 = λ i. shown next ≡ shown_next edit i in
    (next, subst M same makes, subst S same shows, refl)
made_more (one ∷ edits) edit first image next (mid, made, showed, rest) makes shows = (mid, made, showed, made_more edits edit mid image next rest makes shows)

-- one edit more was made
pub goes_on : (all : List GroupEdit) (edit : GroupEdit) (rest : List GroupEdit) (first image next : Image) (done : ℕ) → StandsAt all (edit ∷ rest) first image done → MakesNext edit image next → shown next ≡ shown_next edit image → take (done + 1) all ≡ take done all ++ edit ∷ [] → StandsAt all rest first next (done + 1)
goes_on all edit rest first image next done stands makes shows taken = record {
  makes = λ new make. stands.makes new (next, makes, shows, make);
  refuses = λ index e refuse.
      let told = stands.refuses (index + 1) e (inr (next, index, refl, makes, refuse)) in
      let same : index + 1 + done ≡ index + (done + 1) = omega arith in
      subst (λ (i : ℕ). RefuseInTurn all first i e) same told;
  so_far = subst (λ (l : List GroupEdit). MakeInTurn l first next) (sym taken) (made_more (take done all) edit first image next stands.so_far makes shows);
}

-- those up to the next one, and it
pub taken_more : (edits : List GroupHeld) (i : ℕ) (edit : GroupHeld) → i < length edits → edit ≡ get_or edits i edit → take (i + 1) (map group_model edits) ≡ take i (map group_model edits) ++ group_model edit ∷ []
taken_more edits i edit inside is =
    take_more (map group_model edits) i (group_model edit) (omega (arith, length-map edits group_model))
    ∙ ap (λ (x : GroupEdit). take i (map group_model edits) ++ x ∷ []) (get_or-map group_model edits i edit (group_model edit) inside ∙ ap group_model (sym is))

-- the edit at a position is the next one
pub next_is : (edits : List GroupHeld) (i : ℕ) (edit : GroupHeld) → i < length edits → edit ≡ get_or edits i edit → map group_model (drop i edits) ≡ group_model edit ∷ map group_model (drop (i + 1) edits)
next_is edits i edit inside is =
    ap (map group_model) (drop_more edits i edit inside) ∙ ap (λ (x : GroupHeld). group_model x ∷ map group_model (drop (i + 1) edits)) (sym is)

-- all were made
pub ends : (all : List GroupEdit) (first image : Image) (done : ℕ) → StandsAt all [] first image done → MakeInTurn all first image
ends all first image done stands = stands.makes image refl

-- the next one is refused
pub is_refused : (all : List GroupEdit) (edit : GroupEdit) (rest : List GroupEdit) (first image : Image) (done : ℕ) (e : ElfError) → StandsAt all (edit ∷ rest) first image done → RefusesNext edit image e → RefuseInTurn all first done e
is_refused all edit rest first image done e stands refuses =
    let same : 0 + done ≡ done = omega arith in
    subst (λ (i : ℕ). RefuseInTurn all first i e) same (stands.refuses 0 e (inl (refl, refuses)))
