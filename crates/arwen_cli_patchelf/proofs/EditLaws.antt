-- Edits with the values of options.
use Rattle.std.proofs.Common.{◌≡◌, ◌∙◌, ◌++◌, [], ◌∷◌, ℕ, List, ap, append_assoc, false, length, map, sym}
use Rattle.std.specs.Prelude.{◌==◌}
use Rattle.std.proofs.lemmas.List.{map_push}
use Rattle.elf_edits.specs.Edit.{Edit}
use Rattle.arwen_cli_options.specs.Options.{Text}
use Rattle.arwen_cli_patchelf.specs.OptionEdits.{by, with_some}

-- one edit with some values
pub some_given : {X Y : Type 0} (option : Text) (edit : List Y → Edit) (f : X → Y) (xs : List X) (n : ℕ) (ys : List Y) → n ≡ length xs → false ≡ (n == 0) → map f xs ≡ ys
    → by option (edit (map f xs)) ∷ [] ≡ with_some option edit ys
some_given option edit f [] n ys long some is = absurd (cc)
some_given option edit f (x ∷ xs) n ys long some is = ap (λ l. with_some option edit l) is

-- one more behind those with each value so far
pub each_more : {X Y Z : Type 0} (f : X → Y) (g : Y → Z) (first old new : List Z) (xs : List X) (x : X) → new ≡ old ++ g (f x) ∷ [] → old ≡ first ++ map g (map f xs)
    → new ≡ first ++ map g (map f (xs ++ x ∷ []))
each_more f g first old new xs x put before =
    put ∙ ap (λ l. l ++ g (f x) ∷ []) before ∙ append_assoc first (map g (map f xs)) (g (f x) ∷ [])
    ∙ ap (λ l. first ++ l) (sym (ap (map g) (map_push f xs x) ∙ map_push g (map f xs) (f x)))

-- a list, and two more and others behind it
pub two_more : {Z : Type 0} (first one both all rest : List Z) (x y : Z) → one ≡ first ++ x ∷ [] → both ≡ one ++ y ∷ [] → all ≡ both ++ rest → all ≡ first ++ x ∷ y ∷ rest
two_more first one both all rest x y a b c =
    c ∙ ap (λ l. l ++ rest) (b ∙ ap (λ l. l ++ y ∷ []) a ∙ append_assoc first (x ∷ []) (y ∷ [])) ∙ append_assoc first (x ∷ y ∷ []) rest
