-- What two writers got of files, put together file by file.
use Rattle.std.proofs.Common.{◌≡◌, ◌<◌, ◌⊎◌, ◌++◌, ◌+◌, ◌∷◌, [], ℕ, List, Bool, true, false, Option, Some, None, Result, Ok, Err, sym, ap, ◌∙◌, refl, subst, append_assoc, map, take, get_or, length, inl, inr}
use Rattle.std.specs.Prelude.{◌&&◌, IfOk, OnOk, String, string_bytes}
use Rattle.std.specs.declared.alloc.Global.{Global}
use Rattle.std.specs.List.{flat_map, list_all}
use Rattle.std.specs.Io.KnownBytes.{Appends}
use Rattle.std.proofs.lemmas.List.{append-nil}
use Rattle.std.proofs.lemmas.List.Concat.{flat_map-append}
use Rattle.std.proofs.lemmas.List.Folds.{list_all-append}
use Rattle.std.proofs.lemmas.List.{map-append, take_more}
use Rattle.arwen_cli_facts.specs.declared.refusal.Refusal.{Refusal}
use Rattle.arwen_cli_show.specs.Command.{AreShown, AreTellings, GetsLine, IsRefusalLine, StopsPath, StopsShow, Telling, is_told, line_part, refused, text_part, told}
use Rattle.arwen_cli_show.specs.declared.command.ShowCommandError.{ShowCommandError}
use Rattle.arwen_cli_show.specs.declared.command.ShowCommandError.TheVariants.{Io, Memory, NotAll}

appends_none : (known : Option (List ℕ)) → Appends known known []
appends_none None = tt
appends_none (Some xs) = sym (append-nil xs)

appends_one : (old new : Option (List ℕ)) (text : List ℕ) → Appends old new text → Appends old new (text ++ [])
appends_one old new text h = let P : List ℕ → Type 0 = Appends old new in subst P (sym (append-nil text)) h

appends_both : (a b c : Option (List ℕ)) (xs ys : List ℕ) → Appends a b xs → Appends b c ys → Appends a c (xs ++ ys)
appends_both None b c xs ys p q = tt
appends_both (Some x) None c xs ys p q = absurd p
appends_both (Some x) (Some y) None xs ys p q = absurd q
appends_both (Some x) (Some y) (Some z) xs ys p q = q ∙ ap (λ l. l ++ ys) p ∙ append_assoc x xs ys

appends_parts : (part : Telling → List ℕ) (ts us : List Telling) (a b c : Option (List ℕ)) → Appends a b (flat_map part ts) → Appends b c (flat_map part us) → Appends a c (flat_map part (ts ++ us))
appends_parts part ts us a b c p q =
    let P : List ℕ → Type 0 = Appends a c in
    subst P (sym (flat_map-append part ts us)) (appends_both a b c (flat_map part ts) (flat_map part us) p q)

-- the texts of the first items and of one more
taken_more : (paths : List (String Global)) (i : ℕ) (x : String Global) → i < length paths → x ≡ get_or paths i x → map string_bytes (take (i + 1) paths) ≡ map string_bytes (take i paths) ++ (string_bytes x ∷ [])
taken_more paths i x less is =
    ap (map string_bytes) (take_more paths i x less ∙ ap (λ (y : String Global). take i paths ++ (y ∷ [])) (sym is)) ∙ map-append string_bytes (take i paths) (x ∷ [])

and_next : (a b next : Bool) → ((b ≡ false) × (next ≡ false)) ⊎ ((b ≡ true) × (next ≡ a)) → (a && b) ≡ next
and_next true b next (inl (e, f)) = e ∙ sym f
and_next false b next (inl (e, f)) = sym f
and_next true b next (inr (e, f)) = e ∙ sym f
and_next false b next (inr (e, f)) = sym f

module _ (IsAt : List ℕ → Telling → Type 0) where
  both_are : (ps qs : List (List ℕ)) (ts us : List Telling) → AreTellings IsAt ps ts → AreTellings IsAt qs us → AreTellings IsAt (ps ++ qs) (ts ++ us)
  both_are [] qs [] us a b = b
  both_are [] qs (t ∷ ts) us a b = absurd a
  both_are (p ∷ ps) qs [] us a b = absurd a
  both_are (p ∷ ps) qs (t ∷ ts) us a b = (a.0, both_are ps qs ts us a.1 b)

  -- of no file nothing is told
  pub none_shown : (out err : Option (List ℕ)) → AreShown IsAt [] true out out err err
  none_shown out err = record { tellings = []; are = tt; texts = appends_none out; lines = appends_none err; all = refl }

  -- of one file a text is told, or a line
  pub text_shown : (path text : List ℕ) (out_old out_new err : Option (List ℕ)) → IsAt path (told text) → Appends out_old out_new text → AreShown IsAt (path ∷ []) true out_old out_new err err
  text_shown path text out_old out_new err is got = record {
    tellings = told text ∷ [];
    are = (is, tt);
    texts = appends_one out_old out_new text got;
    lines = appends_none err;
    all = refl;
  }

  pub line_shown : (path line : List ℕ) (out err_old err_new : Option (List ℕ)) → IsAt path (refused line) → Appends err_old err_new line → AreShown IsAt (path ∷ []) false out out err_old err_new
  line_shown path line out err_old err_new is got = record {
    tellings = refused line ∷ [];
    are = (is, tt);
    texts = appends_none out;
    lines = appends_one err_old err_new line got;
    all = refl;
  }

  -- of some files, and then of others
  pub both_shown : (ps qs : List (List ℕ)) (a b : Bool) (o1 o2 o3 e1 e2 e3 : Option (List ℕ)) → AreShown IsAt ps a o1 o2 e1 e2 → AreShown IsAt qs b o2 o3 e2 e3 → AreShown IsAt (ps ++ qs) (a && b) o1 o3 e1 e3
  both_shown ps qs a b o1 o2 o3 e1 e2 e3 p q = record {
    tellings = p.tellings ++ q.tellings;
    are = both_are ps qs p.tellings q.tellings p.are q.are;
    texts = appends_parts text_part p.tellings q.tellings o1 o2 o3 p.texts q.texts;
    lines = appends_parts line_part p.tellings q.tellings e1 e2 e3 p.lines q.lines;
    all = both_all p.all q.all ∙ sym (list_all-append is_told p.tellings q.tellings);
  }
    where
      both_all : a ≡ list_all is_told p.tellings → b ≡ list_all is_told q.tellings → (a && b) ≡ (list_all is_told p.tellings && list_all is_told q.tellings)
      both_all e f = ap (λ (t : Bool). t && b) e ∙ ap (λ (t : Bool). list_all is_told p.tellings && t) f

  -- where a text was written, and where a line was
  pub ok_text : {E : Type 0} (r : Result Bool E) (path text : List ℕ) (out_old out_new err : Option (List ℕ)) → IfOk r (λ b. b ≡ true) → OnOk r (Appends out_old out_new text) → IsAt path (told text)
      → IfOk r (λ b. AreShown IsAt (path ∷ []) b out_old out_new err err)
  ok_text (Ok b) path text out_old out_new err is got at =
      let P : Bool → Type 0 = λ t. AreShown IsAt (path ∷ []) t out_old out_new err err in
      subst P (sym is) (text_shown path text out_old out_new err at got)
  ok_text (Err e) path text out_old out_new err is got at = tt

  pub ok_line : {E : Type 0} (r : Result Bool E) (path : List ℕ) (refusal : Refusal) (out err_old err_new : Option (List ℕ)) → IfOk r (λ b. b ≡ false) → OnOk r (GetsLine path refusal err_old err_new)
      → ((line : List ℕ) → IsRefusalLine path refusal line → IsAt path (refused line)) → IfOk r (λ b. AreShown IsAt (path ∷ []) b out out err_old err_new)
  ok_line (Ok b) path refusal out err_old err_new is got at =
      let P : Bool → Type 0 = λ t. AreShown IsAt (path ∷ []) t out out err_old err_new in
      let (line, is_line, appended) = got in
      subst P (sym is) (line_shown path line out err_old err_new (at line is_line) appended)
  ok_line (Err e) path refusal out err_old err_new is got at = tt

  -- of the files at the first paths, and of one more
  pub one_more_shown : (paths : List (String Global)) (i : ℕ) (x : String Global) (path : List ℕ) (a b next : Bool) (o1 o2 o3 e1 e2 e3 : Option (List ℕ)) → i < length paths → x ≡ get_or paths i x → path ≡ string_bytes x
      → ((b ≡ false) × (next ≡ false)) ⊎ ((b ≡ true) × (next ≡ a)) → AreShown IsAt (map string_bytes (take i paths)) a o1 o2 e1 e2 → AreShown IsAt (path ∷ []) b o2 o3 e2 e3
      → AreShown IsAt (map string_bytes (take (i + 1) paths)) next o1 o3 e1 e3
  one_more_shown paths i x path a b next o1 o2 o3 e1 e2 e3 less is named all p q =
      let One : List ℕ → Type 0 = λ n. AreShown IsAt (n ∷ []) b o2 o3 e2 e3 in
      let All : Bool → Type 0 = λ t. AreShown IsAt (map string_bytes (take (i + 1) paths)) t o1 o3 e1 e3 in
      let Paths : List (List ℕ) → Type 0 = λ ps. AreShown IsAt ps (a && b) o1 o3 e1 e3 in
      subst All (and_next a b next all)
      (subst Paths (sym (taken_more paths i x less is)) (both_shown (map string_bytes (take i paths)) (string_bytes x ∷ []) a b o1 o2 o3 e1 e2 e3 p (subst One named q)))

  -- an error on the way
  pub stopped_there : (paths : List (List ℕ)) (count : ℕ) (are_all : Bool) (o1 o2 o3 e1 e2 e3 : Option (List ℕ)) (e : ShowCommandError) → count < length paths → AreShown IsAt (take count paths) are_all o1 o2 e1 e2
      → StopsPath o2 o3 e2 e3 e → StopsShow IsAt paths o1 o3 e1 e3 e
  stopped_there paths count are_all o1 o2 o3 e1 e2 e3 NotAll less so_far stops = absurd stops
  stopped_there paths count are_all o1 o2 o3 e1 e2 e3 Memory less so_far stops =
      let Out : Option (List ℕ) → Type 0 = λ o. AreShown IsAt (take count paths) are_all o1 o e1 e2 in
      let Both : Option (List ℕ) → Type 0 = λ e. AreShown IsAt (take count paths) are_all o1 o3 e1 e in
      (count, less, are_all, subst Both (sym stops.1) (subst Out (sym stops.0) so_far))
  stopped_there paths count are_all o1 o2 o3 e1 e2 e3 (Io e) less so_far stops = stops
