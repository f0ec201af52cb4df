-- An rpath that is added and removed again, and what that leaves of the bytes behind the commands.
use Rattle.std.proofs.Common.{◌≡◌, ◌≤◌, ◌+◌, ◌-◌, ◌↔◌, ℕ, suc, max, Bool, true, false, nat_lt, nat_le, List, [], ◌∷◌, ◌++◌, length, take, drop, replicate, Some, Result, Ok, Err, IsOkAnd, refl, sym, ap, ◌∙◌, subst, inl, inr, arith, eq-eqb}
use Rattle.std.specs.Prelude.{◌==◌}
use Rattle.std.specs.List.{All, concat, position, position_or_len, remove}
use Rattle.std.specs.Str.{bytes_eq}
use Rattle.std.proofs.lemmas.Bool.{cases_Bool, cases_lt, le-leb, lt-ltb}
use Rattle.std.proofs.lemmas.List.{append-nil, append_assoc, append_cancel_left, drop-drop, drop_all, drop_at, length-append, length-replicate, take-append-drop, take-append-le, take-replicate, take_at}
use Rattle.std.proofs.lemmas.List.Elements.{All-head, All-tail}
use Rattle.std.proofs.lemmas.List.Folds.{concat-append}
use Rattle.std.proofs.lemmas.Slice.Eq.{bytes_eq-Decides}
use Rattle.macho_image.specs.Stored.{Fits, header_with}
use Rattle.macho_image.specs.declared.command.TheConstants.{LC_RPATH}
use Rattle.macho_image.specs.declared.format.Ctx.{Ctx}
use Rattle.macho_image.specs.Command.{cmd_of, text_of}
use Rattle.macho_image.specs.Form.{ctx_of}
use Rattle.macho_image.proofs.ForCallers.{length-header_with, with_area-parts}
use Rattle.macho_edits.specs.Built.{built_size, rpath_built}
use Rattle.macho_edits.specs.Call.{Cause}
use Rattle.macho_edits.specs.Call.Call.{add_rpath, remove_rpath}
use Rattle.macho_edits.specs.Edited.{list_with_last, edited_list, is_rpath_named}
use Rattle.arwen_macho.specs.Laws.{BatchGivesBack, GivesBack, LacksRpath, RemoveGivesBack, pad_taken, taken_size}
use Rattle.macho_edits.specs.State.{Refusal, State, answer_at, available, edited_by, end_of, fitted_state, laid_bytes, step, then_on}
use Rattle.macho_edits.specs.Whole.{IsState}
use Rattle.macho_edits.proofs.ForCallers.{HoldsText-rpath_built, built_size-above, length-built_rpath, rpath_built-at_ok}
use Rattle.arwen_macho.proofs.StateLaws.{edited_by-more, edited_by-one, step-fits}

-- zeros that grew over bytes that were zeros
grown : (a k high : ℕ) (old : List ℕ) → take (a + k) (replicate a 0 ++ drop high old) ≡ replicate (a + k) 0 → replicate (a + k) 0 ++ drop (high + k) old ≡ replicate a 0 ++ drop high old
grown a k high old zeros =
    let whole : List ℕ = replicate a 0 ++ drop high old in
    let rest : drop (a + k) whole ≡ drop (high + k) old =
    sym (drop-drop k a whole) ∙ ap (drop k) (drop_at (replicate a 0) (drop high old) a (length-replicate {A = ℕ} a 0)) ∙ drop-drop k high old in
    ap (λ (xs : List ℕ). xs ++ drop (high + k) old) (sym zeros)
    ∙ ap (λ (xs : List ℕ). take (a + k) whole ++ xs) (sym rest)
    ∙ take-append-drop (a + k) whole

-- zeros up to a further end, exactly where zeros were
further : (front old : List ℕ) (from high last n : ℕ) → length front ≡ from → from ≤ high → last ≡ max high (from + n)
    → (front ++ (replicate (last - from) 0 ++ drop last old) ≡ front ++ (replicate (high - from) 0 ++ drop high old)) ↔ (take n (drop from (front ++ (replicate (high - from) 0 ++ drop high old))) ≡ replicate n 0)
further front old from high last n long least most = (forth, back)
  where
    tail : ℕ → List ℕ
    tail end = replicate (end - from) 0 ++ drop end old

    behind : drop from (front ++ (replicate (high - from) 0 ++ drop high old)) ≡ replicate (high - from) 0 ++ drop high old
    behind = drop_at front (replicate (high - from) 0 ++ drop high old) from long

    forth : front ++ (replicate (last - from) 0 ++ drop last old) ≡ front ++ (replicate (high - from) 0 ++ drop high old) → take n (drop from (front ++ (replicate (high - from) 0 ++ drop high old))) ≡ replicate n 0
    forth same =
        let tails = append_cancel_left front (replicate (last - from) 0 ++ drop last old) (replicate (high - from) 0 ++ drop high old) same in
        let enough : n ≤ last - from = omega arith in
        let enough_zeros : n ≤ length {A = ℕ} (replicate (last - from) 0) = omega (arith, length-replicate {A = ℕ} (last - from) 0) in
        ap (take n) behind ∙ ap (take n) (sym tails)
        ∙ take-append-le n (replicate (last - from) 0) (drop last old) enough_zeros
        ∙ take-replicate n (last - from) 0 enough

    back : take n (drop from (front ++ (replicate (high - from) 0 ++ drop high old))) ≡ replicate n 0 → front ++ (replicate (last - from) 0 ++ drop last old) ≡ front ++ (replicate (high - from) 0 ++ drop high old)
    back zeros =
        elim (cases_lt (high - from) n) [
          | inl past ↦
              let k : ℕ = from + n - high in
              let size : n ≡ (high - from) + k = omega arith in
              let end : last ≡ high + k = omega arith in
              let reach : last - from ≡ (high - from) + k = omega arith in
              let taken_zeros : take ((high - from) + k) (replicate (high - from) 0 ++ drop high old) ≡ replicate ((high - from) + k) 0 =
              ap (λ (m : ℕ). take m (replicate (high - from) 0 ++ drop high old)) (sym size) ∙ ap (take n) (sym behind) ∙ zeros ∙ ap (λ (m : ℕ). replicate m 0) size in
              ap (λ (m : ℕ). front ++ (replicate m 0 ++ drop last old)) reach
              ∙ ap (λ (m : ℕ). front ++ (replicate ((high - from) + k) 0 ++ drop m old)) end
              ∙ ap (λ (xs : List ℕ). front ++ xs) (grown (high - from) k high old taken_zeros)
          | inr within ↦
              let end : last ≡ high = omega arith in
              ap (λ (m : ℕ). front ++ (replicate (m - from) 0 ++ drop m old)) end
        ]

-- where a test passes at the last place alone
first_place : (p : List ℕ → Bool) (xs : List (List ℕ)) (c : List ℕ) → All (λ x. p x ≡ false) xs → p c ≡ true → position_or_len p (xs ++ c ∷ []) ≡ length xs
first_place p [] c none is = rw is refl
first_place p (x ∷ xs) c none is =
    let here : p x ≡ false = All-head (λ x. p x ≡ false) x xs none in
    let rest : position_or_len p (xs ++ c ∷ []) ≡ length xs = first_place p xs c (All-tail (λ x. p x ≡ false) x xs none) is in
    rw (here, rest) (omega arith)

position_last : (p : List ℕ → Bool) (xs : List (List ℕ)) (c : List ℕ) → All (λ x. p x ≡ false) xs → p c ≡ true → position p (xs ++ c ∷ []) ≡ Some (length xs)
position_last p xs c none is =
    let place : position_or_len p (xs ++ c ∷ []) ≡ length xs = first_place p xs c none is in
    let inside : nat_lt (length xs) (length (xs ++ c ∷ [])) ≡ true = lt-ltb (length xs) (length (xs ++ c ∷ [])) (omega (arith, length-append xs (c ∷ []))) in
    rw (place, inside) refl

remove_last : (xs : List (List ℕ)) (c : List ℕ) → remove (xs ++ c ∷ []) (length xs) ≡ xs
remove_last xs c =
    let front : take (length xs) (xs ++ c ∷ []) ≡ xs = take_at xs (c ∷ []) (length xs) refl in
    let behind : drop (suc (length xs)) (xs ++ c ∷ []) ≡ [] = drop_all (suc (length xs)) (xs ++ c ∷ []) (omega (arith, length-append xs (c ∷ []))) in
    rw (front, behind) (append-nil xs)

-- a built rpath command has its text
is_named : (ctx : Ctx) (text c : List ℕ) → rpath_built ctx text ≡ Ok c → is_rpath_named ctx.le text c ≡ true
unfolding is_rpath_named
is_named ctx text c built =
    let is = rpath_built-at_ok ctx text c built in
    let holds = HoldsText-rpath_built ctx text c built in
    let room = built_size-above ctx.container 12 text in
    let size : length c ≡ built_size ctx.container 12 text = ap length is.0 ∙ length-built_rpath ctx text in
    let long : nat_le 12 (length c) ≡ true = le-leb 12 (length c) (omega arith) in
    let kind : (cmd_of ctx.le c == LC_RPATH) ≡ true = eq-eqb (cmd_of ctx.le c) LC_RPATH holds.kind in
    let same : bytes_eq (text_of ctx.le c) text ≡ true = (bytes_eq-Decides (text_of ctx.le c) text).1 holds.shown in
    rw (long, kind, same) refl

-- the two edits of the list
add_edits : (ctx : Ctx) (text c : List ℕ) (list : List (List ℕ)) → rpath_built ctx text ≡ Ok c → edited_list ctx (add_rpath text) list ≡ Ok (list ++ c ∷ [])
unfolding edited_list
add_edits ctx text c list built = rw built refl

remove_edits : (ctx : Ctx) (text c : List ℕ) (list : List (List ℕ)) → All (λ c. is_rpath_named ctx.le text c ≡ false) list → rpath_built ctx text ≡ Ok c → edited_list ctx (remove_rpath text) (list ++ c ∷ []) ≡ Ok list
unfolding edited_list
remove_edits ctx text c list lacks built =
    let place : position (is_rpath_named ctx.le text) (list ++ c ∷ []) ≡ Some (length list) = position_last (is_rpath_named ctx.le text) list c lacks (is_named ctx text c built) in
    rw place (ap (λ (l : List (List ℕ)). Ok l) (remove_last list c))

pub batch_gives_back : BatchGivesBack
batch_gives_back s text c is lacks built =
    let low = is.low in
    let same : max s.high (end_of (ctx_of s.old) s.list) ≡ s.high = omega arith in
    let made : edited_by (ctx_of s.old) 0 (add_rpath text ∷ remove_rpath text ∷ []) s.list ≡ Ok s.list =
    edited_by-more (ctx_of s.old) 0 (add_rpath text) (remove_rpath text ∷ []) s.list (s.list ++ c ∷ []) (add_edits (ctx_of s.old) text c s.list built)
    ∙ edited_by-more (ctx_of s.old) 1 (remove_rpath text) [] (s.list ++ c ∷ []) s.list (remove_edits (ctx_of s.old) text c s.list lacks built) in
    step-fits (add_rpath text ∷ remove_rpath text ∷ []) s s.list made (omega arith) ∙ ap (λ (n : ℕ). Ok (record { old = s.old; list = s.list; high = n })) same

-- the state with a command behind its list
abbrev with_command : State → List ℕ → State
with_command s c = record { old = s.old; list = s.list ++ c ∷ []; high = max s.high (end_of (ctx_of s.old) (s.list ++ c ∷ [])) }

-- what an accepted addition says
added_from : (s added : State) (built : Result (List ℕ) Cause) → fitted_state 1 s (then_on (answer_at 0 (list_with_last built s.list)) (λ next. Ok next)) ≡ Ok added → (c : List ℕ) × (built ≡ Ok c) × (added ≡ with_command s c)
unfolding fitted_state
added_from s added (Err cause) e = absurd (cc)
added_from s added (Ok c) e =
    elim (cases_Bool (nat_le (end_of (ctx_of s.old) (s.list ++ c ∷ [])) (available s))) [
      | inl fits ↦ let accepted = rw fits at e in (c, refl, cc)
      | inr past ↦ let refused = rw past at e in absurd (cc)
    ]

added_by : (s added : State) (text : List ℕ) → step (add_rpath text ∷ []) s ≡ Ok added → (c : List ℕ) × (rpath_built (ctx_of s.old) text ≡ Ok c) × (added ≡ with_command s c)
unfolding step edited_list
added_by s added text e = added_from s added (rpath_built (ctx_of s.old) text) e

-- a state's bytes up to the commands' end, and those behind it
abbrev front_of : State → List ℕ
front_of s = header_with (ctx_of s.old) s.old (length s.list) (length (concat s.list)) ++ concat s.list

laid_parts : (s : State) → laid_bytes s ≡ front_of s ++ (replicate (s.high - end_of (ctx_of s.old) s.list) 0 ++ drop s.high s.old)
unfolding laid_bytes
laid_parts s =
    with_area-parts (ctx_of s.old) s.old (length s.list) (concat s.list) s.high
    ∙ sym (append_assoc (header_with (ctx_of s.old) s.old (length s.list) (length (concat s.list))) (concat s.list) (replicate (s.high - end_of (ctx_of s.old) s.list) 0 ++ drop s.high s.old))

length-front : (s : State) → IsState s → length (front_of s) ≡ end_of (ctx_of s.old) s.list
length-front s is =
    let fits : Fits (ctx_of s.old) s.old (concat s.list) s.high = record { room = is.low; inside = is.inside } in
    let header = length-header_with (ctx_of s.old) s.old (concat s.list) s.high (length s.list) (length (concat s.list)) fits in
    length-append (header_with (ctx_of s.old) s.old (length s.list) (length (concat s.list))) (concat s.list) ∙ ap (λ (n : ℕ). n + length (concat s.list)) header

-- a list with a command behind it ends further on
longer : (ctx : Ctx) (list : List (List ℕ)) (c : List ℕ) → end_of ctx list ≤ end_of ctx (list ++ c ∷ [])
longer ctx list c = omega (arith, concat-append list (c ∷ []), length-append (concat list) (concat (c ∷ [])), ap length (concat-append list (c ∷ [])))

-- the state when the command is removed again
abbrev left_by : State → List ℕ → State
left_by s c = record { old = s.old; list = s.list; high = max (max s.high (end_of (ctx_of s.old) (s.list ++ c ∷ []))) (end_of (ctx_of s.old) s.list) }

removes : (s : State) (text c : List ℕ) → IsState s → LacksRpath s text → rpath_built (ctx_of s.old) text ≡ Ok c → step (remove_rpath text ∷ []) (with_command s c) ≡ Ok (left_by s c)
removes s text c is lacks built =
    let less = longer (ctx_of s.old) s.list c in
    step-fits (remove_rpath text ∷ []) (with_command s c) s.list
    (edited_by-one (ctx_of s.old) (remove_rpath text) (s.list ++ c ∷ []) s.list (remove_edits (ctx_of s.old) text c s.list lacks built))
    (omega arith)

bytes_back : (s : State) (c : List ℕ) → IsState s → (laid_bytes (left_by s c) ≡ laid_bytes s) ↔ (pad_taken s (s.list ++ c ∷ []) ≡ replicate (taken_size s (s.list ++ c ∷ [])) 0)
bytes_back s c is =
    let less = longer (ctx_of s.old) s.list c in
    rw (laid_parts (left_by s c), laid_parts s)
    (further (front_of s) s.old (end_of (ctx_of s.old) s.list) s.high (left_by s c).high (taken_size s (s.list ++ c ∷ [])) (length-front s is) is.low (omega arith))

pub remove_gives_back : RemoveGivesBack
remove_gives_back s added text is lacks e =
    let a = added_by s added text e in
    let c : List ℕ = a.0 in
    let P : State → Type 0 = λ t. IsOkAnd (step (remove_rpath text ∷ []) t) (GivesBack s t) in
    let Q : Result State Refusal → Type 0 = λ r. IsOkAnd r (GivesBack s (with_command s c)) in
    subst P (sym a.2) (subst Q (sym (removes s text c is lacks a.1)) (record { list = refl; bytes = bytes_back s c is }))
