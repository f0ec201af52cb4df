-- Texts in tables, memories of whole lists, and lists of values that are there one by one.
use Rattle.std.proofs.Common.{◌≡◌, ◌≤◌, ◌<◌, ℕ, zero, suc, ◌+◌, List, [], ◌∷◌, length, drop, cond, refl, ap, ◌∙◌, Option, Some, None, arith}
use Rattle.std.specs.List.{slice_get}
use Rattle.std.proofs.lemmas.Bool.{cond_both, lt-ltb}
use Rattle.std.proofs.lemmas.List.{length-drop, length-take}
use Rattle.std.proofs.lemmas.Option.{none-some, same_Some, slice_get_within}
use Rattle.patch_bytes.specs.Number.{field}
use Rattle.patch_bytes.specs.Memory.{◌>>=◌, Keeps, Memory, first_places, memory_of, text_at}
use Rattle.patch_bytes.proofs.MemoryLaws.{bind_some, some_bind, text_at-keeps}
use Rattle.elf_format.specs.declared.records.SectionHeader.{SectionHeader}
use Rattle.elf_format.specs.File.{has_file_bytes, section_bytes}
use Rattle.elf_format.specs.Options.{each}
use Rattle.elf_write_spec.specs.Headers.{Reads}

-- ## Texts

-- what comes behind a byte of a text
behind : ℕ → Memory → ℕ → ℕ → Option (List ℕ)
behind room f a byte = elim byte [ zero ↦ Some [] | suc b ↦ text_at room f (a + 1) >>= (λ rest. Some (suc b ∷ rest)) ]

-- a text and its NUL lie in the table that it is read from
inside-behind : (room : ℕ) (xs : List ℕ) (a : ℕ) → a < length xs
    → ((t : List ℕ) → text_at room (memory_of xs) (a + 1) ≡ Some t → a + 1 + length t < length xs)
    → (byte : ℕ) (text : List ℕ) → behind room (memory_of xs) a byte ≡ Some text → a + length text < length xs
unfolding behind
inside-behind room xs a here more zero text h = omega (arith, ap length (same_Some [] text h))
inside-behind room xs a here more (suc b) text h =
    let (rest, there, made) = bind_some (text_at room (memory_of xs) (a + 1)) (λ t. Some (suc b ∷ t)) text h in
    let long = more rest there in
    let same = ap length (same_Some (suc b ∷ rest) text made) in
    omega (arith, long, same)

pub text_inside : (room : ℕ) (xs : List ℕ) (a : ℕ) (text : List ℕ) → text_at room (memory_of xs) a ≡ Some text → a + length text < length xs
unfolding text_at behind
text_inside zero xs a text h = absurd (none-some text h)
text_inside (suc room) xs a text h =
    let (byte, here, after) = bind_some (slice_get xs a) (behind room (memory_of xs) a) text h in
    inside-behind room xs a (slice_get_within xs a byte here) (λ t. text_inside room xs (a + 1) t) byte text after

-- any room above its length is enough for a text
reads-behind : (r s : ℕ) (f : Memory) (a : ℕ) → ((t : List ℕ) → text_at r f (a + 1) ≡ Some t → length t < s → text_at s f (a + 1) ≡ Some t)
    → (byte : ℕ) (text : List ℕ) → behind r f a byte ≡ Some text → length text < suc s → behind s f a byte ≡ Some text
unfolding behind
reads-behind r s f a more zero text h long = h
reads-behind r s f a more (suc b) text h long =
    let (rest, there, made) = bind_some (text_at r f (a + 1)) (λ t. Some (suc b ∷ t)) text h in
    let same = ap length (same_Some (suc b ∷ rest) text made) in
    some_bind (text_at s f (a + 1)) (λ t. Some (suc b ∷ t)) rest (more rest there (omega (arith, same))) ∙ made

pub text_reads : (r : ℕ) (f : Memory) (a : ℕ) (text : List ℕ) → text_at r f a ≡ Some text → (s : ℕ) → length text < s
    → text_at s f a ≡ Some text
unfolding text_at behind
text_reads zero f a text h s long = absurd (none-some text h)
text_reads (suc r) f a text h zero long = absurd (omega arith)
text_reads (suc r) f a text h (suc s) long =
    let (byte, here, after) = bind_some (f a) (behind r f a) text h in
    some_bind (f a) (behind s f a) byte here
    ∙ reads-behind r s f a (λ t there fits. text_reads r f (a + 1) t there s fits) byte text after long

-- a text of a table is read in each memory that keeps the table, with room for the whole table
pub text_read_back : (xs : List ℕ) (a : ℕ) (text : List ℕ) → Reads xs a text → (room : ℕ) → length xs ≤ room → (g : Memory)
    → Keeps (memory_of xs) g
    → text_at room g a ≡ Some text
text_read_back xs a text reads room long g keeps =
    let here : text_at (length text + 1) (memory_of xs) a ≡ Some text = reads (length text + 1) (omega arith) in
    let inside : a + length text < length xs = text_inside (length text + 1) xs a text here in
    text_at-keeps (length text + 1) room (omega arith) (memory_of xs) g keeps a text here

-- ## Memories

-- the first places of a list, as many as it has, are the whole list
pub whole-Keeps : (xs : List ℕ) (n : ℕ) → n ≡ length xs → Keeps (memory_of xs) (first_places n (memory_of xs))
whole-Keeps xs n long a x h =
    ap (λ b. cond b (slice_get xs a) None) (lt-ltb a n (omega (arith, slice_get_within xs a x h))) ∙ h

-- a section has no more bytes than its file
pub bytes_short : (file : List ℕ) (s : SectionHeader) → length (section_bytes file s) ≤ length file
unfolding section_bytes
bytes_short file s =
    cond_both (has_file_bytes s) (field s.sh_size s.sh_offset file) [] (λ bytes. length bytes ≤ length file)
    (λ _. omega (arith, length-take s.sh_size (drop s.sh_offset file), length-drop s.sh_offset file))
    (λ _. omega arith)

-- ## Lists

pub each-from : {A B : Type 0} (f : A → Option B) (xs : List A) (ys : List B) → length ys ≡ length xs
    → ((i : ℕ) (x : A) (y : B) → slice_get xs i ≡ Some x → slice_get ys i ≡ Some y → f x ≡ Some y) → each f xs ≡ Some ys
unfolding each
each-from f [] [] long at = refl
each-from f [] (y ∷ ys) long at = absurd (omega arith)
each-from f (x ∷ xs) [] long at = absurd (omega arith)
each-from f (x ∷ xs) (y ∷ ys) long at =
    some_bind (f x) (λ z. each f xs >>= λ zs. Some (z ∷ zs)) y (at zero x y refl refl)
    ∙ some_bind (each f xs) (λ zs. Some (y ∷ zs)) ys (each-from f xs ys (omega arith)
    (λ i a b a_there b_there. at (suc i) a b a_there b_there))
