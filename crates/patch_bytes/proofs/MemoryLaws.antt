-- What is read in one memory is read in each that keeps its bytes, and the bytes of a list are read where
-- they lie.
use Rattle.std.proofs.Common.{◌≡◌, ◌≤◌, ℕ, zero, suc, ◌+◌, List, [], ◌∷◌, length, take, drop, get_or, refl, sym, ap, ◌∙◌, Option, Some, None, true, false, arith, add-one, drop-cons, ltb, cond}
use Rattle.std.specs.Prelude.{slice_get}
use Rattle.std.proofs.lemmas.Option.{none-some, slice_get-get_or}
use Rattle.std.proofs.lemmas.Bool.{cond_both}
use Rattle.patch_bytes.specs.Number.{field}
use Rattle.patch_bytes.specs.Memory.{◌>>=◌, Agrees, Keeps, Memory, bytes_at, first_places, memory_of, text_at}

-- what it takes that one step after another gives a value
pub bind_some : {A B : Type 0} → (o : Option A) (f : A → Option B) (y : B) → (o >>= f) ≡ Some y → (x : A) × (o ≡ Some x) × (f x ≡ Some y)
bind_some (Some x) f y h = (x, refl, h)
bind_some None f y h = absurd (none-some y h)

-- one step after another, where the first gives a value
pub some_bind : {A B : Type 0} → (o : Option A) (f : A → Option B) (x : A) → o ≡ Some x → (o >>= f) ≡ f x
some_bind o f x e = ap (λ v. v >>= f) e

-- steps that agree one by one agree as a whole
pub bind_agrees : {A B : Type 0} → (o p : Option A) (f g : A → Option B) → Agrees o p → ((x : A) → Agrees (f x) (g x)) → Agrees (o >>= f) (p >>= g)
bind_agrees o p f g here there y h =
    let (x, ox, fx) = bind_some o f y h in
    some_bind p g x (here x ox) ∙ there x y fx

pub Agrees-refl : {A : Type 0} → (o : Option A) → Agrees o o
Agrees-refl o x h = h

-- the bytes from a place on
pub bytes_at-keeps : (n : ℕ) (f g : Memory) → Keeps f g → (a : ℕ) → Agrees (bytes_at n f a) (bytes_at n g a)
unfolding bytes_at
bytes_at-keeps zero f g keeps a = Agrees-refl (Some [])
bytes_at-keeps (suc n) f g keeps a =
    bind_agrees (f a) (g a) (λ b. bytes_at n f (a + 1) >>= (λ r. Some (b ∷ r))) (λ b. bytes_at n g (a + 1) >>= (λ r. Some (b ∷ r))) (keeps a)
    (λ b. bind_agrees (bytes_at n f (a + 1)) (bytes_at n g (a + 1)) (λ r. Some (b ∷ r)) (λ r. Some (b ∷ r)) (bytes_at-keeps n f g keeps (a + 1)) (λ r. Agrees-refl (Some (b ∷ r))))

-- what comes behind a byte of a text
after_byte : (room : ℕ) → Memory → ℕ → ℕ → Option (List ℕ)
after_byte room f a byte = elim byte [ zero ↦ Some [] | suc b ↦ text_at room f (a + 1) >>= (λ rest. Some (suc b ∷ rest)) ]

after_byte-agrees : (r s : ℕ) (f g : Memory) (a : ℕ) → Agrees (text_at r f (a + 1)) (text_at s g (a + 1)) → (byte : ℕ) → Agrees (after_byte r f a byte) (after_byte s g a byte)
unfolding after_byte
after_byte-agrees r s f g a more zero = Agrees-refl (Some [])
after_byte-agrees r s f g a more (suc b) =
    bind_agrees (text_at r f (a + 1)) (text_at s g (a + 1)) (λ t. Some (suc b ∷ t)) (λ t. Some (suc b ∷ t)) more (λ t. Agrees-refl (Some (suc b ∷ t)))

-- a text, also where more room is given
pub text_at-keeps : (r s : ℕ) → r ≤ s → (f g : Memory) → Keeps f g → (a : ℕ) → Agrees (text_at r f a) (text_at s g a)
unfolding text_at after_byte
text_at-keeps zero s le f g keeps a = λ x h. absurd (none-some x h)
text_at-keeps (suc r) zero le f g keeps a = absurd (omega arith)
text_at-keeps (suc r) (suc s) le f g keeps a =
    bind_agrees (f a) (g a) (after_byte r f a) (after_byte s g a) (keeps a) (after_byte-agrees r s f g a (text_at-keeps r s (omega arith) f g keeps (a + 1)))

-- the bytes of a list are there where they lie
pub bytes_at-memory_of : (n a : ℕ) (xs : List ℕ) → a + n ≤ length xs → bytes_at n (memory_of xs) a ≡ Some (field n a xs)
unfolding bytes_at
bytes_at-memory_of zero a xs h = refl
bytes_at-memory_of (suc n) a xs h =
    let here : slice_get xs a ≡ Some (get_or xs a 0) = slice_get-get_or xs a 0 (omega arith) in
    let more : bytes_at n (memory_of xs) (a + 1) ≡ Some (field n (a + 1) xs) = bytes_at-memory_of n (a + 1) xs (omega arith) in
    let cut : drop a xs ≡ get_or xs a 0 ∷ drop (a + 1) xs = rw (add-one) (drop-cons xs a 0 (omega arith)) in
    some_bind (slice_get xs a) (λ b. bytes_at n (memory_of xs) (a + 1) >>= (λ r. Some (b ∷ r))) (get_or xs a 0) here
    ∙ some_bind (bytes_at n (memory_of xs) (a + 1)) (λ r. Some (get_or xs a 0 ∷ r)) (field n (a + 1) xs) more
    ∙ ap (λ l. Some (take (suc n) l)) (sym cut)

pub Keeps-refl : (f : Memory) → Keeps f f
Keeps-refl f a x h = h

-- the first places of a memory are its own
pub Keeps-first_places : (n : ℕ) (f : Memory) → Keeps (first_places n f) f
Keeps-first_places n f a x = cond_both (ltb a n) (f a) None (λ o. o ≡ Some x → f a ≡ Some x) (λ _ h. h) (λ _ h. absurd (none-some x h))

-- the first places keep what the first places of another keep
pub first_places-keeps : (n : ℕ) (f g : Memory) → Keeps f g → Keeps (first_places n f) (first_places n g)
first_places-keeps n f g keeps a x = elim (ltb a n) as (λ b. cond b (f a) None ≡ Some x → cond b (g a) None ≡ Some x) [ true ↦ keeps a x | false ↦ λ h. h ]
