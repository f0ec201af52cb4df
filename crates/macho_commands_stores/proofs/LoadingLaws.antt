-- What was read of a file.
use Rattle.std.proofs.Common.{◌≡◌, ◌≤◌, ◌<◌, ◌^◌, ◌∙◌, ℕ, Bool, inl, inr, List, ◌++◌, Option, length, drop, ap, arith, rules, sym, true}
use Rattle.std.proofs.lemmas.List.{take-append-drop, take_all}
use Rattle.byte_store.specs.Known.{IsAll, IsFirst, HasLength, Stays}
use Rattle.macho_commands_stores.specs.Loading.{IsLoaded, IsThinFront}
use Rattle.macho_commands_stores.specs.declared.loading.Loaded.{Loaded}

-- all bytes, where they are few
pub all_read : (is_front_enough : Bool) (known : Option (List ℕ)) (loaded : Loaded) → IsAll known loaded.bytes.items → length loaded.bytes.items ≤ 2 ^ 32 → loaded.length ≡ length loaded.bytes.items → IsLoaded is_front_enough known loaded
all_read is_front_enough known loaded all few long file is =
    let same : loaded.bytes.items ≡ file = all file is in
    inl (record { first = same ∙ sym (take_all (2 ^ 32) file (omega (arith, few, ap length same))); long = long })

-- first bytes that are a front
pub front_read : (known mid : Option (List ℕ)) (n : ℕ) (loaded : Loaded) → IsFirst n known loaded.bytes.items → Stays known mid → HasLength mid loaded.length → loaded.length < 2 ^ 32 → IsThinFront loaded.bytes.items → IsLoaded true known loaded
front_read known mid n loaded first kept long short thin file is =
    let all : length file ≡ loaded.length = long file (kept ∙ is) in
    inr (
      search rules,
      record {
        front = record {
          rest = drop n file;
          joined = ap (λ (l : List ℕ). l ++ drop n file) (first file is) ∙ take-append-drop n file;
          thin = thin;
          short = omega (arith, all, short);
        };
        long = sym all;
      },
    )

-- read after other calls
pub read_after : (known mid now : Option (List ℕ)) (is_front_enough : Bool) (loaded : Loaded) → now ≡ mid → mid ≡ known → ((b : Bool) → IsLoaded b now loaded) → IsLoaded is_front_enough known loaded
read_after known mid now is_front_enough loaded same kept reads file is = reads is_front_enough file (same ∙ kept ∙ is)
