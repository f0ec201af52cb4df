-- What the fields of a fat file under edits hold.
use Rattle.std.specs.Prelude.{◌≡◌, is_some, map, All}
use Rattle.patch_bytes.specs.ByteString.{bytes_model}
use Rattle.arwen_macho.specs.declared.fat.FatMachoContainer.TheInside.{Inside}
use Rattle.arwen_macho.specs.FatHeld.{FatHeld, IsFatState}
use Rattle.arwen_macho.specs.FatSlice.{slice_model}
use Rattle.arwen_macho.specs.FatState.{fat_laid_bytes}

-- the bytes as read, the slices, and whether there is an edited copy
abbrev pub fat_held_of : Inside → FatHeld
fat_held_of s = record {
  state = record { old = s.source.now; slices = map slice_model s.archs.items };
  is_edited = is_some s.edited;
}

-- the bytes now are those of the state, and each slice's bytes are a copy where the file's are
pub record IsFatHeld (s : Inside) : Type 0 where
  pub is_state : IsFatState (fat_held_of s).state
  pub bytes : bytes_model s.source.now s.edited ≡ fat_laid_bytes (fat_held_of s).state
  pub copies : All (λ m. m.inner.is_edited ≡ is_some s.edited) s.archs.items
