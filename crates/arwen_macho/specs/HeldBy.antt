-- What the fields of a thin file under edits hold.
use Rattle.std.specs.Prelude.{◌≡◌}
use Rattle.macho_image.specs.Commands.{commands_of}
use Rattle.arwen_macho.specs.declared.macho.SingleMachO.TheInside.{Inside}
use Rattle.macho_edits.specs.Held.{Held}
use Rattle.macho_edits.specs.State.{laid_bytes}
use Rattle.macho_edits.specs.Whole.{IsState}

-- the bytes as read, the commands of the bytes now, and the furthest end
abbrev pub held_of : Inside → Held
held_of s = record {
  state = record { old = s.source.now; list = commands_of s.inner.bytes; high = s.high };
  is_edited = s.inner.is_edited;
}

-- the bytes now are those of the state
pub record IsHeld (s : Inside) : Type 0 where
  pub is_state : IsState (held_of s).state
  pub bytes : s.inner.bytes ≡ laid_bytes (held_of s).state
