-- What a byte string shows once a `&mut` into its bytes is no longer in use.
use Rattle.std.specs.Prelude.{ℕ, [], Result}
use Rattle.std.specs.Borrow.{Fml, LendsIfOk, MutBor, u8}
use Rattle.std.specs.declared.alloc.AllocError.{AllocError}
use Rattle.std.specs.declared.alloc.Global.{Global}
use Rattle.std.specs.declared.vec.Vec.{Vec}
use Rattle.std.specs.contracts.alloc.Global.{the_row as global_row}
use Rattle.std.specs.contracts.impls.GlobalAllocator.TheImpl.{ghosts}
use Rattle.std.specs.contracts.vec.Vec.{the_row as vec_row}
use Rattle.patch_bytes.specs.ByteString.{StringValue, owned_string}
use Rattle.patch_bytes.specs.contracts.byte_string.ByteString.{the_row}
use mir.Syntax.{named}

-- the string ends with the bytes that the lent vector has last, and owns them; on an error it stays as
-- it was
abbrev pub LendsBytes : MutBor StringValue → Result (MutBor (Vec ℕ Global)) AllocError → Fml
LendsBytes s r = LendsIfOk (the_row (record { mir = named 1; lft = [] })) (vec_row u8 global_row ghosts) s r (λ w. owned_string w.items) s.now
