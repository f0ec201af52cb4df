-- Texts that the code holds, and pairs of them.
use Rattle.std.specs.Prelude.{ℕ, List, map}
use Rattle.std.specs.declared.alloc.Global.{Global}
use Rattle.std.specs.declared.vec.Vec.{Vec}

abbrev pub Bytes : Type 0
Bytes = Vec ℕ Global

abbrev pub bytes_of : Bytes → List ℕ
bytes_of text = text.items

abbrev pub texts_model : List Bytes → List (List ℕ)
texts_model texts = map bytes_of texts

abbrev pub pair_model : Bytes × Bytes → List ℕ × List ℕ
pair_model pair = (pair.0.items, pair.1.items)

abbrev pub pairs_model : List (Bytes × Bytes) → List (List ℕ × List ℕ)
pairs_model pairs = map pair_model pairs
