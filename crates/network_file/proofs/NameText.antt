-- The bytes of a name are text.
use Rattle.std.specs.Prelude.{slice_index, ◌&&◌, nat_le}
use Rattle.std.specs.List.{list_all}
use Rattle.std.proofs.Common.{◌≡◌, ℕ, zero, suc, ◌<◌, true, List, [], ◌∷◌, length, arith}
use Rattle.std.proofs.lemmas.Bool.{and_parts}
use Rattle.std.proofs.lemmas.Bool.Decides.{nat_tests}
use Rattle.std.proofs.lemmas.Str.{IsUtf8-from_ascii}
use Rattle.std.specs.Str.{IsUtf8}
use Rattle.coord_model.specs.Name.{IsName, is_name_byte}

ascii_byte : (b : ℕ) → is_name_byte b ≡ true → b < 128
ascii_byte b h = grind (arith, nat_tests)

ascii_bytes : (bytes : List ℕ) → list_all is_name_byte bytes ≡ true → (i : ℕ) → slice_index bytes i < 128
ascii_bytes [] h i = omega arith
ascii_bytes (b ∷ bytes) h zero = ascii_byte b (and_parts (is_name_byte b) (list_all is_name_byte bytes) h).0
ascii_bytes (b ∷ bytes) h (suc i) = ascii_bytes bytes (and_parts (is_name_byte b) (list_all is_name_byte bytes) h).1 i

pub name_is_text : (bytes : List ℕ) → IsName bytes → IsUtf8 bytes
name_is_text bytes name =
    IsUtf8-from_ascii bytes (ascii_bytes bytes (and_parts (nat_le 1 (length bytes) && nat_le (length bytes) 16) (list_all is_name_byte bytes) name).1)
