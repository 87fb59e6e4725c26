-- Names of buses, lines, relays and faults (ours): 1 to 16 bytes, each an ASCII letter, a digit, `_`, `-` or `.`.
use Rattle.std.specs.Prelude.{◌≡◌, ℕ, ◌-◌, ◌≤◌, Bool, ◌||◌, ◌&&◌, ◌==◌, nat_le, List, ◌++◌, length, take, replicate, IsTrue}
use Rattle.std.specs.List.{list_all}

-- the byte is a letter, a digit, `_`, `-` or `.`
abbrev pub is_name_byte : ℕ → Bool
is_name_byte b =
    (nat_le 97 b && nat_le b 122) || (nat_le 65 b && nat_le b 90) || (nat_le 48 b && nat_le b 57)
    || (b == 95) || (b == 45) || (b == 46)

-- whether the bytes are those of a name
abbrev pub is_name : List ℕ → Bool
is_name bytes = nat_le 1 (length bytes) && nat_le (length bytes) 16 && list_all is_name_byte bytes

-- the bytes are those of a name
abbrev pub IsName : List ℕ → Type 0
IsName bytes = IsTrue (is_name bytes)

-- the bytes, filled up with zeros to 16
abbrev pub padded : List ℕ → List ℕ
padded bytes = bytes ++ replicate (16 - length bytes) 0

-- the first of the sixteen kept bytes are a name, and zeros follow it
pub record IsStored (len : ℕ) (bytes : List ℕ) : Type 0 where
  pub within : len ≤ 16
  pub sixteen : length bytes ≡ 16
  pub name : IsName (take len bytes)
  pub filled : padded (take len bytes) ≡ bytes
