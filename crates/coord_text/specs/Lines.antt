-- What stands at a place of a text of lines (ours): a line of at most 2,048 printable characters, or why there is none.
use Rattle.std.specs.Prelude.{◌≡◌, ℕ, ◌+◌, ◌==◌, ◌<◌, ◌≤◌, Bool, true, List, take, length, if◌then◌else◌, nat_lt, nat_le, ◌&&◌}
use Rattle.std.specs.List.{list_all, position_or_len}
use Rattle.coord_text.specs.declared.lines.NextLine.{NextLine}
use Rattle.coord_text.specs.declared.lines.NextLine.TheVariants.{End, TooLong, NoEnd, NotAscii, Line}

-- how many bytes stand before a line feed or the end
abbrev pub line_len : List ℕ → ℕ
line_len bytes = position_or_len (λ b. b == 10) bytes

-- a space, or a sign that is printed
abbrev pub is_printable : ℕ → Bool
is_printable b = nat_le 32 b && nat_le b 126

-- the first that holds of what is left
abbrev pub next_of : List ℕ → ℕ → NextLine
next_of left place =
    if length left == 0 then End
    else (if nat_lt 2048 (line_len left) then TooLong
    else (if line_len left == length left then NoEnd
    else (if list_all is_printable (take (line_len left) left) then Line (place + line_len left)
    else NotAscii)))

-- a line feed lies in the text at or after the place
abbrev pub EndsWithin : ℕ → ℕ → NextLine → Type 0
EndsWithin place len (Line to) = (place ≤ to) × (to < len)
EndsWithin place len _ = Unit {0}

-- a line, its line feed aside
pub record IsLine (line : List ℕ) : Type 0 where
  pub short : length line ≤ 2048
  pub printable : list_all is_printable line ≡ true
