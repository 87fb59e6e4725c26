-- What the words after a command say (ours).
use Rattle.std.specs.Prelude.{ℕ, Bool, not, ◌&&◌, ◌==◌, nat_lt, Option, Some, None}
use Rattle.std.specs.Prelude.{option_and_then, option_map, List, [], ◌∷◌, length, map, take, drop}
use Rattle.std.specs.Prelude.{codes, slice_index, if◌then◌else◌}
use Rattle.std.specs.List.{after_first, before_first, list_any}
use Rattle.std.specs.Str.{bytes_eq}
use Rattle.coord_words.specs.Uses.{Flag, Use, budget, gap, name, option, text_of}

-- the option of this word
abbrev pub flag_of : List ℕ → Option Flag
flag_of word =
    if bytes_eq (text_of gap) word then Some gap
    else if bytes_eq (text_of budget) word then Some budget
    else None

-- the word is `--`: after it every word is a name
abbrev pub opens_names : List ℕ → Bool
opens_names word = bytes_eq word (codes "--")

-- the word is a name: a word of two or more bytes that begins with `-` isn't one
abbrev pub is_name : List ℕ → Bool
is_name word = not (nat_lt 1 (length word) && (slice_index word 0 == 45))

-- the word of the option in `--option` and in `--option=word`
abbrev pub option_in : List ℕ → List ℕ
option_in word = before_first (λ b. b == 61) (drop 2 word)

-- the word that follows the first `=`, if there is one
abbrev pub word_in : List ℕ → Option (List ℕ)
word_in word =
    if list_any (λ b. b == 61) (drop 2 word) then Some (after_first (λ b. b == 61) (drop 2 word))
    else None

-- the option that the word is, after `--`
abbrev pub flag_in : List ℕ → Option Flag
flag_in word = if bytes_eq (take 2 word) (codes "--") then flag_of (option_in word) else None

-- one more use, and then the others, if there are some
abbrev pub after : Use → Option (List Use) → Option (List Use)
after first uses = option_map (λ more. first ∷ more) uses

-- an option with its own word, or with the next one
abbrev pub with_word : Flag → Option (List ℕ) → (Option Flag → Option (List Use))
    → Option (List Use)
with_word flag (Some word) rest = after (option flag word) (rest None)
with_word flag None rest = rest (Some flag)

-- What the words say, if each has a meaning. `due` is an option that the word before them left
-- without its word. The next word is its own, if it could be a name: of the words that begin with
-- `-` only `-` itself, which is no number.
unfoldable pub uses_from : List (List ℕ) → Option Flag → Option (List Use)
uses_from [] None = Some []
uses_from [] (Some due) = None
uses_from (word ∷ words) (Some due) =
    if is_name word then after (option due word) (uses_from words None) else None
uses_from (word ∷ words) None =
    if opens_names word then Some (map name words)
    else if is_name word then after (name word) (uses_from words None)
    else option_and_then (λ flag. with_word flag (word_in word) (uses_from words)) (flag_in word)
