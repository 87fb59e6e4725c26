-- A text with one line more.
use Rattle.std.proofs.Common.{◌≡◌, ℕ, List, [], ◌∷◌, ◌++◌, ap, ◌∙◌, append-nil, append_assoc}
use Rattle.std.proofs.lemmas.Grind.{flat_map-append}
use Rattle.coord_text.specs.Claims.{text_of}

pub text_more : (lines : List (List ℕ)) (line : List ℕ) → text_of (lines ++ line ∷ []) ≡ text_of lines ++ (line ++ 10 ∷ [])
text_more lines line = flat_map-append (λ l. l ++ 10 ∷ []) lines (line ∷ []) ∙ ap (λ w. text_of lines ++ w) (append-nil (line ++ 10 ∷ []))

-- and what follows it
pub text_step : (lines : List (List ℕ)) (line rest : List ℕ) → text_of (lines ++ line ∷ []) ++ rest ≡ text_of lines ++ (line ++ 10 ∷ rest)
text_step lines line rest =
    ap (λ w. w ++ rest) (text_more lines line) ∙ append_assoc (text_of lines) (line ++ 10 ∷ []) rest ∙ ap (λ w. text_of lines ++ w) (append_assoc line (10 ∷ []) rest)
