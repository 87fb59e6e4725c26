-- The text of a sheet, pushed part by part.
use Rattle.std.proofs.Common.{◌≡◌, ℕ, List, [], ◌∷◌, ◌++◌, ap, sym, ◌∙◌, append-nil, append_assoc}
use Rattle.std.specs.Prelude.{codes}
use Rattle.std.proofs.lemmas.Grind.{flat_map-append}
use Rattle.coord_text.specs.Claims.{ended, text_of}

-- four lines
pub head_pushed : (out a b c d : List ℕ) → (((out ++ a) ++ b) ++ c) ++ d ≡ out ++ (a ++ (b ++ (c ++ (d ++ []))))
head_pushed out a b c d = simp (append_assoc, append-nil)

-- the head, the settings and the end
pub parts_pushed : (head settings : List (List ℕ)) → (text_of head ++ text_of settings) ++ codes "end\n" ≡ text_of (head ++ (settings ++ codes "end" ∷ []))
parts_pushed head settings =
    append_assoc (text_of head) (text_of settings) (codes "end\n")
    ∙ ap (λ w. text_of head ++ w) (sym (flat_map-append ended settings (codes "end" ∷ [])))
    ∙ sym (flat_map-append ended head (settings ++ codes "end" ∷ []))
