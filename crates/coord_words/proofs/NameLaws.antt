-- The names of a command: that they differ, and that they are as many as its line says.
use Rattle.std.proofs.Common.{◌≡◌, ◌∙◌, ◌+◌, ◌&&◌, ◌||◌, Bool, cond, true, false, not, refl, sym, ap, ap₂, List, [], ◌∷◌, ℕ, length, take, is_some}
use Rattle.std.specs.Prelude.{◌==◌}
use Rattle.std.specs.Borrow.{Bor}
use Rattle.std.specs.List.{list_any}
use Rattle.std.specs.Str.{bytes_eq}
use Rattle.std.proofs.lemmas.Bool.Decides.{Decides-eqb}
use Rattle.std.proofs.lemmas.List.{length-map, take-map}
use mir.Val.{bool_byte}
use Rattle.coord_words.specs.Line.{all_differ, are_names_for, count}
use Rattle.coord_words.specs.Names.{texts}
use Rattle.coord_words.specs.declared.line.Line.{Line}

among : (word : List ℕ) (rest : List (Bor (List ℕ))) → list_any (λ other. bytes_eq other word) (texts rest) ≡ list_any (λ y. bytes_eq y.now word) rest
among word [] = refl
among word (name ∷ rest) = ap (λ b. bytes_eq name.now word || b) (among word rest)

-- one more name in front
pub differ_more : (names : List (Bor (List ℕ))) (name : Bor (List ℕ)) (rest : List (Bor (List ℕ))) (found : Bool) → names ≡ name ∷ rest
    → found ≡ list_any (λ y. bytes_eq y.now name.now) rest → all_differ (texts names) ≡ not found && all_differ (texts rest)
differ_more names name rest found is any =
    ap (λ ns. all_differ (texts ns)) is ∙ ap (λ b. not b && all_differ (texts rest)) (among name.now rest ∙ sym any)

byte : (b : Bool) → bool_byte b ≡ cond b 1 0
byte true = refl
byte false = refl

-- as many names as there have to be
pub names_for : (line : Line) (names : List (Bor (List ℕ))) (some differs : Bool) → length names ≡ line.names + bool_byte some → some ≡ is_some line.number
    → line.differ ≡ true → differs ≡ all_differ (texts (take line.names names)) → differs ≡ are_names_for line (texts names)
names_for line names some differs many number differ is =
    let counted : (length (texts names) == count line) ≡ true =
    (Decides-eqb (length (texts names)) (count line)).1 (length-map names (λ (w : Bor (List ℕ)). w.now) ∙ many ∙ ap (λ n. line.names + n) (byte some) ∙ ap (λ b. line.names + cond b 1 0) number) in
    is ∙ ap all_differ (sym (take-map (λ (w : Bor (List ℕ)). w.now) line.names names))
    ∙ sym (ap₂ (λ a d. a && (not d || all_differ (take line.names (texts names)))) counted differ)
