use Rattle.std.proofs.Common.{◌≡◌, ◌≢◌, ℕ, ◌+◌, List, [], ◌∷◌, ◌++◌, length, refl, sym, ap, ◌∙◌, append-nil, append_assoc, length-append, arith}
use Rattle.coord_model.specs.StudyData.{StudyData}
use Rattle.coord_text.specs.Claims.{text_of}
use Rattle.coord_text.specs.Lines.{IsLine}
use Rattle.coord_text.proofs.Breaks.{same_first_line}
use Rattle.settings_sheet.specs.SheetData.{IsSheet, SheetData}
use Rattle.settings_sheet.specs.SheetFaults.{StopsAt}
use Rattle.settings_sheet.specs.SheetLines.{kind_at, sheet_lines}
use Rattle.settings_sheet.specs.declared.refusal.SheetKind.{SheetKind}

-- each is a line
abbrev pub AreLines : List (List ℕ) → Type 0
AreLines [] = Unit {0}
AreLines (x ∷ xs) = IsLine x × AreLines xs

-- the first of the others, as many as there are of these, are lines
abbrev pub AreFirst : List (List ℕ) → List (List ℕ) → Type 0
AreFirst [] ys = Unit {0}
AreFirst (x ∷ xs) [] = Unit {0}
AreFirst (x ∷ xs) (y ∷ ys) = IsLine y × AreFirst xs ys

-- the lines begin the others, and the rest is the text of what follows
pub record Peeled (xs ys : List (List ℕ)) (left : List ℕ) : Type 0 where
  pub more : List (List ℕ)
  pub parts : ys ≡ xs ++ more
  pub rest : left ≡ text_of more

-- a text that begins with lines begins with its own
pub peel : (xs ys : List (List ℕ)) (left : List ℕ) → AreLines xs → AreFirst xs ys → text_of xs ++ left ≡ text_of ys → Peeled xs ys left
peel [] ys left of_xs of_ys same = record { more = ys; parts = refl; rest = same }
peel (x ∷ xs) [] left of_xs of_ys same =
    absurd (omega (arith, ap length same, length-append ((x ++ 10 ∷ []) ++ text_of xs) left, length-append (x ++ 10 ∷ []) (text_of xs), length-append x (10 ∷ [])))
peel (x ∷ xs) (y ∷ ys) left of_xs of_ys same =
    let cut : x ++ 10 ∷ (text_of xs ++ left) ≡ y ++ 10 ∷ text_of ys =
    sym (append_assoc (x ++ 10 ∷ []) (text_of xs) left ∙ append_assoc x (10 ∷ []) (text_of xs ++ left)) ∙ same ∙ append_assoc y (10 ∷ []) (text_of ys) in
    let first = same_first_line x y (text_of xs ++ left) (text_of ys) of_xs.0 of_ys.0 cut in
    let tail = peel xs ys left of_xs.1 of_ys.1 first.1 in
    record { more = tail.more; parts = ap (λ l. l ∷ ys) (sym first.0) ∙ ap (λ l. x ∷ l) tail.parts; rest = tail.rest }

-- where lines are read that begin a sheet, and no line there continues them, the bytes stop
pub stops_here : (study : StudyData) (bytes : List ℕ) (sheet : SheetData) → IsSheet study sheet → (before more : List (List ℕ)) → sheet_lines study sheet ≡ before ++ more
    → (left : List ℕ) → bytes ≡ text_of before ++ left → (kind : SheetKind) → kind ≡ kind_at study sheet (length before + 1)
    → AreLines before → ((other : SheetData) → IsSheet study other → AreFirst before (sheet_lines study other))
    → ((other : SheetData) → IsSheet study other → sheet_lines study other ≢ before)
    → ((other : SheetData) → IsSheet study other → (line : List ℕ) (after : List (List ℕ)) → sheet_lines study other ≡ before ++ line ∷ after → (rest : List ℕ) → left ≢ line ++ 10 ∷ rest)
    → (number : ℕ) → number ≡ length before + 1 → StopsAt study bytes number kind
stops_here study bytes sheet is before more parts left split kind due lines first longer dead number number_is = record {
  no_sheet = λ other is_other text.
      let peeled = peel before (sheet_lines study other) left lines (first other is_other) (sym split ∙ text) in
      no_more peeled.more other is_other peeled.parts peeled.rest;
  before = before;
  left = left;
  parts = split;
  number = number_is;
  begins = record { sheet = sheet; is = is; more = more; parts = parts };
  due = due ∙ ap (kind_at study sheet) (sym number_is);
  stops = λ here rest is_line stands begins.
      dead begins.sheet begins.is here begins.more (begins.parts ∙ append_assoc before (here ∷ []) begins.more) rest stands;
}
  where
    no_more : (after : List (List ℕ)) (other : SheetData) → IsSheet study other → sheet_lines study other ≡ before ++ after → left ≡ text_of after → ⊥
    no_more [] other is_other parts rest = longer other is_other (parts ∙ append-nil before)
    no_more (line ∷ after) other is_other parts rest = dead other is_other line after parts (text_of after) (rest ∙ append_assoc line (10 ∷ []) (text_of after))
