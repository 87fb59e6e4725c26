use Rattle.std.proofs.Common.{◌≡◌, ℕ, ◌^◌, ◌<◌, ◌≤◌, List, [], ◌∷◌, ◌++◌, refl, sym, ap, ◌∙◌, arith, append_assoc, append-nil}
use Rattle.std.specs.Fmt.{decimal}
use Rattle.std.specs.Prelude.{⊤}
use Rattle.std.specs.List.{All, AllByRecursion}
use Rattle.std.proofs.lemmas.List.Elements.{All-from_recursion}
use Rattle.coord_model.specs.declared.weights.Weight.{Weight}
use Rattle.cert_text.specs.Nodes.{pair_word, weight_words}
use Rattle.cert_text.specs.Numbers.{StopsDigits}
use Rattle.cert_text.specs.Pairs.{AreWithin}
use Rattle.cert_text.proofs.Cuts.{same_number}

-- what holds of each of two lists holds of each of both
pub all_append : {A : Type 0} (P : A → Type 0) (xs ys : List A) → AllByRecursion P xs → AllByRecursion P ys → AllByRecursion P (xs ++ ys)
all_append P [] ys of_xs of_ys = of_ys
all_append P (x ∷ xs) ys of_xs of_ys = (of_xs.0, all_append P xs ys of_xs.1 of_ys)

-- the second numbers of words within limits
pub second_within : (first second : ℕ) (ws : List Weight) → AreWithin first second ws → All (λ w. w.weight ≤ second) ws
second_within first second ws within = All-from_recursion (λ w. w.weight ≤ second) ws (go ws within)
  where
    go : (vs : List Weight) → AreWithin first second vs → AllByRecursion (λ w. w.weight ≤ second) vs
    go [] each = tt
    go (v ∷ vs) each = (each.0.1, go vs each.1)

-- a word of two numbers, as it is cut
pub pair_cut : (a b : ℕ) (r : List ℕ) → pair_word a b ++ r ≡ decimal a ++ 58 ∷ (decimal b ++ r)
pair_cut a b r = append_assoc (decimal a) (58 ∷ decimal b) r

-- words of weights begin with no digit
pub words_stop : (ws : List Weight) → StopsDigits (weight_words ws)
words_stop [] = tt
words_stop (w ∷ ws) = refl

-- one more word at the end
pub words_append : (ws vs : List Weight) → weight_words (ws ++ vs) ≡ weight_words ws ++ weight_words vs
words_append [] vs = refl
words_append (w ∷ ws) vs =
    ap (λ r. 32 ∷ (pair_word w.row w.weight ++ r)) (words_append ws vs) ∙ ap (λ r. 32 ∷ r) (sym (append_assoc (pair_word w.row w.weight) (weight_words ws) (weight_words vs)))

-- texts that begin with a word of two numbers begin with one
pub same_pair : (a b c d : ℕ) (r s : List ℕ) → a < 2 ^ 64 → b < 2 ^ 64 → c < 2 ^ 64 → d < 2 ^ 64 → StopsDigits r → StopsDigits s
    → 32 ∷ (pair_word a b ++ r) ≡ 32 ∷ (pair_word c d ++ s) → (a ≡ c) × (b ≡ d) × (r ≡ s)
same_pair a b c d r s of_a of_b of_c of_d stops_r stops_s same =
    let words : pair_word a b ++ r ≡ pair_word c d ++ s = cc same in
    let first = same_number a c (58 ∷ (decimal b ++ r)) (58 ∷ (decimal d ++ s)) of_a of_c refl refl (sym (pair_cut a b r) ∙ words ∙ pair_cut c d s) in
    let behind : decimal b ++ r ≡ decimal d ++ s = cc first.1 in
    let second = same_number b d r s of_b of_d stops_r stops_s behind in
    (first.0, second.0, second.1)

-- where words were read, no digit follows
abbrev pub StopsAfter : List Weight → List ℕ → Type 0
StopsAfter [] left = ⊤
StopsAfter (w ∷ ws) left = StopsDigits left

pub stops_after : (ws : List Weight) (left : List ℕ) → StopsDigits left → StopsAfter ws left
stops_after [] left stops = tt
stops_after (w ∷ ws) left stops = stops

-- the words begin the others, and the rest is the words of what follows
pub record Peeled (ws vs : List Weight) (left : List ℕ) : Type 0 where
  pub more : List Weight
  pub parts : vs ≡ ws ++ more
  pub rest : left ≡ weight_words more

same_weight : (w v : Weight) → w.row ≡ v.row → w.weight ≡ v.weight → w ≡ v
same_weight w v row weight = ap (λ r. record { row = r; weight = w.weight }) row ∙ ap (λ k. record { row = v.row; weight = k }) weight

pub peel : (first second : ℕ) → first < 2 ^ 64 → second < 2 ^ 64 → (ws vs : List Weight) (left : List ℕ) → AreWithin first second ws → AreWithin first second vs
    → StopsAfter ws left → weight_words ws ++ left ≡ weight_words vs → Peeled ws vs left
peel first second of_first of_second [] vs left of_ws of_vs stops same = record { more = vs; parts = refl; rest = same }
peel first second of_first of_second (w ∷ ws) [] left of_ws of_vs stops same = absurd (cc same)
peel first second of_first of_second (w ∷ ws) (v ∷ vs) left of_ws of_vs stops same =
    let cut : 32 ∷ (pair_word w.row w.weight ++ (weight_words ws ++ left)) ≡ 32 ∷ (pair_word v.row v.weight ++ weight_words vs) =
    ap (λ r. 32 ∷ r) (sym (append_assoc (pair_word w.row w.weight) (weight_words ws) left)) ∙ same in
    let head = same_pair w.row w.weight v.row v.weight (weight_words ws ++ left) (weight_words vs) (omega (arith, of_ws.0.0)) (omega (arith, of_ws.0.1)) (omega (arith, of_vs.0.0)) (omega (arith, of_vs.0.1)) (front_stops ws left stops) (words_stop vs) cut in
    let tail = peel first second of_first of_second ws vs left of_ws.1 of_vs.1 (stops_after ws left stops) head.2 in
    record { more = tail.more; parts = ap (λ l. l ∷ vs) (sym (same_weight w v head.0 head.1)) ∙ ap (λ l. w ∷ l) tail.parts; rest = tail.rest }
  where
    front_stops : (ws : List Weight) (left : List ℕ) → StopsDigits left → StopsDigits (weight_words ws ++ left)
    front_stops [] left stops = stops
    front_stops (u ∷ us) left stops = refl

-- equal words have equal numbers
pub same_words : (first second : ℕ) → first < 2 ^ 64 → second < 2 ^ 64 → (ws vs : List Weight) → AreWithin first second ws → AreWithin first second vs
    → weight_words ws ≡ weight_words vs → ws ≡ vs
same_words first second of_first of_second ws vs of_ws of_vs same =
    let peeled = peel first second of_first of_second ws vs [] of_ws of_vs (stops_after ws [] tt) (append-nil (weight_words ws) ∙ same) in
    sym (peeled.parts ∙ ap (λ m. ws ++ m) (none peeled.more (sym peeled.rest)) ∙ append-nil ws)
  where
    none : (more : List Weight) → weight_words more ≡ [] → more ≡ []
    none [] is = refl
    none (w ∷ more) is = absurd (cc is)
