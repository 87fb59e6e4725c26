use Rattle.std.proofs.Common.{◌≡◌, ℕ, ◌+◌, ◌-◌, ◌<◌, List, [], ◌∷◌, refl, length, map, get_or, ap, arith, ◌⊎◌, inl, inr}
use Rattle.std.proofs.lemmas.List.{get_or-map}
use Rattle.coord_model.specs.declared.weights.Weight.{Weight}
use Rattle.cert_text.proofs.nodes.are_rising.Goals as goal

rows_length : (ws : List Weight) → length (map (λ w. w.row) ws) ≡ length ws
rows_length [] = refl
rows_length (w ∷ ws) = omega (arith, rows_length ws)

row_at : (ws : List Weight) (i : ℕ) (d : Weight) → i < length ws → get_or (map (λ w. w.row) ws) i 0 ≡ (get_or ws i d).row
row_at ws i d within = get_or-map (λ w. w.row) ws i d 0 within

pub returns-then-weights-i-clause-no : goal.returns-then-weights-i-clause-no
returns-then-weights-i-clause-no c rises =
    let ws = c.args.weights.now in
    let i = c.loop-i.i in
    let d : Weight = record { row = 0; weight = 0 } in
    let again : i - 1 + 1 ≡ i = omega (arith, c.loop-i.auto.i) in
    absurd (omega (
      arith,
      c.if-weights-i.true,
      ap (λ k. get_or (map (λ w. w.row) ws) k 0) again,
      row_at ws i d (omega (arith, c.loop-i-test.true)),
      row_at ws (i - 1) d (omega (arith, c.loop-i-test.true)),
      rises (i - 1) (omega (arith, c.loop-i-test.true, c.loop-i.auto.i, rows_length ws)),
    ))

lt_or_eq : (a b : ℕ) → a < b + 1 → (a < b) ⊎ (a ≡ b)
lt_or_eq a b h = grind arith

pub loop-i-preserved : goal.loop-i-preserved
loop-i-preserved c k below =
    let ws = c.args.weights.now in
    let i = c.loop-i.i in
    let d : Weight = record { row = 0; weight = 0 } in
    step ws i d k (c.loop-i.invariant k) below (omega (arith, c.loop-i-test.true)) (omega (arith, c.if-weights-i.false))
  where
    step : (ws : List Weight) (i : ℕ) (d : Weight) (k : ℕ) → (k + 1 < i → get_or (map (λ w. w.row) ws) k 0 < get_or (map (λ w. w.row) ws) (k + 1) 0)
        → k + 1 < i + 1 → i < length ws → (get_or ws (i - 1) d).row < (get_or ws i d).row → get_or (map (λ w. w.row) ws) k 0 < get_or (map (λ w. w.row) ws) (k + 1) 0
    step ws i d k before below within here = by_case (lt_or_eq (k + 1) i (omega (arith, below)))
      where
        by_case : (k + 1 < i) ⊎ (k + 1 ≡ i) → get_or (map (λ w. w.row) ws) k 0 < get_or (map (λ w. w.row) ws) (k + 1) 0
        by_case (inl lt) = before lt
        by_case (inr eq) =
            let last : k ≡ i - 1 = omega (arith, eq) in
            omega (arith, here, ap (λ j. get_or (map (λ w. w.row) ws) j 0) eq, ap (λ j. get_or (map (λ w. w.row) ws) j 0) last, row_at ws i d within, row_at ws (i - 1) d (omega (arith, within)))
