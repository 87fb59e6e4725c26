-- The first state of a search, and when it is done.
use Rattle.std.specs.Prelude.{is_some, slice_get, IsTrue}
use Rattle.std.specs.Option.{IfSome, IsSomeAnd}
use Rattle.std.proofs.Common.{◌≡◌, ℕ, ◌<◌, ◌⊎◌, inl, inr, List, Option, Some, None, length, Bool, not, [], ◌∷◌, arith, refl, ap, ◌∙◌, ◌↔◌, sym, true, false}
use Rattle.std.proofs.lemmas.Bool.{cases_lt, true_from_ne_false, true≢false}
use Rattle.std.proofs.lemmas.Option.{slice_get_past}
use Rattle.margin_rows.specs.Box.{Box, HasEmptySpan, HasNoEmptySpan, IsEmpty}
use Rattle.margin_rows.specs.declared.span.Steps.{Steps}
use Rattle.cert_tree.specs.Endings.{boxes, has_open_leaf}
use Rattle.search_tree.specs.Harvest.{tree_of}
use Rattle.search_tree.specs.Plan.{Plan, entries}
use Rattle.search_tree.specs.Steps.{IsLead}
use Rattle.step_rules.specs.declared.open_box.OpenBox.{OpenBox}
use Rattle.branch_bound.proofs.Placing.{leaf_of, none_open, some_open}
use Rattle.branch_bound.proofs.Sounding.{all_or_not}

-- each span has a step, or one has none
spans_or_not : (spans : List Steps) → ((i : ℕ) → IfSome (slice_get spans i) (λ span. span.low < span.past)) ⊎ ((i : ℕ) × IsSomeAnd (slice_get spans i) IsEmpty)
spans_or_not spans = elim (all_or_not P one (length spans)) [
  | inl each ↦ inl (λ i. elim (cases_lt i (length spans)) [ inl below ↦ each i below | inr past ↦ rw (slice_get_past spans i past) tt ])
  | inr fails ↦ inr (fails.0, empty (slice_get spans fails.0) fails.1)
]
  where
    P : ℕ → Type 0
    P i = IfSome (slice_get spans i) (λ span. span.low < span.past)

    one : (i : ℕ) → P i ⊎ ¬ (P i)
    one i = go (slice_get spans i)
      where
        go : (o : Option Steps) → IfSome o (λ span. span.low < span.past) ⊎ ¬ (IfSome o (λ span. span.low < span.past))
        go None = inl tt
        go (Some span) = elim (cases_lt span.low span.past) [
          | inl some ↦ inl some
          | inr none ↦ inr (λ some. omega (arith, some, none))
        ]

    empty : (o : Option Steps) → ¬ (IfSome o (λ span. span.low < span.past)) → IsSomeAnd o IsEmpty
    empty None fails = absurd (fails tt)
    empty (Some span) fails = elim (cases_lt span.low span.past) [
      | inl some ↦ absurd (fails some)
      | inr none ↦ none
    ]

-- a box has a step in each span, or an empty span
pub steps_or_empty : (box : Box) → HasEmptySpan box ⊎ HasNoEmptySpan box
steps_or_empty box = elim (spans_or_not box.pickup) [
  | inr gone ↦ inl (inl gone)
  | inl pickup ↦ elim (spans_or_not box.dial) [
    | inr gone ↦ inl (inr gone)
    | inl dial ↦ inr (record { pickup = pickup; dial = dial })
  ]
]

-- a lead is there exactly if an open leaf stands
pub lead_open : (plan : Plan OpenBox) (lead : Option ℕ) → IsLead plan lead → (is_some lead ≡ true → has_open_leaf (tree_of leaf_of plan) ≡ true) × (is_some lead ≡ false → has_open_leaf (tree_of leaf_of plan) ≡ false)
lead_open plan None is = (λ some. absurd (true≢false (sym some)), λ none. none_open plan is)
lead_open plan (Some least) is =
    let listed = is.0.1 in
    (λ some. some_open plan (omega (arith, listed.1)), λ none. absurd (true≢false none))

pub done_by_lead : (plan : Plan OpenBox) (lead : Option ℕ) (n budget : ℕ) (none : Bool) → IsLead plan lead → is_some lead ≡ not none → n ≡ boxes (tree_of leaf_of plan) → ¬ (n ≡ budget)
    → IsTrue none ↔ ((has_open_leaf (tree_of leaf_of plan) ≡ false) ⊎ (boxes (tree_of leaf_of plan) ≡ budget))
done_by_lead plan lead n budget none is test counted apart = (to, from)
  where
    to : IsTrue none → (has_open_leaf (tree_of leaf_of plan) ≡ false) ⊎ (boxes (tree_of leaf_of plan) ≡ budget)
    to gone = inl ((lead_open plan lead is).1 (test ∙ ap not gone))

    from : (has_open_leaf (tree_of leaf_of plan) ≡ false) ⊎ (boxes (tree_of leaf_of plan) ≡ budget) → IsTrue none
    from (inr spent) = absurd (apart (counted ∙ spent))
    from (inl gone) = true_from_ne_false none (λ some. true≢false (sym ((lead_open plan lead is).0 (test ∙ ap not some)) ∙ gone))

-- an open leaf that stands is listed
pub open_listed : (plan : Plan OpenBox) → ¬ (has_open_leaf (tree_of leaf_of plan) ≡ false) → 0 < length (entries plan)
open_listed plan stands = elim (cases_lt 0 (length (entries plan))) [
  | inl some ↦ some
  | inr none ↦ absurd (stands (none_open plan (nothing (entries plan) (omega (arith, none)))))
]
  where
    nothing : (es : List (ℕ × ℕ)) → length es ≡ 0 → es ≡ []
    nothing [] none = refl
    nothing (e ∷ es) none = absurd (omega (arith, none))
