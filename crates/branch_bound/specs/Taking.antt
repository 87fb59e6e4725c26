-- What becomes of the open leaf that comes first, in the tree of numbered nodes (ours).
use Rattle.std.specs.Prelude.{◌≡◌, ℕ, ◌+◌}
use Rattle.search_tree.specs.Plan.{Plan, closed, opened, split}
use Rattle.search_tree.specs.Steps.{IsFirst, Turns}
use Rattle.search_tree.specs.declared.leaf.Leaf.TheVariants as Leaf
use Rattle.step_rules.specs.declared.handling.Handling.{Handling}
use Rattle.step_rules.specs.declared.handling.Handling.TheVariants.{Bound, Empty, Hair, Split, Void}
use Rattle.step_rules.specs.declared.open_box.OpenBox.{OpenBox}

-- the node with this number after what became of its box; the halves of a split have the next two
-- numbers
abbrev pub becomes : Handling → ℕ → ℕ → Plan OpenBox
becomes Empty number next = closed number Leaf.Empty
becomes (Void rows) number next = closed number (Leaf.Void rows)
becomes (Bound weights) number next = closed number (Leaf.Bound weights)
becomes (Hair row) number next = closed number (Leaf.Hair row)
becomes (Split relay at low high) number next =
    split number relay at (opened next low.bound low) (opened (next + 1) high.bound high)

-- the open leaf that comes first has become this, and nothing else changed
abbrev pub Takes : Handling → ℕ → Plan OpenBox → Plan OpenBox → Type 0
Takes handling next before =
    Turns
    (λ number value later. IsFirst before number value × (later ≡ becomes handling number next))
    before
