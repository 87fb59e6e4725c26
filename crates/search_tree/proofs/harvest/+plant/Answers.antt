use Rattle.std.proofs.Common.{arith, ◌∙◌, ap}
use Rattle.coord_model.specs.Tree.{shape}
use Rattle.search_tree.specs.Harvest.{weighed}
use Rattle.search_tree.proofs.Planting.{tree_within, length_kept, halves, others, low_moved, high_moved, both_spared, whole_split, leaf_spared, at_closed, at_open}
use Rattle.search_tree.proofs.harvest.+plant.Goals as goal

pub take_slot-requires : goal.take_slot-requires
take_slot-requires g t c = record { within = tree_within _ _ c.requires.tree }

pub plant-requires : goal.plant-requires
plant-requires g t c κs within =
    let h = halves _ _ _ _ _ c.requires.tree c.in-Split.ensures.taken in
    let rest = c.in-Split.ensures.rest in
    let low = low_moved _ _ _ _ _ _ h (others _ _ _ _ rest) in
    let long = length_kept _ _ _ _ rest in
    let inside = tree_within _ _ h.low_tree in
    let after = h.after in
    let places = c.requires.places in
    (omega (arith, c.decreases), (within, (low.1, omega arith)))

pub overflow_add-low : goal.overflow_add-low
overflow_add-low g t c =
    let h = halves _ _ _ _ _ c.requires.tree c.in-Split.ensures.taken in
    let inside = tree_within _ _ h.high_tree in
    let places = c.requires.places in
    omega arith

pub plant-requires-in-Split : goal.plant-requires-in-Split
plant-requires-in-Split g t c κs within =
    let h = halves _ _ _ _ _ c.requires.tree c.in-Split.ensures.taken in
    let rest = c.in-Split.ensures.rest in
    let below = c.in_ok-below-in-Split.ensures in
    let high = high_moved _ _ _ _ _ _ h (others _ _ _ _ rest) c.plant.new.slots.items below.rest in
    let long = below.count ∙ length_kept _ _ _ _ rest in
    let inside = tree_within _ _ h.high_tree in
    let after = h.after in
    let places = c.requires.places in
    (omega (arith, c.decreases), (within, (high.1, omega arith)))

pub returns-in_ok-new-in-Split-2-clause-exact : goal.returns-in_ok-new-in-Split-2-clause-exact
returns-in_ok-new-in-Split-2-clause-exact g t c =
    let h = halves _ _ _ _ _ c.requires.tree c.in-Split.ensures.taken in
    whole_split _ _ _ _ _ _ h (others _ _ _ _ c.in-Split.ensures.rest) (λ value. weighed (g.T.Weighed.weights value)) c.plant.new.slots.items c.in_ok-below-in-Split.ensures.rest _ _
    (ap shape c.in_ok-new-in-Split.ensures.ok ∙ c.in_ok-below-in-Split.ensures.exact)
    (ap shape c.in_ok-new-in-Split-2.ensures.ok ∙ c.in_ok-above-in-Split.ensures.exact)

pub returns-in_ok-new-in-Split-2-clause-rest : goal.returns-in_ok-new-in-Split-2-clause-rest
returns-in_ok-new-in-Split-2-clause-rest g t c =
    let h = halves _ _ _ _ _ c.requires.tree c.in-Split.ensures.taken in
    both_spared _ _ _ _ _ _ h (others _ _ _ _ c.in-Split.ensures.rest) c.plant.new.slots.items c.plant-in-Split.new.slots.items c.in_ok-below-in-Split.ensures.rest c.in_ok-above-in-Split.ensures.rest

pub returns-in-Closed-clause-exact : goal.returns-in-Closed-clause-exact
returns-in-Closed-clause-exact g t c = rw (at_closed _ _ _ c.in-Closed.ensures.taken) c.closed_node.ensures

pub returns-in-Closed-clause-rest : goal.returns-in-Closed-clause-rest
returns-in-Closed-clause-rest g t c = leaf_spared _ _ _ (others _ _ _ _ c.in-Closed.ensures.rest)

pub returns-in-Open-clause-exact : goal.returns-in-Open-clause-exact
returns-in-Open-clause-exact g t c = rw (at_open _ _ _ _ c.in-Open.ensures.taken) (ap weighed c.into_weights.ensures.exact)

pub returns-in-Open-clause-rest : goal.returns-in-Open-clause-rest
returns-in-Open-clause-rest g t c = leaf_spared _ _ _ (others _ _ _ _ c.in-Open.ensures.rest)
