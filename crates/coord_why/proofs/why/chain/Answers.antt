use Rattle.std.specs.Prelude.{slice_get, slice_index}
use Rattle.std.specs.Option.{IsSomeAnd}
use Rattle.std.proofs.Common.{◌<◌, ◌≤◌, List, None, arith, length, subst, sym}
use Rattle.std.proofs.lemmas.Option.{slice_get_within}
use Rattle.coord_model.specs.Choice.{choice_data}
use Rattle.coord_why.specs.Chains.{EndsAt}
use Rattle.coord_why.specs.Raises.{AreFounded}
use Rattle.coord_why.specs.declared.climb.Raise.{Raise}
use Rattle.coord_why.proofs.Asked.{number_read}
use Rattle.coord_why.proofs.Reached.{climb_below, climb_few, climb_least, climb_needed, climb_refuses, ended, follow_named, last_raise}
use Rattle.coord_why.proofs.why.chain.Goals as goal

pub returns-then-step-index-clause-refused : goal.returns-then-step-index-clause-refused
returns-then-step-index-clause-refused c =
    let case = c.args.inst.now in
    let settings = choice_data c.args.choice.now in
    let climb = c.in_ok-climb.climb in
    let last = last_raise case settings climb c.in_ok-climb.ensures.climb c.in_ok-climb.ensures.top c.args.relay c.from.result c.index-last.result.now c.index.result.now c.requires.relay c.from.ensures c.index-last.ensures c.index.ensures in
    let dial = number_read settings.dial c.from-2.result c.args.relay c.index-2.result.now c.from-2.ensures (omega (arith, c.requires.relay, c.requires.first_box.on_steps.dials)) c.index-2.ensures in
    record {
      least = choice_data climb.low;
      is_least = climb_least case settings climb c.in_ok-climb.ensures.climb c.in_ok-climb.ensures.top;
      at_step = sym last.2;
      below = omega (arith, c.if-step-index.true, dial);
    }

pub links_to-requires-clause-last : goal.links_to-requires-clause-last
links_to-requires-clause-last c =
    let case = c.args.inst.now in
    let settings = choice_data c.args.choice.now in
    let climb = c.in_ok-climb.climb in
    let last = last_raise case settings climb c.in_ok-climb.ensures.climb c.in_ok-climb.ensures.top c.args.relay c.from.result c.index-last.result.now c.index.result.now c.requires.relay c.from.ensures c.index-last.ensures c.index.ensures in
    let P : List Raise → Type 0 = λ rs. c.index-last.result.now < length rs in
    subst P (sym c.as_slice.ensures.value) (slice_get_within climb.raises.items c.index-last.result.now c.index.result.now last.0)

pub returns-clause-ends : goal.returns-clause-ends
returns-clause-ends c =
    let case = c.args.inst.now in
    let settings = choice_data c.args.choice.now in
    let climb = c.in_ok-climb.climb in
    let last = last_raise case settings climb c.in_ok-climb.ensures.climb c.in_ok-climb.ensures.top c.args.relay c.from.result c.index-last.result.now c.index.result.now c.requires.relay c.from.ensures c.index-last.ensures c.index.ensures in
    let dial = number_read settings.dial c.from-2.result c.args.relay c.index-2.result.now c.from-2.ensures (omega (arith, c.requires.relay, c.requires.first_box.on_steps.dials)) c.index-2.ensures in
    let below = climb_below case settings climb c.in_ok-climb.ensures.climb c.in_ok-climb.ensures.top c.args.relay (record { first_box = c.requires.first_box; met = c.requires.loose }) in
    let P : List Raise → Type 0 = λ rs. IsSomeAnd (slice_get rs c.index-last.result.now) (λ raise. EndsAt c.in_ok-links_to.field-0.items raise.link.relay raise.link.step) in
    ended climb.raises.items c.index-last.result.now c.index.result.now c.args.relay (slice_index settings.dial c.args.relay) c.in_ok-links_to.field-0.items last.0 last.1
    (omega (arith, last.2, below, dial, c.if-step-index.false)) (subst P c.as_slice.ensures.value c.in_ok-links_to.ensures.ends)

pub returns-clause-few : goal.returns-clause-few
returns-clause-few c =
    let few = climb_few c.args.inst.now (choice_data c.args.choice.now) c.in_ok-climb.climb c.in_ok-climb.ensures.climb c.in_ok-climb.ensures.top in
    let P : List Raise → Type 0 = λ rs. length c.in_ok-links_to.field-0.items ≤ length rs in
    omega (arith, few, subst P c.as_slice.ensures.value c.in_ok-links_to.ensures.few)

pub returns-clause-named : goal.returns-clause-named
returns-clause-named c =
    let case = c.args.inst.now in
    let pickups = c.args.choice.now.pickup.items in
    let P : List Raise → Type 0 = λ rs. AreFounded case pickups rs in
    follow_named case pickups None c.in_ok-links_to.field-0.items (c.in_ok-links_to.ensures.chain case pickups (subst P (sym c.as_slice.ensures.value) c.in_ok-climb.ensures.climb.raised.founded))

pub returns-clause-needed : goal.returns-clause-needed
returns-clause-needed c =
    let case = c.args.inst.now in
    let settings = choice_data c.args.choice.now in
    let climb = c.in_ok-climb.climb in
    let last = last_raise case settings climb c.in_ok-climb.ensures.climb c.in_ok-climb.ensures.top c.args.relay c.from.result c.index-last.result.now c.index.result.now c.requires.relay c.from.ensures c.index-last.ensures c.index.ensures in
    let dial = number_read settings.dial c.from-2.result c.args.relay c.index-2.result.now c.from-2.ensures (omega (arith, c.requires.relay, c.requires.first_box.on_steps.dials)) c.index-2.ensures in
    climb_needed case settings climb c.in_ok-climb.ensures.climb c.in_ok-climb.ensures.top c.args.relay (slice_index settings.dial c.args.relay) c.in_ok-climb.ensures.fits c.requires.relay
    (omega (arith, last.2, dial, c.if-step-index.false))

pub returns-clause-least : goal.returns-clause-least
returns-clause-least c step =
    let case = c.args.inst.now in
    let settings = choice_data c.args.choice.now in
    let climb = c.in_ok-climb.climb in
    let last = last_raise case settings climb c.in_ok-climb.ensures.climb c.in_ok-climb.ensures.top c.args.relay c.from.result c.index-last.result.now c.index.result.now c.requires.relay c.from.ensures c.index-last.ensures c.index.ensures in
    let dial = number_read settings.dial c.from-2.result c.args.relay c.index-2.result.now c.from-2.ensures (omega (arith, c.requires.relay, c.requires.first_box.on_steps.dials)) c.index-2.ensures in
    climb_refuses case settings climb c.in_ok-climb.ensures.climb c.in_ok-climb.ensures.top c.args.relay step (omega (arith, last.2, dial, c.if-step-index.false))
