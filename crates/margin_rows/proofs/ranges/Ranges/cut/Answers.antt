use Rattle.std.proofs.Common.{◌≡◌, List, ap, ◌∙◌}
use Rattle.std.specs.Prelude.{slice_get}
use Rattle.margin_rows.specs.Box.{Box}
use Rattle.margin_rows.specs.Halves.{HasNext, up_to, above}
use Rattle.margin_rows.specs.Within.{with_pickup}
use Rattle.margin_rows.specs.declared.span.Steps.{Steps}
use Rattle.margin_rows.proofs.Halved.{halves_are}
use Rattle.margin_rows.proofs.Places.{and_some}
use Rattle.margin_rows.proofs.Written.{read_there}
use Rattle.margin_rows.proofs.ranges.Ranges.cut.Goals as goal

-- a box of the spans of another is it
same_box : (pickup dial : List Steps) (box : Box) → pickup ≡ box.pickup → dial ≡ box.dial → (record { pickup = pickup; dial = dial }) ≡ box
same_box pickup dial box p d = ap (λ (xs : List Steps). record { pickup = xs; dial = dial }) p ∙ ap (λ (xs : List Steps). record { pickup = box.pickup; dial = xs }) d

pub halves-requires : goal.halves-requires
halves-requires c =
    (read_there c.args.self.now.pickup c.self.inside.pickup.items c.args.relay c.from.result c.index.result.now (λ span. HasNext span c.args.at) (ap (λ (b : Box). b.pickup) c.self.view_is) c.from.ensures c.index.ensures c.requires.at).1

pub returns-clause-exact : goal.returns-clause-exact
returns-clause-exact c =
    let box = c.args.self.now in
    let span = c.index.result.now in
    let read = read_there box.pickup c.self.inside.pickup.items c.args.relay c.from.result span (λ s. HasNext s c.args.at) (ap (λ (b : Box). b.pickup) c.self.view_is) c.from.ensures c.index.ensures c.requires.at in
    let pickup = c.copy_from_slice.ensures.items ∙ c.deref.ensures.value ∙ ap (λ (b : Box). b.pickup) c.self.view_is in
    let dial = c.copy_from_slice-2.ensures.items ∙ c.deref-2.ensures.value ∙ ap (λ (b : Box). b.dial) c.self.view_is in
    let copied = same_box c.copy_from_slice.new.self.items c.copy_from_slice-2.new.self.items box pickup dial in
    record {
      low = and_some (slice_get box.pickup c.args.relay) (λ s. c.set_pickup.new.self ≡ with_pickup box c.args.relay (up_to s c.args.at)) span read.0 (c.set_pickup.ensures.exact ∙ ap (λ (s : Steps). with_pickup box c.args.relay s) c.halves.ensures.low);
      high = and_some (slice_get box.pickup c.args.relay) (λ s. c.set_pickup-2.new.self ≡ with_pickup box c.args.relay (above s c.args.at)) span read.0
          (c.set_pickup-2.ensures.exact ∙ ap (λ (b : Box). with_pickup b c.args.relay c.halves.result.1) copied ∙ ap (λ (s : Steps). with_pickup box c.args.relay s) c.halves.ensures.high);
    }

pub returns-clause-shared : goal.returns-clause-shared
returns-clause-shared c = (halves_are c.args.self.now _ _ c.args.relay c.args.at c.requires.at (returns-clause-exact c)).0

pub returns-clause-low : goal.returns-clause-low
returns-clause-low c = (halves_are c.args.self.now _ _ c.args.relay c.args.at c.requires.at (returns-clause-exact c)).1.0

pub returns-clause-high : goal.returns-clause-high
returns-clause-high c = (halves_are c.args.self.now _ _ c.args.relay c.args.at c.requires.at (returns-clause-exact c)).1.1
