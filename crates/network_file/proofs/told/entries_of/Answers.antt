use Rattle.std.proofs.Common.{◌≡◌, ◌+◌, map, drop, sym, ap, ◌∙◌, arith}
use Rattle.std.proofs.lemmas.List.{drop_all}
use Rattle.std.proofs.lemmas.List.Elements.{All-push}
use Rattle.std.proofs.lemmas.Result.{err_from_is_err_and}
use Rattle.network_file.specs.declared.fault.Place.{Place}
use Rattle.network_file.specs.Elements.{entry_at, place_after}
use Rattle.network_file.proofs.EachAfter.{seen_split, own_fault, goes_on, stops, ends}
use Rattle.toml.specs.View.{view}
use Rattle.network_file.proofs.told.entries_of.Goals as goal

pub returns-in_err-entry_at-clause-exact : goal.returns-in_err-entry_at-clause-exact
returns-in_err-entry_at-clause-exact g c =
    let p = err_from_is_err_and c.from_residual-in_err-entry_at.result c.from_residual-in_err-entry_at.ensures.1 in
    let place : c.place_after-place.result ≡ place_after c.args.table c.loop-element.entries.items = c.place_after-place.ensures ∙ ap (place_after c.args.table) c.deref.ensures.value in
    let x = c.element-item.result in
    let i = c.loop-element.element-index in
    let read = λ (at : Place). entry_at (g.E.Entry.entry_of c.args.format) at (view x) in
    let here = ap read (sym place) ∙ sym c.in_err-entry_at.ensures.exact in
    rw (p.1, p.2) (stops (λ before. entry_at (g.E.Entry.entry_of c.args.format) (place_after c.args.table before)) c.loop-element.entries.items (view x)
    (map view (drop (i + 1) c.args.elements.now)) (map view (drop i c.args.elements.now)) _ c.in_err-entry_at.field-0.0
    (seen_split view c.args.elements.now i x c.loop-element-test.true c.element-item.is) (own_fault _ _ here) c.loop-element.invariant.so_far)

pub loop-element-preserved : goal.loop-element-preserved
loop-element-preserved g c =
    let place : c.place_after-place.result ≡ place_after c.args.table c.loop-element.entries.items = c.place_after-place.ensures ∙ ap (place_after c.args.table) c.deref.ensures.value in
    let x = c.element-item.result in
    let i = c.loop-element.element-index in
    let read = λ (at : Place). entry_at (g.E.Entry.entry_of c.args.format) at (view x) in
    let here = ap read (sym place) ∙ sym c.in_ok-entry_at.ensures.exact in
    record {
      counted = omega (arith, c.in_ok-push.ensures.len);
      so_far = rw c.in_ok-push.ensures.items (goes_on (λ before. entry_at (g.E.Entry.entry_of c.args.format) (place_after c.args.table before)) c.loop-element.entries.items (view x)
          (map view (drop (i + 1) c.args.elements.now)) (map view (drop i c.args.elements.now)) _ c.in_ok-entry_at.field-0
          (seen_split view c.args.elements.now i x c.loop-element-test.true c.element-item.is) here c.loop-element.invariant.so_far);
      keeps = rw c.in_ok-push.ensures.items (All-push (g.E.Entry.Keeps c.args.format) c.loop-element.entries.items c.in_ok-entry_at.field-0 c.loop-element.invariant.keeps c.in_ok-entry_at.ensures.keeps);
    }

pub returns-clause-exact : goal.returns-clause-exact
returns-clause-exact g c =
    let none = ap (map view) (drop_all c.loop-element.element-index c.args.elements.now c.loop-element-test.false) in
    ends (λ before. entry_at (g.E.Entry.entry_of c.args.format) (place_after c.args.table before)) c.loop-element.entries.items _ _ none c.loop-element.invariant.so_far
