use Rattle.std.proofs.Common.{arith, ap, List, ℕ, length, ◌≡◌, Some, refl, subst, sym, ◌∙◌}
use Rattle.std.proofs.lemmas.List.{with_items_is}
use Rattle.std.specs.Vec.{with_items}
use Rattle.coord_model.specs.Choice.{choice_data}
use Rattle.coord_model.specs.StudyData.{StudyData}
use Rattle.margin_rows.specs.Least.{AreLeast}
use Rattle.margin_rows.specs.Raised.{AreLow}
use Rattle.margin_rows.proofs.Raising.{first_low, low_is_least, least_in_first_box, one_least}
use Rattle.margin_rows.proofs.least.least_dials.Goals as goal
use Rattle.margin_rows.proofs.least.least_dials.Goals.{In_ok-pickup}

pub raise_all-requires-clause-low : goal.raise_all-requires-clause-low
raise_all-requires-clause-low c =
    let case = c.args.inst.now in
    let relays : c.len.result ≡ length case.study.relays = omega (arith, c.len.ensures, c.study.result.now.relays.ok.0, ap (λ (s : StudyData). length s.relays) c.study.ensures.value) in
    let P : List ℕ → Type 0 = λ ds. AreLow c.args.meeting case c.args.pickups.now ds in
    subst P (sym (c.as_mut_slice.ensures.value ∙ c.in_ok-dial.ensures.items_if_clones_equal (λ y same. same))) (first_low c.args.meeting case c.args.pickups.now c.len.result c.study.ensures.fits relays)

-- the dials that were raised are the least
least : (c : In_ok-pickup) → AreLeast c.args.meeting c.args.inst.now c.args.pickups.now (choice_data (record { pickup = c.in_ok-pickup.pickup; dial = with_items c.in_ok-dial.dial c.raise_all.new.dials }))
least c =
    let case = c.args.inst.now in
    let pickups = c.args.pickups.now in
    let dials = c.raise_all.new.dials in
    let count : length dials ≡ c.in_ok-dial.dial.len = omega (arith, c.raise_all.auto.dials, ap (λ (ds : List ℕ). length ds) c.as_mut_slice.ensures.value, c.in_ok-dial.dial.ok.0) in
    let P : List ℕ → List ℕ → Type 0 = λ ps ds. AreLeast c.args.meeting case pickups (record { pickup = ps; dial = ds }) in
    rw (with_items_is c.in_ok-dial.dial dials count)
    (subst (λ (ps : List ℕ). P ps dials) (sym (c.in_ok-pickup.ensures.items_if_clones_equal (λ x y same. same)))
    (low_is_least c.args.meeting case pickups dials c.requires (c.if-not-raise_all.ensures.low refl) (c.if-not-raise_all.ensures.met refl)))

pub returns-clause-exact : goal.returns-clause-exact
returns-clause-exact c = least c

pub returns-clause-first_box : goal.returns-clause-first_box
returns-clause-first_box c = least_in_first_box c.args.meeting c.args.inst.now c.args.pickups.now _ c.requires (least c)

pub returns-clause-only : goal.returns-clause-only
returns-clause-only c other is = one_least c.args.meeting c.args.inst.now c.args.pickups.now (Some _) other (least c) is
