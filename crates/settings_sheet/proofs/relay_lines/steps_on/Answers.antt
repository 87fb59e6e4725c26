use Rattle.std.proofs.Common.{◌≡◌, ℕ, List, ◌++◌, ap, refl, sym, ◌∙◌, arith}
use Rattle.std.specs.Prelude.{codes}
use Rattle.coord_model.specs.Allowed.{IsOnSteps}
use Rattle.coord_model.specs.PartLimits.{FitsRelay}
use Rattle.coord_model.specs.StudyData.{StudyData}
use Rattle.coord_model.specs.Time.{plug_at, dial_at}
use Rattle.coord_model.specs.declared.study.Relay.{Relay}
use Rattle.coord_text.specs.Numbers.{fixed}
use Rattle.coord_text.proofs.Digits.{same_fixed}
use Rattle.settings_sheet.specs.RelayStops.{HasNoSpace}
use Rattle.settings_sheet.specs.SheetLines.{relay_words}
use Rattle.settings_sheet.proofs.Spelled.{dial_within, fixed_is_plain, plug_within, same_words}
use Rattle.settings_sheet.proofs.relay_lines.steps_on.Goals as goal

-- the plug and the dial that the line spells are those of the steps
spelled : (study : StudyData) (relay : Relay) → FitsRelay study relay → (line name plug words : List ℕ) → name ≡ relay.name → HasNoSpace plug
    → line ≡ codes "relay " ++ (name ++ (codes " plug " ++ (plug ++ (codes " dial " ++ words))))
    → (pickup dial : ℕ) → IsOnSteps relay pickup dial → line ≡ relay_words relay pickup dial
    → (plug ≡ fixed 2 (plug_at relay pickup)) × (words ≡ fixed 3 (dial_at relay dial))
spelled study relay fits line name plug words name_is plain said pickup dial on is =
    let within = plug_within study relay fits pickup on.pickup_step in
    let named : line ≡ codes "relay " ++ (name ++ (codes " plug " ++ (fixed 2 (plug_at relay pickup) ++ (codes " dial " ++ fixed 3 (dial_at relay dial))))) =
    is ∙ ap (λ n. codes "relay " ++ (n ++ (codes " plug " ++ (fixed 2 (plug_at relay pickup) ++ (codes " dial " ++ fixed 3 (dial_at relay dial)))))) (sym name_is) in
    same_words name plug words (fixed 2 (plug_at relay pickup)) (fixed 3 (dial_at relay dial)) plain (fixed_is_plain 2 (plug_at relay pickup) (omega (arith, within))) (sym said ∙ named)

pub returns-in_err-plug-clause-no_such : goal.returns-in_err-plug-clause-no_such
returns-in_err-plug-clause-no_such c none pickup dial on is =
    let relay = c.args.relay.now in
    let within = plug_within c.requires.fits.0 relay c.requires.fits.1 pickup on.pickup_step in
    let name : c.args.name.now ≡ relay.name = c.requires.name in
    c.in_err-plug.ensures.no_such refl (fixed 2 (plug_at relay pickup)) (fixed 3 (dial_at relay dial)) (fixed_is_plain 2 (plug_at relay pickup) (omega (arith, within)))
    (is ∙ ap (λ n. codes "relay " ++ (n ++ (codes " plug " ++ (fixed 2 (plug_at relay pickup) ++ (codes " dial " ++ fixed 3 (dial_at relay dial)))))) (sym name))

pub returns-in_err-plug-2-clause-no_such : goal.returns-in_err-plug-2-clause-no_such
returns-in_err-plug-2-clause-no_such c none pickup dial on is =
    c.in_err-plug-2.ensures.no_such refl (plug_at c.args.relay.now pickup)
    (plug_within c.requires.fits.0 c.args.relay.now c.requires.fits.1 pickup on.pickup_step) (spelled c.requires.fits.0 c.args.relay.now c.requires.fits.1 c.args.line.now c.args.name.now c.in_ok-plug.plug.now c.in_ok-plug.dial.now c.requires.name c.in_ok-plug.ensures.plain c.in_ok-plug.ensures.said pickup dial on is).0

pub returns-in_err-dial-clause-no_such : goal.returns-in_err-dial-clause-no_such
returns-in_err-dial-clause-no_such c none pickup dial on is =
    c.in_err-dial.ensures.no_such refl (dial_at c.args.relay.now dial)
    (dial_within c.requires.fits.0 c.args.relay.now c.requires.fits.1 dial on.dial_step) (spelled c.requires.fits.0 c.args.relay.now c.requires.fits.1 c.args.line.now c.args.name.now c.in_ok-plug.plug.now c.in_ok-plug.dial.now c.requires.name c.in_ok-plug.ensures.plain c.in_ok-plug.ensures.said pickup dial on is).1

pub returns-in_err-pickup-clause-no_such : goal.returns-in_err-pickup-clause-no_such
returns-in_err-pickup-clause-no_such c none pickup dial on is =
    let relay = c.args.relay.now in
    let within = plug_within c.requires.fits.0 relay c.requires.fits.1 pickup on.pickup_step in
    let same = same_fixed 2 (plug_at relay pickup) c.in_ok-plug-2.plug (omega (arith, within)) (omega arith) (sym (spelled c.requires.fits.0 c.args.relay.now c.requires.fits.1 c.args.line.now c.args.name.now c.in_ok-plug.plug.now c.in_ok-plug.dial.now c.requires.name c.in_ok-plug.ensures.plain c.in_ok-plug.ensures.said pickup dial on is).0 ∙ c.in_ok-plug-2.ensures.spelled.1) in
    c.in_err-pickup.ensures.no_such refl pickup on.pickup_step same

pub returns-in_err-dial-2-clause-no_such : goal.returns-in_err-dial-2-clause-no_such
returns-in_err-dial-2-clause-no_such c none pickup dial on is =
    let relay = c.args.relay.now in
    let within = dial_within c.requires.fits.0 relay c.requires.fits.1 dial on.dial_step in
    let same = same_fixed 3 (dial_at relay dial) c.in_ok-dial.dial (omega (arith, within)) (omega arith) (sym (spelled c.requires.fits.0 c.args.relay.now c.requires.fits.1 c.args.line.now c.args.name.now c.in_ok-plug.plug.now c.in_ok-plug.dial.now c.requires.name c.in_ok-plug.ensures.plain c.in_ok-plug.ensures.said pickup dial on is).1 ∙ c.in_ok-dial.ensures.spelled.1) in
    c.in_err-dial-2.ensures.no_such refl dial on.dial_step same
