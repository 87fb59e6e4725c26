-- A relay of a study stands at a bus of the study.
use Rattle.std.specs.Prelude.{IsTrue}
use Rattle.std.proofs.Common.{ℕ, ◌<◌, length, All, Some, inl, inr, arith}
use Rattle.std.proofs.lemmas.Bool.Decides.{nat_tests}
use Rattle.std.proofs.lemmas.List.Elements.{All-weaker}
use Rattle.std.proofs.lemmas.Option.{slice_get_cases}
use Rattle.coord_model.specs.PartLimits.{FitsLine, FitsRelay}
use Rattle.coord_model.specs.Limits.{FitsStudy}
use Rattle.coord_model.specs.Pairs.{ends_at}
use Rattle.coord_model.specs.StudyData.{StudyData}
use Rattle.coord_model.specs.declared.study.Line.{Line}
use Rattle.coord_model.specs.declared.study.Relay.{Relay}
use Rattle.network_file.specs.Fits.{IsRelayBelow}

module _ (study : StudyData) where
  end_below : (line : Line) (bus : ℕ) → FitsLine study line → IsTrue (ends_at (Some line) bus) → bus < length study.buses
  end_below line bus fits at_end = grind (arith, nat_tests, fits.from, fits.to)

  bus_below : (relay : Relay) → All (FitsLine study) study.lines → FitsRelay study relay → relay.bus < length study.buses
  bus_below relay lines fits =
      elim ((slice_get_cases study.lines relay.line).1) [
        | inl there ↦ end_below there.0 relay.bus (rw there.3 at (lines relay.line there.0 there.1)) (rw there.2 at fits.at_end)
        | inr past ↦ absurd (omega (arith, fits.on_line, past.0))
      ]

  pub relays_below : FitsStudy study → All (IsRelayBelow (length study.buses) (length study.lines)) study.relays
  relays_below fits =
      All-weaker (FitsRelay study) (IsRelayBelow (length study.buses) (length study.lines))
      (λ relay h. record { bus = bus_below relay fits.lines h; line = h.on_line }) study.relays fits.relays
