-- What a look at a row comes to.
use Rattle.std.specs.List.{Contains}
use Rattle.std.proofs.Common.{◌≡◌, ℕ, ◌<◌, ◌≤◌, inl, inr, Bool, true, false, length, arith, refl, ap, ◌∙◌}
use Rattle.std.proofs.lemmas.Bool.{cases_eq}
use Rattle.coord_model.specs.declared.study.Row.{Row}
use Rattle.margin_rows.specs.Box.{Box, HasEmptySpan, IsFilled}
use Rattle.margin_rows.specs.Case.{Case, rows_in}
use Rattle.margin_rows.specs.declared.span.Steps.{Steps}
use Rattle.box_range.specs.Drops.{Drops}
use Rattle.box_range.specs.Kinds.{spans_of, span_at, with_span}
use Rattle.box_range.specs.Looks.{IsSettling}
use Rattle.box_range.specs.Meeting.{IsMeetable}
use Rattle.box_range.specs.Settled.{IsCut, DiffersAt, MeetsAtLow, MeetsAtHigh, size}
use Rattle.box_range.specs.declared.kind.Kind.{Kind}
use Rattle.box_range.specs.declared.kind.Kind.TheVariants.{Dial}
use Rattle.box_range.proofs.Cuts.{cut_high, cut_cut, cut_filled, cut_low_end}
use Rattle.box_range.proofs.Places.{relay_counts}
use Rattle.box_range.proofs.Spans.{has_empty, has_steps, with_count, with_same}

-- where no choice meets the row, all dial steps of its primary are dropped
pub cleared_drops : (case : Case) (box later : Box) (row : Row) → IsFilled case box → Contains (rows_in case) row
    → later ≡ with_span Dial box row.primary (record { low = (span_at Dial box row.primary).low; past = (span_at Dial box row.primary).low })
    → ¬ (IsMeetable case box row) → Drops case box later
cleared_drops case box later row filled there is unmet =
    let some = has_steps box Dial row.primary filled.steps ((relay_counts case box row filled.fits there).primary Dial) in
    rw is (cut_high case box row Dial (span_at Dial box row.primary).low filled.fits there (omega arith) (omega (arith, some))
    (λ step from before m. unmet (record { settings = m.settings; lies = m.lies; meets = m.meets }))).drops

pub cleared_empty : (case : Case) (box later : Box) (row : Row) → IsFilled case box → Contains (rows_in case) row
    → later ≡ with_span Dial box row.primary (record { low = (span_at Dial box row.primary).low; past = (span_at Dial box row.primary).low })
    → HasEmptySpan later
cleared_empty case box later row filled there is =
    let below = (relay_counts case box row filled.fits there).primary Dial in
    let low = (span_at Dial box row.primary).low in
    let none : Steps = record { low = low; past = low } in
    let inside : row.primary < length (spans_of Dial (with_span Dial box row.primary none)) = omega (arith, below, with_count Dial Dial box row.primary none) in
    rw is (has_empty (with_span Dial box row.primary none) Dial row.primary inside (rw (with_same Dial box row.primary none below) (omega arith)))

no_more : (box later : Box) (moved : Bool) → (moved ≡ false → later ≡ box) → (moved ≡ true → size later < size box) → size later ≤ size box
no_more box later false unchanged fewer = let same : size later ≡ size box = ap (λ (b : Box). size b) (unchanged refl) in omega (arith, same)
no_more box later true unchanged fewer = omega (arith, fewer refl)

same_span : (box later : Box) (changed relay : ℕ) (kind : Kind) (moved : Bool) → DiffersAt changed box later → (moved ≡ false → later ≡ box) → (relay ≡ changed → moved ≡ false)
    → span_at kind later relay ≡ span_at kind box relay
same_span box later changed relay kind moved elsewhere unchanged unmoved =
    elim (cases_eq relay changed) [
      | inl at ↦ ap (λ (b : Box). span_at kind b relay) (unchanged (unmoved at))
      | inr off ↦ elsewhere kind relay off
    ]

pub settling : (case : Case) (row : Row) (box mid later : Box) (backup primary : Bool) → IsFilled case box → IsMeetable case box row → Contains (rows_in case) row
    → IsCut case row box mid → ((kind : Kind) → MeetsAtLow case mid row kind) → DiffersAt row.backup box mid → (backup ≡ false → mid ≡ box) → (backup ≡ true → size mid < size box)
    → IsCut case row mid later → ((kind : Kind) → MeetsAtHigh case later row kind) → DiffersAt row.primary mid later → (primary ≡ false → later ≡ mid) → (primary ≡ true → size later < size mid)
    → IsSettling case row box later (record { backup = backup; primary = primary })
settling case row box mid later backup primary filled meetable there cut_1 low else_1 same_1 fewer_1 cut_2 high else_2 same_2 fewer_2 =
    let cut = cut_cut case row box mid later cut_1 cut_2 in
    let filled_later = cut_filled case row box later cut meetable filled in
    let relays = relay_counts case later row filled_later.fits there in
    let most_1 = no_more box mid backup same_1 fewer_1 in
    let most_2 = no_more mid later primary same_2 fewer_2 in
    record {
      cut = cut;
      filled = filled_later;
      settled = record { low = λ kind. cut_low_end case row mid later kind (relays.backup kind) cut_2 (low kind); high = high };
      elsewhere = λ relay still kind. same_span mid later row.primary relay kind primary else_2 same_2 still.primary ∙ same_span box mid row.backup relay kind backup else_1 same_1 still.backup;
      unchanged = λ no_backup no_primary. same_2 no_primary ∙ same_1 no_backup;
      fewer = λ moved. elim moved [ inl b ↦ omega (arith, most_2, fewer_1 b) | inr p ↦ omega (arith, most_1, fewer_2 p) ];
    }
