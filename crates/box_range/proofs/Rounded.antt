-- A round, up to one of its rows.
use Rattle.std.specs.Prelude.{slice_get, slice_index_or}
use Rattle.std.specs.List.{Contains}
use Rattle.std.proofs.Common.{◌≡◌, ℕ, ◌+◌, ◌<◌, ◌≤◌, ◌⊎◌, inl, inr, Bool, true, false, List, length, Some, arith, refl, sym, ap, ◌∙◌, subst}
use Rattle.std.proofs.lemmas.Bool.{cases_eq}
use Rattle.std.proofs.lemmas.Option.{slice_get-get_or}
use Rattle.coord_model.specs.declared.study.Row.{Row}
use Rattle.margin_rows.specs.Box.{Box, IsFilled}
use Rattle.margin_rows.specs.Case.{Case, rows_in}
use Rattle.box_range.specs.Drops.{Drops, none}
use Rattle.box_range.specs.Meeting.{HasRow}
use Rattle.box_range.specs.Rounds.{IsDue, IsDueOrSettled, IsIdle, IsBusy, IsUnfinished, AreSettled}
use Rattle.box_range.specs.Settled.{size}
use Rattle.box_range.proofs.Order.{drops_drops}
use Rattle.box_range.proofs.Places.{listed}

-- before the row with this number each row is settled or flagged again, and the others may be due besides
pub record IsUpTo (case : Case) (start box : Box) (due begun flags : List Bool) (moved : Bool) (number : ℕ) : Type 0 where
  pub drops : Drops case start box
  pub filled : IsFilled case box
  pub places : length flags ≡ 96
  pub rest : (place : ℕ) (row : Row) → HasRow case place row → ((number ≤ place) × IsDue due row) ⊎ IsDueOrSettled case box flags row
  pub same_box : moved ≡ false → box ≡ start
  pub same_flags : moved ≡ false → flags ≡ begun
  pub fewer : moved ≡ true → size box < size start

pub round_begins : (case : Case) (start : Box) (due begun : List Bool) → IsFilled case start → length begun ≡ 96
    → ((row : Row) → Contains (rows_in case) row → IsDueOrSettled case start due row) → IsUpTo case start start due begun begun false 0
round_begins case start due begun filled places rest = record {
  drops = none;
  filled = filled;
  places = places;
  rest = λ place row has. elim (rest row (listed case place row has)) [ inl is_due ↦ inl (omega arith, is_due) | inr settled ↦ inr (inr settled) ];
  same_box = λ idle. refl;
  same_flags = λ idle. refl;
  fewer = λ busy. let absurdly : false ≡ true = busy in cc;
}

-- what holds of the row with this number, and of the later ones and the others, holds of each row
one_more : (case : Case) (number : ℕ) (row : Row) (P Q : ℕ → Row → Type 0) → HasRow case number row → Q number row
    → ((place : ℕ) (other : Row) → HasRow case place other → ((number ≤ place) × P place other) ⊎ Q place other)
    → (place : ℕ) (other : Row) → HasRow case place other → ((number + 1 ≤ place) × P place other) ⊎ Q place other
one_more case number row P Q has here rest place other other_has =
    elim (rest place other other_has) [
      | inr q ↦ inr q
      | inl p ↦ elim (cases_eq place number) [
        | inl same ↦
            let found : slice_get (rows_in case) number ≡ Some other = rw same at other_has in
            inr (subst (λ (n : ℕ). Q n other) (sym same) (subst (λ (r : Row). Q number r) (same_row row other (sym has ∙ found)) here))
        | inr off ↦ inl (omega (arith, off, p.0), p.1)
      ]
    ]
  where
    same_row : (a b : Row) → Some a ≡ Some b → a ≡ b
    same_row a b e = cc

pub up_to_idle : (case : Case) (start box later : Box) (due begun flags later_flags : List Bool) (moved : Bool) (number : ℕ) (row : Row) → HasRow case number row
    → IsUpTo case start box due begun flags moved number → Drops case box later → IsIdle case row box later flags later_flags
    → IsUpTo case start later due begun later_flags moved (number + 1)
up_to_idle case start box later due begun flags later_flags moved number row has so drops idle = record {
  drops = drops_drops case start box later so.drops drops;
  filled = rw idle.same_box so.filled;
  places = rw idle.same_flags so.places;
  rest = one_more case number row (λ p r. IsDue due r) (λ p r. IsDueOrSettled case later later_flags r) has (inr idle.settled)
      (rw (idle.same_box, idle.same_flags) so.rest);
  same_box = λ calm. idle.same_box ∙ so.same_box calm;
  same_flags = λ calm. idle.same_flags ∙ so.same_flags calm;
  fewer = rw idle.same_box so.fewer;
}

pub up_to_busy : (case : Case) (start box later : Box) (due begun flags later_flags : List Bool) (moved : Bool) (number : ℕ) (row : Row) → HasRow case number row
    → IsUpTo case start box due begun flags moved number → Drops case box later → IsBusy case row box later flags later_flags → size box ≤ size start
    → IsUpTo case start later due begun later_flags true (number + 1)
up_to_busy case start box later due begun flags later_flags moved number row has so drops busy most = record {
  drops = drops_drops case start box later so.drops drops;
  filled = busy.filled;
  places = busy.count ∙ so.places;
  rest = one_more case number row (λ p r. IsDue due r) (λ p r. IsDueOrSettled case later later_flags r) has (inr busy.settled)
      (λ place other other_has. elim (so.rest place other other_has) [ inl p ↦ inl p | inr q ↦ inr (busy.others other (listed case place other other_has) q) ]);
  same_box = λ calm. let absurdly : true ≡ false = calm in cc;
  same_flags = λ calm. let absurdly : true ≡ false = calm in cc;
  fewer = λ moved. omega (arith, busy.fewer, most);
}

pub up_to_most : (case : Case) (start box : Box) (due begun flags : List Bool) (moved : Bool) (number : ℕ) → IsUpTo case start box due begun flags moved number → size box ≤ size start
up_to_most case start box due begun flags false number so = let same : size box ≡ size start = ap (λ (b : Box). size b) (so.same_box refl) in omega (arith, same)
up_to_most case start box due begun flags true number so = omega (arith, so.fewer refl)

rest_left : (case : Case) (start box : Box) (due begun flags : List Bool) (moved : Bool) (number : ℕ) → IsUpTo case start box due begun flags moved number → length (rows_in case) ≤ number
    → (row : Row) → Contains (rows_in case) row → IsDueOrSettled case box flags row
rest_left case start box due begun flags moved number so all row (place, below, is) =
    elim (so.rest place row (slice_get-get_or (rows_in case) place row below ∙ ap Some is)) [
      | inl p ↦ absurd (omega (arith, p.0, below, all))
      | inr q ↦ q
    ]

pub round_moved : (case : Case) (start box : Box) (due begun flags : List Bool) (number : ℕ) → IsUpTo case start box due begun flags true number → length (rows_in case) ≤ number
    → IsUnfinished case start box flags
round_moved case start box due begun flags number so all =
    record { filled = so.filled; fewer = so.fewer refl; rest = rest_left case start box due begun flags true number so all }

flag_clear : (flags : List Bool) (relay : ℕ) → slice_index_or flags relay false ≡ false → slice_index_or flags relay false ≡ true → ⊥
flag_clear flags relay clear set = let absurdly : false ≡ true = sym clear ∙ set in cc

none_due : (flags : List Bool) (row : Row) → ((relay : ℕ) → slice_index_or flags relay false ≡ false) → IsDue flags row → ⊥
none_due flags row clear due = elim due [ inl b ↦ flag_clear flags row.backup (clear row.backup) b | inr p ↦ flag_clear flags row.primary (clear row.primary) p ]

pub round_kept : (case : Case) (start box : Box) (due begun flags : List Bool) (number : ℕ) → IsUpTo case start box due begun flags false number → length (rows_in case) ≤ number
    → ((relay : ℕ) → slice_index_or begun relay false ≡ false) → (box ≡ start) × AreSettled case box
round_kept case start box due begun flags number so all clear = (
  so.same_box refl,
  λ row there. elim (rest_left case start box due begun flags false number so all row there) [
    | inl due_still ↦ absurd (none_due begun row clear (rw (so.same_flags refl) at due_still))
    | inr settled ↦ settled
  ],
)
