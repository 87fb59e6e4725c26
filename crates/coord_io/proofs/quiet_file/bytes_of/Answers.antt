use Rattle.std.proofs.Common.{Some, refl, sym, ◌∙◌, ap, option_copied, List, ℕ}
use Rattle.coord_io.proofs.Places.{held-no_place, held-place}
use Rattle.coord_io.proofs.QuietPlaces.{found_alike, own_bytes, own_name}
use Rattle.coord_io.proofs.quiet_file.bytes_of.Goals as goal

pub returns-in_err-at : goal.returns-in_err-at
returns-in_err-at c =
    ap option_copied c.from_residual.ensures
    ∙ sym (held-no_place own_name own_bytes _ _ (found_alike _ _ _ _ _ c.as_bytes.ensures.value refl c.place_of.ensures ∙ c.in_err-at.was))

pub returns : goal.returns
returns c =
    ap (λ (b : List ℕ). Some b) c.as_slice.ensures.value
    ∙ sym (held-place own_name own_bytes _ _ _ c.index-files-at.result (found_alike _ _ _ _ _ c.as_bytes.ensures.value refl c.place_of.ensures ∙ c.in_ok-at.was))
