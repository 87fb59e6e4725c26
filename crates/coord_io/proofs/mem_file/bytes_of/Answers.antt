use Rattle.std.proofs.Common.{Some, sym, ◌∙◌, ap, option_copied, List, ℕ}
use Rattle.coord_io.proofs.Places.{mem_bytes, held-no_place, held-place}
use Rattle.coord_io.specs.Memory.{name_of}
use Rattle.coord_io.proofs.mem_file.bytes_of.Goals as goal

pub returns-in_err-at : goal.returns-in_err-at
returns-in_err-at c = ap option_copied c.from_residual.ensures ∙ sym (held-no_place name_of mem_bytes _ _ (sym c.place_of.ensures ∙ c.in_err-at.was))

pub returns : goal.returns
returns c = ap (λ (b : List ℕ). Some b) c.as_slice.ensures.value ∙ sym (held-place name_of mem_bytes _ _ _ c.index-files-at.result (sym c.place_of.ensures ∙ c.in_ok-at.was))
