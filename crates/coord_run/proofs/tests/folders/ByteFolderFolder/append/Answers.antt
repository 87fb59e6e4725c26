use Rattle.std.proofs.Common.{◌≡◌, ℕ, List, length, min, take, sym, subst, arith, take-take, take_all, length-take}
use Rattle.std.proofs.lemmas.Result.{on_err_weaker}
use Rattle.coord_io.specs.Files.{Gains}
use Rattle.coord_io.proofs.Goings.{goes_as}
use Rattle.coord_run.proofs.tests.folders.ByteFolderFolder.append.Goals as goal

-- a front of a front
take_twice : (i k : ℕ) (xs : List ℕ) → take i (take k xs) ≡ take (min i k) xs
take_twice i k xs = grind (arith, take-take, take_all, length-take)

-- src/tests/folders.rt:24:5
pub returns-clause-part : goal.returns-clause-part
returns-clause-part c = on_err_weaker _ (goes_as (λ m n was part.
    (min part.0 c.min.result, subst (λ (b : List ℕ). Gains c.args.name.now b m n) (take_twice part.0 c.min.result c.args.piece.now) part.1))) c.append.ensures.part
