use Rattle.std.proofs.Common.{◌≡◌, ℕ, ◌≤◌, true, List, ◌++◌, length, drop, replicate, arith, refl, rules, tests}
use Rattle.std.proofs.lemmas.List.{drop-replicate, length-append, length-replicate}
use Rattle.std.proofs.Math.Seq.{take-append_seam}
use Rattle.coord_model.specs.Name.{is_name, IsStored}

-- a name has at most sixteen bytes
pub short : (bytes : List ℕ) → is_name bytes ≡ true → length bytes ≤ 16
short bytes name = search (rules, tests)

-- a name in front of zeros is kept as a `Name` keeps it
pub stored : (bytes : List ℕ) → is_name bytes ≡ true → IsStored (length bytes) (bytes ++ drop (length bytes) (replicate 16 0))
stored bytes name =
    let few : length bytes ≤ 16 = short bytes name in
    record {
      within = few;
      sixteen = simp (length-append, drop-replicate, length-replicate) (omega arith);
      name = rw take-append_seam (search rules);
      filled = rw take-append_seam (rw drop-replicate refl);
    }
