-- Which weights stay where they are many (ours): the 64 largest, and of equal ones those of the lower rows.
use Rattle.std.specs.Prelude.{◌<◌, nat_lt, ◌==◌, ◌&&◌, ◌||◌, Bool, List, Contains, count_by}
use Rattle.coord_model.specs.declared.weights.Weight.{Weight}

-- v ranks before w: it is larger, or as large and of a lower row
abbrev pub ranks_before : Weight → Weight → Bool
ranks_before v w = nat_lt w.weight v.weight || (w.weight == v.weight && nat_lt v.row w.row)

-- w is one of the weights, and fewer than 64 of them rank before it
abbrev pub Stays : List Weight → Weight → Type 0
Stays ws w = Contains ws w × (count_by (λ v. ranks_before v w) ws < 64)
