-- In what order pairs of relays are listed (ours).
use Rattle.std.specs.Prelude.{◌≡◌, ◌<◌, ◌⊎◌}
use Rattle.coord_model.specs.declared.study.Pair.{Pair}

-- the pair is listed before the other: its primary comes first, or its backup where both have one primary
abbrev pub ComesBefore : Pair → Pair → Type 0
ComesBefore pair other = (pair.primary < other.primary) ⊎ ((pair.primary ≡ other.primary) × (pair.backup < other.backup))
