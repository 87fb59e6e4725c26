-- What nodes come to, their bounds aside (ours).
use Rattle.std.specs.Prelude.{◌+◌, ◌&&◌, ◌||◌, true, false}
use Rattle.coord_model.specs.declared.tree.NodeLine.{NodeLine}
use Rattle.coord_model.specs.declared.tree.NodeLine.TheVariants.{Split, Empty, Void, Bound, Hair, OpenLeaf}
use Rattle.cert_tree.specs.declared.counts.Counts.{Counts}

-- what no nodes come to
abbrev pub no_counts : Counts
no_counts = record { boxes = 0; open_leaf = false; hair = false; no_settings = true }

-- what a split or a leaf that allows no settings comes to, a leaf with a bound, a hair, an open leaf
abbrev pub counts_by : NodeLine → Counts
counts_by (Split relay at) = record { boxes = 1; open_leaf = false; hair = false; no_settings = true }
counts_by Empty = record { boxes = 1; open_leaf = false; hair = false; no_settings = true }
counts_by Void = record { boxes = 1; open_leaf = false; hair = false; no_settings = true }
counts_by (Bound lambda) = record { boxes = 1; open_leaf = false; hair = false; no_settings = false }
counts_by (Hair row) = record { boxes = 1; open_leaf = false; hair = true; no_settings = false }
counts_by (OpenLeaf lambda) = record { boxes = 0; open_leaf = true; hair = false; no_settings = false }

-- what nodes and others come to together
abbrev pub both : Counts → Counts → Counts
both some others = record {
  boxes = some.boxes + others.boxes;
  open_leaf = some.open_leaf || others.open_leaf;
  hair = some.hair || others.hair;
  no_settings = some.no_settings && others.no_settings;
}
