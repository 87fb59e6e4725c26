-- The study of a ring of n buses (ours). Numbers k of buses, lines, relays and faults run round the ring, from 1 to n.
use Rattle.std.specs.Prelude.{ℕ, ◌+◌, ◌-◌, ◌%◌, ◌==◌, if◌then◌else◌, List, [], ◌∷◌, ◌++◌, map, codes}
use Rattle.std.specs.List.{range_with_len, flat_map}
use Rattle.std.specs.Fmt.{decimal}
use Rattle.coord_model.specs.StudyData.{StudyData}
use Rattle.coord_model.specs.declared.curve.CurveName.TheVariants.{IecA}
use Rattle.coord_model.specs.declared.name.Name.{Name}
use Rattle.coord_model.specs.declared.study.Fault.{Fault}
use Rattle.coord_model.specs.declared.study.Line.{Line}
use Rattle.coord_model.specs.declared.study.Relay.{Relay}

-- the number after k: 1 comes after n
abbrev pub after : ℕ → ℕ → ℕ
after n k = if k == n then 1 else k + 1

-- the name of bus Bk
abbrev pub bus_of : ℕ → Name
bus_of k = codes "B" ++ decimal k

-- line Lk, from Bk to the bus after it
abbrev pub line_of : ℕ → ℕ → Line
line_of n k = record { name = codes "L" ++ decimal k; from = k - 1; to = after n k - 1 }

-- a relay with this name on line Lk at bus Bj
abbrev pub relay_of : Name → ℕ → ℕ → Relay
relay_of name k j = record {
  name = name;
  line = k - 1;
  bus = j - 1;
  curve = IecA;
  ct_primary = 400;
  ct_secondary = 1;
  plug_first = 60;
  plug_step = 20;
  plug_count = 3;
  dial_first = 50;
  dial_step = 10;
  dial_count = 96;
  load_amps = 180;
  least_ms = 0;
  most_ms = 0;
}

-- the relays of line Lk: Fk at Bk and Gk at the other end
abbrev pub relays_of : ℕ → ℕ → List Relay
relays_of n k = relay_of (codes "F" ++ decimal k) k k ∷ relay_of (codes "G" ++ decimal k) k (after n k) ∷ []

-- a fault with this name on line Lk
abbrev pub fault_of : Name → ℕ → Fault
fault_of name k = record { name = name; line = k - 1; weight = 1 + k % 3 }

-- the faults of line Lk: Xk and Yk
abbrev pub faults_of : ℕ → List Fault
faults_of k = fault_of (codes "X" ++ decimal k) k ∷ fault_of (codes "Y" ++ decimal k) k ∷ []

-- the numbers round the ring
abbrev pub numbers : ℕ → List ℕ
numbers n = range_with_len 1 n

-- the study of the ring, with no exempt pair and no interval of a pair's own
abbrev pub drill_data : ℕ → StudyData
drill_data n = record {
  format = 1;
  cti_ms = 300;
  sense = 110;
  cap = 20;
  load_percent = 120;
  buses = map bus_of (numbers n);
  lines = map (line_of n) (numbers n);
  relays = flat_map (relays_of n) (numbers n);
  faults = flat_map faults_of (numbers n);
  exempt = [];
  intervals = [];
}
