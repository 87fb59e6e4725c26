-- Lines that do not go on with those of a certificate before them (ours).
use Rattle.std.specs.Prelude.{◌≡◌, ◌≢◌, ℕ, ◌+◌, List, [], ◌∷◌, ◌++◌, length}
use Rattle.std.specs.List.{AllByRecursion}
use Rattle.coord_text.specs.Claims.{text_of}
use Rattle.cert_text.specs.Scanning.{Begins}
use Rattle.cert_text.specs.Stops.{IsDue}
use Rattle.cert_text.specs.declared.kinds.CertKind.{CertKind}

-- no byte is a line feed
abbrev pub HasNoFeed : List ℕ → Type 0
HasNoFeed bytes = AllByRecursion (λ b. b ≢ 10) bytes

-- the lines begin a certificate in which this line, with its number and its kind, does not go on
pub record IsBadLine (before : List (List ℕ)) (here : List ℕ) (line : ℕ)
    (kind : CertKind) : Type 0 where
  pub number : line ≡ length before + 1
  pub due : IsDue before kind
  pub stops : ¬ Begins (before ++ here ∷ [])

-- the bytes so far have a line with its line feed that does not go on with those before it
pub record HasBadLine (read : List ℕ) (line : ℕ) (kind : CertKind) : Type 0 where
  pub before : List (List ℕ)
  pub here : List ℕ
  pub rest : List ℕ
  pub parts : read ≡ text_of before ++ (here ++ 10 ∷ rest)
  pub no_feed : HasNoFeed here
  pub bad : IsBadLine before here line kind
