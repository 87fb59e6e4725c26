-- Where bytes stop being the text of a certificate (ours).
use Rattle.std.specs.Prelude.{◌≡◌, ◌≢◌, ℕ, ◌+◌, ⊤, List, [], ◌∷◌, ◌++◌, length}
use Rattle.coord_text.specs.Claims.{text_of}
use Rattle.coord_text.specs.Lines.{IsLine}
use Rattle.cert_text.specs.CertData.{CertData, IsCert}
use Rattle.cert_text.specs.CertText.{cert_text}
use Rattle.cert_text.specs.Scanning.{Begins, Reached, State}
use Rattle.cert_text.specs.declared.kinds.CertKind.{CertKind}
use Rattle.cert_text.specs.declared.refusal.CertRefusal.{CertRefusal}
use Rattle.cert_text.specs.declared.refusal.CertRefusal.TheVariants.{Fault, NoMemory}

-- the lines begin a certificate, and a line of this kind is due after them
pub record IsDue (lines : List (List ℕ)) (kind : CertKind) : Type 0 where
  pub begins : Begins lines
  pub state : State
  pub reached : Reached state lines
  pub is : kind ≡ state.due

-- The bytes are no text of a certificate. The lines before this one begin a certificate that may have this kind of line
-- here, and no line that stands here in the bytes continues them.
pub record StopsAt (bytes : List ℕ) (line : ℕ) (kind : CertKind) : Type 0 where
  pub no_cert : (cert : CertData) → IsCert cert → bytes ≢ cert_text cert
  pub before : List (List ℕ)
  pub left : List ℕ
  pub parts : bytes ≡ text_of before ++ left
  pub number : line ≡ length before + 1
  pub due : IsDue before kind
  pub stops : (here rest : List ℕ) → IsLine here → left ≡ here ++ 10 ∷ rest → ¬ Begins (before ++ here ∷ [])

-- the refusal names where the bytes stop; want of memory says nothing
abbrev pub IsRefusalOf : List ℕ → CertRefusal → Type 0
IsRefusalOf bytes (Fault line kind) = StopsAt bytes line kind
IsRefusalOf bytes NoMemory = ⊤
