use Rattle.std.proofs.Common.{◌≡◌, ℕ, ◌-◌, ◌/◌, ◌^◌, ◌<◌, ◌≤◌, ◌==◌, ◌&&◌, Bool, true, false, not, cond, nat_le, Option, List, [], ◌∷◌, ◌++◌, length, arith, refl, ap, ◌∙◌, length-append}
use Rattle.std.specs.List.{list_all, take_while}
use Rattle.std.specs.Prelude.{codes}
use Rattle.std.proofs.Math.Nat.{div-le_self, mul-le-mul_right}
use Rattle.std.proofs.lemmas.Bool.Decides.{nat_tests}
use Rattle.std.proofs.lemmas.Fmt.{length-decimal-le}
use Rattle.std.proofs.lemmas.List.{append_cancel_left}
use Rattle.std.proofs.lemmas.List.Folds.{list_all-append}
use Rattle.std.proofs.lemmas.List.Sums.{take_while-cons}
use Rattle.coord_model.specs.Allowed.{IsOnSteps}
use Rattle.coord_model.specs.PartLimits.{FitsRelay}
use Rattle.coord_model.specs.Name.{IsName, is_name_byte}
use Rattle.coord_model.specs.StudyData.{StudyData}
use Rattle.coord_model.specs.Time.{plug_at, dial_at}
use Rattle.coord_model.specs.declared.study.Relay.{Relay}
use Rattle.coord_text.specs.Claims.{IsShort, amount}
use Rattle.coord_text.specs.Lines.{IsLine, is_printable}
use Rattle.coord_text.specs.Numbers.{fixed}
use Rattle.coord_text.proofs.Breaks.{both_pass, same_cut, same_first_line}
use Rattle.coord_text.proofs.ClaimLines.{amount_is_line, digit_prints}
use Rattle.coord_text.proofs.Digits.{fixed-pass, length-fixed}
use Rattle.settings_sheet.specs.RelayStops.{HasNoSpace}
use Rattle.settings_sheet.specs.SheetLines.{relay_words}

-- the lines without values
pub format_is_line : IsLine (codes "coord-sheet 1")
format_is_line = record { short = omega arith; printable = refl }

pub end_is_line : IsLine (codes "end")
end_is_line = record { short = omega arith; printable = refl }

pub cost_is_line : (n : Option ℕ) → IsShort n → IsLine (codes "cost " ++ amount n)
cost_is_line = amount_is_line (codes "cost ") (omega arith) refl

pub bound_is_line : (n : Option ℕ) → IsShort n → IsLine (codes "bound " ++ amount n)
bound_is_line = amount_is_line (codes "bound ") (omega arith) refl

-- lines with one label have one word
pub same_word : (label word other rest left : List ℕ) → IsLine (label ++ word) → IsLine (label ++ other)
    → (label ++ word) ++ 10 ∷ rest ≡ (label ++ other) ++ 10 ∷ left → word ≡ other
same_word label word other rest left of_word of_other same =
    append_cancel_left label word other (same_first_line (label ++ word) (label ++ other) rest left of_word of_other same).0

-- a plug and a dial of a relay lie within the limits
pub plug_within : (study : StudyData) (relay : Relay) → FitsRelay study relay → (step : ℕ) → step < relay.plug_count → plug_at relay step ≤ 10000
plug_within study relay fits step below =
    let least : step ≤ relay.plug_count - 1 = omega arith in
    omega (arith, mul-le-mul_right relay.plug_step least, fits.last_plug)

pub dial_within : (study : StudyData) (relay : Relay) → FitsRelay study relay → (step : ℕ) → step < relay.dial_count → dial_at relay step ≤ 15000
dial_within study relay fits step below =
    let least : step ≤ relay.dial_count - 1 = omega arith in
    omega (arith, mul-le-mul_right relay.dial_step least, fits.last_dial)

-- a fixed-point number has no space
pub fixed_is_plain : (places n : ℕ) → n < 2 ^ 64 → HasNoSpace (fixed places n)
fixed_is_plain places n small = fixed-pass (λ b. not (b == 32)) (λ b digit. grind (arith, nat_tests)) refl places n small

-- lines of one relay have one plug and one dial
pub same_words : (name plug dial other_plug other_dial : List ℕ) → HasNoSpace plug → HasNoSpace other_plug
    → codes "relay " ++ (name ++ (codes " plug " ++ (plug ++ (codes " dial " ++ dial))))
    ≡ codes "relay " ++ (name ++ (codes " plug " ++ (other_plug ++ (codes " dial " ++ other_dial))))
    → (plug ≡ other_plug) × (dial ≡ other_dial)
same_words name plug dial other_plug other_dial plain other_plain same =
    let tail = plug ++ (codes " dial " ++ dial) in
    let other = other_plug ++ (codes " dial " ++ other_dial) in
    let named = append_cancel_left (codes "relay ") (name ++ (codes " plug " ++ tail)) (name ++ (codes " plug " ++ other)) same in
    let labelled = append_cancel_left name (codes " plug " ++ tail) (codes " plug " ++ other) named in
    let settings = append_cancel_left (codes " plug ") tail other labelled in
    let parts = same_cut 32 plug other_plug (codes "dial " ++ dial) (codes "dial " ++ other_dial) plain other_plain settings in
    (parts.0, append_cancel_left (codes "dial ") dial other_dial parts.1)

-- where a test's outcome on the first byte is known, the bytes up to the first that fails pass
front_step : (p : ℕ → Bool) (x : ℕ) (xs : List ℕ) (t : Bool) → p x ≡ t → list_all p (take_while p xs) ≡ true → list_all p (cond t (x ∷ take_while p xs) []) ≡ true
front_step p x xs true is front = rw (is, front) refl
front_step p x xs false is front = refl

-- the bytes up to the first that fails a test pass it
pub front_passes : (p : ℕ → Bool) (xs : List ℕ) → list_all p (take_while p xs) ≡ true
front_passes p [] = refl
front_passes p (x ∷ xs) = ap (list_all p) (take_while-cons p x xs) ∙ front_step p x xs (p x) refl (front_passes p xs)

-- each byte of a name is printable
pub name_prints : (bytes : List ℕ) → list_all is_name_byte bytes ≡ true → list_all is_printable bytes ≡ true
name_prints [] h = refl
name_prints (b ∷ bs) h =
    let parts = both_pass (is_name_byte b) (list_all is_name_byte bs) h in
    let here : is_printable b ≡ true = grind (arith, nat_tests, parts.0) in
    rw (here, name_prints bs parts.1) refl

-- a name is short and printable
pub name_is_short : (bytes : List ℕ) → IsName bytes → (length bytes ≤ 16) × (list_all is_printable bytes ≡ true)
name_is_short bytes h =
    let parts = both_pass (nat_le 1 (length bytes) && nat_le (length bytes) 16) (list_all is_name_byte bytes) h in
    let lengths = both_pass (nat_le 1 (length bytes)) (nat_le (length bytes) 16) parts.0 in
    let short : length bytes ≤ 16 = grind (arith, nat_tests, lengths.1) in
    (short, name_prints bytes parts.1)

-- the line of a relay is one
pub relay_is_line : (study : StudyData) (relay : Relay) → FitsRelay study relay → IsName relay.name → (pickup dial : ℕ) → IsOnSteps relay pickup dial → IsLine (relay_words relay pickup dial)
relay_is_line study relay fits name pickup dial on =
    let plug = plug_within study relay fits pickup on.pickup_step in
    let time = dial_within study relay fits dial on.dial_step in
    let short = name_is_short relay.name name in
    let plug_words = fixed 2 (plug_at relay pickup) in
    let dial_words = fixed 3 (dial_at relay dial) in
    let plug_prints = fixed-pass is_printable digit_prints refl 2 (plug_at relay pickup) (omega (arith, plug)) in
    let dial_prints = fixed-pass is_printable digit_prints refl 3 (dial_at relay dial) (omega (arith, time)) in
    let plug_whole : plug_at relay pickup / 10 ^ 2 < 10 ^ 5 = omega (arith, plug, div-le_self (plug_at relay pickup) (10 ^ 2)) in
    let dial_whole : dial_at relay dial / 10 ^ 3 < 10 ^ 5 = omega (arith, time, div-le_self (dial_at relay dial) (10 ^ 3)) in
    record {
      short = omega (
        arith,
        short.0,
        length-append (codes "relay ") (relay.name ++ (codes " plug " ++ (plug_words ++ (codes " dial " ++ dial_words)))),
        length-append relay.name (codes " plug " ++ (plug_words ++ (codes " dial " ++ dial_words))),
        length-append (codes " plug ") (plug_words ++ (codes " dial " ++ dial_words)),
        length-append plug_words (codes " dial " ++ dial_words),
        length-append (codes " dial ") dial_words,
        length-fixed 2 (plug_at relay pickup),
        length-fixed 3 (dial_at relay dial),
        length-decimal-le 5 (plug_at relay pickup / 10 ^ 2) (omega arith) plug_whole (omega (arith, plug_whole)),
        length-decimal-le 5 (dial_at relay dial / 10 ^ 3) (omega arith) dial_whole (omega (arith, dial_whole)),
      );
      printable = rw (
        list_all-append is_printable relay.name (codes " plug " ++ (plug_words ++ (codes " dial " ++ dial_words))),
        short.1,
        list_all-append is_printable plug_words (codes " dial " ++ dial_words),
        plug_prints,
        dial_prints,
      ) refl;
    }
