use Rattle.std.proofs.Common.{◌≡◌, ◌≢◌, ℕ, ◌≤◌, Option, Some, None, is_some, true, false, List, [], ◌∷◌, ◌++◌, length, map, refl, sym, ap, subst, ◌∙◌, arith}
use Rattle.std.specs.List.{AllByRecursion}
use Rattle.std.specs.Prelude.{codes, IfSome}
use Rattle.std.proofs.lemmas.List.{append_cancel_left}
use Rattle.coord_model.specs.Choice.{Settings}
use Rattle.coord_model.specs.declared.weights.Weight.{Weight}
use Rattle.coord_text.specs.Claims.{amount}
use Rattle.coord_text.proofs.SameWords.{same_amount}
use Rattle.cert_text.specs.CertData.{AreIssued, AreSettings}
use Rattle.cert_text.specs.CertText.{cost_line, settings_line, step_words, ending_line, gap_line, budget_line, boxes_line, bound_line}
use Rattle.cert_text.specs.Nodes.{pair_word, weight_words}
use Rattle.cert_text.specs.Pairs.{AreWithin}
use Rattle.cert_text.specs.HeadScan.{HeadTo, IsFront, IsHeadKind}
use Rattle.cert_text.specs.Scanning.{Begins, ReachedAt, State}
use Rattle.cert_text.specs.declared.kinds.CertHead.{CertHead}
use Rattle.cert_text.specs.declared.kinds.CertKind.{CertKind}
use Rattle.cert_text.specs.declared.kinds.CertKind.TheVariants as kind
use Rattle.cert_text.proofs.HeadSteps.{body_is}

-- up to the settings a scan is where its head is
pub front_reached : (due : CertKind) → IsFront due → (s : State) (lines : List (List ℕ)) → HeadTo due lines s.head → ReachedAt due s lines
front_reached kind.Format front s lines to = to
front_reached kind.Study front s lines to = to
front_reached kind.Ending front s lines to = to
front_reached kind.Gap front s lines to = to
front_reached kind.Budget front s lines to = to
front_reached kind.Boxes front s lines to = to
front_reached kind.Bound front s lines to = to
front_reached kind.Cost front s lines to = to
front_reached kind.Settings front s lines to = to
front_reached kind.Node front s lines to = absurd front
front_reached kind.End front s lines to = absurd front
front_reached kind.After front s lines to = absurd front

pub head_reached : (due : CertKind) → IsHeadKind due → (s : State) (lines : List (List ℕ)) → ReachedAt due s lines → HeadTo due lines s.head
head_reached kind.Format front s lines to = to
head_reached kind.Study front s lines to = to
head_reached kind.Ending front s lines to = to
head_reached kind.Gap front s lines to = to
head_reached kind.Budget front s lines to = to
head_reached kind.Boxes front s lines to = to
head_reached kind.Bound front s lines to = to
head_reached kind.Cost front s lines to = to
head_reached kind.Settings front s lines to = absurd front
head_reached kind.Node front s lines to = absurd front
head_reached kind.End front s lines to = absurd front
head_reached kind.After front s lines to = absurd front

-- the settings of a certificate that begins with these lines
pub record NextSettings (head : CertHead) (line : List ℕ) : Type 0 where
  pub settings : Option Settings
  pub issued : AreIssued head.cost settings
  pub said : line ≡ settings_line settings

pub next_settings : (head : CertHead) (lines : List (List ℕ)) (line : List ℕ) → HeadTo kind.Settings lines head → Begins (lines ++ line ∷ []) → NextSettings head line
next_settings head lines line to b =
    let six = ending_line head.ending ∷ gap_line head.gap ∷ budget_line head.budget ∷ boxes_line head.boxes ∷ bound_line head.bound ∷ cost_line head.cost ∷ [] in
    let body = body_is head six lines line to.parts b in
    let word : cost_line b.cert.head.cost ≡ cost_line head.cost = cc body in
    let cost = same_amount b.cert.head.cost head.cost b.is.head.cost_short to.is.cost_short (append_cancel_left (codes "cost ") (amount b.cert.head.cost) (amount head.cost) word) in
    record { settings = b.cert.settings; issued = subst (λ c. AreIssued c b.cert.settings) cost b.is.issued; said = cc body }

pub none_stops : (head : CertHead) (line : List ℕ) → head.cost ≡ None → line ≢ codes "settings none" → (lines : List (List ℕ)) → HeadTo kind.Settings lines head → ¬ Begins (lines ++ line ∷ [])
none_stops head line cost not lines to b = let next = next_settings head lines line to b in by_settings next.settings (next.issued.exactly ∙ ap is_some cost) next.said
  where
    by_settings : (settings : Option Settings) → is_some settings ≡ false → line ≡ settings_line settings → ⊥
    by_settings None is said = not said
    by_settings (Some st) is said = absurd (cc is)

pub some_stops : (head : CertHead) (line : List ℕ) (n : ℕ) → head.cost ≡ Some n → ((st : Settings) → AreSettings st → line ≢ codes "settings" ++ step_words st.pickup st.dial)
    → (lines : List (List ℕ)) → HeadTo kind.Settings lines head → ¬ Begins (lines ++ line ∷ [])
some_stops head line n cost none lines to b = let next = next_settings head lines line to b in by_settings next.settings (next.issued.exactly ∙ ap is_some cost) next.issued.within next.said
  where
    by_settings : (settings : Option Settings) → is_some settings ≡ true → IfSome settings AreSettings → line ≡ settings_line settings → ⊥
    by_settings None is are said = absurd (cc is)
    by_settings (Some st) is are said = none st are said

-- the words of two lists of steps, as pairs
pub paired : List ℕ → List ℕ → List Weight
paired [] dials = []
paired (p ∷ pickups) [] = []
paired (p ∷ pickups) (d ∷ dials) = record { row = p; weight = d } ∷ paired pickups dials

pub words_paired : (pickups dials : List ℕ) → step_words pickups dials ≡ weight_words (paired pickups dials)
unfolding paired
words_paired [] dials = refl
words_paired (p ∷ pickups) [] = refl
words_paired (p ∷ pickups) (d ∷ dials) = ap (λ l. 32 ∷ (pair_word p d ++ l)) (words_paired pickups dials)

pub within_paired : (pickups dials : List ℕ) → AllByRecursion (λ s. s ≤ 63) pickups → AllByRecursion (λ s. s ≤ 3999) dials → AreWithin 63 3999 (paired pickups dials)
unfolding paired
within_paired [] dials of_p of_d = tt
within_paired (p ∷ pickups) [] of_p of_d = tt
within_paired (p ∷ pickups) (d ∷ dials) of_p of_d = ((of_p.0, of_d.0), within_paired pickups dials of_p.1 of_d.1)

pub length_paired : (pickups dials : List ℕ) → length pickups ≡ length dials → length (paired pickups dials) ≡ length pickups
unfolding paired
length_paired [] dials same = refl
length_paired (p ∷ pickups) [] same = absurd (omega (arith, same))
length_paired (p ∷ pickups) (d ∷ dials) same = omega (arith, length_paired pickups dials (omega (arith, same)))

-- the steps of pairs are those that were paired
pub rows_of_paired : (ps ds : List ℕ) → length ps ≡ length ds → map (λ w. w.row) (paired ps ds) ≡ ps
unfolding paired
rows_of_paired [] ds same = refl
rows_of_paired (p ∷ ps) [] same = absurd (omega (arith, same))
rows_of_paired (p ∷ ps) (d ∷ ds) same = ap (λ l. p ∷ l) (rows_of_paired ps ds (omega (arith, same)))

pub dials_of_paired : (ps ds : List ℕ) → length ps ≡ length ds → map (λ w. w.weight) (paired ps ds) ≡ ds
unfolding paired
dials_of_paired [] [] same = refl
dials_of_paired [] (d ∷ ds) same = absurd (omega (arith, same))
dials_of_paired (p ∷ ps) [] same = absurd (omega (arith, same))
dials_of_paired (p ∷ ps) (d ∷ ds) same = ap (λ l. d ∷ l) (dials_of_paired ps ds (omega (arith, same)))

-- no words, no steps
pub some_words : (pickups dials : List ℕ) → length pickups ≡ length dials → 1 ≤ length pickups → step_words pickups dials ≢ []
some_words [] dials same some is = omega (arith, some)
some_words (p ∷ pickups) [] same some is = omega (arith, same)
some_words (p ∷ pickups) (d ∷ dials) same some is = cc is

-- the steps of pairs
pub words_of_pairs : (ws : List Weight) → step_words (map (λ w. w.row) ws) (map (λ w. w.weight) ws) ≡ weight_words ws
words_of_pairs [] = refl
words_of_pairs (w ∷ ws) = ap (λ l. 32 ∷ (pair_word w.row w.weight ++ l)) (words_of_pairs ws)

rows_within : (ws : List Weight) → AreWithin 63 3999 ws → AllByRecursion (λ s. s ≤ 63) (map (λ w. w.row) ws)
rows_within [] within = tt
rows_within (w ∷ ws) within = (within.0.0, rows_within ws within.1)

weights_within : (ws : List Weight) → AreWithin 63 3999 ws → AllByRecursion (λ s. s ≤ 3999) (map (λ w. w.weight) ws)
weights_within [] within = tt
weights_within (w ∷ ws) within = (within.0.1, weights_within ws within.1)

rows_length : (ws : List Weight) → length (map (λ w. w.row) ws) ≡ length ws
rows_length [] = refl
rows_length (w ∷ ws) = omega (arith, rows_length ws)

weights_length : (ws : List Weight) → length (map (λ w. w.weight) ws) ≡ length ws
weights_length [] = refl
weights_length (w ∷ ws) = omega (arith, weights_length ws)

pub settings_of_pairs : (st : Settings) (ws : List Weight) → st.pickup ≡ map (λ w. w.row) ws → st.dial ≡ map (λ w. w.weight) ws → AreWithin 63 3999 ws → 1 ≤ length ws → length ws ≤ 96
    → AreSettings st
settings_of_pairs st ws pickup dial within some few = record {
  paired = ap length pickup ∙ rows_length ws ∙ sym (weights_length ws) ∙ ap length (sym dial);
  some = omega (arith, some, ap length pickup, rows_length ws);
  few = omega (arith, few, ap length pickup, rows_length ws);
  pickups = subst (AllByRecursion (λ s. s ≤ 63)) (sym pickup) (rows_within ws within);
  dials = subst (AllByRecursion (λ s. s ≤ 3999)) (sym dial) (weights_within ws within);
}
