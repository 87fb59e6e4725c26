use Rattle.std.proofs.Common.{◌≡◌, ◌≢◌, ℕ, zero, suc, ◌+◌, ◌<◌, ◌≤◌, List, ◌∷◌, length, get_or, set, refl, sym, ap, ◌∙◌, arith, length-set, add-one}
use Rattle.std.proofs.lemmas.List.{get_or-set_same, get_or-set_other}
use Rattle.coord_model.specs.declared.tree.NodeLine.{NodeLine}
use Rattle.coord_model.specs.declared.tree.NodeLine.TheVariants.{Split, Empty, Void, Bound, Hair, OpenLeaf}
use Rattle.cert_text.specs.DueNodes.{Takes, stack}

-- as many as asked for
pub length_stack : (depths : List ℕ) (n : ℕ) → length (stack depths n) ≡ n
length_stack depths zero = refl
length_stack depths (suc n) = omega (arith, length_stack depths n)

-- what is written above leaves those below
pub stack_set : (depths : List ℕ) (i v n : ℕ) → n ≤ i → stack (set depths i v) n ≡ stack depths n
stack_set depths i v zero above = refl
stack_set depths i v (suc n) above =
    ap (λ d. d ∷ stack (set depths i v) n) (get_or-set_other depths i n v 0 (omega arith)) ∙ ap (λ l. get_or depths n 0 ∷ l) (stack_set depths i v n (omega arith))

-- the halves of a split on top
pub stack_split : (depths : List ℕ) (top v : ℕ) → top + 1 < length depths
    → stack (set (set depths top v) (top + 1) v) (top + 2) ≡ v ∷ v ∷ stack depths top
stack_split depths top v room =
    let once = set depths top v in
    let twice = set once (top + 1) v in
    let long : length once ≡ length depths = length-set depths top v in
    let low : get_or twice (suc top) 0 ≡ v = ap (λ k. get_or twice k 0) (sym (add-one top)) ∙ get_or-set_same once (top + 1) v 0 (omega (arith, long, room)) in
    let high : get_or twice top 0 ≡ v = get_or-set_other once (top + 1) top v 0 (omega arith) ∙ get_or-set_same depths top v 0 (omega (arith, room)) in
    let rest : stack twice top ≡ stack depths top = stack_set once (top + 1) v top (omega arith) ∙ stack_set depths top v top (omega arith) in
    let two : top + 2 ≡ suc (suc top) = omega arith in
    ap (stack twice) two ∙ ap (λ l. l ∷ get_or twice top 0 ∷ stack twice top) low ∙ ap (λ l. v ∷ l ∷ stack twice top) high ∙ ap (λ l. v ∷ v ∷ l) rest

-- a node without halves is taken
pub leaf_takes : (node : NodeLine) → ((relay at : ℕ) → node ≢ Split relay at) → (before : List ℕ) (d : ℕ) (dues : List ℕ) (taken : ℕ) → before ≡ d ∷ dues
    → taken + 1 + length dues ≤ 400001 → Takes node before taken dues (taken + 1)
leaf_takes (Split relay at) leaf before d dues taken first room = absurd (leaf relay at refl)
leaf_takes Empty leaf before d dues taken first room = record { above = d; others = dues; first = first; may = tt; dues = refl; counted = refl; room = room }
leaf_takes Void leaf before d dues taken first room = record { above = d; others = dues; first = first; may = tt; dues = refl; counted = refl; room = room }
leaf_takes (Bound lambda) leaf before d dues taken first room = record { above = d; others = dues; first = first; may = tt; dues = refl; counted = refl; room = room }
leaf_takes (Hair row) leaf before d dues taken first room = record { above = d; others = dues; first = first; may = tt; dues = refl; counted = refl; room = room }
leaf_takes (OpenLeaf lambda) leaf before d dues taken first room = record { above = d; others = dues; first = first; may = tt; dues = refl; counted = refl; room = room }
